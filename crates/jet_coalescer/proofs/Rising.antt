-- The watermark after one call more.
use Rattle.std.proofs.Common.{◌≡◌, ℕ, zero, suc, ◌<◌, Bool, true, false, not, ◌&&◌, cond, ℤ, ◌≤ℤ◌, List, [], ◌∷◌, ◌++◌, length, map, replicate, Option, Some, None, refl, ap, sym, subst, ◌∙◌, arith, append-nil, slice_index_or}
use Rattle.std.proofs.lemmas.Int.{ints, int_max_is}
use Rattle.std.proofs.lemmas.List.{length-set, length-map, length-replicate, map-append}
use Rattle.std.proofs.lemmas.List.Elements.{filter_map-append}
use Rattle.std.proofs.lemmas.List.Sums.{fold_push}
use Rattle.std.proofs.lemmas.List.Folds.{sum_by-replicate}
use Rattle.std.specs.Prelude.{slice_get, int_lt}
use Rattle.std.specs.List.{reduce, filter_map}
use Rattle.std.specs.Option.{IsSomeAnd}
use Rattle.std.specs.Int.{int_max}
use Rattle.jet_coalescer.specs.declared.queue.Queue.{Queue}
use Rattle.jet_coalescer.specs.View.{View}
use Rattle.jet_coalescer.specs.Low.{History, HasHeard, unheard, known, with_mark, with_done, low, all_done, risen, change_of}
use Rattle.jet_coalescer.specs.Notes.{Note, Marked, Ended, Idled, Woken, queues_after, fronts, low_after, HasNotes}
use Rattle.jet_coalescer.specs.Queues.{unknown, counts, greatest_with, greater, with_queue_mark, with_queue_done, with_queue_idle, marked, ended, idled, woken, present, none_left, HaveReached, is_done_at}
use Rattle.jet_coalescer.specs.inner.Counts.{left_count}
use Rattle.jet_coalescer.proofs.Bound.{HasNotLess, bounds_cons, present_reached, present_reaches, reached_rest}
use Rattle.jet_coalescer.proofs.Told.{known-unheard, low-known, all_done-known, marked-known, ended-known, marked-told, ended-told, idled-told, woken-told}

-- ---- of all fronts
fronts_push : {X : Type 0} (xs : List X) (x : X) → fronts (xs ++ x ∷ []) ≡ fronts xs ++ (xs ++ x ∷ []) ∷ []
fronts_push [] x = refl
fronts_push (y ∷ xs) x = ap (λ rest. [] ∷ rest) (ap (map (λ front. y ∷ front)) (fronts_push xs x) ∙ map-append (λ front. y ∷ front) (fronts xs) ((xs ++ x ∷ []) ∷ []))

abbrev one : Option ℤ → List ℤ
one None = []
one (Some t) = t ∷ []

filtered_one : {X : Type 0} (f : X → Option ℤ) (x : X) (o : Option ℤ) → f x ≡ o → filter_map f (x ∷ []) ≡ one o
filtered_one f x None is = rw is refl
filtered_one f x (Some t) is = rw is refl

reduce_one : (ts : List ℤ) (o : Option ℤ) → reduce int_max (ts ++ one o) ≡ greater (reduce int_max ts) o
reduce_one [] None = refl
reduce_one (t ∷ ts) None = rw (append-nil ts) refl
reduce_one [] (Some s) = refl
reduce_one (t ∷ ts) (Some s) = ap Some (fold_push int_max t ts s)

pub low_push : (n : ℕ) (told : List Note) (note : Note) → low_after n (told ++ note ∷ []) ≡ greater (low_after n told) (present (queues_after n (told ++ note ∷ [])))
low_push n told note =
    let now : List Note → Option ℤ = λ front. present (queues_after n front) in
    let more : List Note = told ++ note ∷ [] in
    ap (λ fs. reduce int_max (filter_map now fs)) (fronts_push told note)
    ∙ (ap (reduce int_max) (filter_map-append now (fronts told) (more ∷ []) ∙ ap (λ ts. filter_map now (fronts told) ++ ts) (filtered_one now more (now more) refl))
    ∙ reduce_one (filter_map now (fronts told)) (now more))

-- one note more was told
told_one : (a b : View) (told : List Note) (note : Note) (changed : List Queue) → HasNotes a told → b.queues ≡ changed → length changed ≡ length a.queues → changed ≡ queues_after (length a.queues) (told ++ note ∷ []) → b.low ≡ greater a.low (present b.queues) → HasNotes b (told ++ note ∷ [])
told_one a b told note changed h is count after rises =
    let same : length a.queues ≡ length b.queues = sym (ap length is ∙ count) in
    let queues_are : b.queues ≡ queues_after (length a.queues) (told ++ note ∷ []) = is ∙ after in
    let low_is : b.low ≡ low_after (length a.queues) (told ++ note ∷ []) =
    rises
    ∙ (ap (λ (before : Option ℤ). greater before (present b.queues)) h.low_is
    ∙ (ap (λ (qs : List Queue). greater (low_after (length a.queues) told) (present qs)) queues_are
    ∙ sym (low_push (length a.queues) told note))) in
    record {
      queues_are = subst (λ (n : ℕ). b.queues ≡ queues_after n (told ++ note ∷ [])) same queues_are;
      low_is = subst (λ (n : ℕ). b.low ≡ low_after n (told ++ note ∷ [])) same low_is;
    }

pub told_mark : (a b : View) (told : List Note) (q : ℕ) (t : ℤ) → q < length a.queues → b.queues ≡ marked a.queues q t → b.low ≡ greater a.low (present b.queues) → HasNotes a told → HasNotes b (told ++ Marked q t ∷ [])
told_mark a b told q t lt is rises h =
    told_one a b told (Marked q t) (marked a.queues q t) h is (length-set a.queues q (with_queue_mark t (slice_index_or a.queues q unknown)))
    (ap (λ (qs : List Queue). marked qs q t) h.queues_are ∙ marked-told (length a.queues) told q t lt) rises

pub told_done : (a b : View) (told : List Note) (q : ℕ) → q < length a.queues → b.queues ≡ ended a.queues q → b.low ≡ greater a.low (present b.queues) → HasNotes a told → HasNotes b (told ++ Ended q ∷ [])
told_done a b told q lt is rises h =
    told_one a b told (Ended q) (ended a.queues q) h is (length-set a.queues q (with_queue_done (slice_index_or a.queues q unknown)))
    (ap (λ (qs : List Queue). ended qs q) h.queues_are ∙ ended-told (length a.queues) told q lt) rises

pub told_idle : (a b : View) (told : List Note) (q : ℕ) → q < length a.queues → b.queues ≡ idled a.queues q → b.low ≡ greater a.low (present b.queues) → HasNotes a told → HasNotes b (told ++ Idled q ∷ [])
told_idle a b told q lt is rises h =
    told_one a b told (Idled q) (idled a.queues q) h is (length-set a.queues q (with_queue_idle true (slice_index_or a.queues q unknown)))
    (ap (λ (qs : List Queue). idled qs q) h.queues_are ∙ idled-told (length a.queues) told q lt) rises

pub told_wake : (a b : View) (told : List Note) (q : ℕ) → q < length a.queues → b.queues ≡ woken a.queues q → b.low ≡ greater a.low (present b.queues) → HasNotes a told → HasNotes b (told ++ Woken q ∷ [])
told_wake a b told q lt is rises h =
    told_one a b told (Woken q) (woken a.queues q) h is (length-set a.queues q (with_queue_idle false (slice_index_or a.queues q unknown)))
    (ap (λ (qs : List Queue). woken qs q) h.queues_are ∙ woken-told (length a.queues) told q lt) rises

-- ---- of queues that are never idle
-- a watermark that all have reached, and a later one that is not below it
greater_is : (before now : Option ℤ) → ((s : ℤ) → before ≡ Some s → IsSomeAnd now (λ t. s ≤ℤ t)) → greater before now ≡ now
greater_is None None h = refl
greater_is None (Some t) h = refl
greater_is (Some s) None h = absurd (h s refl)
greater_is (Some s) (Some t) h = ap Some (not_less (int_lt t s) refl (h s refl))
  where
    not_less : (b : Bool) → int_lt t s ≡ b → s ≤ℤ t → cond b s t ≡ t
    not_less false is at = refl
    not_less true is at = absurd (omega (arith, ints, is, at))

-- while a queue is left and none is idle, the present value does not fall where no queue falls
abbrev RisesAlone : List Queue → List Queue → Type 0
RisesAlone before after = (s : ℤ) → HaveReached before s → HaveReached after s

pub record Left (qs : List Queue) : Type 0 where
  pub q : ℕ
  pub queue : Queue
  pub is : slice_get qs q ≡ Some queue
  pub counted : counts queue ≡ true

left_next : (done : Bool) (marks : List ℤ) (told : List History) → (all_done told ≡ false → Left (map known told)) → (done && all_done told) ≡ false → Left (map known (record { marks = marks; done = done } ∷ told))
left_next true marks told rest left = let later = rest left in record { q = suc later.q; queue = later.queue; is = later.is; counted = later.counted }
left_next false marks told rest left = record { q = 0; queue = known (record { marks = marks; done = false }); is = refl; counted = refl }

-- a queue is left
pub some_left : (told : List History) → all_done told ≡ false → Left (map known told)
some_left [] left = cc
some_left (h ∷ told) left = left_next h.done h.marks told (some_left told) left

present_rises : (before : List Queue) (told : List History) → all_done told ≡ false → RisesAlone before (map known told) → greater (present before) (present (map known told)) ≡ present (map known told)
present_rises before told left rises =
    let there = some_left told left in
    greater_is (present before) (present (map known told)) (λ s is. present_reaches (map known told) s there.q there.queue (rises s (present_reached before s is)) there.is there.counted)

more_not_less : (s t : ℤ) (done : Bool) (mark : Option ℤ) → HasNotLess s (record { mark = mark; done = done; idle = false }) → HasNotLess s (record { mark = greatest_with mark t; done = done; idle = false })
more_not_less s t done None h counted = absurd (h counted)
more_not_less s t done (Some m) h counted = let at : s ≤ℤ m = h counted in omega (arith, ints, at, int_max_is m t)

mark_rises : (s t : ℤ) (told : List History) (q : ℕ) → q < length told → HaveReached (map known told) s → HaveReached (marked (map known told) q t) s
mark_rises s t [] q lt all = absurd (omega (arith, lt))
mark_rises s t (h ∷ told) zero lt all =
    bounds_cons s (with_queue_mark t (known h)) (map known told) (more_not_less s t h.done (reduce int_max h.marks) (λ counted. all 0 (known h) refl counted)) (reached_rest s (known h) (map known told) all)
mark_rises s t (h ∷ told) (suc q) lt all =
    bounds_cons s (known h) (marked (map known told) q t) (λ counted. all 0 (known h) refl counted) (mark_rises s t told q (omega (arith, lt)) (reached_rest s (known h) (map known told) all))

end_rises : (s : ℤ) (told : List History) (q : ℕ) → q < length told → HaveReached (map known told) s → HaveReached (ended (map known told) q) s
end_rises s [] q lt all = absurd (omega (arith, lt))
end_rises s (h ∷ told) zero lt all = bounds_cons s (with_queue_done (known h)) (map known told) (λ counted. cc) (reached_rest s (known h) (map known told) all)
end_rises s (h ∷ told) (suc q) lt all =
    bounds_cons s (known h) (ended (map known told) q) (λ counted. all 0 (known h) refl counted) (end_rises s told q (omega (arith, lt)) (reached_rest s (known h) (map known told) all))

and_false : (b : Bool) → (b && false) ≡ false
and_false true = refl
and_false false = refl

open_left : (told : List History) (q : ℕ) → q < length told → (slice_index_or (map known told) q unknown).done ≡ false → all_done told ≡ false
open_left [] q lt is = absurd (omega (arith, lt))
open_left (h ∷ told) zero lt is = let here : h.done ≡ false = is in ap (λ b. b && all_done told) here
open_left (h ∷ told) (suc q) lt is = ap (λ b. h.done && b) (open_left told q (omega (arith, lt)) is) ∙ and_false h.done

mark_left : (told : List History) (q : ℕ) (t : ℤ) → q < length told → all_done (with_mark told q t) ≡ all_done told
mark_left [] q t lt = absurd (omega (arith, lt))
mark_left (h ∷ told) zero t lt = refl
mark_left (h ∷ told) (suc q) t lt = ap (λ b. h.done && b) (mark_left told q t (omega (arith, lt)))

-- this was heard, and a queue is open
record Hearing (c : View) (told : List History) (q : ℕ) : Type 0 where
  few : q < length told
  left : all_done told ≡ false
  low_is : c.low ≡ low told

hearing : (c : View) (told : List History) (q : ℕ) → HasHeard c told → q < length c.queues → is_done_at c q ≡ false → Hearing c told q
hearing c told q h lt going =
    let few : q < length told = subst (λ (n : ℕ). q < n) (ap length h.queues_are ∙ length-map told known) lt in
    let left : all_done told ≡ false = open_left told q few (subst (λ (qs : List Queue). (slice_index_or qs q unknown).done ≡ false) h.queues_are going) in
    record { few = few; left = left; low_is = h.low_is left }

heard_one : (a b : View) (told more : List History) → HasHeard a told → all_done told ≡ false → b.queues ≡ map known more → b.low ≡ greater a.low (present b.queues) → RisesAlone (map known told) (map known more) → HasHeard b more
heard_one a b told more h left is rises alone =
    record {
      queues_are = is;
      low_is = λ more_left.
          rises
          ∙ (ap (λ (before : Option ℤ). greater before (present b.queues)) (h.low_is left ∙ low-known told)
          ∙ (ap (λ (qs : List Queue). greater (present (map known told)) (present qs)) is
          ∙ (present_rises (map known told) more more_left alone ∙ sym (low-known more))));
    }

pub heard_mark : (a b : View) (told : List History) (q : ℕ) (t : ℤ) → q < length a.queues → is_done_at a q ≡ false → b.queues ≡ marked a.queues q t → b.low ≡ greater a.low (present b.queues) → HasHeard a told → HasHeard b (with_mark told q t)
heard_mark a b told q t lt going is rises h =
    let now = hearing a told q h lt going in
    heard_one a b told (with_mark told q t) h now.left (is ∙ (ap (λ (qs : List Queue). marked qs q t) h.queues_are ∙ marked-known told q t)) rises
    (λ s all. subst (λ (qs : List Queue). HaveReached qs s) (marked-known told q t) (mark_rises s t told q now.few all))

pub heard_done : (a b : View) (told : List History) (q : ℕ) → q < length a.queues → is_done_at a q ≡ false → b.queues ≡ ended a.queues q → b.low ≡ greater a.low (present b.queues) → HasHeard a told → HasHeard b (with_done told q)
heard_done a b told q lt going is rises h =
    let now = hearing a told q h lt going in
    heard_one a b told (with_done told q) h now.left (is ∙ (ap (λ (qs : List Queue). ended qs q) h.queues_are ∙ ended-known told q)) rises
    (λ s all. subst (λ (qs : List Queue). HaveReached qs s) (ended-known told q) (end_rises s told q now.few all))

pub risen_heard : (a b : View) (told : List History) (q : ℕ) (t : ℤ) → q < length a.queues → is_done_at a q ≡ false → b.queues ≡ marked a.queues q t → b.low ≡ greater a.low (present b.queues) → HasHeard a told → risen a.low b.low ≡ risen (low told) (low (with_mark told q t))
risen_heard a b told q t lt going is rises h =
    let now = hearing a told q h lt going in
    let after = heard_mark a b told q t lt going is rises h in
    ap (λ (before : Option ℤ). risen before b.low) now.low_is
    ∙ ap (λ (low' : Option ℤ). risen (low told) low') (after.low_is (mark_left told q t now.few ∙ now.left))

change_by : (all : Bool) (before low' was : Option ℤ) → (all ≡ false → low' ≡ was) → change_of all before low' ≡ change_of all before was
change_by true before low' was h = refl
change_by false before low' was h = ap (λ (now : Option ℤ). change_of false before now) (h refl)

pub change_heard : (a b : View) (told : List History) (q : ℕ) → q < length a.queues → is_done_at a q ≡ false → b.queues ≡ ended a.queues q → b.low ≡ greater a.low (present b.queues) → HasHeard a told → change_of (none_left b.queues) a.low b.low ≡ change_of (all_done (with_done told q)) (low told) (low (with_done told q))
change_heard a b told q lt going is rises h =
    let now = hearing a told q h lt going in
    let more : List History = with_done told q in
    let after : HasHeard b more = heard_done a b told q lt going is rises h in
    ap (λ (all : Bool). change_of all a.low b.low) (ap none_left after.queues_are ∙ sym (all_done-known more))
    ∙ (ap (λ (before : Option ℤ). change_of (all_done more) before b.low) now.low_is
    ∙ change_by (all_done more) (low told) b.low (low more) after.low_is)

-- ---- nothing was told
none_present : (n : ℕ) → present (replicate n unknown) ≡ None
none_present zero = refl
none_present (suc n) = refl

none_after : (n : ℕ) → replicate n unknown ≡ queues_after n []
none_after zero = refl
none_after (suc n) = ap (λ rest. unknown ∷ rest) (none_after n)

none_low : (n : ℕ) → None ≡ low_after n []
none_low n = sym (ap (reduce int_max) (filtered_one (λ front. present (queues_after n front)) [] None (ap present (sym (none_after n)) ∙ none_present n)))

pub new_told : (n : ℕ) (c : View) → c.queues ≡ replicate n unknown → c.low ≡ None → HasNotes c []
new_told n c is none =
    let count : length c.queues ≡ n = ap length is ∙ length-replicate n unknown in
    record {
      queues_are = subst (λ (m : ℕ). c.queues ≡ queues_after m []) (sym count) (is ∙ none_after n);
      low_is = subst (λ (m : ℕ). c.low ≡ low_after m []) (sym count) (none ∙ none_low n);
    }

nothing_heard : (n : ℕ) → low (replicate n unheard) ≡ None
nothing_heard n = low-known (replicate n unheard) ∙ (ap present (known-unheard n) ∙ none_present n)

pub new_heard : (n : ℕ) (c : View) → c.queues ≡ replicate n unknown → c.low ≡ None → HasHeard c (replicate n unheard)
new_heard n c is none = record { queues_are = is ∙ sym (known-unheard n); low_is = λ left. none ∙ sym (nothing_heard n) }

-- what is kept besides
pub new_fits : (n : ℕ) (qs : List Queue) → qs ≡ replicate n unknown → (None ≡ greater None (present qs)) × (n ≡ left_count qs)
new_fits n qs is = (
  sym (ap (λ (ps : List Queue). greater None (present ps)) is ∙ ap (greater None) (none_present n)),
  sym (ap left_count is ∙ (sum_by-replicate (λ (q : Queue). cond (not q.done) 1 0) n unknown ∙ omega arith)),
)
