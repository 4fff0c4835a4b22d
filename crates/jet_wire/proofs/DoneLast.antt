-- Where Done stands in what a sender passes on.
use Rattle.std.proofs.Common.{◌≡◌, ℕ, zero, suc, ◌<◌, ◌==◌, ◌&&◌, ◌||◌, Bool, true, false, cond, ℤ, List, [], ◌∷◌, ◌++◌, All, refl, sym, ◌∙◌, ap, subst, append_assoc, append-nil, arith, Option, Some, None, inl, inr}
use Rattle.std.specs.Prelude.{◌⊎◌}
use Rattle.std.proofs.lemmas.List.Elements.{All-nil, All-cons, All-head, All-tail, All-append, All-get_or, All-from_get_or}
use Rattle.jet_items.specs.declared.item.Item.{Item}
use Rattle.jet_items.specs.declared.item.Item.TheVariants as item
use Rattle.jet_items.specs.Done.{is_done}
use Rattle.jet_items.specs.Order.{Each}
use Rattle.jet_items.proofs.Orders.{Each-back, Each-more, EachPair-across}
use Rattle.jet_coalescer.specs.Low.{History, all_done, low, risen, raised, change_of}
use Rattle.jet_conveyor.specs.Conveyor.{EndsIn}
use Rattle.jet_wire.specs.DoneLast.{DoneLast}
use Rattle.jet_wire.specs.Noting.{items_in}
use Rattle.jet_wire.specs.Passing.{Taken, MayFollow, InOrder, of_queue, has_ended, histories, heard, mark_items, change_items, passed_of, passes, passed_after, begun}
use Rattle.jet_wire.specs.Sender.{SenderView, queue_count, SenderKeeps}
use Rattle.jet_wire.proofs.Heard.{own_queue}
use Rattle.jet_wire.proofs.Histories.{ended_push, or_at}

abbrev NotDone : Item → Type 0
NotDone x = is_done x ≡ false

-- ---- tests
both_true : (a b : Bool) → a ≡ true → b ≡ true → (a && b) ≡ true
both_true true b e f = f
both_true false b e f = e

true_first : (a b : Bool) → (a && b) ≡ true → a ≡ true
true_first true b e = refl
true_first false b e = e

true_second : (a b : Bool) → (a && b) ≡ true → b ≡ true
true_second true b e = e
true_second false b e = absurd (cc)

or_none : (a b : Bool) → a ≡ false → b ≡ false → (a || b) ≡ false
or_none true b e f = e
or_none false b e f = f

-- ---- whether every queue gave its Done
all_here : (n : ℕ) (f : ℕ → List Item) → ((q : ℕ) → q < n → has_ended (f q) ≡ true) → all_done (histories n f) ≡ true
all_here zero f h = refl
all_here (suc n) f h =
    let first : has_ended (f 0) ≡ true = h 0 (omega arith) in
    let rest : all_done (histories n (λ q. f (suc q))) ≡ true = all_here n (λ q. f (suc q)) (λ q lt. h (suc q) (omega (arith, lt))) in
    both_true (has_ended (f 0)) (all_done (histories n (λ q. f (suc q)))) first rest

each_there : (n : ℕ) (f : ℕ → List Item) → all_done (histories n f) ≡ true → (q : ℕ) → q < n → has_ended (f q) ≡ true
each_there zero f h q lt = absurd (omega (arith, lt))
each_there (suc n) f h zero lt = true_first (has_ended (f 0)) (all_done (histories n (λ q. f (suc q)))) h
each_there (suc n) f h (suc q) lt = each_there n (λ k. f (suc k)) (true_second (has_ended (f 0)) (all_done (histories n (λ k. f (suc k)))) h) q (omega (arith, lt))

unless_true : (b : Bool) → (b ≡ true → ⊥) → b ≡ false
unless_true true h = absurd (h refl)
unless_true false h = refl

clash : (b : Bool) → b ≡ true → b ≡ false → ⊥
clash b t f = cc

pub not_all : (n : ℕ) (f : ℕ → List Item) (q : ℕ) → q < n → has_ended (f q) ≡ false → all_done (histories n f) ≡ false
not_all n f q lt still = unless_true (all_done (histories n f)) (λ all. clash (has_ended (f q)) (each_there n f all q lt) still)

-- ---- one item more after items without a Done
pub none_has : (xs : List Item) → All NotDone xs → has_ended xs ≡ false
none_has [] h = refl
none_has (x ∷ xs) h = or_none (is_done x) (has_ended xs) (All-head NotDone x xs h) (none_has xs (All-tail NotDone x xs h))

-- what is passed on of one item: nothing, or one item, which is Done where every queue is done
abbrev Gives : Bool → List Item → Type 0
Gives b ys = ((ys ≡ []) × (b ≡ false)) ⊎ ((y : Item) × (ys ≡ y ∷ []) × (is_done y ≡ b))

-- items that end in Done where every queue is done, and have none before
abbrev Good : ℕ → List Taken → List Item → Type 0
Good n came xs = EndsIn (all_done (heard n came)) xs × (has_ended xs ≡ all_done (heard n came))

ends_more : (b : Bool) (xs : List Item) (y : Item) → is_done y ≡ b → All NotDone xs → EndsIn b (xs ++ y ∷ [])
ends_more false xs y e none = All-append NotDone xs (y ∷ []) none (All-cons NotDone y [] e (All-nil NotDone))
ends_more true xs y e none = (xs, y, refl, e, none)

ends_after : (b : Bool) (xs ys : List Item) → All NotDone xs → Gives b ys → EndsIn b (xs ++ ys) × (has_ended (xs ++ ys) ≡ b)
ends_after b xs ys none (inl (e, f)) =
    let same : xs ++ ys ≡ xs = ap (λ (zs : List Item). xs ++ zs) e ∙ append-nil xs in
    let ends : EndsIn b xs = subst (λ (d : Bool). EndsIn d xs) (sym f) none in
    (subst (EndsIn b) (sym same) ends, ap has_ended same ∙ (none_has xs none ∙ sym f))
ends_after b xs ys none (inr (y, e, d)) =
    let same : xs ++ ys ≡ xs ++ y ∷ [] = ap (λ (zs : List Item). xs ++ zs) e in
    (subst (EndsIn b) (sym same) (ends_more b xs y d none), ap has_ended same ∙ (ended_push xs y ∙ (or_at (has_ended xs) (is_done y) (none_has xs none) ∙ d)))

mark_gives : (b : Bool) (o : Option ℤ) → b ≡ false → Gives b (mark_items o)
mark_gives b None e = inl (refl, e)
mark_gives b (Some t) e = inr (item.Mark t, refl, sym e)

raised_gives : (o : Option ℤ) → Gives false (change_items (raised o))
raised_gives None = inl (refl, refl)
raised_gives (Some t) = inr (item.Mark t, refl, refl)

done_gives : (b : Bool) (o p : Option ℤ) → Gives b (change_items (change_of b o p))
done_gives true o p = inr (item.Done, refl, refl)
done_gives false o p = raised_gives (risen o p)

passed_gives : (x : Item) (before now : List History) → (is_done x ≡ false → all_done now ≡ false) → Gives (all_done now) (passed_of x before now)
passed_gives (item.Event e) before now h = inr (item.Event e, refl, sym (h refl))
passed_gives (item.Side e) before now h = inr (item.Side e, refl, sym (h refl))
passed_gives (item.Frame e) before now h = inr (item.Frame e, refl, sym (h refl))
passed_gives (item.Row e) before now h = inr (item.Row e, refl, sym (h refl))
passed_gives (item.Late e) before now h = inr (item.Late e, refl, sym (h refl))
passed_gives item.Idle before now h = inr (item.Idle, refl, sym (h refl))
passed_gives (item.Mark t) before now h = mark_gives (all_done now) (risen (low before) (low now)) (h refl)
passed_gives item.Done before now h = done_gives (all_done now) (low before) (low now)

good_more : (n : ℕ) (came : List Taken) (a : Taken) (xs : List Item) → a.queue < n → has_ended (of_queue a.queue came) ≡ false → Good n came xs → Good n (came ++ a ∷ []) (xs ++ passes n came a)
good_more n came a xs lt still g =
    let waits : all_done (heard n came) ≡ false = not_all n (λ q. of_queue q came) a.queue lt still in
    let none : All NotDone xs = subst (λ (b : Bool). EndsIn b xs) waits g.0 in
    let more : is_done a.item ≡ false → all_done (heard n (came ++ a ∷ [])) ≡ false = λ e.
    not_all n (λ q. of_queue q (came ++ a ∷ [])) a.queue lt (ap has_ended (own_queue came a) ∙ (ended_push (of_queue a.queue came) a.item ∙ or_none (has_ended (of_queue a.queue came)) (is_done a.item) still e)) in
    ends_after (all_done (heard n (came ++ a ∷ []))) xs (passes n came a) none (passed_gives a.item (heard n came) (heard n (came ++ a ∷ [])) more)

-- ---- a queue of which one item more came was not done
none_join : (f : Bool) (x : Item) (xs : List Item) → (is_done x ≡ true → f ≡ false) → has_ended xs ≡ false → has_ended (cond f (x ∷ []) [] ++ xs) ≡ false
none_join true x xs h e = or_none (is_done x) (has_ended xs) (unless_true (is_done x) (λ d. let no : true ≡ false = h d in cc)) e
none_join false x xs h e = e

pub still_open : (q : ℕ) (came : List Taken) → Each (λ b. is_done b.item ≡ true → (b.queue == q) ≡ false) came → has_ended (of_queue q came) ≡ false
still_open q [] h = refl
still_open q (b ∷ came) h = none_join (b.queue == q) b.item (of_queue q came) h.0 (still_open q came h.1)

good_all : (n : ℕ) (before came : List Taken) (xs : List Item) → InOrder n (before ++ came) → Good n before xs → Good n (before ++ came) (xs ++ passed_after n before came)
good_all n before [] xs o g = subst (λ (c : List Taken). Good n c (xs ++ [])) (sym (append-nil before)) (subst (Good n before) (sym (append-nil xs)) g)
good_all n before (a ∷ came) xs o g =
    let lt = (Each-back (λ (b : Taken). b.queue < n) before (a ∷ came) o.inside).0 in
    let follows : Each (λ (b : Taken). MayFollow b a) before =
    Each-more (λ (b : Taken). Each (MayFollow b) (a ∷ came)) (λ (b : Taken). MayFollow b a) (λ b k. k.0) before (EachPair-across MayFollow before (a ∷ came) o.follows) in
    let one : Good n (before ++ a ∷ []) (xs ++ passes n before a) = good_more n before a xs lt (still_open a.queue before follows) g in
    let same : (before ++ a ∷ []) ++ came ≡ before ++ a ∷ came = append_assoc before (a ∷ []) came in
    let rest = good_all n (before ++ a ∷ []) came (xs ++ passes n before a) (subst (InOrder n) (sym same) o) one in
    subst (λ (c : List Taken). Good n c (xs ++ (passes n before a ++ passed_after n (before ++ a ∷ []) came))) same
    (subst (Good n ((before ++ a ∷ []) ++ came)) (append_assoc xs (passes n before a) (passed_after n (before ++ a ∷ []) came)) rest)

good_begun : (n : ℕ) → Good n [] (begun n)
good_begun zero = (([], item.Done, refl, refl, All-nil NotDone), refl)
good_begun (suc n) = (All-nil NotDone, refl)

-- ---- all that a sender passed on
module _ (v : SenderView) (came : List Taken) (sent : List Item) (k : SenderKeeps v came sent) where
  abbrev n : ℕ
  n = queue_count v

  abbrev xs : List Item
  xs = sent ++ k.sends.written ++ items_in v.hand

  good : Good n came xs
  good = subst (Good n came) (sym k.sends.follows) (good_all n [] came (begun n) k.takes_in.in_order (good_begun n))

  pub done_last : DoneLast v.queues xs
  done_last = record {
    last = subst (λ (b : Bool). EndsIn b xs) (sym good.1) good.0;
    over = λ e.
        All-from_get_or (λ (d : Bool). d ≡ true) v.queues.done true (λ q lt.
        let here : q < n = omega (arith, lt, k.takes_in.done_each) in
        k.takes_in.done_is q here ∙ each_there n (λ j. of_queue j came) (sym good.1 ∙ e) q here);
    given = λ all.
        good.1 ∙ all_here n (λ j. of_queue j came) (λ q lt.
        sym (k.takes_in.done_is q lt) ∙ All-get_or (λ (d : Bool). d ≡ true) v.queues.done q true (omega (arith, lt, k.takes_in.done_each)) all);
  }
