-- What a coalescer has heard once one item more came.
use Rattle.std.proofs.Common.{◌≡◌, ◌≢◌, ℕ, zero, suc, ◌<◌, ◌==◌, ◌&&◌, ◌||◌, Bool, true, false, cond, ℤ, List, [], ◌∷◌, ◌++◌, map, length, refl, sym, ◌∙◌, ap, subst, append-nil, inl, inr, arith}
use Rattle.std.specs.Prelude.{Option, Some, None, slice_set, slice_index_or}
use Rattle.std.proofs.lemmas.List.Concat.{flat_map-append}
use Rattle.std.proofs.lemmas.List.Folds.{list_any-append}
use Rattle.std.proofs.lemmas.Bool.Decides.{eqb_tells}
use Rattle.jet_items.specs.declared.item.Item.{Item}
use Rattle.jet_items.specs.declared.item.Item.TheVariants as item
use Rattle.jet_items.specs.Done.{is_done}
use Rattle.jet_items.specs.Kinds.{as_mark, marks_of}
use Rattle.jet_boxes.specs.declared.port.Port.{Port}
use Rattle.jet_boxes.specs.declared.port.Port.TheVariants.{Stream, Build}
use Rattle.jet_boxes.specs.Entry.{Given, QueueClosed, IsData}
use Rattle.jet_coalescer.specs.declared.coalescer.Coalescer.{Coalescer}
use Rattle.jet_coalescer.specs.Low.{History, HasHeard, unheard, with_mark, with_done, all_done, low, risen, change_of, raised}
use Rattle.jet_tasklet.specs.declared.arrival.Arrival.{Arrival}
use Rattle.jet_tasklet.specs.declared.step.Step.TheVariants as step
use Rattle.jet_tasklet.specs.declared.step.Pending.TheVariants as call
use Rattle.jet_tasklet.specs.Trace.{same_port, is_from, of_queue, has_ended, history, histories, heard, watermark, called, tells, asks}
use Rattle.jet_tasklet.specs.Steps.{owed, told_next, finale}
use Rattle.jet_tasklet.specs.inner.Noting.{raised_to, EndsQueue, Notes}
use Rattle.jet_tasklet.proofs.Pushing.{of_queue-push}
use Rattle.jet_tasklet.proofs.Lowest.{AllEnded, ended_low}
use Rattle.jet_tasklet.proofs.Tracing.{build_heard, risen_same, own_queue}

cons_same : (g h : History) (gs hs : List History) → g ≡ h → gs ≡ hs → g ∷ gs ≡ h ∷ hs
cons_same g h gs hs e r = cc

pub histories_alike : (n : ℕ) (f g : ℕ → List Item) → ((q : ℕ) → q < n → history (f q) ≡ history (g q)) → histories n f ≡ histories n g
histories_alike zero f g h = refl
histories_alike (suc n) f g h =
    cons_same (history (f 0)) (history (g 0)) (histories n (λ q. f (suc q))) (histories n (λ q. g (suc q))) (h 0 (omega arith)) (histories_alike n (λ q. f (suc q)) (λ q. g (suc q)) (λ q lt. h (suc q) (omega (arith, lt))))

pub length_histories : (n : ℕ) (f : ℕ → List Item) → length (histories n f) ≡ n
length_histories zero f = refl
length_histories (suc n) f = ap suc (length_histories n (λ q. f (suc q)))

marks_push : (xs : List Item) (x : Item) → marks_of (xs ++ x ∷ []) ≡ marks_of xs ++ as_mark x
marks_push xs x = flat_map-append as_mark xs (x ∷ []) ∙ ap (λ (ms : List ℤ). marks_of xs ++ ms) (append-nil (as_mark x))

or_last : (b c : Bool) → (b || (c || false)) ≡ (b || c)
or_last true c = refl
or_last false true = refl
or_last false false = refl

or_false : (b : Bool) → (b || false) ≡ b
or_false true = refl
or_false false = refl

or_true : (b : Bool) → (b || true) ≡ true
or_true true = refl
or_true false = refl

pub ended_push : (xs : List Item) (x : Item) → has_ended (xs ++ x ∷ []) ≡ (has_ended xs || is_done x)
ended_push xs x = list_any-append is_done xs (x ∷ []) ∙ or_last (has_ended xs) (is_done x)

history_of : (xs ys : List Item) (marks : List ℤ) (ended : Bool) → marks_of ys ≡ marks → has_ended ys ≡ ended → history ys ≡ record { marks = marks; done = ended }
history_of xs ys marks ended m e = cc

mark_history : (xs : List Item) (t : ℤ) → history (xs ++ item.Mark t ∷ []) ≡ record { marks = marks_of xs ++ t ∷ []; done = has_ended xs }
mark_history xs t = history_of xs (xs ++ item.Mark t ∷ []) (marks_of xs ++ t ∷ []) (has_ended xs) (marks_push xs (item.Mark t)) (ended_push xs (item.Mark t) ∙ or_false (has_ended xs))

done_history : (xs : List Item) → history (xs ++ item.Done ∷ []) ≡ record { marks = marks_of xs; done = true }
done_history xs = history_of xs (xs ++ item.Done ∷ []) (marks_of xs) true (marks_push xs item.Done ∙ append-nil (marks_of xs)) (ended_push xs item.Done ∙ or_true (has_ended xs))

quiet : (xs : List Item) (x : Item) → as_mark x ≡ [] → is_done x ≡ false → history (xs ++ x ∷ []) ≡ history xs
quiet xs x m e =
    history_of xs (xs ++ x ∷ []) (marks_of xs) (has_ended xs)
    (marks_push xs x ∙ (ap (λ (ms : List ℤ). marks_of xs ++ ms) m ∙ append-nil (marks_of xs)))
    (ended_push xs x ∙ (ap (λ (b : Bool). has_ended xs || b) e ∙ or_false (has_ended xs)))

data_quiet : (xs : List Item) (x : Item) → IsData x → history (xs ++ x ∷ []) ≡ history xs
data_quiet xs (item.Event e) d = quiet xs (item.Event e) refl refl
data_quiet xs (item.Side s) d = quiet xs (item.Side s) refl refl
data_quiet xs (item.Frame f) d = quiet xs (item.Frame f) refl refl
data_quiet xs (item.Row r) d = quiet xs (item.Row r) refl refl
data_quiet xs (item.Late l) d = quiet xs (item.Late l) refl refl
data_quiet xs item.Idle d = quiet xs item.Idle refl refl
data_quiet xs (item.Mark m) d = absurd d
data_quiet xs item.Done d = absurd d

-- ---- one queue gave one item more
with_one : (change : History → History) (n q : ℕ) (f g : ℕ → List Item) → q < n → change (history (f q)) ≡ history (g q) → ((k : ℕ) → k ≢ q → g k ≡ f k) → slice_set (histories n f) q (change (slice_index_or (histories n f) q unheard)) ≡ histories n g
with_one change zero q f g lt here others = absurd (omega (arith, lt))
with_one change (suc n) zero f g lt here others =
    cons_same (change (history (f 0))) (history (g 0)) (histories n (λ k. f (suc k))) (histories n (λ k. g (suc k))) here
    (histories_alike n (λ k. f (suc k)) (λ k. g (suc k)) (λ k lt'. ap history (sym (others (suc k) (λ e. omega (arith, e))))))
with_one change (suc n) (suc q) f g lt here others =
    cons_same (history (f 0)) (history (g 0)) (slice_set (histories n (λ k. f (suc k))) q (change (slice_index_or (histories n (λ k. f (suc k))) q unheard))) (histories n (λ k. g (suc k))) (ap history (sym (others 0 (λ e. omega (arith, e)))))
    (with_one change n q (λ k. f (suc k)) (λ k. g (suc k)) (omega (arith, lt)) here (λ k ne. others (suc k) (λ e. ne (omega (arith, e)))))

abbrev lists_of : List Arrival → ℕ → List Item
lists_of came q = of_queue Stream q came

differs : (q r : ℕ) → (q ≢ r) → (q == r) ≡ false
differs q r h = elim (eqb_tells q r) [ inl e ↦ absurd (h e.1) | inr e ↦ e.0 ]

and_false : (b : Bool) → (b && false) ≡ false
and_false true = refl
and_false false = refl

pub other_queue : (port : Port) (came : List Arrival) (a : Arrival) (k : ℕ) → k ≢ a.queue → of_queue port k (came ++ a ∷ []) ≡ of_queue port k came
other_queue port came a k ne =
    let e : (a.queue == k) ≡ false = differs a.queue k (λ i. ne (sym i)) in
    let none : is_from port k a ≡ false = ap (λ (b : Bool). same_port a.port port && b) e ∙ and_false (same_port a.port port) in
    of_queue-push port k came a ∙ (ap (λ (b : Bool). of_queue port k came ++ cond b (a.item ∷ []) []) none ∙ append-nil (of_queue port k came))

stream_own : (came : List Arrival) (a : Arrival) → a.port ≡ Stream → of_queue Stream a.queue (came ++ a ∷ []) ≡ of_queue Stream a.queue came ++ a.item ∷ []
stream_own came a is = subst (λ (p : Port). of_queue p a.queue (came ++ a ∷ []) ≡ of_queue p a.queue came ++ a.item ∷ []) is (own_queue came a)

mark_heard : (n : ℕ) (came : List Arrival) (a : Arrival) (t : ℤ) → a.port ≡ Stream → a.item ≡ item.Mark t → a.queue < n → with_mark (heard n came) a.queue t ≡ heard n (came ++ a ∷ [])
mark_heard n came a t is what lt =
    let own : of_queue Stream a.queue (came ++ a ∷ []) ≡ of_queue Stream a.queue came ++ item.Mark t ∷ [] = stream_own came a is ∙ ap (λ (x : Item). of_queue Stream a.queue came ++ x ∷ []) what in
    with_one (λ (h : History). let r : History = record { marks = h.marks ++ t ∷ []; done = h.done } in r) n a.queue (lists_of came) (lists_of (came ++ a ∷ [])) lt
    (sym (ap history own ∙ mark_history (of_queue Stream a.queue came) t)) (λ k ne. other_queue Stream came a k ne)

done_heard : (n : ℕ) (came : List Arrival) (a : Arrival) → a.port ≡ Stream → a.item ≡ item.Done → a.queue < n → with_done (heard n came) a.queue ≡ heard n (came ++ a ∷ [])
done_heard n came a is what lt =
    let own : of_queue Stream a.queue (came ++ a ∷ []) ≡ of_queue Stream a.queue came ++ item.Done ∷ [] = stream_own came a is ∙ ap (λ (x : Item). of_queue Stream a.queue came ++ x ∷ []) what in
    with_one (λ (h : History). let r : History = record { marks = h.marks; done = true } in r) n a.queue (lists_of came) (lists_of (came ++ a ∷ [])) lt
    (sym (ap history own ∙ done_history (of_queue Stream a.queue came))) (λ k ne. other_queue Stream came a k ne)

data_if : (b : Bool) (xs : List Item) (x : Item) → IsData x → history (xs ++ cond b (x ∷ []) []) ≡ history xs
data_if true xs x d = data_quiet xs x d
data_if false xs x d = ap history (append-nil xs)

data_heard : (n : ℕ) (came : List Arrival) (a : Arrival) → IsData a.item → heard n (came ++ a ∷ []) ≡ heard n came
data_heard n came a d =
    histories_alike n (lists_of (came ++ a ∷ [])) (lists_of came) (λ q lt.
    ap history (of_queue-push Stream q came a) ∙ data_if (is_from Stream q a) (of_queue Stream q came) a.item d)

-- ---- what is asked
owed_told : (o : Option ℤ) → owed (told_next o) ≡ tells o
owed_told None = refl
owed_told (Some t) = refl

finale_told : (o : Option ℤ) → finale (told_next o) ≡ []
finale_told None = refl
finale_told (Some t) = refl

called_data : (port : Port) (q : ℕ) (x : Item) → IsData x → called port q x ≡ Given port q x ∷ []
called_data port q (item.Event e) d = refl
called_data port q (item.Side s) d = refl
called_data port q (item.Frame f) d = refl
called_data port q (item.Row r) d = refl
called_data port q (item.Late l) d = refl
called_data port q item.Idle d = refl
called_data port q (item.Mark m) d = absurd d
called_data port q item.Done d = absurd d

pub data_unless : (x : Item) → ((m : ℤ) → x ≡ item.Mark m → ⊥) → (x ≡ item.Done → ⊥) → IsData x
data_unless (item.Event e) h k = tt
data_unless (item.Side s) h k = tt
data_unless (item.Frame f) h k = tt
data_unless (item.Row r) h k = tt
data_unless (item.Late l) h k = tt
data_unless item.Idle h k = tt
data_unless (item.Mark m) h k = h m refl
data_unless item.Done h k = k refl

pub asks_same : (n : ℕ) (came : List Arrival) (a : Arrival) → heard n (came ++ a ∷ []) ≡ heard n came → asks n came a ≡ called a.port a.queue a.item
asks_same n came a same =
    let none : risen (watermark n came) (watermark n (came ++ a ∷ [])) ≡ None = ap (λ (told : List History). risen (watermark n came) (low told)) same ∙ risen_same (watermark n came) in
    ap (λ (o : Option ℤ). called a.port a.queue a.item ++ tells o) none ∙ append-nil (called a.port a.queue a.item)

pub note_data : (co : Coalescer) (a : Arrival) → IsData a.item → Notes co co a (step.Make (call.Accept a))
note_data co a d = record {
  hears = λ came h. subst (HasHeard co) (sym (data_heard (length co.queues) came a d)) h;
  asked = λ came h. sym (asks_same (length co.queues) came a (data_heard (length co.queues) came a d) ∙ called_data a.port a.queue a.item d);
  goes_on = refl;
}

pub note_build : (co : Coalescer) (a : Arrival) (t : ℤ) → a.port ≡ Build → a.item ≡ item.Mark t → Notes co co a step.Poll
note_build co a t is what = record {
  hears = λ came h. subst (HasHeard co) (sym (build_heard (length co.queues) came a is)) h;
  asked = λ came h. sym (asks_same (length co.queues) came a (build_heard (length co.queues) came a is) ∙ ap (called a.port a.queue) what);
  goes_on = refl;
}

pub note_mark : (co new : Coalescer) (a : Arrival) (t : ℤ) (o : Option ℤ) → a.port ≡ Stream → a.item ≡ item.Mark t → a.queue < length co.queues → ((told : List History) → HasHeard co told → HasHeard new (with_mark told a.queue t)) → ((told : List History) → HasHeard co told → o ≡ risen (low told) (low (with_mark told a.queue t))) → Notes co new a (told_next o)
note_mark co new a t o is what lt hears rises = record {
  hears = λ came h. subst (HasHeard new) (mark_heard (length co.queues) came a t is what lt) (hears (heard (length co.queues) came) h);
  asked = λ came h.
      owed_told o ∙ (ap tells (rises (heard (length co.queues) came) h ∙ ap (λ (told : List History). risen (watermark (length co.queues) came) (low told)) (mark_heard (length co.queues) came a t is what lt))
      ∙ ap (λ (x : Item). called a.port a.queue x ++ tells (risen (watermark (length co.queues) came) (watermark (length co.queues) (came ++ a ∷ [])))) (sym what));
  goes_on = finale_told o;
}

raised_is : (o : Option ℤ) → raised_to (raised o) ≡ o
raised_is None = refl
raised_is (Some t) = refl

change_is : (b : Bool) (x y : Option ℤ) → (b ≡ true → y ≡ None) → raised_to (change_of b x y) ≡ risen x y
change_is true x y h = sym (ap (risen x) (h refl))
change_is false x y h = raised_is (risen x y)

left : (a b : Bool) → (a && b) ≡ true → (a ≡ true) × (b ≡ true)
left true b h = (refl, h)
left false b h = absurd (cc)

all_ended : (n : ℕ) (f : ℕ → List Item) → all_done (histories n f) ≡ true → AllEnded n f
all_ended zero f h q lt = absurd (omega (arith, lt))
all_ended (suc n) f h zero lt = (left (has_ended (f 0)) (all_done (histories n (λ k. f (suc k)))) h).0
all_ended (suc n) f h (suc q) lt = all_ended n (λ k. f (suc k)) (left (has_ended (f 0)) (all_done (histories n (λ k. f (suc k)))) h).1 q (omega (arith, lt))

note_done_stream : (co new : Coalescer) (a : Arrival) (o : Option ℤ) → a.port ≡ Stream → a.item ≡ item.Done → a.queue < length co.queues → EndsQueue co new Stream a.queue o → Notes co new a (step.Make (call.Close a.port a.queue o))
note_done_stream co new a o is what lt ends =
    let n : ℕ = length co.queues in record {
      hears = λ came h. subst (HasHeard new) (done_heard n came a is what lt) (ends (heard n came) h).0;
      asked = λ came h.
          let next : List Arrival = came ++ a ∷ [] in
          let change : raised_to (change_of (all_done (heard n next)) (watermark n came) (watermark n next)) ≡ risen (watermark n came) (watermark n next) =
          change_is (all_done (heard n next)) (watermark n came) (watermark n next) (λ e. ended_low n (lists_of next) (all_ended n (lists_of next) e)) in
          let rose : o ≡ risen (watermark n came) (watermark n next) = (ends (heard n came) h).1 ∙ (ap (λ (told : List History). raised_to (change_of (all_done told) (watermark n came) (low told))) (done_heard n came a is what lt) ∙ change) in
          ap (λ (r : Option ℤ). QueueClosed a.port a.queue ∷ tells r) rose ∙ ap (λ (x : Item). called a.port a.queue x ++ tells (risen (watermark n came) (watermark n next))) (sym what);
      goes_on = refl;
    }

note_done_build : (co new : Coalescer) (a : Arrival) (o : Option ℤ) → a.port ≡ Build → a.item ≡ item.Done → EndsQueue co new Build a.queue o → Notes co new a (step.Make (call.Close a.port a.queue o))
note_done_build co new a o is what ends =
    let n : ℕ = length co.queues in record {
      hears = λ came h. subst (λ (c : Coalescer). HasHeard c (heard n (came ++ a ∷ []))) (sym ends.0) (subst (HasHeard co) (sym (build_heard n came a is)) h);
      asked = λ came h. ap (λ (r : Option ℤ). QueueClosed a.port a.queue ∷ tells r) ends.1 ∙ sym (asks_same n came a (build_heard n came a is) ∙ ap (called a.port a.queue) what);
      goes_on = refl;
    }

pub note_done : (port : Port) (co new : Coalescer) (a : Arrival) (o : Option ℤ) → a.port ≡ port → a.item ≡ item.Done → (a.port ≡ Stream → a.queue < length co.queues) → EndsQueue co new port a.queue o → Notes co new a (step.Make (call.Close a.port a.queue o))
note_done Stream co new a o is what lt ends = note_done_stream co new a o is what (lt is) ends
note_done Build co new a o is what lt ends = note_done_build co new a o is what ends
