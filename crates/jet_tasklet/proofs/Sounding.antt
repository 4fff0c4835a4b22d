-- From what each queue received to what each destination was sent.
use Rattle.std.proofs.Common.{ℕ, Bool, cond, ℤ, ◌≤ℤ◌, ◌<ℤ◌, List, [], ◌∷◌, ◌++◌, sym, ◌∙◌, ap, subst, arith}
use Rattle.std.proofs.lemmas.Int.{ints}
use Rattle.jet_items.specs.declared.item.Item.{Item}
use Rattle.jet_items.specs.declared.item.Item.TheVariants as item
use Rattle.jet_items.specs.Order.{Each, Sound, SoundAfter, LateIsBehind, Closed, ClosedAfter}
use Rattle.jet_items.proofs.Orders.{Each-append, Each-front, Each-back}
use Rattle.jet_boxes.specs.declared.port.Port.{Port}
use Rattle.jet_boxes.specs.declared.port.Port.TheVariants.{Stream}
use Rattle.jet_boxes.specs.Entry.{items_of, IsData}
use Rattle.jet_tasklet.specs.declared.arrival.Arrival.{Arrival}
use Rattle.jet_tasklet.specs.Trace.{is_from, of_queue, asks, entries}
use Rattle.jet_tasklet.specs.InOrder.{InOrder}
use Rattle.jet_tasklet.proofs.Pushing.{by_pushing, of_queue-push, entries-push, items_of-append}
use Rattle.jet_tasklet.proofs.Tracing.{Ordering, told_in_order, own_queue, asks_each}

-- ---- the two orders
sound_free : (behind : ℕ → ℕ → Bool) (x y : Item) → IsData x → SoundAfter behind x y
sound_free behind (item.Event e) y d = tt
sound_free behind (item.Side s) y d = tt
sound_free behind (item.Frame f) y d = tt
sound_free behind (item.Row r) y d = tt
sound_free behind (item.Late l) y d = tt
sound_free behind item.Idle y d = tt
sound_free behind (item.Mark m) y d = absurd d
sound_free behind item.Done y d = tt

lt_le : (s t m : ℤ) → s <ℤ t → t ≤ℤ m → s <ℤ m
lt_le s t m h k = omega (arith, ints, h, k)

le_lt : (t m s : ℤ) → t ≤ℤ m → m <ℤ s → t <ℤ s
le_lt t m s h k = omega (arith, ints, h, k)

sound_less : (behind : ℕ → ℕ → Bool) (t m : ℤ) (y : Item) → t ≤ℤ m → SoundAfter behind (item.Mark m) y → SoundAfter behind (item.Mark t) y
sound_less behind t m (item.Event e) h k = λ lt. k (lt_le e.ts t m lt h)
sound_less behind t m (item.Side s) h k = tt
sound_less behind t m (item.Frame f) h k = tt
sound_less behind t m (item.Row r) h k = tt
sound_less behind t m (item.Late l) h k = tt
sound_less behind t m item.Idle h k = tt
sound_less behind t m (item.Mark v) h k = tt
sound_less behind t m item.Done h k = tt

pub sound_ordering : (behind : ℕ → ℕ → Bool) → Ordering (SoundAfter behind)
sound_ordering behind = record { free = sound_free behind; less = sound_less behind; rise = λ t u lt. tt }

closed_free : (x y : Item) → IsData x → ClosedAfter x y
closed_free (item.Event e) y d = tt
closed_free (item.Side s) y d = tt
closed_free (item.Frame f) y d = tt
closed_free (item.Row r) y d = tt
closed_free (item.Late l) y d = tt
closed_free item.Idle y d = tt
closed_free (item.Mark m) y d = absurd d
closed_free item.Done y d = absurd d

closed_less : (t m : ℤ) (y : Item) → t ≤ℤ m → ClosedAfter (item.Mark m) y → ClosedAfter (item.Mark t) y
closed_less t m (item.Event e) h k = tt
closed_less t m (item.Side s) h k = tt
closed_less t m (item.Frame f) h k = le_lt t m f.end h k
closed_less t m (item.Row r) h k = le_lt t m r.end h k
closed_less t m (item.Late l) h k = tt
closed_less t m item.Idle h k = tt
closed_less t m (item.Mark v) h k = le_lt t m v h k
closed_less t m item.Done h k = tt

pub closed_ordering : Ordering ClosedAfter
closed_ordering = record { free = closed_free; less = closed_less; rise = λ t u lt. lt }

-- ---- what the processor is told
lates_told : (behind : ℕ → ℕ → Bool) (n : ℕ) (came : List Arrival) → ((port : Port) (q : ℕ) → Each (LateIsBehind behind) (of_queue port q came)) → Each (LateIsBehind behind) (items_of (entries n came))
lates_told behind n came =
    by_pushing (λ (xs : List Arrival). ((port : Port) (q : ℕ) → Each (LateIsBehind behind) (of_queue port q xs)) → Each (LateIsBehind behind) (items_of (entries n xs))) (λ h. tt) (λ xs a ih h.
    let before : (port : Port) (q : ℕ) → Each (LateIsBehind behind) (of_queue port q xs) = λ port q. Each-front (LateIsBehind behind) (of_queue port q xs) (cond (is_from port q a) (a.item ∷ []) []) (subst (Each (LateIsBehind behind)) (of_queue-push port q xs a) (h port q)) in
    let own : Each (LateIsBehind behind) (of_queue a.port a.queue xs ++ a.item ∷ []) = subst (Each (LateIsBehind behind)) (own_queue xs a) (h a.port a.queue) in
    let last = Each-back (LateIsBehind behind) (of_queue a.port a.queue xs) (a.item ∷ []) own in
    subst (Each (LateIsBehind behind)) (sym (ap items_of (entries-push n xs a) ∙ items_of-append (entries n xs) (asks n xs a)))
    (Each-append (LateIsBehind behind) (items_of (entries n xs)) (items_of (asks n xs a)) (ih before) (asks_each (LateIsBehind behind) n xs a last.0 (λ t e. tt)))) came

-- where what came from each queue is sound, so is what the processor is told
pub told_sound : (behind : ℕ → ℕ → Bool) (queues : Port → ℕ) (came : List Arrival) → InOrder queues came → ((port : Port) (q : ℕ) → Sound behind (of_queue port q came)) → Sound behind (items_of (entries (queues Stream) came))
told_sound behind queues came ord s = record {
  after = told_in_order (SoundAfter behind) (sound_ordering behind) queues came ord (λ q. (s Stream q).after);
  lates = lates_told behind (queues Stream) came (λ port q. (s port q).lates);
}

-- where what came from each stream queue is closed, so is what the processor is told
pub told_closed : (queues : Port → ℕ) (came : List Arrival) → InOrder queues came → ((q : ℕ) → Closed (of_queue Stream q came)) → Closed (items_of (entries (queues Stream) came))
told_closed queues came ord s = record { after = told_in_order ClosedAfter closed_ordering queues came ord (λ q. (s q).after) }
