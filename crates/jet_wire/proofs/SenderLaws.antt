-- What a sender passes on, by what its queues received.
use Rattle.std.proofs.Common.{◌≡◌, ℕ, ◌<◌, Bool, false, ℤ, ◌≤ℤ◌, ◌<ℤ◌, List, [], ◌∷◌, ◌++◌, sym, ◌∙◌, ap, subst, arith, append_assoc, Option, None}
use Rattle.std.specs.List.{Contains}
use Rattle.std.specs.Option.{IsSomeAnd}
use Rattle.std.proofs.lemmas.Int.{ints}
use Rattle.std.proofs.lemmas.List.Concat.{flat_map-append}
use Rattle.std.proofs.lemmas.List.Elements.{All-contains_itself}
use Rattle.jet_items.specs.declared.item.Item.{Item}
use Rattle.jet_items.specs.declared.item.Item.TheVariants as item
use Rattle.jet_items.specs.Bag.{SameBag, all_of}
use Rattle.jet_items.specs.Kinds.{as_mark, marks_of, data_of}
use Rattle.jet_items.specs.Order.{Each, EachPair, Sound, SoundAfter, LateIsBehind, Closed, ClosedAfter}
use Rattle.jet_items.proofs.Orders.{Each-front, Each-more, Sound-front, Closed-front}
use Rattle.jet_coalescer.specs.Laws.{LowIsLeast, LowHoldsNoneBack}
use Rattle.jet_coalescer.specs.Low.{low, all_done}
use Rattle.jet_conveyor.specs.Conveyor as conveyor
use Rattle.jet_spell.specs.Laws.{SpellingsAreShort}
use Rattle.jet_wire.specs.InOrder.{passed_on, EachReceived, IsReceived, HasOpen, AllReached, last_mark, low_received, data_received}
use Rattle.jet_wire.specs.Noting.{items_in}
use Rattle.jet_wire.specs.Passing.{Taken, of_queue, has_ended, history, histories, heard, passed}
use Rattle.jet_wire.specs.Sender.{SenderView, queue_count, SenderKeeps}
use Rattle.jet_wire.proofs.Bags.{all_of_same, merged_bag}
use Rattle.jet_wire.proofs.DoneLast.{not_all}
use Rattle.jet_wire.proofs.Histories.{histories_alike}
use Rattle.jet_wire.proofs.Merged.{Ordering, IsPlain, AllReach, lists_of, all_each, passed_in_order, passed_each, passed_marks, last_is_low, low_reaches}
use Rattle.jet_wire.proofs.Passing.{passes_data, sends_all}

-- ---- the two orders
sound_free : (behind : ℕ → ℕ → Bool) (x y : Item) → IsPlain x → SoundAfter behind x y
sound_free behind (item.Mark m) y p = absurd (let none : m ∷ [] ≡ [] = p.0 in cc)
sound_free behind (item.Event e) y p = tt
sound_free behind (item.Side s) y p = tt
sound_free behind (item.Frame f) y p = tt
sound_free behind (item.Row r) y p = tt
sound_free behind (item.Late l) y p = tt
sound_free behind item.Idle y p = tt
sound_free behind item.Done y p = tt

lower : (s t m : ℤ) → t ≤ℤ m → s <ℤ t → s <ℤ m
lower s t m h k = omega (arith, ints, h, k)

higher : (t m s : ℤ) → t ≤ℤ m → m <ℤ s → t <ℤ s
higher t m s h k = omega (arith, ints, h, k)

sound_less : (behind : ℕ → ℕ → Bool) (t m : ℤ) (y : Item) → t ≤ℤ m → SoundAfter behind (item.Mark m) y → SoundAfter behind (item.Mark t) y
sound_less behind t m (item.Event e) h k = λ below. k (lower e.ts t m h below)
sound_less behind t m (item.Mark v) h k = tt
sound_less behind t m (item.Side s) h k = tt
sound_less behind t m (item.Frame f) h k = tt
sound_less behind t m (item.Row r) h k = tt
sound_less behind t m (item.Late l) h k = tt
sound_less behind t m item.Idle h k = tt
sound_less behind t m item.Done h k = tt

sound_ordering : (behind : ℕ → ℕ → Bool) → Ordering (SoundAfter behind)
sound_ordering behind = record { free = sound_free behind; less = sound_less behind; rise = λ t u lt. tt; last = λ t. tt }

closed_free : (x y : Item) → IsPlain x → ClosedAfter x y
closed_free (item.Mark m) y p = absurd (let none : m ∷ [] ≡ [] = p.0 in cc)
closed_free item.Done y p = absurd (cc)
closed_free (item.Event e) y p = tt
closed_free (item.Side s) y p = tt
closed_free (item.Frame f) y p = tt
closed_free (item.Row r) y p = tt
closed_free (item.Late l) y p = tt
closed_free item.Idle y p = tt

closed_less : (t m : ℤ) (y : Item) → t ≤ℤ m → ClosedAfter (item.Mark m) y → ClosedAfter (item.Mark t) y
closed_less t m (item.Frame f) h k = higher t m f.end h k
closed_less t m (item.Row r) h k = higher t m r.end h k
closed_less t m (item.Mark v) h k = higher t m v h k
closed_less t m (item.Event e) h k = tt
closed_less t m (item.Side s) h k = tt
closed_less t m (item.Late l) h k = tt
closed_less t m item.Idle h k = tt
closed_less t m item.Done h k = tt

closed_ordering : Ordering ClosedAfter
closed_ordering = record { free = closed_free; less = closed_less; rise = λ t u lt. lt; last = λ t. tt }

-- ---- a sender
module _ (v : SenderView) (came : List Taken) (sent : List Item) (k : SenderKeeps v came sent) where
  abbrev n : ℕ
  n = queue_count v

  abbrev xs : List Item
  xs = passed_on v came sent k

  each_queue : (P : List Item → Type 0) → EachReceived P v.queues → (q : ℕ) → q < n → P (of_queue q came)
  each_queue P h q lt = subst P (k.takes_in.received_is q lt) (h q lt)

  -- what was sent is a front of what was passed on
  sent_first : xs ≡ sent ++ (k.sends.written ++ items_in v.hand)
  sent_first = append_assoc sent k.sends.written (items_in v.hand)

  module _ (least : LowIsLeast) (holds : LowHoldsNoneBack) where
    pub passes_sound : (behind : ℕ → ℕ → Bool) → EachReceived (Sound behind) v.queues → Sound behind xs
    passes_sound behind h = record {
      after =
          subst (EachPair (SoundAfter behind)) (sym k.sends.follows)
          (passed_in_order least holds n (SoundAfter behind) (sound_ordering behind) came k.takes_in.in_order (λ q lt. (each_queue (Sound behind) h q lt).after));
      lates =
          subst (Each (LateIsBehind behind)) (sym k.sends.follows)
          (passed_each least holds n (LateIsBehind behind) tt (λ t. tt) came k.takes_in.in_order (λ q lt. (each_queue (Sound behind) h q lt).lates));
    }

    pub sends_sound : (behind : ℕ → ℕ → Bool) → EachReceived (Sound behind) v.queues → Sound behind sent
    sends_sound behind h = Sound-front behind sent (k.sends.written ++ items_in v.hand) (subst (Sound behind) sent_first (passes_sound behind h))

    pub passes_closed : EachReceived Closed v.queues → Closed xs
    passes_closed h = record {
      after =
          subst (EachPair ClosedAfter) (sym k.sends.follows)
          (passed_in_order least holds n ClosedAfter closed_ordering came k.takes_in.in_order (λ q lt. (each_queue Closed h q lt).after));
    }

    pub sends_closed : EachReceived Closed v.queues → Closed sent
    sends_closed h = Closed-front sent (k.sends.written ++ items_in v.hand) (subst Closed sent_first (passes_closed h))

    -- ---- marks
    received_marks : (q : ℕ) → q < n → Each (IsReceived v.queues) (marks_of (of_queue q came))
    received_marks q lt =
        let ms : List ℤ = marks_of (conveyor.received_at v.queues q) in
        subst (λ (ys : List Item). Each (IsReceived v.queues) (marks_of ys)) (k.takes_in.received_is q lt)
        (Each-more (Contains ms) (IsReceived v.queues) (λ t c. record { queue = q; exists = lt; stands = c }) ms (all_each (Contains ms) ms (All-contains_itself ms)))

    pub passes_received : Each (IsReceived v.queues) (marks_of xs)
    passes_received = subst (λ (ys : List Item). Each (IsReceived v.queues) (marks_of ys)) (sym k.sends.follows) (passed_marks least holds n (IsReceived v.queues) came k.takes_in.in_order received_marks)

    pub sends_received : Each (IsReceived v.queues) (marks_of sent)
    sends_received =
        let rest : List Item = k.sends.written ++ items_in v.hand in
        Each-front (IsReceived v.queues) (marks_of sent) (marks_of rest)
        (subst (Each (IsReceived v.queues)) (ap marks_of sent_first ∙ flat_map-append as_mark sent rest) passes_received)

    abbrev list_at : ℕ → List Item
    list_at q = conveyor.received_at v.queues q

    heard_is : heard n came ≡ histories n list_at
    heard_is = histories_alike n (lists_of came) list_at (λ q lt. ap history (sym (k.takes_in.received_is q lt)))

    left_open : HasOpen v.queues → all_done (heard n came) ≡ false
    left_open o = not_all n (lists_of came) o.queue o.exists (sym (k.takes_in.done_is o.queue o.exists) ∙ o.still)

    pub low_is : HasOpen v.queues → v.lows.low ≡ low_received v.queues
    low_is o = k.takes_in.heard_is.low_is (left_open o) ∙ ap low heard_is

    last_of_passed : HasOpen v.queues → last_mark (passed n came) ≡ low_received v.queues
    last_of_passed o = last_is_low least holds n came k.takes_in.in_order (left_open o) ∙ ap low heard_is

    pub last_is : HasOpen v.queues → last_mark xs ≡ low_received v.queues
    last_is o = ap last_mark k.sends.follows ∙ last_of_passed o

    pub last_sent : SpellingsAreShort → HasOpen v.queues → v.hand ≡ None → v.end.work ≡ None → last_mark sent ≡ low_received v.queues
    last_sent short o hand work = ap last_mark (sends_all short v came sent k hand work) ∙ last_of_passed o

    pub last_reached : (s : ℤ) → HasOpen v.queues → AllReached v.queues s → IsSomeAnd (last_mark xs) (λ m. s ≤ℤ m)
    last_reached s o all =
        let reach : AllReach n s list_at = λ q lt still. all q lt (k.takes_in.done_is q lt ∙ (ap has_ended (sym (k.takes_in.received_is q lt)) ∙ still)) in
        subst (λ (m : Option ℤ). IsSomeAnd m (λ m. s ≤ℤ m)) (sym (last_is o)) (low_reaches holds n s list_at (ap all_done (sym heard_is) ∙ left_open o) reach)

  -- ---- data
  pub passes_bag : SameBag (data_of xs) (data_received v.queues)
  passes_bag =
      let same : all_of n (λ q. data_of (of_queue q came)) ≡ data_received v.queues = all_of_same n (λ q. data_of (of_queue q came)) (λ q. data_of (conveyor.received_at v.queues q)) (λ q lt. ap data_of (sym (k.takes_in.received_is q lt))) in
      subst (SameBag (data_of xs)) same (subst (λ (ys : List Item). SameBag ys (all_of n (λ q. data_of (of_queue q came)))) (sym (passes_data v came sent k)) (merged_bag n came k.takes_in.in_order.inside))
