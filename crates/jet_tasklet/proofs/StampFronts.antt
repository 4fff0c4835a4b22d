-- The marks that a stamp gives are those of the events of its queues up to some place.
use Rattle.std.proofs.Common.{◌≡◌, ℕ, zero, suc, ◌<◌, ◌≤◌, ℤ, List, [], ◌∷◌, ◌++◌, map, length, refl, sym, ◌∙◌, ap, append_assoc, inl, inr, arith}
use Rattle.std.specs.Prelude.{◌⊎◌, Some}
use Rattle.std.proofs.lemmas.List.Concat.{flat_map-append}
use Rattle.jet_items.specs.declared.item.Item.{Item}
use Rattle.jet_items.specs.declared.item.Item.TheVariants as item
use Rattle.jet_items.specs.Kinds.{events_of}
use Rattle.jet_items.specs.Marks.{mark_of}
use Rattle.jet_items.specs.Order.{Each}
use Rattle.jet_items.specs.Values.{EventValue}
use Rattle.jet_items.proofs.Orders.{Each-append}
use Rattle.jet_boxes.specs.declared.port.Port.TheVariants.{Stream}
use Rattle.jet_boxes.specs.Entry.{CallEntry}
use Rattle.jet_stages.specs.Stamp.{IsPlaced, StampMarks, event_from, queue_events}
use Rattle.jet_stages.specs.declared.stamp.Stamp.{Stamp}
use Rattle.jet_tasklet.specs.declared.arrival.Arrival.{Arrival}
use Rattle.jet_tasklet.specs.declared.tasklet.Tasklet.{Tasklet}
use Rattle.jet_tasklet.specs.Inputs.{InputView, inputs_view, queue_count}
use Rattle.jet_tasklet.specs.Keeps.{Keeps, told}
use Rattle.jet_tasklet.specs.Kinds.{stamps}
use Rattle.jet_tasklet.specs.MarksGiven.{IsOfFront}
use Rattle.jet_tasklet.specs.Trace.{of_queue}
use Rattle.jet_tasklet.proofs.GenericLaws.{all_entered}
use Rattle.jet_tasklet.proofs.MarksGiven.{MarkHas}
use Rattle.jet_tasklet.proofs.Sending.{none_outside}
use Rattle.jet_tasklet.proofs.Stamping.{events_told}

below_or : (a b : ℕ) → (a < b) ⊎ (b ≤ a)
below_or zero zero = inr (omega arith)
below_or zero (suc b) = inl (omega arith)
below_or (suc a) zero = inr (omega arith)
below_or (suc a) (suc b) = elim (below_or a b) [ inl h ↦ inl (omega (arith, h)) | inr h ↦ inr (omega (arith, h)) ]

front_none : (xs ys : List EventValue) → xs ++ ys ≡ [] → xs ≡ []
front_none [] ys h = refl
front_none (x ∷ xs) ys h = absurd (cc)

no_mark : (lag grain : ℤ) (es : List EventValue) (t : ℤ) → es ≡ [] → mark_of lag grain (map (λ (e : EventValue). e.ts) es) ≡ Some t → ⊥
no_mark lag grain [] t none has = cc
no_mark lag grain (e ∷ es) t none has = cc

-- what a stamp says of the marks that it gave
abbrev pub GivenMarks : Stamp → List CallEntry → List Item → Type 0
GivenMarks p taken given = StampMarks (length p.markers.items) p.lag p.grain taken given

abbrev pub GivenMarksAmid : Stamp → List CallEntry → CallEntry → List Item → Type 0
GivenMarksAmid p taken entry given = GivenMarks p taken given

module _ (t : Tasklet Stamp) (came : List Arrival) (gave : List Item) (k : Keeps GivenMarks GivenMarksAmid stamps.takes t came gave) (taken more : List CallEntry) (is : told t.step (queue_count Stream (inputs_view t.inputs.items)) came ≡ taken ++ more) where
  abbrev vs : List InputView
  vs = inputs_view t.inputs.items

  abbrev m : ℕ
  m = length t.processor.markers.items

  abbrev lag : ℤ
  lag = t.processor.lag

  abbrev grain : ℤ
  grain = t.processor.grain

  of_front : (before : List Item) (w : ℤ) → IsPlaced m lag grain taken before w → IsOfFront lag grain vs w
  of_front before w p =
      let q : ℕ = (let l = p.least in l.queue) in
      let front : List EventValue = queue_events q p.front in
      let rest : List EventValue = queue_events q p.back ++ queue_events q more in
      let split : queue_events q taken ≡ front ++ queue_events q p.back = ap (queue_events q) p.parts ∙ flat_map-append (event_from q) p.front p.back in
      let parts : events_of (of_queue Stream q came) ≡ front ++ rest =
      sym (events_told q (queue_count Stream vs) t.step came) ∙ (ap (queue_events q) is ∙ (flat_map-append (event_from q) taken more
      ∙ (ap (λ (es : List EventValue). es ++ queue_events q more) split ∙ append_assoc front (queue_events q p.back) (queue_events q more)))) in
      let has : mark_of lag grain (map (λ (e : EventValue). e.ts) front) ≡ Some w = (let l = p.least in l.has) in
      elim (below_or q (queue_count Stream vs)) [
        | inl lt ↦ record { queue = q; exists = lt; front = front; rest = rest; parts = ap events_of (k.takes_in.received_is Stream q lt) ∙ parts; has = has }
        | inr le ↦
            let none : of_queue Stream q came ≡ [] = none_outside (λ port. queue_count port vs) Stream q came k.takes_in.in_order.inside le in
            absurd (no_mark lag grain front w (front_none front rest (sym parts ∙ ap events_of none)) has)
      ]

  each_placed : (given : List Item) → StampMarks m lag grain taken given → (before after : List Item) → given ≡ before ++ after → Each (MarkHas (IsOfFront lag grain vs)) after
  each_placed given marks before [] at = tt
  each_placed given marks before (item.Event e ∷ xs) at = (tt, each_placed given marks (before ++ item.Event e ∷ []) xs (at ∙ sym (append_assoc before (item.Event e ∷ []) xs)))
  each_placed given marks before (item.Side r ∷ xs) at = (tt, each_placed given marks (before ++ item.Side r ∷ []) xs (at ∙ sym (append_assoc before (item.Side r ∷ []) xs)))
  each_placed given marks before (item.Frame f ∷ xs) at = (tt, each_placed given marks (before ++ item.Frame f ∷ []) xs (at ∙ sym (append_assoc before (item.Frame f ∷ []) xs)))
  each_placed given marks before (item.Row r ∷ xs) at = (tt, each_placed given marks (before ++ item.Row r ∷ []) xs (at ∙ sym (append_assoc before (item.Row r ∷ []) xs)))
  each_placed given marks before (item.Late l ∷ xs) at = (tt, each_placed given marks (before ++ item.Late l ∷ []) xs (at ∙ sym (append_assoc before (item.Late l ∷ []) xs)))
  each_placed given marks before (item.Idle ∷ xs) at = (tt, each_placed given marks (before ++ item.Idle ∷ []) xs (at ∙ sym (append_assoc before (item.Idle ∷ []) xs)))
  each_placed given marks before (item.Mark w ∷ xs) at = ((of_front before w (marks.placed before xs w at), tt), each_placed given marks (before ++ item.Mark w ∷ []) xs (at ∙ sym (append_assoc before (item.Mark w ∷ []) xs)))
  each_placed given marks before (item.Done ∷ xs) at = (tt, each_placed given marks (before ++ item.Done ∷ []) xs (at ∙ sym (append_assoc before (item.Done ∷ []) xs)))

pub fronts_entered : (t : Tasklet Stamp) (came : List Arrival) (gave : List Item) → Keeps GivenMarks GivenMarksAmid stamps.takes t came gave
    → Each (MarkHas (IsOfFront t.processor.lag t.processor.grain (inputs_view t.inputs.items))) (gave ++ t.outbox.items)
fronts_entered t came gave k =
    let vs : List InputView = inputs_view t.inputs.items in
    let Q : Item → Type 0 = MarkHas (IsOfFront t.processor.lag t.processor.grain vs) in
    all_entered GivenMarks GivenMarksAmid stamps.takes t came gave k (Each Q)
    (λ taken more given m is. each_placed t came gave k taken more is given m [] given refl)
    (λ taken e more given m is. each_placed t came gave k taken (e ∷ more) (is ∙ append_assoc taken (e ∷ []) more) given m [] given refl)
    (λ taken more given m is q. Each-append Q given (item.Done ∷ []) q (tt, tt))
