-- How a turn goes, and why it may have nothing to do.
use Rattle.std.proofs.Common.{◌≡◌, ℕ, ◌<◌, ◌≤◌, ◌||◌, Bool, true, false, List, [], ◌∷◌, ◌++◌, length, inl, inr, refl, sym, ◌∙◌, ap, subst, append-nil, append_assoc, arith, length-append}
use Rattle.std.specs.Prelude.{Some, None, Result, ◌⊎◌}
use Rattle.std.specs.declared.vec.Vec.{Vec}
use Rattle.std.specs.declared.alloc.Global.{Global}
use Rattle.jet_items.specs.declared.item.Item.{Item}
use Rattle.jet_items.specs.declared.item.Item.TheVariants as item
use Rattle.jet_items.specs.declared.no_memory.NoMemory.{NoMemory}
use Rattle.jet_boxes.specs.Entry.{CallEntry, Finish}
use Rattle.jet_boxes.specs.Calls.{Call}
use Rattle.jet_boxes.specs.Held.{BoxView}
use Rattle.jet_tasklet.specs.declared.input.Input.{Input}
use Rattle.jet_tasklet.specs.declared.output.Output.{Output}
use Rattle.jet_tasklet.specs.declared.step.Step.{Step}
use Rattle.jet_tasklet.specs.declared.step.Step.TheVariants as step
use Rattle.jet_tasklet.specs.declared.step.Pending.{Pending}
use Rattle.jet_tasklet.specs.declared.step.Pending.TheVariants as call
use Rattle.jet_tasklet.specs.declared.tasklet.Tasklet.{Tasklet}
use Rattle.jet_tasklet.specs.Inputs.{InputView, inputs_view, received_count}
use Rattle.jet_tasklet.specs.Outputs.{OutputView, outputs_view, SomeBlocked, sent_count, Says}
use Rattle.jet_tasklet.specs.inner.Leaving.{IsStopped}
use Rattle.jet_tasklet.specs.Steps.{entry_of, next_of, finale}
use Rattle.jet_tasklet.specs.Taking.{NoneToTake}
use Rattle.jet_tasklet.specs.Turning.{is_free, HasEnded, Worked, TakesNone, BeginsFinish, IsFull, IsOwed, IsBlocked, IsStarved, all_ended, Moves, IsStill}
use Rattle.jet_tasklet.specs.Keeps.{Stays, Goes}
use Rattle.jet_boxes.specs.declared.port.Port.{Port}
use Rattle.jet_tasklet.proofs.Keeping.{finale_next, stays_trans, goes_stays, worked_goes, goes_trans}

-- lists that go on
pub longer : (xs ys put : List Item) → ys ≡ xs ++ put → length xs ≤ length ys
longer xs ys put is =
    let sum = length-append xs put in
    let count : length ys ≡ length (xs ++ put) = ap (λ (zs : List Item). length zs) is in
    omega (arith, sum, count)

pub empty_of : (xs : List Item) → length xs ≡ 0 → xs ≡ []
empty_of [] e = refl
empty_of (x ∷ xs) e = absurd (omega (arith, e))

-- a call is followed by no end
unended : (c : Pending) → next_of c ≡ step.Ended → ⊥
unended (call.Accept a) e = absurd (cc)
unended (call.Close port q None) e = absurd (cc)
unended (call.Close port q (Some t)) e = absurd (cc)
unended (call.Tell t) e = absurd (cc)
unended call.Finish e = absurd (cc)

module _ {P : Type 0} where
  pub worked_refl : (t : Tasklet P) → Worked t t
  worked_refl t = record {
    inputs = refl;
    next = refl;
    outputs = refl;
    room = refl;
    puts = ([], sym (append-nil t.outbox.items));
    finale_kept = refl;
    ended = λ e. inl e;
  }

  pub worked_trans : (a b c : Tasklet P) → Worked a b → Worked b c → Worked a c
  worked_trans a b c f g =
      let first : length a.outbox.items ≤ length b.outbox.items = longer a.outbox.items b.outbox.items f.puts.0 f.puts.1 in
      let second : length b.outbox.items ≤ length c.outbox.items = longer b.outbox.items c.outbox.items g.puts.0 g.puts.1 in
      record {
        inputs = g.inputs ∙ f.inputs;
        next = g.next ∙ f.next;
        outputs = g.outputs ∙ f.outputs;
        room = g.room ∙ f.room;
        puts = (f.puts.0 ++ g.puts.0, g.puts.1 ∙ (ap (λ (xs : List Item). xs ++ g.puts.0) f.puts.1 ∙ append_assoc a.outbox.items f.puts.0 g.puts.0));
        finale_kept = g.finale_kept ∙ f.finale_kept;
        ended = λ e. elim (g.ended e) [
          | inl was ↦ elim (f.ended was) [ inl is ↦ inl is | inr lt ↦ inr (omega (arith, lt, second)) ]
          | inr lt ↦ inr (omega (arith, lt, first))
        ];
      }

  -- a call was made, and has answered true or is to be made again
  pub worked_make : {stands : P → List CallEntry → List Item → Type 0} {amid : P → List CallEntry → CallEntry → List Item → Type 0} {same : P → P → Type 0} {frugal : Bool} (t : Tasklet P) (p : P) (out : BoxView) (c : Pending) (r : Result Bool NoMemory) (s : Step) → t.step ≡ step.Make c → Call stands amid same frugal t.processor (entry_of c) t.outbox r p out → (s ≡ step.Make c) ⊎ (s ≡ next_of c) → Worked t (record { processor = p; inputs = t.inputs; next = t.next; outputs = t.outputs; coalescer = t.coalescer; step = s; outbox = out })
  worked_make t p out c r s is did next =
      let kept : finale (step.Make c) ≡ finale t.step = ap finale (sym is) in
      record {
        inputs = refl;
        next = refl;
        outputs = refl;
        room = did.room;
        puts = (did.put, did.puts);
        finale_kept = elim next [
          | inl stays ↦ ap finale stays ∙ kept
          | inr goes ↦ ap finale goes ∙ (finale_next c ∙ kept)
        ];
        ended = λ e. elim next [
          | inl stays ↦ absurd (cc (e, stays))
          | inr goes ↦ absurd (unended c (sym goes ∙ e))
        ];
      }

  -- Done was put
  pub worked_put : (t : Tasklet P) (out : BoxView) (s : Step) → t.step ≡ step.End → s ≡ step.Ended → out ≡ record { room = t.outbox.room; items = t.outbox.items ++ item.Done ∷ [] } → Worked t (record { processor = t.processor; inputs = t.inputs; next = t.next; outputs = t.outputs; coalescer = t.coalescer; step = s; outbox = out })
  worked_put t out s is now put =
      let items : out.items ≡ t.outbox.items ++ item.Done ∷ [] = ap (λ (h : BoxView). h.items) put in
      let count : length out.items ≡ length (t.outbox.items ++ item.Done ∷ []) = ap (λ (xs : List Item). length xs) items in
      let sum = length-append t.outbox.items (item.Done ∷ []) in
      record {
        inputs = refl;
        next = refl;
        outputs = refl;
        room = ap (λ (h : BoxView). h.room) put;
        puts = (item.Done ∷ [], items);
        finale_kept = ap finale now ∙ ap finale (sym is);
        ended = λ e. inr (omega (arith, count, sum));
      }

  -- nothing was there to take
  pub worked_none : (t : Tasklet P) (ins : Vec Input Global) → inputs_view ins.items ≡ inputs_view t.inputs.items → Worked t (record { processor = t.processor; inputs = ins; next = t.next; outputs = t.outputs; coalescer = t.coalescer; step = t.step; outbox = t.outbox })
  worked_none t ins same = record {
    inputs = same;
    next = refl;
    outputs = refl;
    room = refl;
    puts = ([], sym (append-nil t.outbox.items));
    finale_kept = refl;
    ended = λ e. inl e;
  }

-- what is free once the finish is begun has ended, and else takes items
free_last : (s : Step) → is_free s ≡ true → finale s ≡ Finish ∷ [] → s ≡ step.Ended
free_last step.Poll f e = absurd (cc)
free_last (step.Make c) f e = absurd (cc)
free_last step.End f e = absurd (cc)
free_last step.Ended f e = refl

free_poll : (s : Step) → is_free s ≡ true → finale s ≡ [] → s ≡ step.Poll
free_poll step.Poll f e = refl
free_poll (step.Make c) f e = absurd (cc)
free_poll step.End f e = absurd (cc)
free_poll step.Ended f e = absurd (cc)

true_unless : (b : Bool) (F : Type 0) → (b ≡ false → F) → (F → ⊥) → b ≡ true
true_unless true F f never = refl
true_unless false F f never = absurd (never (f refl))

owed_unless : (xs ys put : List Item) (os ps : List OutputView) → IsStopped xs os → ys ≡ xs ++ put → ps ≡ os → (xs ≡ []) ⊎ IsOwed ys ps
owed_unless [] ys put os ps stops is same = inl refl
owed_unless (x ∷ xs) ys put os ps stops is same = inr (subst (λ (zs : List Item). IsOwed zs ps) (sym is) (subst (λ (qs : List OutputView). SomeBlocked x qs) (sym same) stops))

module _ {P : Type 0} where
  -- the rest of a turn that put nothing, after the outbox was found empty and no item was taken
  starves : (a b c d : Tasklet P) (ok : Bool) → a.outbox.items ≡ [] → 1 ≤ a.outbox.room → (a.step ≡ step.Ended → ⊥) → Worked a b → TakesNone b → BeginsFinish b c → Worked c d → (ok ≡ true → is_free d.step ≡ true) → (ok ≡ false → IsFull d.outbox) → c.outbox ≡ b.outbox → length d.outbox.items ≡ 0 → IsStarved d
  starves a b c d ok none roomy going first takes begins second free full box sent =
      let empty : length a.outbox.items ≡ 0 = ap (λ (xs : List Item). length xs) none in
      let items : c.outbox.items ≡ b.outbox.items = ap (λ (h : BoxView). h.items) box in
      let rooms : c.outbox.room ≡ b.outbox.room = ap (λ (h : BoxView). h.room) box in
      let more : length c.outbox.items ≤ length d.outbox.items = longer c.outbox.items d.outbox.items second.puts.0 second.puts.1 in
      let count : length c.outbox.items ≡ length b.outbox.items = ap (λ (xs : List Item). length xs) items in
      let room_b : b.outbox.room ≡ a.outbox.room = first.room in
      let room_d : d.outbox.room ≡ c.outbox.room = second.room in
      let unfull : IsFull d.outbox → ⊥ = λ is. absurd (omega (arith, is, sent, room_d, rooms, room_b, roomy)) in
      let ended : ok ≡ true = true_unless ok (IsFull d.outbox) full unfull in
      elim takes [
        | inl is ↦ let is_full : length b.outbox.items ≡ b.outbox.room = is in absurd (omega (arith, is_full, count, more, sent, room_b, roomy))
        | inr rest ↦ elim rest [
          | inl last ↦ elim (first.ended last) [ inl was ↦ absurd (going was) | inr lt ↦ absurd (omega (arith, lt, count, more, sent)) ]
          | inr polls ↦ elim begins [
            | inl is ↦
                let begun : c.step ≡ step.Make call.Finish = ap (λ (t : Tasklet P). t.step) is in
                let over : d.step ≡ step.Ended = free_last d.step (free ended) (second.finale_kept ∙ ap finale begun) in
                elim (second.ended over) [ inl was ↦ absurd (cc (was, begun)) | inr lt ↦ absurd (omega (arith, lt, sent)) ]
            | inr stays ↦
                let was : c.step ≡ step.Poll = ap (λ (t : Tasklet P). t.step) stays.0 ∙ polls.0 in
                let same : inputs_view d.inputs.items ≡ inputs_view b.inputs.items = second.inputs ∙ ap (λ (t : Tasklet P). inputs_view t.inputs.items) stays.0 in
                record {
                  sent = empty_of d.outbox.items sent;
                  free = free_poll d.step (free ended) (second.finale_kept ∙ ap finale was);
                  waits = subst (λ (vs : List InputView). all_ended vs ≡ false) (sym same) (stays.1 polls.0);
                  none = subst (λ (vs : List InputView). NoneToTake vs) (sym same) polls.1;
                }
          ]
        ]
      ]

  box_kept : (b c : Tasklet P) → BeginsFinish b c → (c.outbox ≡ b.outbox) × (c.outputs ≡ b.outputs)
  box_kept b c begins = elim begins [
    | inl is ↦ (ap (λ (t : Tasklet P). t.outbox) is, ap (λ (t : Tasklet P). t.outputs) is)
    | inr stays ↦ (ap (λ (t : Tasklet P). t.outbox) stays.0, ap (λ (t : Tasklet P). t.outputs) stays.0)
  ]

  -- a turn after which the outbox is as long as it was before, and in which no item was taken
  pub idles : (o a b c d : Tasklet P) (ok : Bool) → (HasEnded o → ⊥) → a.step ≡ o.step → length o.outbox.items ≤ length a.outbox.items → 1 ≤ a.outbox.room → IsStopped a.outbox.items (outputs_view a.outputs.items) → Worked a b → TakesNone b → BeginsFinish b c → Worked c d → (ok ≡ true → is_free d.step ≡ true) → (ok ≡ false → IsFull d.outbox) → length d.outbox.items ≤ length a.outbox.items → IsBlocked d ⊎ IsStarved d
  idles o a b c d ok going step_is before roomy stops first takes begins second free full after =
      let kept = box_kept b c begins in
      let items : c.outbox.items ≡ b.outbox.items = ap (λ (h : BoxView). h.items) kept.0 in
      let put : d.outbox.items ≡ a.outbox.items ++ (first.puts.0 ++ second.puts.0) = second.puts.1 ∙ (ap (λ (xs : List Item). xs ++ second.puts.0) (items ∙ first.puts.1) ∙ append_assoc a.outbox.items first.puts.0 second.puts.0) in
      let outs : outputs_view d.outputs.items ≡ outputs_view a.outputs.items = ap (λ (v : Vec Output Global). outputs_view v.items) (second.outputs ∙ (kept.1 ∙ first.outputs)) in
      elim (owed_unless a.outbox.items d.outbox.items (first.puts.0 ++ second.puts.0) (outputs_view a.outputs.items) (outputs_view d.outputs.items) stops put outs) [
        | inr blocked ↦ inl blocked
        | inl none ↦
            let empty : length a.outbox.items ≡ 0 = ap (λ (xs : List Item). length xs) none in
            let was : length o.outbox.items ≡ 0 = omega (arith, empty, before) in
            let sent : length d.outbox.items ≡ 0 = omega (arith, empty, after) in
            inr (starves a b c d ok none roomy (λ e. going (sym step_is ∙ e, empty_of o.outbox.items was)) first takes begins second free full kept.0 sent)
      ]

nothing_put : (put xs ys : List Item) → ys ≡ xs ++ put → length ys ≤ length xs → ys ≡ xs
nothing_put [] xs ys is le = is ∙ append-nil xs
nothing_put (x ∷ put) xs ys is le =
    let count : length ys ≡ length (xs ++ x ∷ put) = ap (λ (zs : List Item). length zs) is in
    let sum = length-append xs (x ∷ put) in
    absurd (omega (arith, count, sum, le))

pub none_of : (a b : Bool) → (a || b) ≡ false → (a ≡ false) × (b ≡ false)
none_of true b e = absurd (cc)
none_of false b e = (refl, e)

module _ {P : Type 0} where
  outputs_on : (a b c d : Tasklet P) → b.outputs ≡ a.outputs → BeginsFinish b c → Worked c d → sent_count (outputs_view d.outputs.items) ≡ sent_count (outputs_view a.outputs.items)
  outputs_on a b c d same begins after = ap (λ (v : Vec Output Global). sent_count (outputs_view v.items)) (after.outputs ∙ ((box_kept b c begins).1 ∙ same))

  inputs_on : (b c d : Tasklet P) → BeginsFinish b c → Worked c d → inputs_view d.inputs.items ≡ inputs_view b.inputs.items
  inputs_on b c d begins after = after.inputs ∙ elim begins [
    | inl is ↦ ap (λ (t : Tasklet P). inputs_view t.inputs.items) is
    | inr stays ↦ ap (λ (t : Tasklet P). inputs_view t.inputs.items) stays.0
  ]

  items_on : (a b c d : Tasklet P) → Worked a b → BeginsFinish b c → Worked c d → (put : List Item) × (d.outbox.items ≡ a.outbox.items ++ put)
  items_on a b c d first begins second =
      let items : c.outbox.items ≡ b.outbox.items = ap (λ (h : BoxView). h.items) (box_kept b c begins).0 in (
        first.puts.0 ++ second.puts.0,
        second.puts.1 ∙ (ap (λ (xs : List Item). xs ++ second.puts.0) (items ∙ first.puts.1) ∙ append_assoc a.outbox.items first.puts.0 second.puts.0),
      )

  pub rooms_on : (a b c d : Tasklet P) → Worked a b → BeginsFinish b c → Worked c d → d.outbox.room ≡ a.outbox.room
  rooms_on a b c d first begins second = second.room ∙ (ap (λ (h : BoxView). h.room) (box_kept b c begins).0 ∙ first.room)

  -- a turn in which something was pushed, something was taken, or something was put
  pub moving : (o a b c d : Tasklet P) (p q s : Bool) → Says p (sent_count (outputs_view o.outputs.items)) (sent_count (outputs_view a.outputs.items)) → Says q (received_count (inputs_view a.inputs.items)) (received_count (inputs_view b.inputs.items)) → a.inputs ≡ o.inputs → b.outputs ≡ a.outputs → (p ≡ false → a.outbox.items ≡ o.outbox.items) → (q ≡ false → Worked a b) → BeginsFinish b c → Worked c d → (q ≡ false → s ≡ true → length a.outbox.items < length d.outbox.items) → ((p || q) || s) ≡ true → Moves o d
  moving o a b c d true q s pushed took ins outs stays first begins second more is =
      let same = outputs_on a b c d outs begins second in
      let lt : sent_count (outputs_view o.outputs.items) < sent_count (outputs_view a.outputs.items) = pushed in
      inl (omega (arith, same, lt))
  moving o a b c d false true s pushed took ins outs stays first begins second more is =
      let same : received_count (inputs_view d.inputs.items) ≡ received_count (inputs_view b.inputs.items) = ap received_count (inputs_on b c d begins second) in
      let start : received_count (inputs_view a.inputs.items) ≡ received_count (inputs_view o.inputs.items) = ap (λ (v : Vec Input Global). received_count (inputs_view v.items)) ins in
      let lt : received_count (inputs_view a.inputs.items) < received_count (inputs_view b.inputs.items) = took in
      inr (inl (omega (arith, same, start, lt)))
  moving o a b c d false false s pushed took ins outs stays first begins second more is =
      let puts = items_on a b c d (first refl) begins second in
      let come = length-append a.outbox.items puts.0 in
      let now : length d.outbox.items ≡ length (a.outbox.items ++ puts.0) = ap (λ (xs : List Item). length xs) puts.1 in
      let lt = more refl is in
      inr (inr (record { put = puts.0; some = omega (arith, come, now, lt); is = puts.1 ∙ ap (λ (xs : List Item). xs ++ puts.0) (stays refl) }))

  -- a turn in which none of these was
  pub stilled : (o a b c d : Tasklet P) → sent_count (outputs_view a.outputs.items) ≡ sent_count (outputs_view o.outputs.items) → a.inputs ≡ o.inputs → a.outbox.items ≡ o.outbox.items → Worked a b → BeginsFinish b c → Worked c d → length d.outbox.items ≤ length a.outbox.items → IsStill o d
  stilled o a b c d pushed ins stays first begins second more =
      let puts = items_on a b c d first begins second in
      record {
        sent = outputs_on a b c d first.outputs begins second ∙ pushed;
        inputs = inputs_on b c d begins second ∙ (first.inputs ∙ ap (λ (v : Vec Input Global). inputs_view v.items) ins);
        outbox = nothing_put puts.0 a.outbox.items d.outbox.items puts.1 more ∙ stays;
      }

  -- a tasklet that is left as it was has not moved
  pub moves_not : (t : Tasklet P) → Moves t t → ⊥
  moves_not t m = elim m [
    | inl lt ↦ omega (arith, lt)
    | inr rest ↦ elim rest [
      | inl lt ↦ omega (arith, lt)
      | inr enters ↦
          let some = enters.some in
          let sum = length-append t.outbox.items enters.put in
          let count : length t.outbox.items ≡ length (t.outbox.items ++ enters.put) = ap (λ (xs : List Item). length xs) enters.is in
          omega (arith, some, sum, count)
    ]
  ]

module _ {P : Type 0} (stands : P → List CallEntry → List Item → Type 0) (amid : P → List CallEntry → CallEntry → List Item → Type 0) (takes : P → Port → ℕ → Type 0) where
  -- up to the begin of the finish
  pub begun_goes : (o a b c : Tasklet P) → Goes stands amid takes o a → Goes stands amid takes a b → Stays stands amid takes b c → BeginsFinish b c → Goes stands amid takes o c
  begun_goes o a b c gave took kept begun =
      let items : c.outbox.items ≡ b.outbox.items = ap (λ (h : BoxView). h.items) (box_kept b c begun).0 in
      let last : Goes stands amid takes b c = goes_stays stands amid takes b c kept ([], append-nil b.outbox.items ∙ sym items) in
      goes_trans stands amid takes o b c (goes_trans stands amid takes o a b gave took) last

  -- the whole turn
  pub turn_goes : (o a b c d : Tasklet P) → Goes stands amid takes o a → Goes stands amid takes a b → Stays stands amid takes b c → BeginsFinish b c → Stays stands amid takes c d → Worked c d → Goes stands amid takes o d
  turn_goes o a b c d gave took kept begun stays worked =
      goes_trans stands amid takes o c d (begun_goes o a b c gave took kept begun) (worked_goes stands amid takes c d stays worked)

  pub turn_stays : (o a b c d : Tasklet P) → Stays stands amid takes o a → Stays stands amid takes a b → Stays stands amid takes b c → Stays stands amid takes c d → Stays stands amid takes o d
  turn_stays o a b c d f h i j = stays_trans stands amid takes o c d (stays_trans stands amid takes o b c (stays_trans stands amid takes o a b f h) i) j
