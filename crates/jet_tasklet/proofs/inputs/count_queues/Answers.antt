use Rattle.std.proofs.Common.{◌≡◌, ◌<◌, ℕ, List, length, get_or, take, true, refl, sym, ◌∙◌, ap, arith}
use Rattle.jet_tasklet.specs.declared.input.Input.{Input}
use Rattle.jet_tasklet.specs.Inputs.{inputs_view, queue_count}
use Rattle.jet_tasklet.specs.Trace.{same_port}
use Rattle.jet_tasklet.proofs.Ports.{At, at_room, at_next, at_other, get_same}
use Rattle.jet_tasklet.proofs.inputs.count_queues.Goals as goal
use Rattle.jet_tasklet.proofs.inputs.count_queues.Goals.{then-leads_to, else-leads_to}

here : (xs : List Input) (i : ℕ) (r : Input) → i < length xs → r ≡ get_or xs i r → At (inputs_view xs) xs i (get_or xs i r)
here xs i r lt e = record { same = refl; inside = lt; is = ap (λ (d : Input). get_or xs i d) e }

-- an element that was read twice
twice : (xs : List Input) (i : ℕ) (r s : Input) → i < length xs → r ≡ get_or xs i r → get_or xs i s ≡ r
twice xs i r s lt one = get_same xs i s r lt ∙ sym one

pub overflow_add-queues : goal.overflow_add-queues
overflow_add-queues c =
    let xs : List Input = c.args.inputs.now in
    let i : ℕ = c.loop-place.place in
    let x : Input = get_or xs i c.index-inputs-place-then-leads_to.result in
    let lt : i < length xs = omega (arith, c.requires.inside, c.loop-place-test.true) in
    let at : At (inputs_view xs) xs i x = here xs i c.index-inputs-place-then-leads_to.result lt c.index-inputs-place-then-leads_to.is in
    let same : x ≡ c.index-inputs-place.result = twice xs i c.index-inputs-place.result c.index-inputs-place-then-leads_to.result lt c.index-inputs-place.is in
    let to : same_port x.port c.args.port ≡ true = ap (λ (y : Input). same_port y.port c.args.port) same ∙ (sym c.leads_to.ensures ∙ c.if-leads_to.true) in
    let room = at_room (inputs_view xs) xs i x at c.args.port to in
    let count = c.queues-queues.ensures.count in
    let few = c.requires.few in
    let so_far : c.loop-place.queues ≡ queue_count c.args.port (take i (inputs_view xs)) = c.loop-place.invariant in
    omega (arith, room, count, few, so_far)

pub loop-place-preserved : goal.loop-place-preserved
loop-place-preserved c =
    let xs : List Input = c.args.inputs.now in
    let i : ℕ = c.loop-place.place in
    let lt : i < length xs = omega (arith, c.requires.inside, c.loop-place-test.true) in
    let so_far : c.loop-place.queues ≡ queue_count c.args.port (take i (inputs_view xs)) = c.loop-place.invariant in
    elim c.if-leads_to.branch [
      | then-leads_to w ↦
          let x : Input = get_or xs i w.index-inputs-place-then-leads_to.result in
          let at : At (inputs_view xs) xs i x = here xs i w.index-inputs-place-then-leads_to.result lt w.index-inputs-place-then-leads_to.is in
          let same : x ≡ c.index-inputs-place.result = twice xs i c.index-inputs-place.result w.index-inputs-place-then-leads_to.result lt c.index-inputs-place.is in
          let to : same_port x.port c.args.port ≡ true = ap (λ (y : Input). same_port y.port c.args.port) same ∙ (sym c.leads_to.ensures ∙ w.if-leads_to.true) in
          let next = at_next (inputs_view xs) xs i x at c.args.port to in
          let count = w.queues-queues.ensures.count in
          let is = w.queues-is in
          omega (arith, next, count, is, so_far)
      | else-leads_to w ↦
          let x : Input = get_or xs i c.index-inputs-place.result in
          let at : At (inputs_view xs) xs i x = here xs i c.index-inputs-place.result lt c.index-inputs-place.is in
          let next = at_other (inputs_view xs) xs i x at c.args.port (ap (λ (y : Input). same_port y.port c.args.port) (sym c.index-inputs-place.is) ∙ (sym c.leads_to.ensures ∙ w.if-leads_to.false)) in
          let is = w.queues-is in
          omega (arith, next, is, so_far)
    ]
