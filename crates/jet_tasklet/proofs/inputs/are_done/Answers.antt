use Rattle.std.proofs.Common.{◌≡◌, ◌<◌, true, List, length, sym, ◌∙◌, arith}
use Rattle.std.specs.List.{list_all}
use Rattle.jet_tasklet.specs.declared.input.Input.{Input}
use Rattle.jet_tasklet.specs.Trace.{same_port}
use Rattle.jet_tasklet.specs.Inputs.{input_view, inputs_view}
use Rattle.jet_tasklet.proofs.Ports.{all_done_false, next_done, share_done, view_at, length_views}
use Rattle.jet_tasklet.proofs.inputs.are_done.Goals as goal
use Rattle.jet_tasklet.proofs.inputs.are_done.Goals.{else-leads_to-via-then-leads_to+else-not-have_ended, else-leads_to-via-else-leads_to}

pub returns-then-not-have_ended : goal.returns-then-not-have_ended
returns-then-not-have_ended c =
    let xs : List Input = c.args.inputs.now in
    let x : Input = c.input-item.result in
    let lt : c.loop-input.input-index < length xs = c.loop-input-test.true in
    let within : c.loop-input.input-index < length (inputs_view xs) = omega (arith, lt, length_views xs) in
    sym (all_done_false c.args.port (inputs_view xs) c.loop-input.input-index (input_view x) within (view_at xs c.loop-input.input-index x lt c.input-item.is) (sym c.leads_to.ensures ∙ c.if-leads_to.true) (sym c.have_ended.ensures ∙ c.if-not-have_ended.true))

pub loop-input-preserved : goal.loop-input-preserved
loop-input-preserved c =
    let x : Input = c.input-item.result in
    let done : same_port x.port c.args.port ≡ true → list_all (λ d. d) (input_view x).queues.done ≡ true = elim c.else-leads_to.branch [
      | else-leads_to-via-then-leads_to+else-not-have_ended w ↦ λ e. sym w.have_ended.ensures ∙ w.if-not-have_ended.false
      | else-leads_to-via-else-leads_to w ↦ λ e. absurd (cc (w.if-leads_to.false, c.leads_to.ensures, e))
    ] in
    next_done c.args.port c.args.inputs.now c.loop-input.input-index x c.loop-input-test.true c.input-item.is (share_done (same_port x.port c.args.port) (input_view x).queues.done done) c.loop-input.invariant
