use Rattle.std.proofs.Common.{◌∙◌, arith, ◌≡◌, add-one, length}
use Rattle.jet_plan.proofs.Rounds.{first_table}
use Rattle.jet_plan.proofs.MeasureLaws.{next_is}
use Rattle.jet_plan.proofs.measure.measured.Goals as goal

pub loop-step-init : goal.loop-step-init
loop-step-init c = c.in_ok-table.ensures ∙ first_table 0 c.args.vertices.now

pub loop-step-preserved : goal.loop-step-preserved
loop-step-preserved c =
    rw add-one (c.in_ok-table-2.ensures ∙ next_is c.args.measure c.args.vertices.now c.args.edges.now c.loop-step.step c.as_slice.result.now c.requires (c.as_slice.ensures.value ∙ c.loop-step.invariant))

pub returns : goal.returns
returns c = let full : c.loop-step.step ≡ length c.args.vertices.now = omega arith in rw (← full) c.loop-step.invariant
