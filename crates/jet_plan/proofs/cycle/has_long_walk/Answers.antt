use Rattle.std.proofs.Common.{◌∙◌, arith, ◌≡◌, add-one, length, false}
use Rattle.std.specs.List.{list_any}
use Rattle.jet_plan.specs.Along.{has_walk}
use Rattle.jet_plan.proofs.Rounds.{round_is, last_table, first_table}
use Rattle.jet_plan.proofs.cycle.has_long_walk.Goals as goal

pub loop-step-init : goal.loop-step-init
loop-step-init c = c.in_ok-walks.ensures ∙ first_table _ c.args.vertices.now

pub loop-step-preserved : goal.loop-step-preserved
loop-step-preserved c =
    rw add-one (c.in_ok-walks-2.ensures ∙ round_is (has_walk c.args.edges.now c.loop-step.step) (λ v walks. list_any (λ w. w) walks) false c.args.vertices.now c.args.edges.now c.as_slice.result.now c.requires (c.as_slice.ensures.value ∙ c.loop-step.invariant))

pub returns : goal.returns
returns c =
    let full : c.loop-step.step ≡ length c.args.vertices.now = omega arith in
    c.any_true.ensures ∙ last_table c.args.edges.now c.args.vertices.now c.as_slice-2.result.now c.loop-step.step (c.as_slice-2.ensures.value ∙ c.loop-step.invariant) full
