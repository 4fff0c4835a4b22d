use Rattle.jet_plan.specs.Along.{has_walk}
use Rattle.jet_plan.specs.Tables.{IsTable}
use Rattle.jet_plan.proofs.cycle.has_long_walk.Given as goal

abbrev pub invariant-loop-step : goal.invariant-loop-step
invariant-loop-step l = IsTable l.vertices l.walks.items (has_walk l.edges l.step)
