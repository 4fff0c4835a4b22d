use Rattle.jet_plan.specs.Tables.{IsTable, cap, measured}
use Rattle.jet_plan.proofs.measure.measured.Given as goal

abbrev pub invariant-loop-step : goal.invariant-loop-step
invariant-loop-step l = IsTable l.vertices l.table.items (λ name. cap (measured l.measure l.vertices l.edges l.step name))
