use Rattle.std.proofs.Common.{◌≡◌, ◌≤◌, take}
use Rattle.jet_plan.specs.Ends.{sinks}
use Rattle.jet_plan.proofs.ends.sink_count.Given as goal

abbrev pub invariant-loop-vertex : goal.invariant-loop-vertex
invariant-loop-vertex l = (l.count ≡ sinks (take l.vertex-index l.vertices)) × (l.count ≤ l.vertex-index)
