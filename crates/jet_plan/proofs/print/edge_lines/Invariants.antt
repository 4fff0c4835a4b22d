use Rattle.std.proofs.Common.{◌≡◌, ◌++◌, drop}
use Rattle.jet_plan.specs.PlanText.{edge_lines}
use Rattle.jet_plan.proofs.print.edge_lines.Given as goal

abbrev pub invariant-loop-number : goal.invariant-loop-number
invariant-loop-number l = l.text.items ++ edge_lines l.members l.vertices l.number (drop l.number l.edges) ≡ edge_lines l.members l.vertices 0 l.edges
