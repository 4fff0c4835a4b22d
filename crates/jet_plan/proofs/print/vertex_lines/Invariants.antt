use Rattle.std.proofs.Common.{◌≡◌, ◌++◌, drop}
use Rattle.jet_plan.specs.PlanText.{vertex_lines}
use Rattle.jet_plan.proofs.print.vertex_lines.Given as goal

abbrev pub invariant-loop-number : goal.invariant-loop-number
invariant-loop-number l = l.text.items ++ vertex_lines l.members l.number (drop l.number l.vertices) ≡ vertex_lines l.members 0 l.vertices
