use Rattle.std.proofs.Common.{◌≡◌, ◌≤◌, ◌-◌, [], length}
use Rattle.jet_expr.specs.Gives.{rest_of}
use Rattle.jet_expr.specs.Machine.{outcome, terms, want}
use Rattle.jet_expr.specs.Tokens.{tokens_of}
use Rattle.jet_expr.proofs.read.read_node.Given as goal

abbrev pub invariant-loop-at : goal.invariant-loop-at
invariant-loop-at l = (l.at ≤ length l.text) × (rest_of l.state l.text l.at ≡ outcome terms (want []) (tokens_of l.text))

abbrev pub decreases-loop-at : goal.decreases-loop-at
decreases-loop-at l = length l.text - l.at
