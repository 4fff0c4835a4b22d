-- What a call answers that may also want memory.
use Rattle.std.specs.Prelude.{◌≡◌, ℕ, List, drop, length, ◌≤◌, ◌<◌, Result, Ok, Err}
use Rattle.jet_items.specs.declared.no_memory.Refused.{Refused}
use Rattle.jet_items.specs.Gives.{Fails}
use Rattle.jet_expr.specs.Term.{Term}
use Rattle.jet_expr.specs.Nodes.{term_of}
use Rattle.jet_expr.specs.States.{state_of}
use Rattle.jet_expr.specs.Tokens.{tokens_from}
use Rattle.jet_expr.specs.Machine.{terms, outcome}
use Rattle.jet_expr.specs.declared.node.Node.{Node}
use Rattle.jet_expr.specs.declared.fault.ExprFault.{ExprFault}
use Rattle.jet_expr.specs.declared.state.State.{State}

-- a node is the one whose term is wanted, unless memory ran out
abbrev pub GivesNode : Result Node (Refused ExprFault) → Result Term ExprFault → Type 0
GivesNode (Ok node) wanted = wanted ≡ Ok (term_of node)
GivesNode (Err e) wanted = Fails e wanted

-- what the rest of the text gives from this state on
abbrev pub rest_of : State → List ℕ → ℕ → Result Term ExprFault
rest_of s text at = outcome terms (state_of s) (tokens_from at 0 (drop at text))

-- the state and the place behind one token or blank more, from where the text gives the same
abbrev pub ReadsToken : Result (State × ℕ) (Refused ExprFault) → List ℕ → ℕ → Result Term ExprFault → Type 0
ReadsToken (Ok r) text at wanted = (at < r.1) × (r.1 ≤ length text) × (rest_of r.0 text r.1 ≡ wanted)
ReadsToken (Err e) text at wanted = Fails e wanted
