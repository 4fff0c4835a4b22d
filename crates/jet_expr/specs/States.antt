-- What a state is, without where its parts lie in memory.
use Rattle.std.specs.Prelude.{List, [], ◌∷◌}
use Rattle.jet_expr.specs.Term.{Term}
use Rattle.jet_expr.specs.Nodes.{term_of}
use Rattle.jet_expr.specs.declared.node.Node.{Node}
use Rattle.jet_expr.specs.Machine as machine
use Rattle.jet_expr.specs.declared.state.Bracket.{Bracket}
use Rattle.jet_expr.specs.declared.state.Bracket.TheVariants.{Group, Absolute, First, Second, Condition, Then, Else}
use Rattle.jet_expr.specs.declared.state.Stack.{Stack}
use Rattle.jet_expr.specs.declared.state.Stack.TheVariants.{Empty, Prefix', Left', Inside'}
use Rattle.jet_expr.specs.declared.state.State.{State}
use Rattle.jet_expr.specs.declared.state.State.TheVariants.{Want, Named, Have, Done}

abbrev pub bracket_of : Bracket → machine.Bracket Term
bracket_of Group = machine.alone
bracket_of Absolute = machine.size
bracket_of (First op) = machine.first op
bracket_of (Second op a) = machine.second op (term_of a)
bracket_of Condition = machine.condition
bracket_of (Then c) = machine.chosen (term_of c)
bracket_of (Else c a) = machine.other (term_of c) (term_of a)

abbrev pub stack_of : Stack → List (machine.Frame Term)
stack_of Empty = []
stack_of (Prefix' op p below) = machine.prefix op ∷ stack_of below
stack_of (Left' op a p below) = machine.left op (term_of a) ∷ stack_of below
stack_of (Inside' b p below) = machine.inside (bracket_of b) ∷ stack_of below

abbrev pub state_of : State → machine.State Term
state_of (Want K) = machine.want (stack_of K)
state_of (Named b K) = machine.named (bracket_of b) (stack_of K)
state_of (Have K e) = machine.have (stack_of K) (term_of e)
state_of (Done e) = machine.done (term_of e)

abbrev pub reduced_of : Stack × Node → List (machine.Frame Term) × Term
reduced_of r = (stack_of r.0, term_of r.1)
