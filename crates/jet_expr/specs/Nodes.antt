-- The term that a node is, without where its parts lie in memory.
use Rattle.jet_expr.specs.Term.{Term, number, read, one, two, choose}
use Rattle.jet_expr.specs.declared.node.Node.{Node}
use Rattle.jet_expr.specs.declared.node.Node.TheVariants.{Number, Read, One', Two', Choose'}

abbrev pub term_of : Node → Term
term_of (Number z) = number z
term_of (Read f) = read f
term_of (One' op p a) = one op (term_of a)
term_of (Two' op p a q b) = two op (term_of a) (term_of b)
term_of (Choose' p c q a r b) = choose (term_of c) (term_of a) (term_of b)
