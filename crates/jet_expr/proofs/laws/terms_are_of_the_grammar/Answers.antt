use Rattle.jet_expr.proofs.Exact.{expression_is, expression_back}
use Rattle.jet_expr.proofs.laws.terms_are_of_the_grammar.Goals as goal

pub returns : goal.returns
returns c = λ text term. (expression_is text term, expression_back text term)
