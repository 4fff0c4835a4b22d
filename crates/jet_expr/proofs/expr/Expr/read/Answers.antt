use Rattle.std.proofs.Common.{Result, sym, subst, ◌∙◌}
use Rattle.std.proofs.lemmas.Result.{err_from_is_err_and}
use Rattle.jet_items.specs.Gives.{Fails}
use Rattle.jet_expr.specs.Nodes.{term_of}
use Rattle.jet_expr.specs.Term.{Term}
use Rattle.jet_expr.specs.declared.fault.ExprFault.{ExprFault}
use Rattle.jet_expr.proofs.Exact.{expression_is, expression_back, fault_back, refused_is, small_term}
use Rattle.jet_expr.proofs.expr.Expr.read.Goals as goal

pub returns-in_err-node-clause-fault : goal.returns-in_err-node-clause-fault
returns-in_err-node-clause-fault c =
    let p = err_from_is_err_and c.from_residual.result c.from_residual.ensures.1 in
    rw (p.1, p.2) (refused_is c.args.text.now c.in_err-node.field-0.0 c.in_err-node.ensures)

pub invariant_of-result : goal.invariant_of-result
invariant_of-result c = small_term c.args.text.now (term_of c.in_ok-node.node) c.in_ok-node.ensures

pub returns-clause-expression : goal.returns-clause-expression
returns-clause-expression c = expression_is c.args.text.now (term_of c.in_ok-node.node) c.in_ok-node.ensures

pub returns-clause-of_expression : goal.returns-clause-of_expression
returns-clause-of_expression c = λ term x. sym (expression_back c.args.text.now term x) ∙ c.in_ok-node.ensures

pub returns-clause-of_fault : goal.returns-clause-of_fault
returns-clause-of_fault c = λ fault x. sym (fault_back c.args.text.now fault x) ∙ c.in_ok-node.ensures

pub returns-in_err-node-clause-of_expression : goal.returns-in_err-node-clause-of_expression
returns-in_err-node-clause-of_expression c =
    let p = err_from_is_err_and c.from_residual.result c.from_residual.ensures.1 in
    rw (p.1, p.2) (λ term x. subst (λ (w : Result Term ExprFault). Fails c.in_err-node.field-0.0 w) (expression_back c.args.text.now term x) c.in_err-node.ensures)

pub returns-in_err-node-clause-of_fault : goal.returns-in_err-node-clause-of_fault
returns-in_err-node-clause-of_fault c =
    let p = err_from_is_err_and c.from_residual.result c.from_residual.ensures.1 in
    rw (p.1, p.2) (λ fault x. subst (λ (w : Result Term ExprFault). Fails c.in_err-node.field-0.0 w) (fault_back c.args.text.now fault x) c.in_err-node.ensures)
