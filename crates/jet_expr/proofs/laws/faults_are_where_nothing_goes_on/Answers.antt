use Rattle.jet_expr.proofs.Exact.{fault_is, fault_back}
use Rattle.jet_expr.proofs.laws.faults_are_where_nothing_goes_on.Goals as goal

pub returns : goal.returns
returns c = λ text fault. (fault_is text fault, fault_back text fault)
