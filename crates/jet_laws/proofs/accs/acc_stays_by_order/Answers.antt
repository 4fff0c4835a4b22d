use Rattle.jet_laws.proofs.Accumulated.{acc_stays_by_order}
use Rattle.jet_laws.proofs.accs.acc_stays_by_order.Goals as goal

pub returns : goal.returns
returns c = acc_stays_by_order
