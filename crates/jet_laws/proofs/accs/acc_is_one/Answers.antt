use Rattle.jet_laws.proofs.Accumulated.{acc_is_one}
use Rattle.jet_laws.proofs.accs.acc_is_one.Goals as goal

pub returns : goal.returns
returns c = acc_is_one
