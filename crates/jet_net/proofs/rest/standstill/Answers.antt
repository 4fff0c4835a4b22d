use Rattle.jet_net.proofs.Ending.{finished}
use Rattle.jet_net.proofs.rest.standstill.Goals as goal

pub returns : goal.returns
returns c = finished
