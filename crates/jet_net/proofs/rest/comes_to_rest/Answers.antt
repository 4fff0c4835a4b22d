use Rattle.jet_net.proofs.Resting.{aligned}
use Rattle.jet_net.proofs.rest.comes_to_rest.Goals as goal

pub returns : goal.returns
returns c = aligned
