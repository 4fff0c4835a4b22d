use Rattle.jet_laws.proofs.Apart.{lates_as_bags}
use Rattle.jet_laws.proofs.bags.lates_as_bags.Goals as goal

pub returns : goal.returns
returns c = lates_as_bags
