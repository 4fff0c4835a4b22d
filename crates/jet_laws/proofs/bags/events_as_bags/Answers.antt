use Rattle.jet_laws.proofs.Apart.{events_as_bags}
use Rattle.jet_laws.proofs.bags.events_as_bags.Goals as goal

pub returns : goal.returns
returns c = events_as_bags
