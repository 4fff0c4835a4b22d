use Rattle.jet_flow.proofs.Places.{has_places}
use Rattle.jet_flow.proofs.laws.events_keep_their_places.Goals as goal

pub returns : goal.returns
returns c = λ files name. has_places files c.args.dag.now name
