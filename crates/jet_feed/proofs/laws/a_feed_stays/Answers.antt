use Rattle.jet_feed.proofs.FedLemmas.{told_same}
use Rattle.jet_feed.proofs.laws.a_feed_stays.Goals as goal

pub returns : goal.returns
returns c check p at content told next items feed same h = told_same check p at content told next items feed same h
