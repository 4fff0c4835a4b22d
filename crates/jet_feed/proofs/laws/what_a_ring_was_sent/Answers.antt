use Rattle.jet_feed.proofs.FrontLemmas.{sent_whole, source_front}
use Rattle.jet_feed.proofs.laws.what_a_ring_was_sent.Goals as goal

pub returns-clause-front : goal.returns-clause-front
returns-clause-front c check k name lag at content told items feed h going = source_front check k name lag at content told items feed h going

pub returns-clause-whole : goal.returns-clause-whole
returns-clause-whole c check p at content told items feed h ended = sent_whole check p at content told items feed h ended
