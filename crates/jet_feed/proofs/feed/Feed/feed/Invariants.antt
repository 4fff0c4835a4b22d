use Rattle.jet_feed.proofs.StepLemmas.{SoFar}
use Rattle.jet_feed.proofs.feed.Feed.feed.Given as goal

abbrev pub invariant-steps : goal.invariant-steps
invariant-steps g l = SoFar g.O.Outside.told g.O.Outside.opened g.O.Outside.steady g.O.Outside.faults l.initial.out l.out l.initial.tx l.tx l.initial.self l.self l.moved l.counter
