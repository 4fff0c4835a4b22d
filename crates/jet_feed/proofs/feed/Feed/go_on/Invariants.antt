use Rattle.jet_feed.specs.Fed.{IsOfFile, Keeps, steps_left}
use Rattle.jet_feed.proofs.feed.Feed.go_on.Given as goal

abbrev pub invariant-lines : goal.invariant-lines
invariant-lines l = Keeps l.initial.self l.self × (IsOfFile l.initial.self l.self)

abbrev pub decreases-lines : goal.decreases-lines
decreases-lines l = steps_left l.self
