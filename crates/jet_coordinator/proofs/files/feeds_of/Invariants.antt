use Rattle.jet_coordinator.proofs.Starting.{HaveStarted}
use Rattle.jet_coordinator.proofs.files.feeds_of.Given as goal

abbrev pub invariant-loop-file : goal.invariant-loop-file
invariant-loop-file l = HaveStarted l.limits l.opened l.file-index l.feeds.items
