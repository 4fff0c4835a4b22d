use Rattle.jet_coordinator.proofs.ReadLemmas.{FedOn}
use Rattle.jet_coordinator.proofs.files.feed_all.Given as goal

abbrev pub invariant-files : goal.invariant-files
invariant-files g l = FedOn g.O.Outside.told g.O.Outside.opened g.O.Outside.steady g.O.Outside.faults l.initial.out l.out l.initial.txs l.txs l.initial.feeds l.feeds l.moved
