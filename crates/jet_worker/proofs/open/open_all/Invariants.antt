use Rattle.std.proofs.Common.{map}
use Rattle.jet_worker.specs.Opening.{file_in, opened_in}
use Rattle.jet_worker.proofs.OpenLemmas.{SoFar}
use Rattle.jet_worker.proofs.open.open_all.Given as goal

abbrev pub invariant-loop-number : goal.invariant-loop-number
invariant-loop-number g l = SoFar g.O.Outside.told g.O.Outside.opened g.O.Outside.steady g.O.Outside.faults (map file_in l.files) l.number (map opened_in l.opened.items) l.initial.out l.out
