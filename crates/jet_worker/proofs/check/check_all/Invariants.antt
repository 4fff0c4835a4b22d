use Rattle.std.proofs.Common.{map}
use Rattle.jet_worker.specs.Opening.{file_in, opened_in}
use Rattle.jet_worker.proofs.AllLemmas.{Checking}
use Rattle.jet_worker.proofs.check.check_all.Given as goal

abbrev pub invariant-loop-file : goal.invariant-loop-file
invariant-loop-file g l =
    Checking g.O.Outside.told g.O.Outside.opened g.O.Outside.steady g.O.Outside.faults (map file_in l.files) l.limits.most l.limits.unit (map opened_in l.file-items) l.file-index l.fn.out l.out
