use Rattle.std.proofs.Common.{length, ◌-◌}
use Rattle.jet_file.proofs.WriteLemmas.{SoFar}
use Rattle.jet_file.proofs.write.write_all.Given as goal

abbrev pub invariant-loop-done : goal.invariant-loop-done
invariant-loop-done g l = SoFar g.O.Outside.told g.O.Outside.opened g.O.Outside.steady g.O.Outside.faults l.to l.bytes l.done l.initial.out l.out

abbrev pub decreases-loop-done : goal.decreases-loop-done
decreases-loop-done g l = length l.bytes - l.done
