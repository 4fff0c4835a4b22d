use Rattle.std.proofs.Common.{◌+◌, ◌-◌, ◌*◌, length, cond}
use Rattle.jet_worker.proofs.LoopLemmas.{SoFar}
use Rattle.jet_worker.proofs.read.tally_lines.Given as goal

abbrev pub invariant-cuts : goal.invariant-cuts
invariant-cuts g l = SoFar g.O.Outside.told g.O.Outside.opened g.O.Outside.steady g.O.Outside.faults l.most l.part l.file l.initial.tally l.tally l.count l.initial.out l.out l.lines

abbrev pub decreases-cuts : goal.decreases-cuts
decreases-cuts g l = (l.lines.most - l.lines.number) * 5002 + (5000 - length l.lines.rest) + cond l.lines.ended 0 1
