use Rattle.std.proofs.Common.{length}
use Rattle.jet_sink.specs.inner.LetOut.{Prints}
use Rattle.jet_sink.proofs.rows.print_due.Given as goal

abbrev pub invariant-loop-row : goal.invariant-loop-row
invariant-loop-row l = Prints l.windows l.initial.rows l.rows l.initial.to.items l.to.items

abbrev pub decreases-loop-row : goal.decreases-loop-row
decreases-loop-row l = length l.rows.rows
