use Rattle.std.proofs.Common.{length}
use Rattle.bench_windows.proofs.empty.Given as goal

abbrev pub decreases-loop-item : goal.decreases-loop-item
decreases-loop-item l = length l.out.items
