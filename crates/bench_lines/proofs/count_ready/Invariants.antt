use Rattle.std.proofs.Common.{◌≡◌, ◌-◌}
use Rattle.bench_lines.proofs.count_ready.Given as goal

abbrev pub invariant-cuts : goal.invariant-cuts
invariant-cuts l = l.lines.ended ≡ l.initial.lines.ended

abbrev pub decreases-cuts : goal.decreases-cuts
decreases-cuts l = l.lines.most - l.lines.number
