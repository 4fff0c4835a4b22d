use Rattle.std.proofs.Common.{◌≡◌, length}
use Rattle.bench_hops.specs.Open.{AreOpen}
use Rattle.bench_hops.proofs.by_turns.Given as goal

abbrev pub invariant-turns : goal.invariant-turns
invariant-turns l = record { kept : AreOpen l.coalescer; count : length l.coalescer.queues ≡ l.queues }
