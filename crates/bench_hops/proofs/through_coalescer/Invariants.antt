use Rattle.std.proofs.Common.{◌≡◌, length}
use Rattle.bench_hops.specs.Open.{AreOpen}
use Rattle.bench_hops.proofs.through_coalescer.Given as goal

abbrev pub invariant-ahead : goal.invariant-ahead
invariant-ahead l = record { kept : AreOpen l.coalescer; count : length l.coalescer.queues ≡ l.queues }

abbrev pub invariant-behind : goal.invariant-behind
invariant-behind l = record { kept : AreOpen l.coalescer; count : length l.coalescer.queues ≡ l.queues }
