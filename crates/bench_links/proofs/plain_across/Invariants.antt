use Rattle.jet_ring.specs.Ring.{IsPair}
use Rattle.bench_links.proofs.plain_across.Given as goal

abbrev pub invariant-loop : goal.invariant-loop
invariant-loop g l = IsPair l.tx l.rx
