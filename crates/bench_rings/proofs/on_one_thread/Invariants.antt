use Rattle.jet_ring.specs.Ring.{IsPair}
use Rattle.bench_rings.proofs.on_one_thread.Given as goal

abbrev pub invariant-loop : goal.invariant-loop
invariant-loop l = IsPair l.tx l.rx
