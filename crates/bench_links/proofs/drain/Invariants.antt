use Rattle.std.proofs.Common.{◌≡◌}
use Rattle.jet_ring.specs.Ring.{rx_ring}
use Rattle.bench_links.proofs.drain.Given as goal

abbrev pub invariant-loop : goal.invariant-loop
invariant-loop l = rx_ring l.rx ≡ rx_ring l.initial.rx
