use Rattle.std.proofs.Common.{◌≡◌}
use Rattle.jet_ring.specs.Ring.{tx_ring}
use Rattle.bench_links.proofs.fill.Given as goal

abbrev pub invariant-loop : goal.invariant-loop
invariant-loop l = tx_ring l.tx ≡ tx_ring l.initial.tx
