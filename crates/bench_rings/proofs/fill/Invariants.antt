use Rattle.std.proofs.Common.{◌≡◌}
use Rattle.jet_ring.specs.Ring.{tx_ring}
use Rattle.bench_rings.proofs.fill.Given as goal

abbrev pub invariant-loop-number : goal.invariant-loop-number
invariant-loop-number l = tx_ring l.tx ≡ tx_ring l.initial.tx
