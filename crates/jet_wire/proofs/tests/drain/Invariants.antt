use Rattle.std.proofs.Common.{◌≡◌}
use Rattle.jet_ring.specs.Ring.{rx_ring}
use Rattle.jet_wire.proofs.tests.drain.Given as goal

abbrev pub invariant-items : goal.invariant-items
invariant-items l = rx_ring l.sink ≡ rx_ring l.fn.sink
