use Rattle.std.proofs.Common.{◌≡◌}
use Rattle.jet_ring.specs.Ring.{tx_ring}
use Rattle.jet_wire.proofs.tests.feed.Given as goal

abbrev pub invariant-events : goal.invariant-events
invariant-events l = tx_ring l.source ≡ tx_ring l.fn.source
