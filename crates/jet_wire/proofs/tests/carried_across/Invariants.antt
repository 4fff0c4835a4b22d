use Rattle.jet_ring.specs.Ring.{tx_ring, rx_ring}
use Rattle.jet_wire.specs.Edge.{IsEdge}
use Rattle.jet_wire.specs.Receiver.{receiver_view}
use Rattle.jet_wire.specs.Sender.{sender_view}
use Rattle.jet_wire.proofs.tests.carried_across.Given as goal

abbrev pub invariant-rounds : goal.invariant-rounds
invariant-rounds g l = IsEdge (tx_ring l.edge.source) (sender_view l.edge.sender) (receiver_view l.edge.receiver) (rx_ring l.edge.sink)
