use Rattle.jet_ring.specs.Ring.{rx_ring}
use Rattle.jet_link.specs.Receiving.{SameRecv}
use Rattle.jet_wire.specs.Edge.{GivesInto}
use Rattle.jet_wire.specs.Receiver.{receiver_view}
use Rattle.bench_links.proofs.received.Given as goal

abbrev pub invariant-loop : goal.invariant-loop
invariant-loop l = GivesInto (receiver_view l.far.receiver) (rx_ring l.far.sink) × SameRecv (receiver_view l.initial.far.receiver).end (receiver_view l.far.receiver).end
