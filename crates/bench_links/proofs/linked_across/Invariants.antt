use Rattle.jet_ring.specs.Ring.{tx_ring, rx_ring}
use Rattle.jet_link.specs.Meeting.{IsLink}
use Rattle.jet_wire.specs.Edge.{TakesFrom, GivesInto}
use Rattle.jet_wire.specs.Receiver.{receiver_view}
use Rattle.jet_wire.specs.Sender.{sender_view}
use Rattle.bench_links.proofs.linked_across.Given as goal

abbrev pub invariant-loop : goal.invariant-loop
invariant-loop g l =
    TakesFrom (tx_ring l.near.source) (sender_view l.near.sender)
    × IsLink (sender_view l.near.sender).end (receiver_view l.far.receiver).end
    × GivesInto (receiver_view l.far.receiver) (rx_ring l.far.sink)
