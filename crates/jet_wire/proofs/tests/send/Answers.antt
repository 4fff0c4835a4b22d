use Rattle.jet_ring.specs.Ring.{tx_ring}
use Rattle.jet_wire.specs.Receiver.{receiver_view}
use Rattle.jet_wire.specs.Sender.{sender_view}
use Rattle.jet_wire.proofs.Edges.{takes_turned, link_sent}
use Rattle.jet_wire.proofs.tests.send.Goals as goal

pub returns : goal.returns
returns c =
    let was = sender_view c.meet.new.edge.sender in
    let now = sender_view c.turn.new.self in
    record {
      takes = takes_turned (tx_ring c.meet.new.edge.source) was now c.turn.ensures.lawful c.turn.ensures.turned.queues.rings c.meet.ensures.takes;
      link = link_sent was.end now.end (receiver_view c.meet.new.edge.receiver).end c.turn.ensures.turned.end.same c.meet.ensures.link;
      gives = c.meet.ensures.gives;
    }
