use Rattle.jet_ring.specs.Ring.{rx_ring}
use Rattle.jet_wire.specs.Receiver.{receiver_view}
use Rattle.jet_wire.specs.Sender.{sender_view}
use Rattle.jet_wire.proofs.Edges.{gives_turned, link_received}
use Rattle.jet_wire.proofs.tests.receive.Goals as goal

pub returns : goal.returns
returns c =
    let was = receiver_view c.meet.new.edge.receiver in
    let now = receiver_view c.turn.new.self in
    record {
      takes = c.meet.ensures.takes;
      link = link_received (sender_view c.meet.new.edge.sender).end was.end now.end c.turn.ensures.turned.end.same c.meet.ensures.link;
      gives = gives_turned (rx_ring c.meet.new.edge.sink) was now c.turn.ensures.lawful c.turn.ensures.turned.router.same.rings_kept c.meet.ensures.gives;
    }
