use Rattle.std.proofs.Common.{◌≡◌, rules}
use Rattle.jet_ring.specs.Ring.{tx_ring, rx_ring}
use Rattle.jet_router.specs.Router.{rings}
use Rattle.jet_link.specs.Receiving.{SameRecv}
use Rattle.jet_link.specs.Sending.{SameSend}
use Rattle.jet_wire.specs.Receiver.{ReceiverView, receiver_view, ReceiverIsLawful}
use Rattle.jet_wire.specs.Sender.{SenderView, sender_view, IsLawful}
use Rattle.jet_wire.proofs.Edges.{takes_turned, gives_turned, link_sent, link_received}
use Rattle.jet_wire.proofs.tests.across.Goals as goal

pub returns : goal.returns
returns g c =
    let s : SenderView = sender_view c.args.edge.sender in
    let r : ReceiverView = receiver_view c.args.edge.receiver in
    let sent : SenderView = sender_view c.join-sender.result.0 in
    let given : ReceiverView = receiver_view c.join-sender.result.1 in
    let lawful_sent : IsLawful sent = search rules in
    let lawful_given : ReceiverIsLawful given = search rules in
    let queues : sent.queues.rings ≡ s.queues.rings = search rules in
    let dests : rings given.router ≡ rings r.router = search rules in
    let same_sent : SameSend s.end sent.end = search rules in
    let same_given : SameRecv r.end given.end = search rules in
    record {
      takes = takes_turned (tx_ring c.args.edge.source) s sent lawful_sent queues c.requires.takes;
      link = link_received sent.end r.end given.end same_given (link_sent s.end sent.end r.end same_sent c.requires.link);
      gives = gives_turned (rx_ring c.args.edge.sink) r given lawful_given dests c.requires.gives;
    }
