use Rattle.jet_link.specs.Views.{recv_view}
use Rattle.jet_wire.specs.Receiver.{receiver_view}
use Rattle.jet_wire.proofs.Packets.{receives_trans, receives_ended}
use Rattle.jet_wire.proofs.Periods.{settles_counted, settles_offers}
use Rattle.jet_wire.proofs.receiver.Receiver.settle.Goals as goal

pub returns-clause-receives : goal.returns-clause-receives
returns-clause-receives c =
    let o = receiver_view c.args.self.now in
    let a = receiver_view c.finish.new.self in
    let b = receiver_view c.acknowledge-acked.new.self in
    receives_trans o b (record b { end = recv_view c.end_turn.new.self }) (receives_trans o a b c.finish.ensures.receives c.acknowledge-acked.ensures.receives)
    (receives_ended b (recv_view c.end_turn.new.self) c.end_turn.ensures.ended)

pub returns-clause-counted : goal.returns-clause-counted
returns-clause-counted c =
    settles_counted (recv_view c.args.self.now.end) (recv_view c.finish.new.self.end) (recv_view c.acknowledge-acked.new.self.end) (recv_view c.end_turn.new.self)
    c.finish.ensures.counts c.acknowledge-acked.ensures.acks c.end_turn.ensures.ended

pub returns-clause-offers : goal.returns-clause-offers
returns-clause-offers c =
    settles_offers (recv_view c.args.self.now.end) (recv_view c.finish.new.self.end) (recv_view c.acknowledge-acked.new.self.end) (recv_view c.end_turn.new.self)
    c.finish.ensures.counts c.acknowledge-acked.ensures.acks c.end_turn.ensures.ended
