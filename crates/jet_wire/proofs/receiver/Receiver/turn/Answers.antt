use Rattle.std.proofs.Common.{nat_lt, subst}
use Rattle.jet_link.specs.Views.{RecvView, recv_view}
use Rattle.jet_wire.specs.Receiver.{receiver_view}
use Rattle.jet_wire.proofs.ReceiverTurns.{turn_gives, turn_lawful, turn_turned, turn_moved, turn_unloaded, turn_stays, turn_still, turn_rests}
use Rattle.jet_wire.specs.ReceiverTurn.{CountsTurn, Offers}
use Rattle.jet_wire.proofs.Periods.{then_counted, then_offers}
use Rattle.jet_wire.proofs.Turning.{none_of}
use Rattle.jet_wire.proofs.receiver.Receiver.turn.Goals as goal

pub unload-requires : goal.unload-requires
unload-requires c = record { keeps = (c.requires.keeps.given, c.receive-received.ensures.receives.stays.stays c.requires.keeps.given c.requires.keeps.keeps) }

pub returns-then-moved-clause-keeps : goal.returns-then-moved-clause-keeps
returns-then-moved-clause-keeps c = turn_gives (receiver_view c.args.self.now) (receiver_view c.receive-received.new.self) (receiver_view c.unload.new.self) (receiver_view c.settle-acked.new.self)
    c.receive-received.ensures.receives c.unload.ensures.deals c.settle-acked.ensures.receives

pub returns-else-moved-clause-keeps : goal.returns-else-moved-clause-keeps
returns-else-moved-clause-keeps c = turn_gives (receiver_view c.args.self.now) (receiver_view c.receive-received.new.self) (receiver_view c.unload.new.self) (receiver_view c.settle-acked.new.self)
    c.receive-received.ensures.receives c.unload.ensures.deals c.settle-acked.ensures.receives

pub returns-then-moved-clause-lawful : goal.returns-then-moved-clause-lawful
returns-then-moved-clause-lawful c = turn_lawful (receiver_view c.args.self.now) (receiver_view c.receive-received.new.self) (receiver_view c.unload.new.self) (receiver_view c.settle-acked.new.self)
    c.receive-received.ensures.receives c.unload.ensures.deals c.settle-acked.ensures.receives c.requires.keeps c.settle-acked.ensures.paced

pub returns-else-moved-clause-lawful : goal.returns-else-moved-clause-lawful
returns-else-moved-clause-lawful c = turn_lawful (receiver_view c.args.self.now) (receiver_view c.receive-received.new.self) (receiver_view c.unload.new.self) (receiver_view c.settle-acked.new.self)
    c.receive-received.ensures.receives c.unload.ensures.deals c.settle-acked.ensures.receives c.requires.keeps c.settle-acked.ensures.paced

pub returns-then-moved-clause-turned : goal.returns-then-moved-clause-turned
returns-then-moved-clause-turned c = turn_turned (receiver_view c.args.self.now) (receiver_view c.receive-received.new.self) (receiver_view c.unload.new.self) (receiver_view c.settle-acked.new.self)
    c.receive-received.ensures.receives c.unload.ensures.deals c.settle-acked.ensures.receives

pub returns-else-moved-clause-turned : goal.returns-else-moved-clause-turned
returns-else-moved-clause-turned c = turn_turned (receiver_view c.args.self.now) (receiver_view c.receive-received.new.self) (receiver_view c.unload.new.self) (receiver_view c.settle-acked.new.self)
    c.receive-received.ensures.receives c.unload.ensures.deals c.settle-acked.ensures.receives

pub returns-then-moved-clause-moved : goal.returns-then-moved-clause-moved
returns-then-moved-clause-moved c = λ _. turn_moved (receiver_view c.args.self.now) (receiver_view c.receive-received.new.self) (receiver_view c.unload.new.self) (receiver_view c.settle-acked.new.self)
    c.receive-received.ensures.receives c.unload.ensures.deals c.settle-acked.ensures.receives
    c.receive-received.result c.settle-acked.result c.free-left.result c.free-free.result c.free-left.ensures c.free-free.ensures c.receive-received.ensures.received c.settle-acked.ensures.acked c.if-moved.true

pub returns-else-moved-clause-same : goal.returns-else-moved-clause-same
returns-else-moved-clause-same c = λ _.
    let no = none_of c.receive-received.result c.settle-acked.result (nat_lt c.free-left.result c.free-free.result) c.if-moved.false in
    turn_stays (receiver_view c.args.self.now) (receiver_view c.receive-received.new.self) (receiver_view c.unload.new.self) (receiver_view c.settle-acked.new.self)
    c.receive-received.ensures.receives c.unload.ensures.deals c.settle-acked.ensures.receives
    (c.receive-received.ensures.same no.0) c.free-left.result c.free-free.result c.free-left.ensures c.free-free.ensures no.2 (c.settle-acked.ensures.still no.1)

pub returns-else-moved-clause-still : goal.returns-else-moved-clause-still
returns-else-moved-clause-still c = λ _.
    let no = none_of c.receive-received.result c.settle-acked.result (nat_lt c.free-left.result c.free-free.result) c.if-moved.false in
    turn_still (receiver_view c.args.self.now) (receiver_view c.receive-received.new.self) (receiver_view c.unload.new.self) (receiver_view c.settle-acked.new.self)
    c.receive-received.ensures.receives c.unload.ensures.deals c.settle-acked.ensures.receives
    (c.receive-received.ensures.same no.0) c.free-left.result c.free-free.result c.free-left.ensures c.free-free.ensures no.2 (c.settle-acked.ensures.still no.1)

pub returns-else-moved-clause-idle : goal.returns-else-moved-clause-idle
returns-else-moved-clause-idle c = λ _.
    let no = none_of c.receive-received.result c.settle-acked.result (nat_lt c.free-left.result c.free-free.result) c.if-moved.false in
    turn_rests (receiver_view c.args.self.now) (receiver_view c.receive-received.new.self) (receiver_view c.unload.new.self) (receiver_view c.settle-acked.new.self)
    c.receive-received.ensures.receives c.unload.ensures.deals c.settle-acked.ensures.receives (c.settle-acked.ensures.still no.1)
    (c.receive-received.ensures.none no.0) c.unload.ensures.stuck (c.settle-acked.ensures.full no.1)

pub returns-then-moved-clause-unloaded : goal.returns-then-moved-clause-unloaded
returns-then-moved-clause-unloaded c = turn_unloaded (receiver_view c.args.self.now) (receiver_view c.receive-received.new.self) (receiver_view c.unload.new.self) (receiver_view c.settle-acked.new.self)
    c.receive-received.ensures.receives c.unload.ensures.deals c.settle-acked.ensures.receives
    c.settle-acked.result c.settle-acked.ensures.empty c.settle-acked.ensures.still c.unload.ensures.stuck c.settle-acked.ensures.full

pub returns-else-moved-clause-unloaded : goal.returns-else-moved-clause-unloaded
returns-else-moved-clause-unloaded c = turn_unloaded (receiver_view c.args.self.now) (receiver_view c.receive-received.new.self) (receiver_view c.unload.new.self) (receiver_view c.settle-acked.new.self)
    c.receive-received.ensures.receives c.unload.ensures.deals c.settle-acked.ensures.receives
    c.settle-acked.result c.settle-acked.ensures.empty c.settle-acked.ensures.still c.unload.ensures.stuck c.settle-acked.ensures.full

pub returns-then-moved-clause-counted : goal.returns-then-moved-clause-counted
returns-then-moved-clause-counted c = λ _.
    let f : RecvView = recv_view c.settle-acked.new.self.end in
    then_counted (recv_view c.args.self.now.end) (recv_view c.receive-received.new.self.end) f c.receive-received.ensures.counts
    (subst (λ (e : RecvView). CountsTurn e f) c.unload.ensures.deals.end c.settle-acked.ensures.counted)

pub returns-then-moved-clause-offers : goal.returns-then-moved-clause-offers
returns-then-moved-clause-offers c = λ _.
    let f : RecvView = recv_view c.settle-acked.new.self.end in
    then_offers (recv_view c.args.self.now.end) (recv_view c.receive-received.new.self.end) f c.receive-received.ensures.counts
    (subst (λ (e : RecvView). Offers e f) c.unload.ensures.deals.end c.settle-acked.ensures.offers)

pub returns-else-moved-clause-counted : goal.returns-else-moved-clause-counted
returns-else-moved-clause-counted c = λ _.
    let f : RecvView = recv_view c.settle-acked.new.self.end in
    then_counted (recv_view c.args.self.now.end) (recv_view c.receive-received.new.self.end) f c.receive-received.ensures.counts
    (subst (λ (e : RecvView). CountsTurn e f) c.unload.ensures.deals.end c.settle-acked.ensures.counted)

pub returns-else-moved-clause-offers : goal.returns-else-moved-clause-offers
returns-else-moved-clause-offers c = λ _.
    let f : RecvView = recv_view c.settle-acked.new.self.end in
    then_offers (recv_view c.args.self.now.end) (recv_view c.receive-received.new.self.end) f c.receive-received.ensures.counts
    (subst (λ (e : RecvView). Offers e f) c.unload.ensures.deals.end c.settle-acked.ensures.offers)
