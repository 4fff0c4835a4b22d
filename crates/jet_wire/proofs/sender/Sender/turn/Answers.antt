use Rattle.std.proofs.Common.{◌≡◌, nat_lt, arith, ltb-false}
use Rattle.jet_link.specs.Views.{SendView, send_view}
use Rattle.jet_wire.specs.Sender.{SenderView, sender_view}
use Rattle.jet_wire.proofs.Sending.{sends_back}
use Rattle.jet_wire.proofs.Going.{goes_refl}
use Rattle.jet_wire.proofs.Turning.{none_of, turn_goes, turn_lawful, turn_stays, turn_still, turn_rests, back_same}
use Rattle.jet_wire.proofs.sender.Sender.turn.Goals as goal

pub returns-then-has_ended-clause-keeps : goal.returns-then-has_ended-clause-keeps
returns-then-has_ended-clause-keeps c = goes_refl (sender_view c.args.self.now)

pub returns-then-moved-clause-after : goal.returns-then-moved-clause-after
returns-then-moved-clause-after c = λ e. let true_then = c.has_ended.ensures.1 e in let false_now = c.if-has_ended.false in cc

pub returns-else-moved-clause-after : goal.returns-else-moved-clause-after
returns-else-moved-clause-after c = λ e. let true_then = c.has_ended.ensures.1 e in let false_now = c.if-has_ended.false in cc

pub returns-then-moved-clause-keeps : goal.returns-then-moved-clause-keeps
returns-then-moved-clause-keeps c =
    let d : SenderView = sender_view c.take_items-took.new.self in
    let e2 : SendView = send_view c.put_back.new.self in
    turn_goes (sender_view c.args.self.now) (send_view c.take_acks-acked.new.self) d e2 c.take_acks-acked.ensures.took c.take_items-took.ensures.went
    (sends_back d e2 c.put_back.ensures.packs c.put_back.result c.put_back.ensures.back c.put_back.ensures.kept)

pub returns-else-moved-clause-keeps : goal.returns-else-moved-clause-keeps
returns-else-moved-clause-keeps c =
    let d : SenderView = sender_view c.take_items-took.new.self in
    let e2 : SendView = send_view c.put_back.new.self in
    turn_goes (sender_view c.args.self.now) (send_view c.take_acks-acked.new.self) d e2 c.take_acks-acked.ensures.took c.take_items-took.ensures.went
    (sends_back d e2 c.put_back.ensures.packs c.put_back.result c.put_back.ensures.back c.put_back.ensures.kept)

pub returns-then-moved-clause-lawful : goal.returns-then-moved-clause-lawful
returns-then-moved-clause-lawful c =
    let d : SenderView = sender_view c.take_items-took.new.self in
    let e2 : SendView = send_view c.put_back.new.self in
    turn_lawful (sender_view c.args.self.now) (send_view c.take_acks-acked.new.self) d e2 c.take_acks-acked.ensures.took c.take_items-took.ensures.went
    (sends_back d e2 c.put_back.ensures.packs c.put_back.result c.put_back.ensures.back c.put_back.ensures.kept) c.requires.keeps

pub returns-else-moved-clause-lawful : goal.returns-else-moved-clause-lawful
returns-else-moved-clause-lawful c =
    let d : SenderView = sender_view c.take_items-took.new.self in
    let e2 : SendView = send_view c.put_back.new.self in
    turn_lawful (sender_view c.args.self.now) (send_view c.take_acks-acked.new.self) d e2 c.take_acks-acked.ensures.took c.take_items-took.ensures.went
    (sends_back d e2 c.put_back.ensures.packs c.put_back.result c.put_back.ensures.back c.put_back.ensures.kept) c.requires.keeps

pub returns-else-moved-clause-same : goal.returns-else-moved-clause-same
returns-else-moved-clause-same c = λ _.
    let o : SenderView = sender_view c.args.self.now in
    let e1 : SendView = send_view c.take_acks-acked.new.self in
    let d : SenderView = sender_view c.take_items-took.new.self in
    let e2 : SendView = send_view c.put_back.new.self in
    let no = none_of c.take_acks-acked.result c.take_items-took.result (nat_lt c.free-left.result c.free-free.result) c.if-moved.false in
    let back = sends_back d e2 c.put_back.ensures.packs c.put_back.result c.put_back.ensures.back c.put_back.ensures.kept in
    let rest = c.take_items-took.ensures.none no.1 in
    let free : e2.packets.free ≡ e1.packets.free = omega (arith, ltb-false c.free-left.result c.free-free.result no.2, c.free-left.ensures, c.free-free.ensures, rest.0.fewer, back.fewer) in
    turn_stays o e1 d e2 c.take_acks-acked.ensures.took c.take_items-took.ensures.went back rest.0 (c.take_acks-acked.ensures.still no.0) free c.take_acks-acked.ensures.bounded c.put_back.ensures.bounded

pub returns-else-moved-clause-still : goal.returns-else-moved-clause-still
returns-else-moved-clause-still c = λ _.
    let o : SenderView = sender_view c.args.self.now in
    let e1 : SendView = send_view c.take_acks-acked.new.self in
    let d : SenderView = sender_view c.take_items-took.new.self in
    let e2 : SendView = send_view c.put_back.new.self in
    let no = none_of c.take_acks-acked.result c.take_items-took.result (nat_lt c.free-left.result c.free-free.result) c.if-moved.false in
    let back = sends_back d e2 c.put_back.ensures.packs c.put_back.result c.put_back.ensures.back c.put_back.ensures.kept in
    let rest = c.take_items-took.ensures.none no.1 in
    let free : e2.packets.free ≡ e1.packets.free = omega (arith, ltb-false c.free-left.result c.free-free.result no.2, c.free-left.ensures, c.free-free.ensures, rest.0.fewer, back.fewer) in
    turn_still o e1 d e2 c.take_acks-acked.ensures.took c.take_items-took.ensures.went back rest.0 (c.take_acks-acked.ensures.still no.0) free c.take_acks-acked.ensures.bounded c.put_back.ensures.bounded

pub returns-else-moved-clause-idle : goal.returns-else-moved-clause-idle
returns-else-moved-clause-idle c = λ _.
    let o : SenderView = sender_view c.args.self.now in
    let e1 : SendView = send_view c.take_acks-acked.new.self in
    let d : SenderView = sender_view c.take_items-took.new.self in
    let e2 : SendView = send_view c.put_back.new.self in
    let no = none_of c.take_acks-acked.result c.take_items-took.result (nat_lt c.free-left.result c.free-free.result) c.if-moved.false in
    let back = sends_back d e2 c.put_back.ensures.packs c.put_back.result c.put_back.ensures.back c.put_back.ensures.kept in
    let rest = c.take_items-took.ensures.none no.1 in
    let free : e2.packets.free ≡ e1.packets.free = omega (arith, ltb-false c.free-left.result c.free-free.result no.2, c.free-left.ensures, c.free-free.ensures, rest.0.fewer, back.fewer) in
    turn_rests o e1 d e2 c.take_acks-acked.ensures.took c.take_items-took.ensures.went back rest.0 (c.take_acks-acked.ensures.still no.0) free c.take_acks-acked.ensures.bounded c.put_back.ensures.bounded
    c.take_acks-acked.ensures.none rest.1 (back_same d e2 c.put_back.result rest.1 c.put_back.ensures.back c.put_back.ensures.kept)
