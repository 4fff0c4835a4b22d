use Rattle.jet_link.specs.Views.{send_view}
use Rattle.jet_wire.specs.Sender.{SenderView, sender_view}
use Rattle.jet_wire.proofs.Sending.{sends_trans, sends_push}
use Rattle.jet_wire.proofs.sender.Sender.prepare.Goals as goal

pub returns-then-write-clause-sends : goal.returns-then-write-clause-sends
returns-then-write-clause-sends c = sends_trans (sender_view c.args.self.now) (sender_view c.begin.new.self) (sender_view c.write.new.self) c.begin.ensures.sends c.write.ensures.sends

pub returns-then-begin-clause-sends : goal.returns-then-begin-clause-sends
returns-then-begin-clause-sends c =
    let w : SenderView = sender_view c.write.new.self in
    let p : SenderView = record w { end = send_view c.push.new.self } in
    let o : SenderView = sender_view c.args.self.now in
    let first = sends_trans o (sender_view c.begin.new.self) w c.begin.ensures.sends c.write.ensures.sends in
    let second = sends_trans o w p first (sends_push w (send_view c.push.new.self) c.push.ensures.packs c.push.result c.push.ensures.pushed c.push.ensures.full) in
    let third = sends_trans o p (sender_view c.begin-2.new.self) second c.begin-2.ensures.sends in
    sends_trans o (sender_view c.begin-2.new.self) (sender_view c.write-then-begin.new.self) third c.write-then-begin.ensures.sends

pub returns-else-begin-clause-sends : goal.returns-else-begin-clause-sends
returns-else-begin-clause-sends c =
    let w : SenderView = sender_view c.write.new.self in
    let p : SenderView = record w { end = send_view c.push.new.self } in
    let o : SenderView = sender_view c.args.self.now in
    let first = sends_trans o (sender_view c.begin.new.self) w c.begin.ensures.sends c.write.ensures.sends in
    let second = sends_trans o w p first (sends_push w (send_view c.push.new.self) c.push.ensures.packs c.push.result c.push.ensures.pushed c.push.ensures.full) in
    sends_trans o p (sender_view c.begin-2.new.self) second c.begin-2.ensures.sends
