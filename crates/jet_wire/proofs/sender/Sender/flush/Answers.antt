use Rattle.jet_link.specs.Views.{send_view}
use Rattle.jet_wire.specs.Sender.{SenderView, sender_view}
use Rattle.jet_wire.proofs.Sending.{sends_trans, sends_back, sends_push}
use Rattle.jet_wire.proofs.sender.Sender.flush.Goals as goal

pub returns-then-is_working-clause-sends : goal.returns-then-is_working-clause-sends
returns-then-is_working-clause-sends c =
    let o : SenderView = sender_view c.args.self.now in
    let b : SenderView = record o { end = send_view c.put_back.new.self } in
    let p : SenderView = record o { end = send_view c.push.new.self } in
    sends_trans o b p (sends_back o (send_view c.put_back.new.self) c.put_back.ensures.packs c.put_back.result c.put_back.ensures.back c.put_back.ensures.kept)
    (sends_push b (send_view c.push.new.self) c.push.ensures.packs c.push.result c.push.ensures.pushed c.push.ensures.full)

pub returns-else-is_working-clause-sends : goal.returns-else-is_working-clause-sends
returns-else-is_working-clause-sends c =
    sends_back (sender_view c.args.self.now) (send_view c.put_back.new.self) c.put_back.ensures.packs c.put_back.result c.put_back.ensures.back c.put_back.ensures.kept
