use Rattle.std.proofs.Common.{rules}
use Rattle.jet_link.specs.Views.{send_view}
use Rattle.jet_wire.specs.Sender.{sender_view}
use Rattle.jet_wire.proofs.Sending.{sends_begin, none_is}
use Rattle.jet_wire.proofs.sender.Sender.begin.Goals as goal

pub returns-clause-sends : goal.returns-clause-sends
returns-clause-sends c =
    let v = sender_view c.args.self.now in
    sends_begin v (send_view c.begin.new.self) c.begin.ensures.packs c.begin.result c.begin.ensures.begun c.begin.ensures.none (none_is v.end.work (search rules))
