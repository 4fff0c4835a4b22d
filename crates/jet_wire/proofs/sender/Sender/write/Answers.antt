use Rattle.std.proofs.Common.{rules}
use Rattle.jet_link.specs.Views.{send_view}
use Rattle.jet_wire.specs.Sender.{sender_view}
use Rattle.jet_wire.proofs.Sending.{sends_written}
use Rattle.jet_wire.proofs.sender.Sender.write.Goals as goal

pub returns-clause-sends : goal.returns-clause-sends
returns-clause-sends c =
    sends_written (sender_view c.args.self.now) (send_view c.write.new.self) c.write.ensures.packs c.in-Some.item c.in-Some.is c.write.ensures.ranges (c.write.ensures.written (search rules))
