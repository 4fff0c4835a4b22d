use Rattle.jet_wire.specs.Sender.{sender_view}
use Rattle.jet_wire.proofs.SenderLaws.{passes_received, sends_received}
use Rattle.jet_wire.proofs.sender.Sender.law_marks_received.Goals as goal

pub returns-clause-passed : goal.returns-clause-passed
returns-clause-passed c = λ came sent k. passes_received (sender_view c.args.self.now) came sent k c.low_is_least.ensures.least c.low_is_least.ensures.reaches

pub returns-clause-sent : goal.returns-clause-sent
returns-clause-sent c = λ came sent k. sends_received (sender_view c.args.self.now) came sent k c.low_is_least.ensures.least c.low_is_least.ensures.reaches
