use Rattle.jet_wire.specs.Sender.{sender_view}
use Rattle.jet_wire.proofs.SenderLaws.{passes_bag}
use Rattle.jet_wire.proofs.sender.Sender.law_takes_from_all.Goals as goal

pub returns : goal.returns
returns c = λ came sent k. passes_bag (sender_view c.args.self.now) came sent k
