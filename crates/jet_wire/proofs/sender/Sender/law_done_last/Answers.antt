use Rattle.jet_wire.specs.Sender.{sender_view}
use Rattle.jet_wire.proofs.DoneLast.{done_last}
use Rattle.jet_wire.proofs.sender.Sender.law_done_last.Goals as goal

pub returns : goal.returns
returns c = λ came sent k. done_last (sender_view c.args.self.now) came sent k
