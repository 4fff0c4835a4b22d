use Rattle.jet_wire.specs.Receiver.{receiver_view}
use Rattle.jet_wire.specs.Sender.{sender_view}
use Rattle.jet_wire.proofs.Meeting.{given_front, next_front, given_all}
use Rattle.jet_wire.proofs.meetings.receivers_give_what_was_sent.Goals as goal

pub returns-clause-front : goal.returns-clause-front
returns-clause-front c = λ came sent given k g m. given_front c.front_of.ensures (sender_view c.args.sender.now) (receiver_view c.args.receiver.now) came sent given k g m

pub returns-clause-all : goal.returns-clause-all
returns-clause-all c = λ came sent given k g m none left. given_all c.front_of.ensures (sender_view c.args.sender.now) (receiver_view c.args.receiver.now) came sent given k g m none left

pub returns-clause-next : goal.returns-clause-next
returns-clause-next c = λ came sent given k g m x next. next_front c.front_of.ensures (sender_view c.args.sender.now) (receiver_view c.args.receiver.now) came sent given k g m x next.0 next.1
