use Rattle.jet_wire.specs.Sender.{sender_view}
use Rattle.jet_wire.proofs.Passing.{passes_data, sends_all}
use Rattle.jet_wire.proofs.meetings.senders_send_what_came.Goals as goal

pub returns-clause-data : goal.returns-clause-data
returns-clause-data c = λ came sent k. passes_data (sender_view c.args.sender.now) came sent k

pub returns-clause-all : goal.returns-clause-all
returns-clause-all c = λ came sent k hand work. sends_all c.spellings_are_short.ensures (sender_view c.args.sender.now) came sent k hand work
