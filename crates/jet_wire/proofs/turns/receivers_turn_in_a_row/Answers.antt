use Rattle.jet_wire.specs.Receiver.{receiver_view}
use Rattle.jet_wire.proofs.InARow.{receiver_lawful, receiver_trans, receiver_said, receiver_counts}
use Rattle.jet_wire.proofs.turns.receivers_turn_in_a_row.Goals as goal

pub returns-clause-lawful : goal.returns-clause-lawful
returns-clause-lawful c = λ l w. receiver_lawful (receiver_view c.args.first.now) (receiver_view c.args.next.now) l w

pub returns-clause-went : goal.returns-clause-went
returns-clause-went c = λ p q. receiver_trans (receiver_view c.args.first.now) (receiver_view c.args.next.now) (receiver_view c.args.last.now) p q

pub returns-clause-said : goal.returns-clause-said
returns-clause-said c = λ p q w v s t. receiver_said p q (receiver_view c.args.first.now) (receiver_view c.args.next.now) (receiver_view c.args.last.now) w v s t

pub returns-clause-counted : goal.returns-clause-counted
returns-clause-counted c = λ p s. receiver_counts p (receiver_view c.args.first.now) (receiver_view c.args.next.now) s
