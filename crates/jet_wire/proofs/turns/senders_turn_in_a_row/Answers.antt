use Rattle.jet_wire.specs.Sender.{sender_view}
use Rattle.jet_wire.proofs.InARow.{sender_lawful, sender_trans, sender_said, sender_counts}
use Rattle.jet_wire.proofs.turns.senders_turn_in_a_row.Goals as goal

pub returns-clause-lawful : goal.returns-clause-lawful
returns-clause-lawful c = λ l w. sender_lawful (sender_view c.args.first.now) (sender_view c.args.next.now) l w

pub returns-clause-went : goal.returns-clause-went
returns-clause-went c = λ p q. sender_trans (sender_view c.args.first.now) (sender_view c.args.next.now) (sender_view c.args.last.now) p q

pub returns-clause-said : goal.returns-clause-said
returns-clause-said c = λ p q w v s t. sender_said p q (sender_view c.args.first.now) (sender_view c.args.next.now) (sender_view c.args.last.now) w v s t

pub returns-clause-counted : goal.returns-clause-counted
returns-clause-counted c = λ p s. sender_counts p (sender_view c.args.first.now) (sender_view c.args.next.now) s
