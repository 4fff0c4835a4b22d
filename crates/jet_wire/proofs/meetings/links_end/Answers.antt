use Rattle.jet_wire.specs.Receiver.{receiver_view}
use Rattle.jet_wire.specs.Sender.{sender_view}
use Rattle.jet_wire.proofs.Ending.{given_last, over, ends_after}
use Rattle.jet_wire.proofs.meetings.links_end.Goals as goal

pub returns-clause-last : goal.returns-clause-last
returns-clause-last c = λ came sent given k g m.
    given_last (sender_view c.args.sender.now) (receiver_view c.args.receiver.now) came sent given k g m c.receivers_give_what_was_sent.ensures.front c.law_done_last.ensures

pub returns-clause-over : goal.returns-clause-over
returns-clause-over c = λ came sent given k g m e.
    over (sender_view c.args.sender.now) (receiver_view c.args.receiver.now) came sent given k g m c.receivers_give_what_was_sent.ensures.front c.law_done_last.ensures e

pub returns-clause-receiver : goal.returns-clause-receiver
returns-clause-receiver c = λ came sent given k g m e.
    ends_after (sender_view c.args.sender.now) (receiver_view c.args.receiver.now) came sent given k g m c.receivers_give_what_was_sent.ensures.all c.law_done_last.ensures c.spellings_are_short.ensures
    (c.acknowledged_links_are_empty.ensures m e.acked) e

pub returns-clause-empty : goal.returns-clause-empty
returns-clause-empty c = λ m e. c.acknowledged_links_are_empty.ensures m e.acked
