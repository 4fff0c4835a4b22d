use Rattle.jet_wire.specs.Sender.{sender_view}
use Rattle.jet_wire.proofs.SenderLaws.{low_is, last_is, last_sent, last_reached}
use Rattle.jet_wire.proofs.sender.Sender.law_marks_at_rest.Goals as goal

pub returns-clause-low : goal.returns-clause-low
returns-clause-low c = λ came sent k o. low_is (sender_view c.args.self.now) came sent k c.low_is_least.ensures.least c.low_is_least.ensures.reaches o

pub returns-clause-last : goal.returns-clause-last
returns-clause-last c = λ came sent k o. last_is (sender_view c.args.self.now) came sent k c.low_is_least.ensures.least c.low_is_least.ensures.reaches o

pub returns-clause-rest : goal.returns-clause-rest
returns-clause-rest c = λ came sent k o hand work. last_sent (sender_view c.args.self.now) came sent k c.low_is_least.ensures.least c.low_is_least.ensures.reaches c.spellings_are_short.ensures o hand work

pub returns-clause-passes : goal.returns-clause-passes
returns-clause-passes c = λ s came sent k o all. last_reached (sender_view c.args.self.now) came sent k c.low_is_least.ensures.least c.low_is_least.ensures.reaches s o all
