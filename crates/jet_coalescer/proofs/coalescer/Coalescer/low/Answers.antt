use Rattle.std.proofs.Common.{subst}
use Rattle.jet_coalescer.specs.Queues.{HoldsNoneBack}
use Rattle.jet_coalescer.proofs.Bound.{present_is_least, holds_none_back}
use Rattle.jet_coalescer.proofs.coalescer.Coalescer.low.Goals as goal

pub returns-clause-reaches : goal.returns-clause-reaches
returns-clause-reaches c = subst HoldsNoneBack c.self.view_is (holds_none_back (record { queues = c.self.inside.queues; low = c.self.inside.low }) c.self.inside.low c.self.invariant.0)

pub returns-clause-bound : goal.returns-clause-bound
returns-clause-bound c = present_is_least c.args.self.now.queues
