use Rattle.std.proofs.Common.{ap, ◌∙◌}
use Rattle.jet_coalescer.specs.Queues.{present}
use Rattle.jet_coalescer.proofs.OfQueues.{of_present}
use Rattle.jet_coalescer.proofs.queues.Queues.present.Goals as goal

pub returns : goal.returns
returns c = c.least.ensures ∙ (of_present c.self.inside.queues.items c.self.inside.tournament c.self.invariant ∙ ap present c.self.view_is)
