use Rattle.std.proofs.Common.{◌≡◌}
use Rattle.jet_crew.specs.Gather.{gather, Placed, epochs_of}
use Rattle.jet_engine.proofs.Linking.{LinksSwept}
use Rattle.jet_engine.proofs.sweep.meet_links.Given as goal

abbrev pub invariant-loop-link : goal.invariant-loop-link
invariant-loop-link l =
    Placed l.workers.items l.order.items
    × (epochs_of l.workers.items ≡ epochs_of l.fn.workers.items)
    × LinksSwept l.links (gather l.fn.workers.items l.order.items) (gather l.workers.items l.order.items) l.link-index
