use Rattle.std.proofs.Common.{◌≡◌}
use Rattle.jet_crew.specs.Gather.{gather, Placed, epochs_of}
use Rattle.jet_engine.proofs.Sweeping.{Swept}
use Rattle.jet_engine.proofs.junctions.meet_junctions.Given as goal

abbrev pub invariant-loop-junction : goal.invariant-loop-junction
invariant-loop-junction l =
    Placed l.workers.items l.order.items
    × (epochs_of l.workers.items ≡ epochs_of l.fn.workers.items)
    × Swept l.junctions (gather l.fn.workers.items l.order.items) (gather l.workers.items l.order.items) l.junction-index
