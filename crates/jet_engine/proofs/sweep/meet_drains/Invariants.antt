use Rattle.std.proofs.Common.{◌≡◌}
use Rattle.jet_crew.specs.Gather.{gather, Placed, epochs_of}
use Rattle.jet_conveyor.specs.Conveyor.{view}
use Rattle.jet_engine.proofs.Feeding.{DrainedSoFar}
use Rattle.jet_engine.proofs.sweep.meet_drains.Given as goal

abbrev pub invariant-loop-queue : goal.invariant-loop-queue
invariant-loop-queue l =
    Placed l.workers.items l.order.items
    × (epochs_of l.workers.items ≡ epochs_of l.fn.workers.items)
    × DrainedSoFar l.drains (gather l.fn.workers.items l.order.items) (gather l.workers.items l.order.items) (view l.fn.sink) (view l.sink) l.queue
