use Rattle.std.proofs.Common.{◌≡◌, map}
use Rattle.jet_crew.specs.Gather.{gather, Placed, epochs_of}
use Rattle.jet_ring.specs.Ring.{tx_view}
use Rattle.jet_engine.proofs.Feeding.{FedSoFar}
use Rattle.jet_engine.proofs.sweep.meet_feeds.Given as goal

abbrev pub invariant-loop-file : goal.invariant-loop-file
invariant-loop-file l =
    Placed l.workers.items l.order.items
    × (epochs_of l.workers.items ≡ epochs_of l.fn.workers.items)
    × FedSoFar l.feeds (gather l.fn.workers.items l.order.items) (gather l.workers.items l.order.items) (map tx_view l.fn.txs) (map tx_view l.txs) l.file
