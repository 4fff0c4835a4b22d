use Rattle.std.proofs.Common.{map}
use Rattle.jet_conveyor.specs.Conveyor as conveyor
use Rattle.jet_ring.specs.Ring.{tx_view}
use Rattle.jet_sink.specs.View.{view}
use Rattle.jet_coordinator.proofs.Finishing.{has_carried, has_run}
use Rattle.jet_coordinator.proofs.laws.ended_runs_are_whole.Goals as goal

pub returns-clause-run : goal.returns-clause-run
returns-clause-run c = λ check windows opened start now r before is_open are h end new alike.
    has_run c.what_a_ring_was_sent.ensures.whole check windows opened start now (map tx_view r.job.feeds.items) (conveyor.view r.job.sink) r.feeds.items (view r.sink) are h end.files before is_open new alike end.queues

pub returns-clause-carried : goal.returns-clause-carried
returns-clause-carried c = λ check windows opened start now r are h end ready alike.
    has_carried c.what_a_ring_was_sent.ensures.whole check windows opened start now r.job r.feeds.items (view r.sink) are h end.files ready alike end.queues
