use Rattle.jet_conveyor.specs.Conveyor as lanes
use Rattle.jet_sink.specs.View.{view}
use Rattle.jet_sink.proofs.Going.{takes_none}
use Rattle.jet_sink.proofs.Noting.{one}
use Rattle.jet_sink.proofs.Taking.{polled_one}
use Rattle.jet_sink.proofs.sink.Sink.take_one.Goals as goal

pub returns-in_err-take-in-Taken-clause-conveyor : goal.returns-in_err-take-in-Taken-clause-conveyor
returns-in_err-take-in-Taken-clause-conveyor c =
    (one c.in-Taken.queue c.in-Taken.item, polled_one c.args.self.now.coalescer.queues (lanes.view c.args.conveyor.now) (lanes.view c.poll.new.self) c.in-Taken.queue c.in-Taken.item c.requires.alike c.in-Taken.ensures.taken c.in-Taken.ensures.seen)

pub returns-in_ok-take-in-Taken-clause-conveyor : goal.returns-in_ok-take-in-Taken-clause-conveyor
returns-in_ok-take-in-Taken-clause-conveyor c =
    (one c.in-Taken.queue c.in-Taken.item, polled_one c.args.self.now.coalescer.queues (lanes.view c.args.conveyor.now) (lanes.view c.poll.new.self) c.in-Taken.queue c.in-Taken.item c.requires.alike c.in-Taken.ensures.taken c.in-Taken.ensures.seen)

pub returns-in-Nothing-clause-took : goal.returns-in-Nothing-clause-took
returns-in-Nothing-clause-took c = takes_none (view c.args.self.now) (lanes.view c.args.conveyor.now) (lanes.view c.poll.new.self) c.in-Nothing.ensures.nothing
