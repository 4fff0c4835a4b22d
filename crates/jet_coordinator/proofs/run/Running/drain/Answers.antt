use Rattle.jet_coordinator.proofs.Steps.{drained_on, stops_drained, told_same}
use Rattle.jet_coordinator.proofs.run.Running.drain.Goals as goal

pub returns-in-Ok-clause-came : goal.returns-in-Ok-clause-came
returns-in-Ok-clause-came g c =
    drained_on c.args.self.now c.drain.new.conveyor c.drain.new.self _ (g.O.Outside.told c.args.out.now) (g.O.Outside.told c.drain.new.out) c.in-Ok.ensures.drained c.drain.ensures.windows c.in-Ok.ensures.told

pub returns-in-Err-clause-stop : goal.returns-in-Err-clause-stop
returns-in-Err-clause-stop g c =
    stops_drained c.args.self.now c.drain.new.conveyor c.drain.new.self c.in-Err.stop (g.O.Outside.told c.args.out.now) (g.O.Outside.told c.drain.new.out) c.in-Err.ensures.no_bad_line
    (told_same g.O.Outside.told c.args.out.now c.drain.new.out c.in-Err.ensures.stopped) c.in-Err.ensures.told
