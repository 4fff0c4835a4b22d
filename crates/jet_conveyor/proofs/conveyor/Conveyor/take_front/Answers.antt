use Rattle.jet_conveyor.proofs.conveyor.Conveyor.take_front.Goals as goal

pub returns-clause-taken : goal.returns-clause-taken
returns-clause-taken c = c.skip.ensures.taken c.front-item.result.now c.front-item.ensures
