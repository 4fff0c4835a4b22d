use Rattle.jet_conveyor.specs.Conveyor.{view}
use Rattle.jet_harness.specs.Harness.{rxs_of}
use Rattle.jet_deploy.proofs.Fresh.{input_is}
use Rattle.jet_deploy.proofs.ends.input.Goals as goal

pub returns-clause-view : goal.returns-clause-view
returns-clause-view c = input_is c.args.port (view c.in_ok-conveyor.conveyor) c.in_ok-queues.queues.items (rxs_of c.args.harness.now c.args.taker) c.in_ok-conveyor.ensures.new c.in_ok-queues.ensures.taken
