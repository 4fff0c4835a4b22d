use Rattle.jet_conveyor.specs.Conveyor.{view}
use Rattle.jet_conveyor.proofs.Views.{sees_trans}
use Rattle.jet_conveyor.proofs.conveyor.Conveyor.poll.Goals as goal

pub returns-in-Some-clause-seen : goal.returns-in-Some-clause-seen
returns-in-Some-clause-seen c = sees_trans (view c.args.self.now) (view c.find.new.self) (view c.take_front.new.self) c.find.ensures.seen c.take_front.ensures.seen
