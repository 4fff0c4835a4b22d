use Rattle.jet_conveyor.proofs.Going.{none_going}
use Rattle.jet_conveyor.proofs.conveyor.Conveyor.all_done.Goals as goal

pub returns : goal.returns
returns c = none_going c.args.self.now.closed.items c.args.self.now.going c.args.self.now.counted
