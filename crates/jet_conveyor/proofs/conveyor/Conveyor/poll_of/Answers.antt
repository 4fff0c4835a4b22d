use Rattle.jet_conveyor.specs.Conveyor.{view}
use Rattle.jet_conveyor.proofs.Views.{sees_found, sees_trans}
use Rattle.jet_conveyor.proofs.conveyor.Conveyor.poll_of.Goals as goal

pub returns-then-look-clause-seen : goal.returns-then-look-clause-seen
returns-then-look-clause-seen c =
    sees_trans (view c.args.self.now) (view c.look.new.self) (view c.take_front.new.self)
    (sees_found (view c.args.self.now) (view c.look.new.self) c.args.queue (c.look.ensures.found c.if-look.true)) c.take_front.ensures.seen
