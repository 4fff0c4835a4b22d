use Rattle.jet_conveyor.specs.Conveyor.{view}
use Rattle.jet_conveyor.proofs.Views.{sees_found, sees_span}
use Rattle.jet_conveyor.proofs.conveyor.Conveyor.find.Goals as goal

pub returns-in-Some-clause-seen : goal.returns-in-Some-clause-seen
returns-in-Some-clause-seen c = sees_found (view c.args.self.now) (view c.find_span.new.self) c.in-Some.queue c.in-Some.ensures.found.2

pub returns-in-None-clause-seen : goal.returns-in-None-clause-seen
returns-in-None-clause-seen c =
    sees_span c.find_span-in-None.result (view c.args.self.now) (view c.find_span.new.self) (view c.find_span-in-None.new.self) 0 c.args.self.now.next
    c.in-None.ensures.nothing.0 c.find_span-in-None.ensures.found c.find_span-in-None.ensures.nothing
