use Rattle.std.proofs.Common.{◌≡◌, true, false, rules, arith}
use Rattle.jet_conveyor.specs.Conveyor as lanes
use Rattle.jet_sink.specs.View.{view}
use Rattle.jet_sink.proofs.Draining.{collected, drained_none}
use Rattle.jet_sink.proofs.sink.Sink.collect.Goals as goal

pub returns-then-not-branch-clause-drained : goal.returns-then-not-branch-clause-drained
returns-then-not-branch-clause-drained c =
    let still : c.in_ok-take_known.field-0 ≡ false = first_of (cc, search rules, grind arith) in
    let none = c.in_ok-take_known.ensures.none still in
    drained_none (view c.args.self.now) (view c.take_known.new.self) c.clear.new.self.items c.clear-2.new.self.items (lanes.view c.args.conveyor.now) (lanes.view c.take_known.new.conveyor)
    c.clear.ensures.items c.clear-2.ensures.items none.1 none.0.same

pub returns-clause-drained : goal.returns-clause-drained
returns-clause-drained c =
    let moved : c.in_ok-take_known.field-0 ≡ true = first_of (cc, search rules, grind arith) in
    collected (view c.args.self.now) c.clear.new.self.items c.clear-2.new.self.items c.in_ok-take_known.field-0 (view c.take_known.new.self) (view c.print_due.new.self)
    (lanes.view c.args.conveyor.now) (lanes.view c.take_known.new.conveyor) c.all_done.result c.clear.ensures.items c.clear-2.ensures.items
    c.in_ok-take_known.ensures.took moved c.in_ok-print_due.ensures.printed c.print_due.ensures.queues c.take_known.ensures.alike c.all_done.ensures
