use Rattle.std.proofs.Common.{◌≡◌, true, subst, Bool, rules, arith}
use Rattle.jet_conveyor.specs.Conveyor as lanes
use Rattle.jet_sink.specs.View.{view}
use Rattle.jet_sink.specs.inner.Noted.{TakesKnown}
use Rattle.jet_sink.proofs.Going.{some_then, takes_then}
use Rattle.jet_sink.proofs.sink.Sink.take_known.Goals as goal

pub returns-in_err-take_more-clause-conveyor : goal.returns-in_err-take_more-clause-conveyor
returns-in_err-take_more-clause-conveyor c =
    some_then (lanes.view c.args.conveyor.now) (lanes.view c.take_one.new.conveyor) (lanes.view c.take_more.new.conveyor) c.take_one.ensures.conveyor c.take_more.ensures.conveyor

pub returns-clause-conveyor : goal.returns-clause-conveyor
returns-clause-conveyor c =
    some_then (lanes.view c.args.conveyor.now) (lanes.view c.take_one.new.conveyor) (lanes.view c.take_more.new.conveyor) c.take_one.ensures.conveyor c.take_more.ensures.conveyor

pub returns-clause-took : goal.returns-clause-took
returns-clause-took c =
    let moved : c.in_ok-take_one.field-0 ≡ true = first_of (cc, search rules, grind arith) in
    let first = subst (λ (m : Bool). TakesKnown m (view c.args.self.now) (view c.take_one.new.self) (lanes.view c.args.conveyor.now) (lanes.view c.take_one.new.conveyor)) moved c.in_ok-take_one.ensures.took in
    takes_then true _ (view c.args.self.now) (view c.take_one.new.self) (view c.take_more.new.self) (lanes.view c.args.conveyor.now) (lanes.view c.take_one.new.conveyor) (lanes.view c.take_more.new.conveyor)
    first c.in_ok-take_more.ensures.took
