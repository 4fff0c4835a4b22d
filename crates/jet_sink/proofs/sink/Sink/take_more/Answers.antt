use Rattle.std.proofs.Common.{◌∙◌, refl, false}
use Rattle.jet_conveyor.specs.Conveyor as lanes
use Rattle.jet_sink.specs.View.{view}
use Rattle.jet_sink.proofs.Going.{takes_none, takes_then, some_then}
use Rattle.jet_sink.proofs.sink.Sink.take_more.Goals as goal

pub loop-init : goal.loop-init
loop-init c = record { alike = c.requires.alike; windows = refl; took = takes_none (view c.args.self.now) (lanes.view c.args.conveyor.now) (lanes.view c.args.conveyor.now) refl }

pub loop-preserved : goal.loop-preserved
loop-preserved c = record {
  alike = c.take_one.ensures.alike;
  windows = c.take_one.ensures.windows ∙ c.loop.invariant.windows;
  took = takes_then false c.in_ok-take_one.field-0 (view c.args.self.now) (view c.loop.self) (view c.take_one.new.self) (lanes.view c.args.conveyor.now) (lanes.view c.loop.conveyor) (lanes.view c.take_one.new.conveyor)
      c.loop.invariant.took c.in_ok-take_one.ensures.took;
}

pub returns-in_err-take_one-clause-conveyor : goal.returns-in_err-take_one-clause-conveyor
returns-in_err-take_one-clause-conveyor c =
    some_then (lanes.view c.args.conveyor.now) (lanes.view c.loop.conveyor) (lanes.view c.take_one.new.conveyor) (c.loop.invariant.took.taken, c.loop.invariant.took.took) c.take_one.ensures.conveyor
