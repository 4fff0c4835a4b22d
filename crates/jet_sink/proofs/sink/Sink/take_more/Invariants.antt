use Rattle.std.proofs.Common.{◌≡◌, false}
use Rattle.jet_conveyor.specs.Conveyor as lanes
use Rattle.jet_sink.specs.Alike.{AreAlike}
use Rattle.jet_sink.specs.View.{view}
use Rattle.jet_sink.specs.inner.Noted.{TakesKnown}
use Rattle.jet_sink.proofs.sink.Sink.take_more.Given as goal

abbrev pub invariant-loop : goal.invariant-loop
invariant-loop l = record {
  alike : AreAlike l.self.coalescer.queues (lanes.view l.conveyor);
  windows : l.self.windows ≡ l.initial.self.windows;
  took : TakesKnown false (view l.initial.self) (view l.self) (lanes.view l.initial.conveyor) (lanes.view l.conveyor);
}
