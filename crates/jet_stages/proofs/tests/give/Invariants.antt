use Rattle.std.proofs.Common.{List}
use Rattle.jet_items.specs.declared.item.Item.{Item}
use Rattle.jet_boxes.specs.declared.port.Port.TheVariants.{Stream}
use Rattle.jet_boxes.specs.Entry.{CallEntry, Given}
use Rattle.jet_stages.specs.inner.Running.{IsRunning}
use Rattle.jet_stages.proofs.tests.give.Given as goal

abbrev pub invariant-loop-tries : goal.invariant-loop-tries
invariant-loop-tries g l = record {
  runs : (taken : List CallEntry) × (past : List Item) × g.P.Processor.amid l.processor taken (Given Stream l.queue l.item) past × IsRunning taken;
  same : g.P.Processor.same l.initial.processor l.processor;
  takes : g.P.Processor.takes l.processor Stream l.queue;
}
