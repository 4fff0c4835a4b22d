use Rattle.std.proofs.Common.{◌≡◌, ◌≤◌, ◌+◌}
use Rattle.jet_tasklet.specs.Inputs.{inputs_view, received_count}
use Rattle.jet_tasklet.specs.Keeps.{Goes}
use Rattle.jet_tasklet.specs.Turned.{Turned}
use Rattle.jet_tasklet.specs.Fairness.{TookFairly}
use Rattle.jet_tasklet.proofs.tasklet.Tasklet.take_items.Given as goal

abbrev pub invariant-items : goal.invariant-items
invariant-items g l = record {
  keeps : Goes g.P.Processor.stands g.P.Processor.amid g.P.Processor.takes l.initial.self l.self;
  turned : Turned g.P.Processor.same l.initial.self l.self;
  took : received_count (inputs_view l.initial.self.inputs.items) ≤ received_count (inputs_view l.self.inputs.items);
  few : received_count (inputs_view l.self.inputs.items) + 1 ≤ received_count (inputs_view l.initial.self.inputs.items) + l._taken;
  fair : TookFairly l.initial.self l.self;
  outputs : l.self.outputs ≡ l.initial.self.outputs;
}
