use Rattle.std.proofs.Common.{◌≡◌, false, length}
use Rattle.jet_tasklet.specs.Outputs.{outputs_view, SomeWaits, Says, sent_count}
use Rattle.std.specs.List.{AllZip}
use Rattle.jet_tasklet.specs.Turned.{OutputGoes}
use Rattle.jet_tasklet.specs.inner.Leaving.{Leaves}
use Rattle.jet_tasklet.proofs.outputs.give_out.Given as goal

abbrev pub decreases-loop-pushed : goal.decreases-loop-pushed
decreases-loop-pushed l = length l.outbox.items

abbrev pub invariant-loop-pushed : goal.invariant-loop-pushed
invariant-loop-pushed l = record {
  leaves : Leaves l.initial.outbox.items (outputs_view l.initial.outputs) l.outbox.items (outputs_view l.outputs);
  goes : AllZip OutputGoes (outputs_view l.initial.outputs) (outputs_view l.outputs);
  pushed : Says l.pushed (sent_count (outputs_view l.initial.outputs)) (sent_count (outputs_view l.outputs));
  still : SomeWaits (outputs_view l.initial.outputs) → l.pushed ≡ false → (l.outbox.items ≡ l.initial.outbox.items) × SomeWaits (outputs_view l.outputs);
  room : l.outbox.room ≡ l.initial.outbox.room;
}
