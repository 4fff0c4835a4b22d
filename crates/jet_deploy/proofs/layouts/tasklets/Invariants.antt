use Rattle.std.proofs.Common.{◌≡◌, length}
use Rattle.std.specs.Prelude.{slice_get}
use Rattle.jet_deploy.specs.Grounds.{ground_of}
use Rattle.jet_deploy.specs.Making.{AreMade, Remains}
use Rattle.jet_deploy.specs.inner.Places.{made_before}
use Rattle.jet_deploy.proofs.layouts.tasklets.Given as goal

abbrev pub invariant-loop-number : goal.invariant-loop-number
invariant-loop-number l = record {
  count : length l.tasklets.items ≡ made_before (slice_get l.tasks l.number) l.number;
  made : AreMade (ground_of l.ground) l.fn.harness l.tasks l.tasklets.items;
  rest : Remains (length l.tasklets.items) l.fn.harness l.harness;
}
