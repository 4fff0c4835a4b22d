use Rattle.std.proofs.Common.{◌≡◌}
use Rattle.jet_tasklet.specs.Fairness.{NoneBetween}
use Rattle.jet_tasklet.specs.Inputs.{inputs_view}
use Rattle.jet_tasklet.proofs.inputs.find_span.Given as goal

abbrev pub invariant-loop-place : goal.invariant-loop-place
invariant-loop-place l = record {
  same : inputs_view l.inputs ≡ inputs_view l.initial.inputs;
  none : NoneBetween l.port (inputs_view l.initial.inputs) l.from l.place;
}
