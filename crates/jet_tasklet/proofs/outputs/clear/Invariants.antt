use Rattle.std.proofs.Common.{◌≡◌}
use Rattle.jet_tasklet.specs.Outputs.{outputs_view, ready}
use Rattle.jet_tasklet.proofs.Stepping.{stepped}
use Rattle.jet_tasklet.proofs.outputs.clear.Given as goal

abbrev pub invariant-loop-place : goal.invariant-loop-place
invariant-loop-place l = outputs_view l.outputs ≡ stepped (λ o. ready o.router) l.place (outputs_view l.initial.outputs)
