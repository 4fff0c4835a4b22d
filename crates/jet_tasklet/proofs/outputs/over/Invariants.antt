use Rattle.std.proofs.Common.{◌≡◌, map}
use Rattle.jet_router.specs.Router.{view}
use Rattle.jet_tasklet.specs.Outputs.{outputs_view, ready}
use Rattle.jet_tasklet.proofs.outputs.over.Given as goal

abbrev pub invariant-loop-router : goal.invariant-loop-router
invariant-loop-router l = outputs_view l.outputs.items ≡ map ready (map view l.yielded)
