use Rattle.std.proofs.Common.{◌≡◌, take}
use Rattle.jet_tasklet.specs.Inputs.{inputs_view, queue_count}
use Rattle.jet_tasklet.proofs.inputs.count_queues.Given as goal

abbrev pub invariant-loop-place : goal.invariant-loop-place
invariant-loop-place l = l.queues ≡ queue_count l.port (take l.place (inputs_view l.inputs))
