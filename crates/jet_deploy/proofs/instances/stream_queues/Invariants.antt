use Rattle.std.proofs.Common.{◌≡◌, take}
use Rattle.jet_boxes.specs.declared.port.Port.TheVariants.{Stream}
use Rattle.jet_tasklet.specs.Inputs.{inputs_view, queue_count}
use Rattle.jet_deploy.proofs.instances.stream_queues.Given as goal

abbrev pub invariant-loop-input : goal.invariant-loop-input
invariant-loop-input l = l.count ≡ queue_count Stream (inputs_view (take l.input-index l.inputs))
