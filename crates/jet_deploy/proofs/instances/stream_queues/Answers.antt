use Rattle.std.proofs.Common.{arith, rules, ◌≡◌, ◌+◌, ◌<◌, true, ap}
use Rattle.jet_boxes.specs.declared.port.Port.TheVariants.{Stream}
use Rattle.jet_tasklet.specs.Trace.{same_port}
use Rattle.jet_deploy.proofs.Making.{queues_more}
use Rattle.jet_deploy.proofs.instances.stream_queues.Goals as goal
use Rattle.jet_deploy.proofs.instances.stream_queues.Goals.{in-Stream, in_default}

pub overflow_add-count : goal.overflow_add-count
overflow_add-count c =
    let port : same_port c.input-item.result.port Stream ≡ true = elim c.match-matches.branch [
      | in-Stream w ↦ search rules
      | in_default w ↦ search rules
    ] in
    let more = queues_more Stream c.args.inputs.now c.loop-input.input-index c.input-item.result c.loop-input-test.true c.input-item.is port in
    let total = c.requires in
    let so_far = c.loop-input.invariant in
    let here = c.queues-count.ensures.count in
    omega (arith, more, total, so_far, here)
