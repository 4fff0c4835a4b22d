use Rattle.std.proofs.Common.{sym}
use Rattle.jet_ring.specs.Ring.{tx_ring}
use Rattle.jet_conveyor.specs.Conveyor as conveyor
use Rattle.jet_tasklet.specs.Kinds.{inputs_of}
use Rattle.jet_tasklet.specs.Views.{ins}
use Rattle.jet_tasklet.proofs.Meets.{in_now, any_taker_met, input_within, queue_lent, queue_ring, queue_end, is_queue, queue_now}
use Rattle.jet_tasklet.proofs.meetings.meet_source.Goals as goal

pub input-requires : goal.input-requires
input-requires c = input_within (inputs_of c.args.taker.now) c.args.input c.args.queue c.requires.joined.0 c.requires.joined.1

pub refresh_queue-requires : goal.refresh_queue-requires
refresh_queue-requires c =
    let queue = queue_lent (inputs_of c.args.taker.now) c.args.input c.args.queue c.requires.joined.0 c.input.result.now c.requires.joined.1 c.input.ensures.value in
    queue_ring (conveyor.view c.input.result.now) c.args.queue c.requires.joined.0 (tx_ring c.args.tx.now) queue c.requires.joined.2

pub returns : goal.returns
returns c =
    let in_ = c.requires.joined.1 in
    let now = c.refresh_queue.new.self in
    let taker = any_taker_met c.args.taker.now c.args.input c.args.queue in_.input c.input.result.now now in_.at c.input.ensures.value c.refresh_queue.ensures.view (λ came gave k. c.input.ensures.meets came gave c.args.queue c.refresh_queue.new.self k c.refresh_queue.ensures.view) in
    let queue_is = queue_lent (inputs_of c.args.taker.now) c.args.input c.args.queue c.requires.joined.0 c.input.result.now in_ c.input.ensures.value in
    let at = queue_ring (conveyor.view c.input.result.now) c.args.queue c.requires.joined.0 (tx_ring c.args.tx.now) queue_is c.requires.joined.2 in
    let end = queue_end (conveyor.view now) c.args.queue (tx_ring c.args.tx.now) in
    let queue = is_queue (conveyor.view c.input.result.now) (conveyor.view now) c.args.queue (tx_ring c.args.tx.now) at c.refresh_queue.ensures.view in
    record {
      ring = c.refresh_queue.ensures.ring;
      sent = c.refresh_queue.ensures.sent;
      reach = c.refresh_queue.ensures.reach;
      taker = taker.0;
      met = (
        end,
        queue_now (ins c.args.taker.now) _ c.args.input c.args.queue taker.0.inputs (in_now in_.input now) end taker.1 queue,
        record {
          ring = sym c.refresh_queue.ensures.ring;
          all = c.refresh_queue.ensures.all;
          free = c.refresh_queue.ensures.free;
          slots = c.refresh_queue.ensures.slots;
        },
      );
    }
