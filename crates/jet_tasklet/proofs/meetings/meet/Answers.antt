use Rattle.std.proofs.Common.{◌≡◌, ◌∙◌, sym, List}
use Rattle.std.specs.Prelude.{Some, slice_get}
use Rattle.std.proofs.lemmas.Option.{slice_get_within}
use Rattle.jet_ring.specs.Ring.{TxView, tx_ring, tx_view}
use Rattle.jet_items.specs.declared.item.Item.{Item}
use Rattle.jet_conveyor.specs.Conveyor as conveyor
use Rattle.jet_router.specs.Router as router
use Rattle.jet_router.specs.Lending.{with_tx}
use Rattle.jet_tasklet.specs.Kinds.{inputs_of, outputs_of}
use Rattle.jet_tasklet.specs.Views.{ins, outs}
use Rattle.jet_tasklet.proofs.Meets.{out_now, in_now, any_giver_met, any_taker_met, output_within, input_within, end_lent, queue_lent, dest_within, ring_lent, queue_ring, end_now, queue_end, is_queue, queue_now}
use Rattle.jet_tasklet.proofs.meetings.meet.Goals as goal

pub output-requires : goal.output-requires
output-requires c = output_within (outputs_of c.args.giver.now) c.args.output c.args.dest c.requires.joined.0 c.requires.joined.2

pub input-requires : goal.input-requires
input-requires c = input_within (inputs_of c.args.taker.now) c.args.input c.args.queue c.requires.joined.1 c.requires.joined.3

pub tx-tx-requires : goal.tx-tx-requires
tx-tx-requires c = dest_within c.output.result.now c.args.dest c.requires.joined.0 (end_lent (outputs_of c.args.giver.now) c.args.output c.args.dest c.requires.joined.0 c.output.result.now c.requires.joined.2 c.output.ensures.value)

pub refresh_queue-requires : goal.refresh_queue-requires
refresh_queue-requires c =
    let end = end_lent (outputs_of c.args.giver.now) c.args.output c.args.dest c.requires.joined.0 c.output.result.now c.requires.joined.2 c.output.ensures.value in
    let ring = ring_lent c.output.result.now c.args.dest c.requires.joined.0 c.tx-tx.result.now end c.tx-tx.ensures.value in
    let queue = queue_lent (inputs_of c.args.taker.now) c.args.input c.args.queue c.requires.joined.1 c.input.result.now c.requires.joined.3 c.input.ensures.value in
    queue_ring (conveyor.view c.input.result.now) c.args.queue c.requires.joined.1 (tx_ring c.tx-tx.result.now) queue (c.requires.joined.4 ∙ ring)

pub returns : goal.returns
returns c =
    let r = c.output.result.now in
    let w = c.refresh_queue.new.tx in
    let new = with_tx r c.args.dest c.tx-tx.result.now w in
    let lent = c.tx-tx.ensures.ends w in
    let within = slice_get_within (router.txs (router.view r)) c.args.dest (tx_view c.tx-tx.result.now) c.tx-tx.ensures.value in
    let met = c.tx-tx.ensures.meets w c.refresh_queue.ensures.ring c.refresh_queue.ensures.sent in
    let out = c.requires.joined.2 in
    let in_ = c.requires.joined.3 in
    let giver = any_giver_met c.args.giver.now c.args.output c.args.dest out.output r new out.at c.output.ensures.value met (λ came gave k. c.output.ensures.meets came gave c.args.dest new k met) in
    let taker = any_taker_met c.args.taker.now c.args.input c.args.queue in_.input c.input.result.now c.refresh_queue.new.self in_.at c.input.ensures.value c.refresh_queue.ensures.view (λ came gave k. c.input.ensures.meets came gave c.args.queue c.refresh_queue.new.self k c.refresh_queue.ensures.view) in
    let end = end_lent (outputs_of c.args.giver.now) c.args.output c.args.dest c.requires.joined.0 c.output.result.now c.requires.joined.2 c.output.ensures.value in
    let ring_is = ring_lent c.output.result.now c.args.dest c.requires.joined.0 c.tx-tx.result.now end c.tx-tx.ensures.value in
    let queue_is = queue_lent (inputs_of c.args.taker.now) c.args.input c.args.queue c.requires.joined.1 c.input.result.now c.requires.joined.3 c.input.ensures.value in
    let at = queue_ring (conveyor.view c.input.result.now) c.args.queue c.requires.joined.1 (tx_ring c.tx-tx.result.now) queue_is (c.requires.joined.4 ∙ ring_is) in
    let ring = tx_ring c.tx-tx.result.now in
    let queue = is_queue (conveyor.view c.input.result.now) (conveyor.view c.refresh_queue.new.self) c.args.queue ring at c.refresh_queue.ensures.view in
    record {
      giver = giver.0;
      taker = taker.0;
      met = (
        tx_view w,
        queue_end (conveyor.view c.refresh_queue.new.self) c.args.queue ring,
        end_now (outs c.args.giver.now) _ c.args.output c.args.dest giver.0.outputs (out_now out.output new) (tx_view w) (router.txs (router.view r)) giver.1 lent within,
        queue_now (ins c.args.taker.now) _ c.args.input c.args.queue taker.0.inputs (in_now in_.input c.refresh_queue.new.self) (queue_end (conveyor.view c.refresh_queue.new.self) c.args.queue ring) taker.1 queue,
        record {
          ring = sym c.refresh_queue.ensures.ring;
          all = c.refresh_queue.ensures.all;
          free = c.refresh_queue.ensures.free;
          slots = c.refresh_queue.ensures.slots;
        },
      );
    }
