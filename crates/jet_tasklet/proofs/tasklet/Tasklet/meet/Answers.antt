use Rattle.std.proofs.Common.{◌≡◌, ◌∙◌, refl, sym, List}
use Rattle.std.specs.Prelude.{Some, slice_get}
use Rattle.std.proofs.lemmas.Option.{slice_get_within}
use Rattle.jet_ring.specs.Ring.{TxView, tx_ring, tx_view}
use Rattle.jet_items.specs.declared.item.Item.{Item}
use Rattle.jet_conveyor.specs.Conveyor as conveyor
use Rattle.jet_router.specs.Router as router
use Rattle.jet_router.specs.Lending.{with_tx}
use Rattle.jet_tasklet.specs.Inputs.{inputs_view}
use Rattle.jet_tasklet.specs.Outputs.{outputs_view}
use Rattle.jet_tasklet.proofs.Meets.{out_now, in_now, giver_met, taker_met, output_within, input_within, end_lent, queue_lent, dest_within, ring_lent, queue_ring, end_now, queue_end, is_queue, queue_now}
use Rattle.jet_tasklet.proofs.tasklet.Tasklet.meet.Goals as goal

pub output-requires : goal.output-requires
output-requires g c = output_within c.args.self.now.outputs.items c.args.output c.args.dest c.requires.joined.0 c.requires.joined.2

pub input-requires : goal.input-requires
input-requires g c = input_within c.args.taker.now.inputs.items c.args.input c.args.queue c.requires.joined.1 c.requires.joined.3

pub tx-tx-requires : goal.tx-tx-requires
tx-tx-requires g c = dest_within c.output.result.now c.args.dest c.requires.joined.0 (end_lent c.args.self.now.outputs.items c.args.output c.args.dest c.requires.joined.0 c.output.result.now c.requires.joined.2 c.output.ensures.value)

pub refresh_queue-requires : goal.refresh_queue-requires
refresh_queue-requires g c =
    let end = end_lent c.args.self.now.outputs.items c.args.output c.args.dest c.requires.joined.0 c.output.result.now c.requires.joined.2 c.output.ensures.value in
    let ring = ring_lent c.output.result.now c.args.dest c.requires.joined.0 c.tx-tx.result.now end c.tx-tx.ensures.value in
    let queue = queue_lent c.args.taker.now.inputs.items c.args.input c.args.queue c.requires.joined.1 c.input.result.now c.requires.joined.3 c.input.ensures.value in
    queue_ring (conveyor.view c.input.result.now) c.args.queue c.requires.joined.1 (tx_ring c.tx-tx.result.now) queue (c.requires.joined.4 ∙ ring)

pub returns : goal.returns
returns g c =
    let r = c.output.result.now in
    let w = c.refresh_queue.new.tx in
    let new = with_tx r c.args.dest c.tx-tx.result.now w in
    let lent = c.tx-tx.ensures.ends w in
    let within = slice_get_within (router.txs (router.view r)) c.args.dest (tx_view c.tx-tx.result.now) c.tx-tx.ensures.value in
    let met = c.tx-tx.ensures.meets w c.refresh_queue.ensures.ring c.refresh_queue.ensures.sent in
    let out = c.requires.joined.2 in
    let in_ = c.requires.joined.3 in
    let giver = giver_met g.P.Processor.stands g.P.Processor.amid g.P.Processor.takes c.args.self.now c.args.output c.args.dest out.output r new out.at c.output.ensures.value met in
    let taker = taker_met g.Q.Processor.stands g.Q.Processor.amid g.Q.Processor.takes c.args.taker.now c.args.input c.args.queue in_.input c.input.result.now c.refresh_queue.new.self in_.at c.input.ensures.value c.refresh_queue.ensures.view in
    let end = end_lent c.args.self.now.outputs.items c.args.output c.args.dest c.requires.joined.0 c.output.result.now c.requires.joined.2 c.output.ensures.value in
    let ring_is = ring_lent c.output.result.now c.args.dest c.requires.joined.0 c.tx-tx.result.now end c.tx-tx.ensures.value in
    let queue_is = queue_lent c.args.taker.now.inputs.items c.args.input c.args.queue c.requires.joined.1 c.input.result.now c.requires.joined.3 c.input.ensures.value in
    let at = queue_ring (conveyor.view c.input.result.now) c.args.queue c.requires.joined.1 (tx_ring c.tx-tx.result.now) queue_is (c.requires.joined.4 ∙ ring_is) in
    let ring = tx_ring c.tx-tx.result.now in
    let queue = is_queue (conveyor.view c.input.result.now) (conveyor.view c.refresh_queue.new.self) c.args.queue ring at c.refresh_queue.ensures.view in
    record {
      giver = giver;
      taker = taker;
      met = (
        tx_view w,
        queue_end (conveyor.view c.refresh_queue.new.self) c.args.queue ring,
        end_now (outputs_view c.args.self.now.outputs.items) _ c.args.output c.args.dest giver.outputs (out_now out.output new) (tx_view w) (router.txs (router.view r)) refl lent within,
        queue_now (inputs_view c.args.taker.now.inputs.items) _ c.args.input c.args.queue taker.inputs (in_now in_.input c.refresh_queue.new.self) (queue_end (conveyor.view c.refresh_queue.new.self) c.args.queue ring) refl queue,
        record {
          ring = sym c.refresh_queue.ensures.ring;
          all = c.refresh_queue.ensures.all;
          free = c.refresh_queue.ensures.free;
          slots = c.refresh_queue.ensures.slots;
        },
      );
    }
