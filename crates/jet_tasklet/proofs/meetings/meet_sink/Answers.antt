use Rattle.std.proofs.Common.{◌∙◌, sym}
use Rattle.std.proofs.lemmas.Option.{slice_get_within}
use Rattle.jet_ring.specs.Ring.{tx_ring, tx_view}
use Rattle.jet_conveyor.specs.Conveyor as conveyor
use Rattle.jet_router.specs.Router as router
use Rattle.jet_router.specs.Lending.{with_tx}
use Rattle.jet_tasklet.specs.Kinds.{outputs_of}
use Rattle.jet_tasklet.specs.Views.{outs}
use Rattle.jet_tasklet.proofs.Meets.{out_now, any_giver_met, output_within, end_lent, dest_within, ring_lent, queue_ring, end_now, queue_end, is_queue}
use Rattle.jet_tasklet.proofs.meetings.meet_sink.Goals as goal

pub output-requires : goal.output-requires
output-requires c = output_within (outputs_of c.args.giver.now) c.args.output c.args.dest c.requires.joined.0 c.requires.joined.2

pub tx-tx-requires : goal.tx-tx-requires
tx-tx-requires c = dest_within c.output.result.now c.args.dest c.requires.joined.0 (end_lent (outputs_of c.args.giver.now) c.args.output c.args.dest c.requires.joined.0 c.output.result.now c.requires.joined.2 c.output.ensures.value)

pub refresh_queue-requires : goal.refresh_queue-requires
refresh_queue-requires c =
    let end = end_lent (outputs_of c.args.giver.now) c.args.output c.args.dest c.requires.joined.0 c.output.result.now c.requires.joined.2 c.output.ensures.value in
    let ring = ring_lent c.output.result.now c.args.dest c.requires.joined.0 c.tx-tx.result.now end c.tx-tx.ensures.value in
    queue_ring (conveyor.view c.args.conveyor.now) c.args.queue c.requires.joined.1 (tx_ring c.tx-tx.result.now) c.requires.joined.3 (c.requires.joined.4 ∙ ring)

pub returns : goal.returns
returns c =
    let r = c.output.result.now in
    let w = c.refresh_queue.new.tx in
    let new = with_tx r c.args.dest c.tx-tx.result.now w in
    let now = c.refresh_queue.new.self in
    let out = c.requires.joined.2 in
    let within = slice_get_within (router.txs (router.view r)) c.args.dest (tx_view c.tx-tx.result.now) c.tx-tx.ensures.value in
    let met = c.tx-tx.ensures.meets w c.refresh_queue.ensures.ring c.refresh_queue.ensures.sent in
    let giver = any_giver_met c.args.giver.now c.args.output c.args.dest out.output r new out.at c.output.ensures.value met (λ came gave k. c.output.ensures.meets came gave c.args.dest new k met) in
    let end = end_lent (outputs_of c.args.giver.now) c.args.output c.args.dest c.requires.joined.0 r out c.output.ensures.value in
    let ring_is = ring_lent r c.args.dest c.requires.joined.0 c.tx-tx.result.now end c.tx-tx.ensures.value in
    let at = queue_ring (conveyor.view c.args.conveyor.now) c.args.queue c.requires.joined.1 (tx_ring c.tx-tx.result.now) c.requires.joined.3 (c.requires.joined.4 ∙ ring_is) in
    let ring = tx_ring c.tx-tx.result.now in
    record {
      giver = giver.0;
      conveyor = c.refresh_queue.ensures.view;
      seen = c.refresh_queue.ensures.seen;
      met = (
        tx_view w,
        queue_end (conveyor.view now) c.args.queue ring,
        end_now (outs c.args.giver.now) _ c.args.output c.args.dest giver.0.outputs (out_now out.output new) (tx_view w) (router.txs (router.view r)) giver.1 (c.tx-tx.ensures.ends w) within,
        is_queue (conveyor.view c.args.conveyor.now) (conveyor.view now) c.args.queue ring at c.refresh_queue.ensures.view,
        record {
          ring = sym c.refresh_queue.ensures.ring;
          all = c.refresh_queue.ensures.all;
          free = c.refresh_queue.ensures.free;
          slots = c.refresh_queue.ensures.slots;
        },
      );
    }
