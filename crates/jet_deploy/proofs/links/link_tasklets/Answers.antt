use Rattle.std.proofs.Common.{arith, rules, ◌≡◌, ◌∙◌, ◌+◌, ◌<◌, [], ◌∷◌, false, List, length, map, get_or, ap, refl, sym, subst}
use Rattle.std.proofs.lemmas.List.{length-map}
use Rattle.std.proofs.lemmas.Option.{get_or_from_slice_get}
use Rattle.jet_conveyor.specs.Conveyor as conveyor
use Rattle.jet_harness.specs.Harness.{txs_of, rxs_of}
use Rattle.jet_ring.specs.Ring.{tx_view}
use Rattle.jet_boxes.specs.declared.port.Port.TheVariants.{Stream}
use Rattle.jet_router.specs.Router as router
use Rattle.jet_tasklet.specs.Inputs.{InputView}
use Rattle.jet_tasklet.specs.Outputs.{ready}
use Rattle.jet_deploy.specs.Ends.{input_at, output_at, router_over}
use Rattle.jet_deploy.proofs.Fresh.{input_is, no_joint}
use Rattle.jet_deploy.proofs.Linking.{few_rxs, queues_unread, router_unsent, remains_two, fits_over}
use Rattle.jet_deploy.proofs.links.link_tasklets.Goals as goal

abbrev over : conveyor.View → InputView
over v = record { port = Stream; queues = v }

pub new-requires : goal.new-requires
new-requires c =
    let fresh = c.requires.can.from.rxs 0 in
    let few = few_rxs c.in_ok-queues.queues.items (rxs_of c.args.harness.now (input_at c.args.task 0)) fresh.0 c.in_ok-queues.ensures.taken fresh.1 fresh.2 in
    omega (arith, few)

pub new-requires-2-clause-unread : goal.new-requires-2-clause-unread
new-requires-2-clause-unread c =
    let fresh = c.requires.can.from.rxs 0 in
    queues_unread (conveyor.view c.in_ok-conveyor.conveyor) c.in_ok-queues.queues.items (rxs_of c.args.harness.now (input_at c.args.task 0)) fresh.0 c.in_ok-conveyor.ensures.new c.in_ok-queues.ensures.taken fresh.1

pub overflow_add-output : goal.overflow_add-output
overflow_add-output c = let small = c.requires.small in search (rules, arith)

pub router-requires-clause-fits : goal.router-requires-clause-fits
router-requires-clause-fits c =
    let joint = get_or_from_slice_get c.args.ground.joints.now c.args.between.edge c.requires.can.joint no_joint c.requires.can.at in
    let txs : map tx_view c.in_ok-txs.txs.items ≡ txs_of c.args.harness.now (output_at (c.args.task + 1) 0) = c.in_ok-txs.ensures.taken ∙ c.take_rxs.ensures.givers (output_at (c.args.task + 1) 0) in
    let size : length (map tx_view c.in_ok-txs.txs.items) ≡ length c.in_ok-txs.txs.items = simp length-map in
    let whole = ap length txs in
    fits_over c.args.ground.members (get_or c.args.ground.joints.now c.args.between.edge no_joint) c.requires.can.joint c.args.between.to _ (txs_of c.args.harness.now (output_at (c.args.task + 1) 0)) joint (omega (arith, size, whole)) c.requires.can.fit

pub new-receiver-requires-clause-unsent : goal.new-receiver-requires-clause-unsent
new-receiver-requires-clause-unsent c =
    let txs : map tx_view c.in_ok-txs.txs.items ≡ txs_of c.args.harness.now (output_at (c.args.task + 1) 0) = c.in_ok-txs.ensures.taken ∙ c.take_rxs.ensures.givers (output_at (c.args.task + 1) 0) in
    let fresh = c.requires.can.to.txs 0 in
    let some = c.requires.can.fit.some in
    let whole = ap length txs in
    router_unsent (router.view c.in_ok-router.router) c.args.ground.members (get_or c.args.ground.joints.now c.args.between.edge no_joint) c.args.between.to (map tx_view c.in_ok-txs.txs.items) fresh.0 c.in_ok-router.ensures (txs ∙ fresh.1) (omega (arith, whole, some))

pub returns-clause-sends : goal.returns-clause-sends
returns-clause-sends c =
    record {
      inputs = ap (λ v. over v ∷ []) c.in_ok-sender.ensures.queues ∙ ap (λ i. i ∷ []) (input_is Stream (conveyor.view c.in_ok-conveyor.conveyor) c.in_ok-queues.queues.items (rxs_of c.args.harness.now (input_at c.args.task 0)) c.in_ok-conveyor.ensures.new c.in_ok-queues.ensures.taken);
      outputs = refl;
    }

pub returns-clause-receives : goal.returns-clause-receives
returns-clause-receives c =
    let joint = get_or_from_slice_get c.args.ground.joints.now c.args.between.edge c.requires.can.joint no_joint c.requires.can.at in
    let txs : map tx_view c.in_ok-txs.txs.items ≡ txs_of c.args.harness.now (output_at (c.args.task + 1) 0) = c.in_ok-txs.ensures.taken ∙ c.take_rxs.ensures.givers (output_at (c.args.task + 1) 0) in
    record {
      joint = c.requires.can.joint;
      at = c.requires.can.at;
      inputs = refl;
      outputs = ap (λ v. ready v ∷ []) (c.new-receiver.ensures.router ∙ (c.in_ok-router.ensures ∙ (ap (λ j. router_over c.args.ground.members j false c.args.between.to (map tx_view c.in_ok-txs.txs.items)) joint
          ∙ ap (router_over c.args.ground.members c.requires.can.joint false c.args.between.to) txs)));
    }

pub returns-clause-leaves : goal.returns-clause-leaves
returns-clause-leaves c =
    remains_two c.args.task c.args.harness.now c.take_rxs.new.self c.take_txs.new.self c.in_ok-queues.ensures.others c.take_rxs.ensures.givers c.in_ok-txs.ensures.others c.take_txs.ensures.takers
