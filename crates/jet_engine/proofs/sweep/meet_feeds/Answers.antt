use Rattle.std.proofs.Common.{◌+◌, ◌<◌, List, [], map, length, get_or, refl, sym, ◌∙◌, subst, arith}
use Rattle.std.proofs.lemmas.List.{take_all, map-set, length-map}
use Rattle.std.proofs.Math.ListN.{get_or-map}
use Rattle.jet_items.specs.declared.item.Item.{Item}
use Rattle.jet_ring.specs.Ring.{TxView, tx_view}
use Rattle.jet_crew.specs.Gather.{gather}
use Rattle.jet_engine.specs.declared.places.QueueAt.{QueueAt}
use Rattle.jet_engine.specs.Ends.{IsFed}
use Rattle.jet_engine.specs.Looking.{Met}
use Rattle.jet_engine.specs.Wiring.{TxMet}
use Rattle.jet_engine.proofs.Feeding.{FedSoFar, none_fed, fed_at, one_fed}
use Rattle.jet_engine.proofs.sweep.meet_feeds.Goals as goal

abbrev nowhere : QueueAt
nowhere = record { task = 0; input = 0; queue = 0 }

pub loop-file-init : goal.loop-file-init
loop-file-init c = (c.requires.placed, refl, none_fed c.args.feeds.now (gather c.args.workers.now.items c.args.order.now.items) (map tx_view c.args.txs.now))

pub meet_feed-requires-clause-placed : goal.meet_feed-requires-clause-placed
meet_feed-requires-clause-placed c = c.loop-file.invariant.0

pub meet_feed-requires-clause-joined : goal.meet_feed-requires-clause-joined
meet_feed-requires-clause-joined c =
    let us = gather c.loop-file.workers.items c.args.order.now.items in
    let p = get_or c.args.feeds.now c.loop-file.file nowhere in
    subst (λ (t : TxView Item). IsFed us t p) (get_or-map tx_view c.loop-file.txs c.loop-file.file c.index-txs-file.result)
    (fed_at c.args.feeds.now (gather c.args.workers.now.items c.args.order.now.items) us (map tx_view c.args.txs.now) (map tx_view c.loop-file.txs) c.loop-file.file
    (tx_view c.index-txs-file.result) nowhere c.requires.fed c.loop-file-test.true c.loop-file.invariant.2)

pub loop-file-preserved : goal.loop-file-preserved
loop-file-preserved c =
    let ts = gather c.args.workers.now.items c.args.order.now.items in
    let us = gather c.loop-file.workers.items c.args.order.now.items in
    let xs = gather c.meet_feed.new.workers.items c.args.order.now.items in
    let feeds = c.args.feeds.now in
    let n = c.loop-file.file in
    let d = c.index-txs-file.result in
    let now = c.meet_feed.new.tx in
    let was = get_or-map tx_view c.loop-file.txs n d in
    let inside : n < length (map tx_view c.loop-file.txs) =
    (let l = c.loop-file-test.true in let a = c.loop-file.auto.txs in let b = c.requires.fed.count in let e = length-map c.loop-file.txs tx_view in let f = length-map c.args.txs.now tx_view in omega (arith, l, a, b, e, f)) in
    let tx : TxMet (get_or (map tx_view c.loop-file.txs) n (tx_view d)) (tx_view now) =
    subst (λ (t : TxView Item). TxMet t (tx_view now)) (sym was) (record { ring = c.meet_feed.ensures.ring; sent = c.meet_feed.ensures.sent; reach = c.meet_feed.ensures.reach }) in (
      c.meet_feed.ensures.placed,
      c.meet_feed.ensures.epochs ∙ c.loop-file.invariant.1,
      subst (λ (ws : List (TxView Item)). FedSoFar feeds ts xs (map tx_view c.args.txs.now) ws (n + 1)) (sym (map-set tx_view c.loop-file.txs n now))
          (one_fed feeds ts us xs (map tx_view c.args.txs.now) (map tx_view c.loop-file.txs) n (tx_view d) nowhere (tx_view now) c.requires.apart c.loop-file-test.true inside c.loop-file.invariant.2 c.meet_feed.ensures.met tx c.meet_feed.ensures.others),
    )

pub returns-clause-met : goal.returns-clause-met
returns-clause-met c = record { each = λ k d e l. c.loop-file.invariant.2.met k d e (let n = c.loop-file-test.false in omega (arith, n, l)) }

pub returns-clause-txs : goal.returns-clause-txs
returns-clause-txs c = c.loop-file.invariant.2.txs

pub returns-clause-others : goal.returns-clause-others
returns-clause-others c =
    subst (λ (qs : List QueueAt). Met (gather c.args.workers.now.items c.args.order.now.items) (gather c.loop-file.workers.items c.args.order.now.items) [] qs)
    (take_all c.loop-file.file c.args.feeds.now (let n = c.loop-file-test.false in omega (arith, n))) c.loop-file.invariant.2.others

pub returns-clause-placed : goal.returns-clause-placed
returns-clause-placed c = c.loop-file.invariant.0

pub returns-clause-epochs : goal.returns-clause-epochs
returns-clause-epochs c = c.loop-file.invariant.1
