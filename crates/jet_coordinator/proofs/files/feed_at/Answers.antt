use Rattle.std.proofs.Common.{get_or, arith}
use Rattle.std.proofs.lemmas.Option.{slice_get-get_or}
use Rattle.jet_ring.specs.Ring.{sent}
use Rattle.jet_worker.specs.declared.stop.Spot.TheVariants.{Part}
use Rattle.jet_feed.specs.Fed.{IsBadIn, IsLast}
use Rattle.jet_coordinator.proofs.ReadLemmas.{bad_among, fed_on, if_err, on_ok, read_among, rings_on}
use Rattle.jet_coordinator.proofs.files.feed_at.Goals as goal

pub returns-clause-fed : goal.returns-clause-fed
returns-clause-fed g c =
    let feeds = c.args.feeds.now in
    let txs = c.args.txs.now in
    let n = c.args.number in
    let feed = get_or feeds n c.index-feeds-number.result in
    let tx = get_or txs n c.index-txs-number.result in
    on_ok (fed_on (IsLast (Part feed.part) feed.file c.feed.result) (g.O.Outside.told c.args.out.now) (g.O.Outside.told c.feed.new.out) feeds txs n feed c.feed.new.self tx c.feed.new.tx
    (slice_get-get_or feeds n c.index-feeds-number.result c.requires.place) (slice_get-get_or txs n c.index-txs-number.result (omega (arith, c.requires.place, c.requires.rings)))
    c.requires.apart c.feed.ensures.told c.feed.ensures.kept) c.feed.result

pub returns-clause-bad : goal.returns-clause-bad
returns-clause-bad g c =
    let feeds = c.args.feeds.now in
    let txs = c.args.txs.now in
    let n = c.args.number in
    let feed = get_or feeds n c.index-feeds-number.result in
    let tx = get_or txs n c.index-txs-number.result in
    if_err (IsBadIn feed (g.O.Outside.told c.args.out.now) (sent tx)) _
    (λ stop bad. bad_among (g.O.Outside.told c.args.out.now) feeds txs n feed tx stop
    (slice_get-get_or feeds n c.index-feeds-number.result c.requires.place) (slice_get-get_or txs n c.index-txs-number.result (omega (arith, c.requires.place, c.requires.rings))) bad)
    c.feed.result c.feed.ensures.bad

pub returns-clause-rings : goal.returns-clause-rings
returns-clause-rings g c =
    rings_on c.args.txs.now c.args.number (get_or c.args.txs.now c.args.number c.index-txs-number.result) c.feed.new.tx
    (slice_get-get_or c.args.txs.now c.args.number c.index-txs-number.result (omega (arith, c.requires.place, c.requires.rings))) c.feed.ensures.ring

pub returns-clause-told : goal.returns-clause-told
returns-clause-told g c =
    read_among c.args.feeds.now c.args.number (get_or c.args.feeds.now c.args.number c.index-feeds-number.result) c.feed.result (g.O.Outside.told c.args.out.now) (g.O.Outside.told c.feed.new.out)
    (slice_get-get_or c.args.feeds.now c.args.number c.index-feeds-number.result c.requires.place) c.feed.ensures.told
