use Rattle.std.proofs.Common.{◌≢◌, List, [], map, get_or, refl, sym, subst}
use Rattle.std.specs.List.{All, AllPairs}
use Rattle.jet_ring.specs.Ring.{tx_view}
use Rattle.jet_tasklet.specs.declared.any.AnyTasklet.{AnyTasklet}
use Rattle.jet_conveyor.specs.Conveyor.{view}
use Rattle.jet_crew.specs.Gather.{gather}
use Rattle.jet_engine.specs.declared.places.DestAt.{DestAt}
use Rattle.jet_engine.specs.declared.places.QueueAt.{QueueAt}
use Rattle.jet_engine.specs.declared.places.Junction.{Junction}
use Rattle.jet_engine.specs.declared.places.LinkAt.{LinkAt}
use Rattle.jet_engine.specs.Ends.{IsJoined, HasMet}
use Rattle.jet_engine.specs.Links.{AreLinked, HaveLinkMet, AreLinksApart}
use Rattle.jet_engine.specs.Looking.{Looked, Met, AreApart}
use Rattle.jet_engine.specs.Wiring.{TxMet, AreFed, HaveFed, AreDrained, HaveDrained}
use Rattle.jet_engine.proofs.Placewise.{placewise_same, placewise_trans}
use Rattle.jet_engine.proofs.Looking.{looked_trans}
use Rattle.jet_engine.proofs.Feeding.{tx_same}
use Rattle.jet_engine.proofs.Sweeping.{givers_of, takers_of}
use Rattle.jet_engine.proofs.Attending.{joined_linked, drained_on, all_fed_on, still_wired, all_met, all_attended}
use Rattle.jet_engine.proofs.sweep.meet_all.Goals as goal

pub meet_links-requires-clause-apart : goal.meet_links-requires-clause-apart
meet_links-requires-clause-apart c = subst (λ (ls : List LinkAt). AllPairs AreLinksApart ls) (sym c.deref.ensures.value) c.requires.wired.links_apart

pub meet_junctions-requires-clause-joined : goal.meet_junctions-requires-clause-joined
meet_junctions-requires-clause-joined c =
    let ts = gather c.args.workers.now.items c.args.order.now.items in
    let us = gather c.meet_links.new.workers.items c.args.order.now.items in
    subst (λ (js : List Junction). All (IsJoined us) js) (sym c.deref-2.ensures.value)
    (λ k d l. joined_linked ts us c.meet_links.ensures.looked (get_or c.args.wiring.now.junctions.items k d) (c.requires.wired.junctions k d l))

pub meet_junctions-requires-clause-apart : goal.meet_junctions-requires-clause-apart
meet_junctions-requires-clause-apart c = subst (λ (js : List Junction). AllPairs AreApart js) (sym c.deref-2.ensures.value) c.requires.wired.junctions_apart

pub meet_feeds-requires-clause-fed : goal.meet_feeds-requires-clause-fed
meet_feeds-requires-clause-fed c =
    let ts = gather c.args.workers.now.items c.args.order.now.items in
    let us = gather c.meet_links.new.workers.items c.args.order.now.items in
    let vs = gather c.meet_junctions.new.workers.items c.args.order.now.items in
    let txs = map tx_view c.args.txs.now in
    subst (λ (qs : List QueueAt). AreFed vs txs qs) (sym c.deref-3.ensures.value)
    (all_fed_on ts us vs c.meet_links.ensures.looked c.meet_junctions.ensures.others.looked txs txs c.args.wiring.now.feeds.items (placewise_same TxMet tx_same txs) c.requires.wired.feeds)

pub meet_feeds-requires-clause-apart : goal.meet_feeds-requires-clause-apart
meet_feeds-requires-clause-apart c = subst (λ (qs : List QueueAt). AllPairs (λ p q. p ≢ q) qs) (sym c.deref-3.ensures.value) c.requires.wired.feeds_apart

pub meet_drains-requires-clause-drained : goal.meet_drains-requires-clause-drained
meet_drains-requires-clause-drained c =
    let ts = gather c.args.workers.now.items c.args.order.now.items in
    let us = gather c.meet_links.new.workers.items c.args.order.now.items in
    let vs = gather c.meet_junctions.new.workers.items c.args.order.now.items in
    let xs = gather c.meet_feeds.new.workers.items c.args.order.now.items in
    let sink = view c.args.sink.now in
    let on = placewise_trans Looked looked_trans us vs xs c.meet_junctions.ensures.others.looked c.meet_feeds.ensures.others.looked in
    subst (λ (ds : List DestAt). AreDrained xs ds sink) (sym c.deref-4.ensures.value)
    (record { each = λ k e l. drained_on ts us xs c.meet_links.ensures.looked on sink sink (get_or c.args.wiring.now.drains.items k e) k refl (c.requires.wired.drains.each k e l) })

pub meet_drains-requires-clause-apart : goal.meet_drains-requires-clause-apart
meet_drains-requires-clause-apart c = subst (λ (ds : List DestAt). AllPairs (λ p q. p ≢ q) ds) (sym c.deref-4.ensures.value) c.requires.wired.drains_apart

-- the list of tasklets as it was, and after the links, the rings between tasklets, those of files and those to the sink
abbrev ts : goal.After-meet_drains → List AnyTasklet
ts c = gather c.args.workers.now.items c.args.order.now.items

abbrev us : goal.After-meet_drains → List AnyTasklet
us c = gather c.meet_links.new.workers.items c.args.order.now.items

abbrev vs : goal.After-meet_drains → List AnyTasklet
vs c = gather c.meet_junctions.new.workers.items c.args.order.now.items

abbrev xs : goal.After-meet_drains → List AnyTasklet
xs c = gather c.meet_feeds.new.workers.items c.args.order.now.items

abbrev ys : goal.After-meet_drains → List AnyTasklet
ys c = gather c.meet_drains.new.workers.items c.args.order.now.items

rings : (c : goal.After-meet_drains) → Met (us c) (vs c) (givers_of c.args.wiring.now.junctions.items) (takers_of c.args.wiring.now.junctions.items)
rings c = subst (λ (js : List Junction). Met (us c) (vs c) (givers_of js) (takers_of js)) c.deref-2.ensures.value c.meet_junctions.ensures.others

files : (c : goal.After-meet_drains) → Met (vs c) (xs c) [] c.args.wiring.now.feeds.items
files c = subst (λ (qs : List QueueAt). Met (vs c) (xs c) [] qs) c.deref-3.ensures.value c.meet_feeds.ensures.others

drains : (c : goal.After-meet_drains) → Met (xs c) (ys c) c.args.wiring.now.drains.items []
drains c = subst (λ (ds : List DestAt). Met (xs c) (ys c) ds []) c.deref-4.ensures.value c.meet_drains.ensures.others

pub returns-clause-wired : goal.returns-clause-wired
returns-clause-wired c =
    still_wired c.args.wiring.now (ts c) (us c) (vs c) (xs c) (ys c) (map tx_view c.args.txs.now) (map tx_view c.meet_feeds.new.txs) (view c.args.sink.now) (view c.meet_drains.new.sink)
    c.requires.wired c.meet_links.ensures.looked (rings c) (files c) (drains c)
    (subst (λ (ls : List LinkAt). All (AreLinked (us c)) ls) c.deref.ensures.value c.meet_links.ensures.joined)
    c.meet_feeds.ensures.txs c.meet_drains.ensures.sink

pub returns-clause-met : goal.returns-clause-met
returns-clause-met c =
    all_met c.args.wiring.now (ts c) (us c) (vs c) (xs c) (ys c) (map tx_view c.args.txs.now) (map tx_view c.meet_feeds.new.txs) (view c.args.sink.now) (view c.meet_drains.new.sink)
    c.requires.wired c.meet_links.ensures.looked (rings c) (files c) (drains c)
    (subst (λ (ls : List LinkAt). All (HaveLinkMet (us c)) ls) c.deref.ensures.value c.meet_links.ensures.met)
    (subst (λ (js : List Junction). All (HasMet (vs c)) js) c.deref-2.ensures.value c.meet_junctions.ensures.met)
    (subst (λ (qs : List QueueAt). HaveFed (xs c) (map tx_view c.meet_feeds.new.txs) qs) c.deref-3.ensures.value c.meet_feeds.ensures.met)
    (subst (λ (ds : List DestAt). HaveDrained (ys c) ds (view c.meet_drains.new.sink)) c.deref-4.ensures.value c.meet_drains.ensures.met)

pub returns-clause-tasklets : goal.returns-clause-tasklets
returns-clause-tasklets c =
    all_attended c.args.wiring.now (ts c) (us c) (vs c) (xs c) (ys c) (map tx_view c.args.txs.now) (map tx_view c.meet_feeds.new.txs) (view c.args.sink.now) (view c.meet_drains.new.sink)
    c.requires.wired c.meet_links.ensures.looked (rings c) (files c) (drains c)
