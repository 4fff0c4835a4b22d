use Rattle.std.proofs.Common.{◌≡◌, ◌+◌, List, length, sym, ◌∙◌, ap, [], Some, slice_get}
use Rattle.std.specs.Option.{option_map}
use Rattle.std.proofs.lemmas.Option.{slice_get-map}
use Rattle.jet_items.specs.declared.item.Item.{Item}
use Rattle.jet_ring.specs.Ring as ring
use Rattle.jet_router.specs.Router.{view, txs, rings}
use Rattle.jet_router.proofs.Lent.{refreshed-with_tx, at-with_tx, reach-with_tx}
use Rattle.jet_router.proofs.router.Router.refresh_dest.Goals as goal

pub returns-clause-view : goal.returns-clause-view
returns-clause-view c = refreshed-with_tx c.args.self.now c.args.dest c.tx.result.now c.refresh.new.tx c.tx.ensures.value c.refresh.ensures.tx_ring c.refresh.ensures.sent

pub returns-clause-all : goal.returns-clause-all
returns-clause-all c =
    c.refresh.ensures.all ∙ sym (at-with_tx (λ t. t.sent) c.args.self.now c.args.dest c.tx.result.now c.refresh.new.tx [] c.tx.ensures.value)

pub returns-clause-free : goal.returns-clause-free
returns-clause-free c =
    let ends : List (ring.TxView Item) = txs (view c.args.self.now) in
    let here : slice_get (rings (view c.args.self.now)) c.args.dest ≡ Some (ring.tx_ring c.tx.result.now) =
    slice_get-map (λ (t : ring.TxView Item). t.ring) ends c.args.dest ∙ ap (option_map (λ (t : ring.TxView Item). t.ring)) c.tx.ensures.value in
    let pair : ring.tx_ring c.tx.result.now ≡ ring.rx_ring c.args.rx.now = cc (here, c.requires) in
    let cap : ring.tx_cap c.refresh.new.tx ≡ ring.rx_cap c.refresh.new.rx =
    ap (λ (r : ring.Ring). r.cap) (c.refresh.ensures.tx_ring ∙ pair ∙ sym c.refresh.ensures.rx_ring) in
    ap (λ n. n + length (ring.known_items c.refresh.new.rx))
    (at-with_tx (λ t. t.free) c.args.self.now c.args.dest c.tx.result.now c.refresh.new.tx 0 c.tx.ensures.value)
    ∙ c.refresh.ensures.free ∙ cap

pub returns-clause-reach : goal.returns-clause-reach
returns-clause-reach c k = reach-with_tx c.args.self.now c.args.dest k c.tx.result.now c.refresh.new.tx c.tx.ensures.value c.refresh.ensures.reach
