use Rattle.std.proofs.Common.{◌≡◌, [], ◌<◌, List, ◌∙◌, ap, refl, length, map, arith, get_or, false, Some, slice_get}
use Rattle.std.specs.Vec.{with_item}
use Rattle.std.specs.Option.{option_map}
use Rattle.std.proofs.lemmas.List.{length-map, get_or_default}
use Rattle.std.proofs.lemmas.Option.{slice_get_read, slice_get-map}
use Rattle.jet_router.specs.declared.dest.Dest.{Dest}
use Rattle.jet_router.specs.Dest.{DestView, dest_view}
use Rattle.jet_ring.specs.Ring.{tx_view}
use Rattle.jet_router.specs.Router.{view, txs}
use Rattle.jet_router.proofs.Lent.{txs-with_tx, at-with_tx, refreshed-with_tx}
use Rattle.jet_router.proofs.Same.{same_router}
use Rattle.jet_router.proofs.router.Router.tx.Goals as goal

pub returns : goal.returns
returns c =
    let xs : List Dest = c.args.self.now.dests.items in
    let was : Dest = c.index_mut-lent.result.now in
    let at : was ≡ get_or xs c.args.dest was = c.index_mut-lent.ensures.value in
    let long = length-map xs dest_view in
    let lt : c.args.dest < length xs = omega (arith, long, c.requires) in
    let other : Dest = record { tx = was.tx; had = false } in
    let same : was ≡ get_or xs c.args.dest other = at ∙ get_or_default xs c.args.dest was other lt in
    let value : slice_get (txs (view c.args.self.now)) c.args.dest ≡ Some (tx_view was.tx) =
    slice_get-map (λ (d : DestView). d.tx) (map dest_view xs) c.args.dest
    ∙ ap (option_map (λ (d : DestView). d.tx)) (slice_get-map dest_view xs c.args.dest)
    ∙ ap (λ o. option_map (λ (d : DestView). d.tx) (option_map dest_view o)) (slice_get_read xs (length xs) c.args.dest was refl lt at) in (
      (
        refl,
        λ w.
            same_router _ _ _ _
            (ap (λ (d : Dest). let e : Dest = record { tx = w; had = d.had } in with_item c.args.self.now.dests c.args.dest e) same)
            _ _ _ _ _ _ _ _,
      ),
      record {
        writes_back = tt;
        value = value;
        ends = λ w. txs-with_tx c.args.self.now c.args.dest was.tx w;
        sent = λ w. at-with_tx (λ t. t.sent) c.args.self.now c.args.dest was.tx w [] value;
        free = λ w. at-with_tx (λ t. t.free) c.args.self.now c.args.dest was.tx w 0 value;
        meets = λ w ring sent. refreshed-with_tx c.args.self.now c.args.dest was.tx w value ring sent;
      },
    )
