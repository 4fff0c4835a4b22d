-- A list of destinations of which one was offered an item.
use Rattle.std.proofs.Common.{◌≡◌, ℕ, ◌<◌, List, map, set, length, get_or, Bool, sym, ◌∙◌, ap, arith}
use Rattle.std.proofs.lemmas.List.{map-set, get_or-map, length-map}
use Rattle.std.proofs.Math.Seq.{map-set_same}
use Rattle.std.proofs.Math.ListN.{get_or-map as get_or-map_any}
use Rattle.jet_items.specs.declared.item.Item.{Item}
use Rattle.jet_ring.specs.declared.ends.Tx.{Tx}
use Rattle.jet_ring.specs.Ring.{TxView, tx_view, tx_ring, sent, known_free}
use Rattle.jet_router.specs.declared.dest.Dest.{Dest}
use Rattle.jet_router.specs.Dest.{DestView, dest_view}

-- a part of the end of each destination
abbrev pub parts : {B : Type 0} → (TxView Item → B) → List Dest → List B
parts f xs = map f (map (λ (d : DestView). d.tx) (map dest_view xs))

-- where no part of the end changed, nothing did
pub same_dest : (a b : Tx Item) (had : Bool) → tx_ring b ≡ tx_ring a → sent b ≡ sent a → known_free b ≡ known_free a → dest_view (record { tx = b; had = had }) ≡ dest_view (record { tx = a; had = had })
same_dest a b had r s f =
    let mk : _ → _ → _ → DestView = λ x y z. record { tx = record { ring = x; sent = y; free = z }; had = had } in
    ap (λ x. mk x (sent b) (known_free b)) r ∙ ap (λ y. mk (tx_ring a) y (known_free b)) s ∙ ap (λ z. mk (tx_ring a) (sent a) z) f

module _ {B : Type 0} (f : TxView Item → B) where
  pub parts-set : (xs : List Dest) (d : ℕ) (y : Dest) (z : B) → f (tx_view y.tx) ≡ z → parts f (set xs d y) ≡ set (parts f xs) d z
  parts-set xs d y z e =
      ap (λ w. map f (map (λ (v : DestView). v.tx) w)) (map-set dest_view xs d y)
      ∙ ap (map f) (map-set (λ (v : DestView). v.tx) (map dest_view xs) d (dest_view y))
      ∙ map-set f (map (λ (v : DestView). v.tx) (map dest_view xs)) d (tx_view y.tx)
      ∙ ap (λ w. set (parts f xs) d w) e

  pub at-parts : (xs : List Dest) (d : ℕ) (was : Dest) (e : B) → d < length xs → was ≡ get_or xs d was → get_or (parts f xs) d e ≡ f (tx_view was.tx)
  at-parts xs d was e lt at =
      let g : Dest → B = λ v. f (tx_view v.tx) in
      let l = length-map xs dest_view in
      let m = length-map (map dest_view xs) (λ (v : DestView). v.tx) in
      get_or-map f (map (λ (v : DestView). v.tx) (map dest_view xs)) d (tx_view was.tx) e (omega (arith, l, m, lt))
      ∙ ap f (get_or-map (λ (v : DestView). v.tx) (map dest_view xs) d (dest_view was) (tx_view was.tx) (omega (arith, l, lt)))
      ∙ ap (λ (v : DestView). f v.tx) (get_or-map dest_view xs d was (dest_view was) lt)
      ∙ ap g (sym at)

  pub parts_kept : (xs : List Dest) (d : ℕ) (was y : Dest) → was ≡ get_or xs d was → f (tx_view y.tx) ≡ f (tx_view was.tx) → parts f (set xs d y) ≡ parts f xs
  parts_kept xs d was y at e =
      let l : List (TxView Item) = map (λ (v : DestView). v.tx) (map dest_view xs) in
      let here : get_or l d (tx_view was.tx) ≡ tx_view was.tx =
      get_or-map_any (λ (v : DestView). v.tx) (map dest_view xs) d (dest_view was)
      ∙ ap (λ (v : DestView). v.tx) (get_or-map_any dest_view xs d was)
      ∙ ap (λ (v : Dest). tx_view v.tx) (sym at) in
      ap (λ w. map f (map (λ (v : DestView). v.tx) w)) (map-set dest_view xs d y)
      ∙ ap (map f) (map-set (λ (v : DestView). v.tx) (map dest_view xs) d (dest_view y))
      ∙ map-set_same f l d (tx_view y.tx) (tx_view was.tx) (e ∙ ap f (sym here))

-- no end, and no destination, looks changed
pub dests_kept : (xs : List Dest) (d : ℕ) (was y : Dest) → was ≡ get_or xs d was → dest_view y ≡ dest_view was → map dest_view (set xs d y) ≡ map dest_view xs
dests_kept xs d was y at e = map-set_same dest_view xs d y was (e ∙ ap dest_view at)
