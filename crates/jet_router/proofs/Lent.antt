-- A router whose lent end has come back.
use Rattle.std.proofs.Common.{◌≡◌, ℕ, ◌+◌, ◌≤◌, List, map, set, get_or, slice_get, length, sym, ◌∙◌, ap, subst, inl, inr, Some, arith, refl, false, ◌≢◌}
use Rattle.std.proofs.lemmas.Bool.{cases_eq}
use Rattle.std.proofs.lemmas.List.{map-set, get_or-map, get_or-set_same, get_or-set_other, length-map}
use Rattle.std.proofs.Math.ListN.{get_or-map as get_or-map_any}
use Rattle.std.proofs.lemmas.Option.{slice_get_within, get_or_from_slice_get}
use Rattle.std.proofs.Math.Seq.{map-set_same}
use Rattle.jet_items.specs.declared.item.Item.{Item}
use Rattle.jet_ring.specs.declared.ends.Tx.{Tx}
use Rattle.jet_ring.specs.Ring.{tx_view, TxView, tx_ring, sent, reach}
use Rattle.jet_router.specs.declared.dest.Dest.{Dest}
use Rattle.jet_router.specs.declared.router.Router.{Router}
use Rattle.jet_router.specs.Dest.{DestView, dest_view}
use Rattle.jet_router.specs.Router.{view, txs, hads, frees, reaches, Refreshed}
use Rattle.jet_router.specs.Lending.{with_tx}

-- the ends are those of before, with the lent one as it came back
pub txs-with_tx : (r : Router) (d : ℕ) (was w : Tx Item) → txs (view (with_tx r d was w)) ≡ set (txs (view r)) d (tx_view w)
txs-with_tx r d was w =
    ap (map (λ (v : DestView). v.tx)) (map-set dest_view r.dests.items d _)
    ∙ map-set (λ (v : DestView). v.tx) (map dest_view r.dests.items) d _

-- what the meeting left alone at that end stands in each end as before
pub part-with_tx :
    {B : Type 0} (f : TxView Item → B) (r : Router) (d : ℕ) (was w : Tx Item)
    → slice_get (txs (view r)) d ≡ Some (tx_view was) → f (tx_view w) ≡ f (tx_view was)
    → map f (txs (view (with_tx r d was w))) ≡ map f (txs (view r))
part-with_tx f r d was w at same =
    ap (map f) (txs-with_tx r d was w)
    ∙ map-set_same f (txs (view r)) d (tx_view w) (tx_view was) (same ∙ ap f (sym (get_or_from_slice_get (txs (view r)) d (tx_view was) (tx_view was) at)))

-- that end
pub at-with_tx :
    {B : Type 0} (f : TxView Item → B) (r : Router) (d : ℕ) (was w : Tx Item) (e : B)
    → slice_get (txs (view r)) d ≡ Some (tx_view was)
    → get_or (map f (txs (view (with_tx r d was w)))) d e ≡ f (tx_view w)
at-with_tx f r d was w e at =
    let lt = slice_get_within (txs (view r)) d (tx_view was) at in
    ap (λ ts. get_or (map f ts) d e) (txs-with_tx r d was w)
    ∙ ap (λ l. get_or l d e) (map-set f (txs (view r)) d (tx_view w))
    ∙ get_or-set_same (map f (txs (view r))) d (f (tx_view w)) e (let h = length-map (txs (view r)) f in omega (arith, h, lt))

hads-with_tx : (r : Router) (d : ℕ) (was w : Tx Item) → hads (view (with_tx r d was w)) ≡ hads (view r)
hads-with_tx r d was w =
    let xs : List Dest = r.dests.items in
    let other : Dest = record { tx = was; had = false } in
    let y : Dest = record (get_or xs d other) { tx = w } in
    ap (map (λ (v : DestView). v.had)) (map-set dest_view xs d y)
    ∙ map-set_same (λ (v : DestView). v.had) (map dest_view xs) d (dest_view y) (dest_view other) (sym (ap (λ (v : DestView). v.had) (get_or-map_any dest_view xs d other)))

other-with_tx : (r : Router) (d k : ℕ) (was w : Tx Item) → k ≢ d → get_or (frees (view (with_tx r d was w))) k 0 ≡ get_or (frees (view r)) k 0
other-with_tx r d k was w ne =
    let f : TxView Item → ℕ = λ t. t.free in
    ap (λ ts. get_or (map f ts) k 0) (txs-with_tx r d was w)
    ∙ ap (λ l. get_or l k 0) (map-set f (txs (view r)) d (tx_view w))
    ∙ get_or-set_other (map f (txs (view r))) d k (f (tx_view w)) 0 ne

-- after a meeting of the lent end
pub refreshed-with_tx :
    (r : Router) (d : ℕ) (was w : Tx Item)
    → slice_get (txs (view r)) d ≡ Some (tx_view was) → tx_ring w ≡ tx_ring was → sent w ≡ sent was
    → Refreshed (view r) (view (with_tx r d was w)) d
refreshed-with_tx r d was w at ring same =
    record {
      same = record { route = refl; table = refl; rings_kept = part-with_tx (λ t. t.ring) r d was w at ring };
      sent = part-with_tx (λ t. t.sent) r d was w at same;
      had = hads-with_tx r d was w;
      others = λ k ne. other-with_tx r d k was w ne;
      busy = refl;
      turn = refl;
    }

-- how far the ends reach, where the lent one came back reaching no less far
pub reach-with_tx :
    (r : Router) (d k : ℕ) (was w : Tx Item)
    → slice_get (txs (view r)) d ≡ Some (tx_view was) → reach was ≤ reach w
    → get_or (reaches (view r)) k 0 ≤ get_or (reaches (view (with_tx r d was w))) k 0
reach-with_tx r d k was w at more =
    let f : TxView Item → ℕ = λ t. length t.sent + t.free in
    let ts : List (TxView Item) = txs (view r) in
    elim (cases_eq k d) as (λ _. get_or (reaches (view r)) k 0 ≤ get_or (reaches (view (with_tx r d was w))) k 0) [
      | inl e ↦
          let P : ℕ → Type 0 = λ i. get_or (reaches (view r)) i 0 ≤ get_or (reaches (view (with_tx r d was w))) i 0 in
          let lt = slice_get_within ts d (tx_view was) at in
          let before : get_or (map f ts) d 0 ≡ f (tx_view was) =
          get_or-map f ts d (tx_view was) 0 lt ∙ ap f (get_or_from_slice_get ts d (tx_view was) (tx_view was) at) in
          let after : get_or (map f (txs (view (with_tx r d was w)))) d 0 ≡ f (tx_view w) = at-with_tx f r d was w 0 at in
          let here : get_or (reaches (view r)) d 0 ≤ get_or (reaches (view (with_tx r d was w))) d 0 = omega (arith, before, after, more) in
          subst P (sym e) here
      | inr ne ↦
          let same : get_or (map f (txs (view (with_tx r d was w)))) k 0 ≡ get_or (map f ts) k 0 =
          ap (λ us. get_or (map f us) k 0) (txs-with_tx r d was w)
          ∙ ap (λ l. get_or l k 0) (map-set f ts d (tx_view w))
          ∙ get_or-set_other (map f ts) d k (f (tx_view w)) 0 ne in
          omega (arith, same)
    ]
