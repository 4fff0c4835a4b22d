-- The ends of the inputs and outputs of a tasklet, at their places.
use Rattle.std.proofs.Common.{arith, ◌≡◌, ◌∙◌, ◌+◌, ◌<◌, ℕ, zero, suc, false, List, [], ◌∷◌, Some, map, length, ap, refl, sym, subst}
use Rattle.std.specs.Prelude.{option_map, slice_get, get_or}
use Rattle.std.proofs.lemmas.Option.{slice_get-map, get_or_from_slice_get, same_Some}
use Rattle.jet_boxes.specs.declared.port.Port.{Port}
use Rattle.jet_conveyor.specs.Conveyor as conveyor
use Rattle.jet_harness.specs.declared.harness.Harness.{Harness}
use Rattle.jet_harness.specs.Harness.{txs_of, rxs_of}
use Rattle.jet_items.specs.declared.item.Item.{Item}
use Rattle.jet_layout.specs.declared.joint.Joint.{Joint}
use Rattle.jet_ring.specs.Ring.{TxView, RxView}
use Rattle.jet_router.specs.Dest.{DestView, fresh}
use Rattle.jet_router.specs.Router as router
use Rattle.jet_tasklet.specs.Inputs.{InputView}
use Rattle.jet_tasklet.specs.Meeting.{HasEnd, IsQueue, HasQueue}
use Rattle.jet_tasklet.specs.Outputs.{OutputView, ready}
use Rattle.jet_deploy.specs.Ends.{input_at, output_at, conveyor_over, input_over, inputs_from, router_over, outputs_from}

map_at : {X Y : Type 0} (f : X → Y) (xs : List X) (k : ℕ) (x : X) → slice_get xs k ≡ Some x → slice_get (map f xs) k ≡ Some (f x)
map_at f xs k x at = slice_get-map f xs k ∙ ap (option_map f) at

tx_fresh : (txs : List (TxView Item)) → map (λ (d : DestView). d.tx) (map fresh txs) ≡ txs
tx_fresh [] = refl
tx_fresh (t ∷ ts) = ap (λ l. t ∷ l) (tx_fresh ts)

module _ (h : Harness) (k : ℕ) where
  output_at_place : (members m n o : ℕ) (js : List Joint) → o < length js
      → (j : Joint) × (slice_get (outputs_from h k members m n js) o ≡ Some (router_over members j j.distributed m (txs_of h (output_at k (n + o)))))
  output_at_place members m n o [] lt = absurd (omega (arith, lt))
  output_at_place members m n zero (j ∷ js) lt =
      let e : n ≡ n + 0 = omega arith in
      (j, ap (λ (i : ℕ). Some (router_over members j j.distributed m (txs_of h (output_at k i)))) e)
  output_at_place members m n (suc o) (j ∷ js) lt =
      let r = output_at_place members m (n + 1) o js (omega (arith, lt)) in
      let e : (n + 1) + o ≡ n + suc o = omega arith in
      (r.0, r.1 ∙ ap (λ (i : ℕ). Some (router_over members r.0 r.0.distributed m (txs_of h (output_at k i)))) e)

  input_at_place : (n i : ℕ) (ps : List Port) → i < length ps → (p : Port) × (slice_get (inputs_from h k n ps) i ≡ Some (input_over p (rxs_of h (input_at k (n + i)))))
  input_at_place n i [] lt = absurd (omega (arith, lt))
  input_at_place n zero (p ∷ ps) lt =
      let e : n ≡ n + 0 = omega arith in
      (p, ap (λ (i : ℕ). Some (input_over p (rxs_of h (input_at k i)))) e)
  input_at_place n (suc i) (p ∷ ps) lt =
      let r = input_at_place (n + 1) i ps (omega (arith, lt)) in
      let e : (n + 1) + i ≡ n + suc i = omega arith in
      (r.0, r.1 ∙ ap (λ (x : ℕ). Some (input_over r.0 (rxs_of h (input_at k x)))) e)

-- the destination d of an output over these ends
end_over : (members m d : ℕ) (j : Joint) (txs : List (TxView Item)) (tx : TxView Item) → slice_get txs d ≡ Some tx → slice_get (router.txs (router_over members j j.distributed m txs)) d ≡ Some tx
end_over members m d j txs tx at = ap (λ (l : List (TxView Item)). slice_get l d) (tx_fresh txs) ∙ at

-- the queue q of an input over these ends
pub queue_over : (rxs : List (RxView Item)) (q : ℕ) (rx : RxView Item) → slice_get rxs q ≡ Some rx → IsQueue (conveyor_over rxs) q rx
queue_over rxs q rx at =
    record {
      ring = map_at (λ (r : RxView Item). r.ring) rxs q rx at;
      received = get_or_from_slice_get (map (λ (r : RxView Item). r.received) rxs) q rx.received [] (map_at (λ (r : RxView Item). r.received) rxs q rx at);
      known = get_or_from_slice_get (map (λ (r : RxView Item). r.known) rxs) q rx.known [] (map_at (λ (r : RxView Item). r.known) rxs q rx at);
    }

-- a tasklet with these outputs has the ends that were there for it
pub end_among : (h : Harness) (k members m o d : ℕ) (js : List Joint) (outputs : List OutputView) (tx : TxView Item) → outputs ≡ map ready (outputs_from h k members m 0 js) → o < length js
    → slice_get (txs_of h (output_at k o)) d ≡ Some tx → HasEnd outputs o d tx
end_among h k members m o d js outputs tx e lt at =
    let r = output_at_place h k members m 0 o js lt in
    let z : 0 + o ≡ o = omega arith in
    let there = subst (λ (i : ℕ). slice_get (txs_of h (output_at k i)) d ≡ Some tx) (sym z) at in
    record {
      output = ready (router_over members r.0 r.0.distributed m (txs_of h (output_at k (0 + o))));
      at = ap (λ (l : List OutputView). slice_get l o) e ∙ map_at ready (outputs_from h k members m 0 js) o _ r.1;
      is = end_over members m d r.0 (txs_of h (output_at k (0 + o))) tx there;
    }

pub queue_among : (h : Harness) (k i q : ℕ) (ps : List Port) (inputs : List InputView) (rx : RxView Item) → inputs ≡ inputs_from h k 0 ps → i < length ps
    → slice_get (rxs_of h (input_at k i)) q ≡ Some rx → HasQueue inputs i q rx
queue_among h k i q ps inputs rx e lt at =
    let r = input_at_place h k 0 i ps lt in
    let z : 0 + i ≡ i = omega arith in
    let there = subst (λ (x : ℕ). slice_get (rxs_of h (input_at k x)) q ≡ Some rx) (sym z) at in
    record {
      input = input_over r.0 (rxs_of h (input_at k (0 + i)));
      at = ap (λ (l : List InputView). slice_get l i) e ∙ r.1;
      is = queue_over (rxs_of h (input_at k (0 + i))) q rx there;
    }

-- what sends over a link has one input, and what receives from one has one output
pub end_alone : (members m d : ℕ) (j : Joint) (txs : List (TxView Item)) (outputs : List OutputView) (tx : TxView Item) → outputs ≡ ready (router_over members j false m txs) ∷ []
    → slice_get txs d ≡ Some tx → HasEnd outputs 0 d tx
end_alone members m d j txs outputs tx e at =
    record {
      output = ready (router_over members j false m txs);
      at = ap (λ (l : List OutputView). slice_get l 0) e;
      is = ap (λ (l : List (TxView Item)). slice_get l d) (tx_fresh txs) ∙ at;
    }

pub queue_alone : (q : ℕ) (p : Port) (rxs : List (RxView Item)) (inputs : List InputView) (rx : RxView Item) → inputs ≡ input_over p rxs ∷ []
    → slice_get rxs q ≡ Some rx → HasQueue inputs 0 q rx
queue_alone q p rxs inputs rx e at =
    record {
      input = input_over p rxs;
      at = ap (λ (l : List InputView). slice_get l 0) e;
      is = queue_over rxs q rx at;
    }
