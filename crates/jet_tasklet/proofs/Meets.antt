-- The two ends of one ring, once they have met.
use Rattle.std.proofs.Common.{◌≡◌, ℕ, zero, suc, ◌<◌, List, [], ◌∷◌, map, length, get_or, set, false, refl, sym, ◌∙◌, ap, subst, arith}
use Rattle.std.specs.Prelude.{Some, slice_get}
use Rattle.std.proofs.lemmas.List.{map-set, length-map}
use Rattle.std.proofs.lemmas.Option.{slice_get_within}
use Rattle.jet_items.specs.declared.item.Item.{Item}
use Rattle.jet_boxes.specs.declared.port.Port.{Port}
use Rattle.jet_boxes.specs.declared.port.Port.TheVariants.{Stream}
use Rattle.jet_boxes.specs.Entry.{CallEntry}
use Rattle.jet_ring.specs.Ring.{Ring, TxView, RxView, tx_ring, tx_view}
use Rattle.jet_ring.specs.declared.ends.Tx.{Tx}
use Rattle.jet_conveyor.specs.declared.conveyor.Conveyor.{Conveyor}
use Rattle.jet_conveyor.specs.Conveyor as conveyor
use Rattle.jet_router.specs.declared.router.Router.{Router}
use Rattle.jet_router.specs.Dest.{DestView}
use Rattle.jet_router.specs.Router as router
use Rattle.jet_tasklet.specs.declared.input.Input.{Input}
use Rattle.jet_tasklet.specs.declared.output.Output.{Output}
use Rattle.jet_tasklet.specs.declared.tasklet.Tasklet.{Tasklet}
use Rattle.jet_tasklet.specs.declared.arrival.Arrival.{Arrival}
use Rattle.jet_tasklet.specs.declared.any.AnyTasklet.{AnyTasklet}
use Rattle.jet_tasklet.specs.declared.any.AnyTasklet.TheVariants as any
use Rattle.jet_tasklet.specs.Inputs.{InputView, input_view, inputs_view}
use Rattle.jet_tasklet.specs.Outputs.{OutputView, output_view, outputs_view}
use Rattle.jet_tasklet.specs.Lending.{with_input, with_output}
use Rattle.jet_tasklet.specs.Kinds.{inputs_of, outputs_of}
use Rattle.jet_tasklet.specs.Any.{AnyKeeps, any_with_input, any_with_output}
use Rattle.jet_tasklet.specs.Views.{ins, outs}
use Rattle.jet_tasklet.specs.Meeting.{HasEnd, IsQueue, HasQueue, EndsMet, OutputMet, InputMet, GiverMet, TakerMet, AnyGiverMet, AnyTakerMet}
use Rattle.jet_tasklet.proofs.Meeting.{input_keeps, output_keeps}

pub some_is : {X : Type 0} (x y : X) → Some x ≡ Some y → x ≡ y
some_is x y e = cc

pub set_there : {X : Type 0} (xs : List X) (k : ℕ) (x : X) → k < length xs → slice_get (set xs k x) k ≡ Some x
set_there [] k x h = absurd (omega (arith, h))
set_there (y ∷ ys) zero x h = refl
set_there (y ∷ ys) (suc k) x h = set_there ys k x (omega (arith, h))

pub within_mapped : {X Y : Type 0} (f : X → Y) (xs : List X) (k : ℕ) (y : Y) → slice_get (map f xs) k ≡ Some y → k < length xs
within_mapped f xs k y h =
    let l = slice_get_within (map f xs) k y h in
    let m = length-map xs f in
    omega (arith, l, m)

-- ---- the router at a place, and the conveyor: what a contract sees of them, and they themselves
pub router_seen : (os : List Output) (o : ℕ) (v : OutputView) (r : Router) → slice_get (outputs_view os) o ≡ Some v → slice_get (map (λ (x : Output). x.router) os) o ≡ Some r → v.router ≡ router.view r
router_seen [] o v r h k = absurd (cc)
router_seen (x ∷ os) zero v r h k = ap (λ (w : OutputView). w.router) (sym (some_is (output_view x) v h)) ∙ ap router.view (some_is x.router r k)
router_seen (x ∷ os) (suc o) v r h k = router_seen os o v r h k

pub conveyor_seen : (is : List Input) (i : ℕ) (v : InputView) (c : Conveyor) → slice_get (inputs_view is) i ≡ Some v → slice_get (map (λ (x : Input). x.conveyor) is) i ≡ Some c → v.queues ≡ conveyor.view c
conveyor_seen [] i v c h k = absurd (cc)
conveyor_seen (x ∷ is) zero v c h k = ap (λ (w : InputView). w.queues) (sym (some_is (input_view x) v h)) ∙ ap conveyor.view (some_is x.conveyor c k)
conveyor_seen (x ∷ is) (suc i) v c h k = conveyor_seen is i v c h k

abbrev pub out_now : OutputView → Router → OutputView
out_now v w = record { router = router.view w; had = v.had }

abbrev pub in_now : InputView → Conveyor → InputView
in_now v w = record { port = v.port; queues = conveyor.view w }

pub outs_set : (os : List Output) (o : ℕ) (v : OutputView) (w : Router) (d : Output) → slice_get (outputs_view os) o ≡ Some v → outputs_view (set os o (record (get_or os o d) { router = w })) ≡ set (outputs_view os) o (out_now v w)
outs_set [] o v w d h = absurd (cc)
outs_set (x ∷ os) zero v w d h = ap (λ (u : OutputView). out_now u w ∷ outputs_view os) (some_is (output_view x) v h)
outs_set (x ∷ os) (suc o) v w d h = ap (λ us. output_view x ∷ us) (outs_set os o v w d h)

pub ins_set : (is : List Input) (i : ℕ) (v : InputView) (w : Conveyor) (d : Input) → slice_get (inputs_view is) i ≡ Some v → inputs_view (set is i (record (get_or is i d) { conveyor = w })) ≡ set (inputs_view is) i (in_now v w)
ins_set [] i v w d h = absurd (cc)
ins_set (x ∷ is) zero v w d h = ap (λ (u : InputView). in_now u w ∷ inputs_view is) (some_is (input_view x) v h)
ins_set (x ∷ is) (suc i) v w d h = ap (λ us. input_view x ∷ us) (ins_set is i v w d h)

-- ---- the outputs of a tasklet of which one router met, and the inputs of which one conveyor did
abbrev output_met : (os : List Output) (o d : ℕ) (v : OutputView) (was w : Router) → slice_get (outputs_view os) o ≡ Some v → slice_get (map (λ (x : Output). x.router) os) o ≡ Some was → router.Refreshed (router.view was) (router.view w) d → OutputMet (outputs_view os) (outputs_view (set os o (record (get_or os o (record { router = was; had = false })) { router = w }))) o d
output_met os o d v was w at value met = record {
  was = v;
  now = out_now v w;
  at = at;
  others = outs_set os o v w (record { router = was; had = false }) at;
  had = refl;
  met = subst (λ (u : router.View). router.Refreshed u (router.view w) d) (sym (router_seen os o v was at value)) met;
}

abbrev input_met : (is : List Input) (i q : ℕ) (v : InputView) (was w : Conveyor) → slice_get (inputs_view is) i ≡ Some v → slice_get (map (λ (x : Input). x.conveyor) is) i ≡ Some was → conveyor.Refreshed (conveyor.view was) (conveyor.view w) q → InputMet (inputs_view is) (inputs_view (set is i (record (get_or is i (record { port = Stream; conveyor = was })) { conveyor = w }))) i q
input_met is i q v was w at value met = record {
  was = v;
  now = in_now v w;
  at = at;
  others = ins_set is i v w (record { port = Stream; conveyor = was }) at;
  port = refl;
  met = subst (λ (u : conveyor.View). conveyor.Refreshed u (conveyor.view w) q) (sym (conveyor_seen is i v was at value)) met;
}

module _ {P : Type 0} (stands : P → List CallEntry → List Item → Type 0) (amid : P → List CallEntry → CallEntry → List Item → Type 0) (takes : P → Port → ℕ → Type 0) where
  abbrev pub giver_met : (t : Tasklet P) (o d : ℕ) (v : OutputView) (was w : Router) → slice_get (outputs_view t.outputs.items) o ≡ Some v → slice_get (map (λ (x : Output). x.router) t.outputs.items) o ≡ Some was → router.Refreshed (router.view was) (router.view w) d → GiverMet stands amid takes t (with_output t o was w) o d
  giver_met t o d v was w at value met = record {
    keeps = record { stays = λ came gave k. output_keeps stands amid takes t came gave o d was w value met k };
    outputs = output_met t.outputs.items o d v was w at value met;
    rest = refl;
  }

  abbrev pub taker_met : (t : Tasklet P) (i q : ℕ) (v : InputView) (was w : Conveyor) → slice_get (inputs_view t.inputs.items) i ≡ Some v → slice_get (map (λ (x : Input). x.conveyor) t.inputs.items) i ≡ Some was → conveyor.Refreshed (conveyor.view was) (conveyor.view w) q → TakerMet stands amid takes t (with_input t i was w) i q
  taker_met t i q v was w at value met = record {
    keeps = record { stays = λ came gave k. input_keeps stands amid takes t came gave i q was w value met k };
    inputs = input_met t.inputs.items i q v was w at value met;
    rest = refl;
  }

-- the same of a tasklet of any kind, with what the place that met is now
abbrev StillKeeps : AnyTasklet → AnyTasklet → Type 0
StillKeeps t u = (came : List Arrival) (gave : List Item) → AnyKeeps t came gave → AnyKeeps u came gave

abbrev AnyGiverNow : AnyTasklet → AnyTasklet → ℕ → ℕ → OutputView → Type 0
AnyGiverNow t u o d now = (m : AnyGiverMet t u o d) × (m.outputs.now ≡ now)

pub any_giver_met : (t : AnyTasklet) (o d : ℕ) (v : OutputView) (was w : Router) → slice_get (outs t) o ≡ Some v → slice_get (map (λ (x : Output). x.router) (outputs_of t)) o ≡ Some was → router.Refreshed (router.view was) (router.view w) d → StillKeeps t (any_with_output t o was w) → AnyGiverNow t (any_with_output t o was w) o d (out_now v w)
any_giver_met (any.Stamp t) o d v was w at value met keeps = (record { keeps = keeps; outputs = output_met t.outputs.items o d v was w at value met; inputs = refl; outbox = refl; step = refl; processor = refl }, refl)
any_giver_met (any.Map t) o d v was w at value met keeps = (record { keeps = keeps; outputs = output_met t.outputs.items o d v was w at value met; inputs = refl; outbox = refl; step = refl; processor = refl }, refl)
any_giver_met (any.Filter t) o d v was w at value met keeps = (record { keeps = keeps; outputs = output_met t.outputs.items o d v was w at value met; inputs = refl; outbox = refl; step = refl; processor = refl }, refl)
any_giver_met (any.Flat t) o d v was w at value met keeps = (record { keeps = keeps; outputs = output_met t.outputs.items o d v was w at value met; inputs = refl; outbox = refl; step = refl; processor = refl }, refl)
any_giver_met (any.Join t) o d v was w at value met keeps = (record { keeps = keeps; outputs = output_met t.outputs.items o d v was w at value met; inputs = refl; outbox = refl; step = refl; processor = refl }, refl)
any_giver_met (any.Frame t) o d v was w at value met keeps = (record { keeps = keeps; outputs = output_met t.outputs.items o d v was w at value met; inputs = refl; outbox = refl; step = refl; processor = refl }, refl)
any_giver_met (any.Combine t) o d v was w at value met keeps = (record { keeps = keeps; outputs = output_met t.outputs.items o d v was w at value met; inputs = refl; outbox = refl; step = refl; processor = refl }, refl)
any_giver_met (any.Send s) o d v was w at value met keeps = absurd (cc)
any_giver_met (any.Receive r) zero d v was w at value met keeps = (
  record { keeps = keeps; outputs = output_met (outputs_of (any.Receive r)) 0 d v was w at value met; inputs = refl; outbox = refl; step = refl; processor = record { end = refl; at = refl; ended = refl } },
  refl,
)
any_giver_met (any.Receive r) (suc o) d v was w at value met keeps = absurd (cc)

abbrev AnyTakerNow : AnyTasklet → AnyTasklet → ℕ → ℕ → InputView → Type 0
AnyTakerNow t u i q now = (m : AnyTakerMet t u i q) × (m.inputs.now ≡ now)

pub any_taker_met : (t : AnyTasklet) (i q : ℕ) (v : InputView) (was w : Conveyor) → slice_get (ins t) i ≡ Some v → slice_get (map (λ (x : Input). x.conveyor) (inputs_of t)) i ≡ Some was → conveyor.Refreshed (conveyor.view was) (conveyor.view w) q → StillKeeps t (any_with_input t i was w) → AnyTakerNow t (any_with_input t i was w) i q (in_now v w)
any_taker_met (any.Stamp t) i q v was w at value met keeps = (record { keeps = keeps; inputs = input_met t.inputs.items i q v was w at value met; outputs = refl; outbox = refl; step = refl; processor = refl }, refl)
any_taker_met (any.Map t) i q v was w at value met keeps = (record { keeps = keeps; inputs = input_met t.inputs.items i q v was w at value met; outputs = refl; outbox = refl; step = refl; processor = refl }, refl)
any_taker_met (any.Filter t) i q v was w at value met keeps = (record { keeps = keeps; inputs = input_met t.inputs.items i q v was w at value met; outputs = refl; outbox = refl; step = refl; processor = refl }, refl)
any_taker_met (any.Flat t) i q v was w at value met keeps = (record { keeps = keeps; inputs = input_met t.inputs.items i q v was w at value met; outputs = refl; outbox = refl; step = refl; processor = refl }, refl)
any_taker_met (any.Join t) i q v was w at value met keeps = (record { keeps = keeps; inputs = input_met t.inputs.items i q v was w at value met; outputs = refl; outbox = refl; step = refl; processor = refl }, refl)
any_taker_met (any.Frame t) i q v was w at value met keeps = (record { keeps = keeps; inputs = input_met t.inputs.items i q v was w at value met; outputs = refl; outbox = refl; step = refl; processor = refl }, refl)
any_taker_met (any.Combine t) i q v was w at value met keeps = (record { keeps = keeps; inputs = input_met t.inputs.items i q v was w at value met; outputs = refl; outbox = refl; step = refl; processor = refl }, refl)
any_taker_met (any.Send s) zero q v was w at value met keeps = (
  record { keeps = keeps; inputs = input_met (inputs_of (any.Send s)) 0 q v was w at value met; outputs = refl; outbox = refl; step = refl; processor = record { lows = refl; hand = refl; end = refl } },
  refl,
)
any_taker_met (any.Send s) (suc i) q v was w at value met keeps = absurd (cc)
any_taker_met (any.Receive r) i q v was w at value met keeps = absurd (cc)

-- ---- the end that was lent
-- where an output stood before
pub output_within : (os : List Output) (o d : ℕ) (tx : TxView Item) → HasEnd (outputs_view os) o d tx → o < length os
output_within os o d tx e = within_mapped output_view os o e.output e.at

pub input_within : (is : List Input) (i q : ℕ) (rx : RxView Item) → HasQueue (inputs_view is) i q rx → i < length is
input_within is i q rx e = within_mapped input_view is i e.input e.at

-- the end of a destination, and that of a queue, of the router and the conveyor that were lent
pub end_lent : (os : List Output) (o d : ℕ) (tx : TxView Item) (r : Router) → HasEnd (outputs_view os) o d tx → slice_get (map (λ (x : Output). x.router) os) o ≡ Some r → slice_get (router.txs (router.view r)) d ≡ Some tx
end_lent os o d tx r e value = subst (λ (v : router.View). slice_get (router.txs v) d ≡ Some tx) (router_seen os o e.output r e.at value) e.is

pub queue_lent : (is : List Input) (i q : ℕ) (rx : RxView Item) (c : Conveyor) → HasQueue (inputs_view is) i q rx → slice_get (map (λ (x : Input). x.conveyor) is) i ≡ Some c → IsQueue (conveyor.view c) q rx
queue_lent is i q rx c e value = subst (λ (v : conveyor.View). IsQueue v q rx) (conveyor_seen is i e.input c e.at value) e.is

pub dest_within : (r : Router) (d : ℕ) (tx : TxView Item) → slice_get (router.txs (router.view r)) d ≡ Some tx → d < length (router.view r).dests
dest_within r d tx is = within_mapped (λ (x : DestView). x.tx) (router.view r).dests d tx is

-- the end that comes back, in its place
pub end_now : (before after : List OutputView) (o d : ℕ) (m : OutputMet before after o d) (now : OutputView) (end : TxView Item) (txs : List (TxView Item)) → m.now ≡ now → router.txs now.router ≡ set txs d end → d < length txs → HasEnd after o d end
end_now before after o d m now end txs is lent lt = record {
  output = m.now;
  at = ap (λ (vs : List OutputView). slice_get vs o) m.others ∙ set_there before o m.now (slice_get_within before o m.was m.at);
  is = ap (λ (v : OutputView). slice_get (router.txs v.router) d) is ∙ (ap (λ (ts : List (TxView Item)). slice_get ts d) lent ∙ set_there txs d end lt);
}

-- what is seen of a queue
abbrev pub queue_end : conveyor.View → ℕ → Ring → RxView Item
queue_end v q r = record { ring = r; received = conveyor.received_at v q; known = conveyor.known_at v q }

pub is_queue : (a b : conveyor.View) (q : ℕ) (r : Ring) → slice_get a.rings q ≡ Some r → conveyor.Refreshed a b q → IsQueue b q (queue_end b q r)
is_queue a b q r at met = record { ring = ap (λ (rs : List Ring). slice_get rs q) met.rings ∙ at; received = refl; known = refl }

pub queue_now : (before after : List InputView) (i q : ℕ) (m : InputMet before after i q) (now : InputView) (end : RxView Item) → m.now ≡ now → IsQueue now.queues q end → HasQueue after i q end
queue_now before after i q m now end is queue = record {
  input = m.now;
  at = ap (λ (vs : List InputView). slice_get vs i) m.others ∙ set_there before i m.now (slice_get_within before i m.was m.at);
  is = subst (λ (v : InputView). IsQueue v.queues q end) (sym is) queue;
}

-- the ring of the end that was lent
pub ring_lent : (r : Router) (d : ℕ) (tx : TxView Item) (end : Tx Item) → slice_get (router.txs (router.view r)) d ≡ Some tx → slice_get (router.txs (router.view r)) d ≡ Some (tx_view end) → tx.ring ≡ tx_ring end
ring_lent r d tx end is value = ap (λ (t : TxView Item). t.ring) (some_is tx (tx_view end) (sym is ∙ value))

pub queue_ring : (v : conveyor.View) (q : ℕ) (rx : RxView Item) (r : Ring) → IsQueue v q rx → rx.ring ≡ r → slice_get v.rings q ≡ Some r
queue_ring v q rx r is same = is.ring ∙ ap Some same
