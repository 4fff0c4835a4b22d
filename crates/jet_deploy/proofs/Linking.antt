-- The two ends of a link, made over ends through which nothing went.
use Rattle.std.proofs.Common.{arith, ◌≡◌, ◌∙◌, ◌+◌, ◌<◌, ◌≤◌, ℕ, zero, suc, Bool, true, false, ◌≢◌, List, [], ◌∷◌, map, length, get_or, ap, refl, sym, subst}
use Rattle.std.specs.Prelude.{replicate, slice_get, Some}
use Rattle.std.proofs.lemmas.List.{length-map, length-replicate}
use Rattle.jet_items.specs.declared.item.Item.{Item}
use Rattle.jet_conveyor.specs.Conveyor as conveyor
use Rattle.jet_harness.specs.declared.channel.Giver.{Giver}
use Rattle.jet_harness.specs.declared.channel.Giver.TheVariants.{Output, File}
use Rattle.jet_harness.specs.declared.harness.Harness.{Harness}
use Rattle.jet_harness.specs.Harness.{txs_of, rxs_of, fresh_tx, fresh_rx}
use Rattle.jet_ring.specs.Ring.{Ring, TxView, RxView, rx_view}
use Rattle.jet_ring.specs.declared.ends.Rx.{Rx}
use Rattle.jet_layout.specs.declared.joint.Joint.{Joint}
use Rattle.jet_layout.specs.declared.wire.Taker.{Taker}
use Rattle.jet_layout.specs.declared.wire.Taker.TheVariants.{Input, Sink}
use Rattle.jet_router.specs.Dest.{DestView, fresh}
use Rattle.jet_router.specs.Router as router
use Rattle.jet_wire.specs.Sender.{IsUnread}
use Rattle.jet_wire.specs.Receiver.{IsUnsent}
use Rattle.jet_deploy.specs.Ends.{input_at, output_at, conveyor_over, router_over, Fits}
use Rattle.jet_deploy.specs.Making.{Remains}
use Rattle.jet_deploy.proofs.Fresh.{conveyor_is}

none_received : (rs : List Ring) (q : ℕ) → get_or (map (λ (r : RxView Item). r.received) (map fresh_rx rs)) q [] ≡ []
none_received [] q = refl
none_received (r ∷ rs) zero = refl
none_received (r ∷ rs) (suc q) = none_received rs q

none_done : (n q : ℕ) → q < n → get_or (replicate n false) q true ≡ false
none_done zero q lt = absurd (omega (arith, lt))
none_done (suc n) zero lt = refl
none_done (suc n) (suc q) lt = none_done n q (omega (arith, lt))

over_unread : (rs : List Ring) → IsUnread (conveyor_over (map fresh_rx rs))
over_unread rs = record {
  received_each = simp length-map;
  done_each = simp (length-map, length-replicate);
  received = none_received rs;
  done = λ q lt. let size : length (map (λ (r : RxView Item). r.ring) (map fresh_rx rs)) ≡ length (map fresh_rx rs) = simp length-map in none_done (length (map fresh_rx rs)) q (omega (arith, lt, size));
}

-- a new conveyor over such ends
pub queues_unread : (v : conveyor.View) (queues : List (Rx Item)) (rxs : List (RxView Item)) (rs : List Ring) → conveyor.IsNew v queues → map rx_view queues ≡ rxs → rxs ≡ map fresh_rx rs → IsUnread v
queues_unread v queues rxs rs new same is = subst IsUnread (sym (conveyor_is v queues rxs new same ∙ ap conveyor_over is)) (over_unread rs)

pub few_rxs : (queues : List (Rx Item)) (rxs : List (RxView Item)) (rs : List Ring) → map rx_view queues ≡ rxs → rxs ≡ map fresh_rx rs → length rs ≤ 2000000 → length queues < 4294967296
few_rxs queues rxs rs same is few =
    let size : length (map rx_view queues) ≡ length queues = simp length-map in
    let rings : length (map fresh_rx rs) ≡ length rs = simp length-map in
    let whole = ap length (same ∙ is) in
    omega (arith, size, rings, whole, few)

none_sent : (rs : List Ring) (k : ℕ) → k < length (map fresh (map fresh_tx rs)) → get_or (map (λ (t : TxView Item). t.sent) (map (λ (d : DestView). d.tx) (map fresh (map fresh_tx rs)))) k [] ≡ []
none_sent [] k lt = refl
none_sent (r ∷ rs) zero lt = refl
none_sent (r ∷ rs) (suc k) lt = none_sent rs k (omega (arith, lt))

-- a router over such ends
pub router_unsent : (v : router.View) (members : ℕ) (j : Joint) (m : ℕ) (txs : List (TxView Item)) (rs : List Ring) → v ≡ router_over members j false m txs → txs ≡ map fresh_tx rs → 0 < length txs → IsUnsent v
router_unsent v members j m txs rs is same some =
    subst IsUnsent (sym (is ∙ ap (router_over members j false m) same))
    (record {
      free = refl;
      sents = none_sent rs;
      dests = let size : length (map fresh (map fresh_tx rs)) ≡ length (map fresh_tx rs) = simp length-map in let whole = ap length same in omega (arith, size, whole, some);
    })

-- ---- what is left

abbrev taker_task : Taker → ℕ
taker_task (Input p) = p.task
taker_task Sink = 0

abbrev giver_task : Giver → ℕ
giver_task (Output p) = p.task
giver_task File = 0

other_input : (t n k m : ℕ) → k < t → input_at t n ≢ input_at k m
other_input t n k m lt e = let same : t ≡ k = ap taker_task e in absurd (omega (arith, lt, same))

other_output : (t n k m : ℕ) → k < t → output_at t n ≢ output_at k m
other_output t n k m lt e = let same : t ≡ k = ap giver_task e in absurd (omega (arith, lt, same))

pub remains_two : (k : ℕ) (a m b : Harness) → ((t : Taker) → t ≢ input_at k 0 → rxs_of m t ≡ rxs_of a t) → ((g : Giver) → txs_of m g ≡ txs_of a g)
    → ((g : Giver) → g ≢ output_at (k + 1) 0 → txs_of b g ≡ txs_of m g) → ((t : Taker) → rxs_of b t ≡ rxs_of m t) → Remains (k + 2) a b
remains_two k a m b first givers second takers =
    record {
      rxs = λ t n le. takers (input_at t n) ∙ first (input_at t n) (other_input t n k 0 (omega (arith, le)));
      txs = λ t n le. second (output_at t n) (other_output t n (k + 1) 0 (omega (arith, le))) ∙ givers (output_at t n);
      files = second File (λ e. cc e) ∙ givers File;
      sink = takers Sink ∙ first Sink (λ e. cc e);
    }

-- ---- the receiver's wires

pub fits_over : (members : ℕ) (i j : Joint) (m n : ℕ) (txs : List (TxView Item)) → i ≡ j → n ≡ length txs → Fits members j false m (length txs) → Fits members i false m n
fits_over members i j m n txs same size f = subst (λ (x : Joint). Fits members x false m n) (sym same) (subst (Fits members j false m) (sym size) f)
