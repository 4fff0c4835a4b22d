-- Conveyors and routers as they are made, and the inputs and outputs of a tasklet one after another.
use Rattle.std.proofs.Common.{arith, ◌≡◌, ◌≢◌, ◌∙◌, ◌+◌, ◌<◌, ◌≤◌, ◌++◌, ◌⊎◌, inl, inr, ℕ, zero, suc, Bool, true, false, List, [], ◌∷◌, map, length, drop, get_or, add-one, drop-cons, ap, refl, sym, subst}
use Rattle.std.specs.Prelude.{replicate, if◌then◌else◌, Result, Ok, Err, IfOk}
use Rattle.std.proofs.lemmas.Bool.{cases_order}
use Rattle.std.proofs.lemmas.List.{append_assoc, length-map, map-append}
use Rattle.jet_items.specs.declared.item.Item.{Item}
use Rattle.jet_items.specs.declared.no_memory.NoMemory.{NoMemory}
use Rattle.jet_boxes.specs.declared.port.Port.{Port}
use Rattle.jet_conveyor.specs.Conveyor as conveyor
use Rattle.jet_harness.specs.declared.channel.Giver.{Giver}
use Rattle.jet_harness.specs.declared.channel.Giver.TheVariants.{Output, File}
use Rattle.jet_harness.specs.declared.harness.Harness.{Harness}
use Rattle.jet_harness.specs.Harness.{txs_of, rxs_of}
use Rattle.jet_layout.specs.declared.joint.Joint.{Joint}
use Rattle.jet_layout.specs.declared.wire.Taker.{Taker}
use Rattle.jet_layout.specs.declared.wire.Taker.TheVariants.{Input as InputOf, Sink}
use Rattle.jet_layout.specs.Joints.{nothing}
use Rattle.jet_layout.specs.Tables.{table}
use Rattle.jet_plan.specs.declared.route.Route.TheVariants.{Unicast, Partitioned}
use Rattle.jet_plan.specs.Kinds.{is_partitioned}
use Rattle.jet_ring.specs.Ring.{Ring, TxView, RxView, rx_view, rx_ring, received, known_items}
use Rattle.jet_ring.specs.declared.ends.Rx.{Rx}
use Rattle.jet_router.specs.declared.aim.Route as aim
use Rattle.jet_router.specs.declared.aim.Route.TheVariants as aims
use Rattle.jet_router.specs.declared.router.Router.{Router}
use Rattle.jet_router.specs.Dest.{DestView, fresh}
use Rattle.jet_router.specs.Router as router
use Rattle.jet_tasklet.specs.Inputs.{InputView, input_view, inputs_view}
use Rattle.jet_tasklet.specs.declared.input.Input.{Input}
use Rattle.jet_deploy.specs.Ends.{aim_of, input_at, output_at, conveyor_over, input_over, inputs_from, router_over, outputs_from}

-- ---- as they are made

rings_are : (queues : List (Rx Item)) → map rx_ring queues ≡ map (λ (r : RxView Item). r.ring) (map rx_view queues)
rings_are [] = refl
rings_are (q ∷ qs) = ap (λ l. rx_ring q ∷ l) (rings_are qs)

received_are : (queues : List (Rx Item)) → map received queues ≡ map (λ (r : RxView Item). r.received) (map rx_view queues)
received_are [] = refl
received_are (q ∷ qs) = ap (λ l. received q ∷ l) (received_are qs)

known_are : (queues : List (Rx Item)) → map known_items queues ≡ map (λ (r : RxView Item). r.known) (map rx_view queues)
known_are [] = refl
known_are (q ∷ qs) = ap (λ l. known_items q ∷ l) (known_are qs)

abbrev conveyor_with : List Ring → List (List Item) → List (List Item) → List Bool → ℕ → conveyor.View
conveyor_with a b c d e = record { rings = a; received = b; known = c; done = d; cursor = e }

same_conveyors : (v w : conveyor.View) → v.rings ≡ w.rings → v.received ≡ w.received → v.known ≡ w.known → v.done ≡ w.done → v.cursor ≡ w.cursor → v ≡ w
same_conveyors v w a b c d e =
    ap (λ x. conveyor_with x v.received v.known v.done v.cursor) a ∙ ap (λ x. conveyor_with w.rings x v.known v.done v.cursor) b ∙ ap (λ x. conveyor_with w.rings w.received x v.done v.cursor) c
    ∙ ap (λ x. conveyor_with w.rings w.received w.known x v.cursor) d ∙ ap (λ x. conveyor_with w.rings w.received w.known w.done x) e

pub conveyor_is : (v : conveyor.View) (queues : List (Rx Item)) (rxs : List (RxView Item)) → conveyor.IsNew v queues → map rx_view queues ≡ rxs → v ≡ conveyor_over rxs
conveyor_is v queues rxs new same =
    let many : length queues ≡ length (map rx_view queues) = simp length-map in
    let here : v ≡ conveyor_over (map rx_view queues) = same_conveyors v (conveyor_over (map rx_view queues))
    (new.rings ∙ rings_are queues) (new.received ∙ received_are queues) (new.known ∙ known_are queues) (new.done ∙ ap (λ (n : ℕ). replicate n false) many) new.cursor in
    here ∙ ap conveyor_over same

abbrev with_port : Port → conveyor.View → InputView
with_port port v = record { port = port; queues = v }

-- an input with such a conveyor
pub input_is : (port : Port) (v : conveyor.View) (queues : List (Rx Item)) (rxs : List (RxView Item)) → conveyor.IsNew v queues → map rx_view queues ≡ rxs → with_port port v ≡ input_over port rxs
input_is port v queues rxs new same = ap (with_port port) (conveyor_is v queues rxs new same)

abbrev router_with : aim.Route → List ℕ → List DestView → Bool → ℕ → router.View
router_with a b c d e = record { route = a; table = b; dests = c; busy = d; turn = e }

same_routers : (v w : router.View) → v.route ≡ w.route → v.table ≡ w.table → v.dests ≡ w.dests → v.busy ≡ w.busy → v.turn ≡ w.turn → v ≡ w
same_routers v w a b c d e =
    ap (λ x. router_with x v.table v.dests v.busy v.turn) a ∙ ap (λ x. router_with w.route x v.dests v.busy v.turn) b ∙ ap (λ x. router_with w.route w.table x v.busy v.turn) c
    ∙ ap (λ x. router_with w.route w.table w.dests x v.turn) d ∙ ap (λ x. router_with w.route w.table w.dests w.busy x) e

table_if : (b : Bool) (ds : List ℕ) → b ≡ true → (if b then ds else []) ≡ ds
table_if true ds is = refl
table_if false ds is = absurd (cc is)

-- a partitioned router over these ends
pub router_is : (made : Result Router NoMemory) (members : ℕ) (j : Joint) (across : Bool) (m : ℕ) (entries : List ℕ) (txs : List (TxView Item)) → j.route ≡ Partitioned → entries ≡ table members j across m
    → IfOk made (λ r. router.IsNew (router.view r) aims.Partitioned entries txs) → IfOk made (λ r. router.view r ≡ router_over members j across m txs)
router_is (Ok r) members j across m entries txs is same new =
    same_routers (router.view r) (router_over members j across m txs) (new.route ∙ sym (ap aim_of is)) (new.table ∙ same ∙ sym (table_if (is_partitioned j.route) (table members j across m) (ap is_partitioned is))) new.dests new.busy new.turn
router_is (Err e) members j across m entries txs is same new = tt

-- ---- one more

pub next : {X : Type 0} (xs : List X) (k : ℕ) (d : X) → k < length xs → drop k xs ≡ get_or xs k d ∷ drop (k + 1) xs
next xs k d h = rw (add-one, drop-cons xs k d) refl

abbrev taker_number : Taker → ℕ
taker_number (InputOf p) = p.number
taker_number Sink = 0

abbrev giver_number : Giver → ℕ
giver_number (Output p) = p.number
giver_number File = 0

input_differs : (task n k : ℕ) → n < k → input_at task n ≢ input_at task k
input_differs task n k lt e = let same : n ≡ k = ap taker_number e in absurd (omega (arith, lt, same))

output_differs : (task n k : ℕ) → n < k → output_at task n ≢ output_at task k
output_differs task n k lt e = let same : n ≡ k = ap giver_number e in absurd (omega (arith, lt, same))

view_more : (inputs : List Input) (i : Input) → inputs_view (inputs ++ i ∷ []) ≡ inputs_view inputs ++ input_view i ∷ []
view_more inputs i = map-append input_view inputs (i ∷ [])

-- an input more
pub inputs_more : (h : Harness) (task k : ℕ) (inputs : List Input) (i : Input) (ports : List Port) (p : Port) (all : List InputView) → drop k ports ≡ p ∷ drop (k + 1) ports
    → input_view i ≡ input_over p (rxs_of h (input_at task k)) → inputs_view inputs ++ inputs_from h task k (drop k ports) ≡ all
    → inputs_view (inputs ++ i ∷ []) ++ inputs_from h task (k + 1) (drop (k + 1) ports) ≡ all
inputs_more h task k inputs i ports p all more is before =
    ap (λ l. l ++ inputs_from h task (k + 1) (drop (k + 1) ports)) (view_more inputs i)
    ∙ append_assoc (inputs_view inputs) (input_view i ∷ []) (inputs_from h task (k + 1) (drop (k + 1) ports))
    ∙ ap (λ v. inputs_view inputs ++ (v ∷ inputs_from h task (k + 1) (drop (k + 1) ports))) is
    ∙ ap (λ l. inputs_view inputs ++ inputs_from h task k l) (sym more)
    ∙ before

-- no other taker loses its ends, and each of these has none left
module _ (task k : ℕ) (first before after : Harness) (gone : rxs_of after (input_at task k) ≡ []) (others : (t : Taker) → t ≢ input_at task k → rxs_of after t ≡ rxs_of before t) where
  gone_by : (n : ℕ) → (n < k → rxs_of before (input_at task n) ≡ []) → (n ≡ k) ⊎ ((n < k) ⊎ (k < n)) → n < k + 1 → rxs_of after (input_at task n) ≡ []
  gone_by n earlier (inl e) lt = ap (λ i. rxs_of after (input_at task i)) e ∙ gone
  gone_by n earlier (inr (inl less)) lt = others (input_at task n) (input_differs task n k less) ∙ earlier less
  gone_by n earlier (inr (inr more)) lt = absurd (omega arith)

  pub inputs_gone : ((n : ℕ) → n < k → rxs_of before (input_at task n) ≡ []) → (n : ℕ) → n < k + 1 → rxs_of after (input_at task n) ≡ []
  inputs_gone earlier n = gone_by n (earlier n) (cases_order n k)

  pub takers_kept : ((t : Taker) → ((n : ℕ) → n < k → t ≢ input_at task n) → rxs_of before t ≡ rxs_of first t)
      → (t : Taker) → ((n : ℕ) → n < k + 1 → t ≢ input_at task n) → rxs_of after t ≡ rxs_of first t
  takers_kept earlier t apart = others t (apart k (omega arith)) ∙ earlier t (λ n lt. apart n (omega (arith, lt)))

-- the ends of the next input are those that were there
pub next_input : (task k : ℕ) (first before : Harness) → ((t : Taker) → ((n : ℕ) → n < k → t ≢ input_at task n) → rxs_of before t ≡ rxs_of first t) → rxs_of before (input_at task k) ≡ rxs_of first (input_at task k)
next_input task k first before kept = kept (input_at task k) (λ n lt e. input_differs task n k lt (sym e))

-- a joint that stands for none
abbrev pub no_joint : Joint
no_joint = record { edge = 0; from = nothing; to = nothing; route = Unicast; distributed = false }

-- the same of outputs
pub outputs_more : (h : Harness) (task members m k : ℕ) (routers : List Router) (r : Router) (joints : List Joint) (j : Joint) (all : List router.View) → drop k joints ≡ j ∷ drop (k + 1) joints
    → router.view r ≡ router_over members j j.distributed m (txs_of h (output_at task k)) → map router.view routers ++ outputs_from h task members m k (drop k joints) ≡ all
    → map router.view (routers ++ r ∷ []) ++ outputs_from h task members m (k + 1) (drop (k + 1) joints) ≡ all
outputs_more h task members m k routers r joints j all more is before =
    ap (λ l. l ++ outputs_from h task members m (k + 1) (drop (k + 1) joints)) (map-append router.view routers (r ∷ []))
    ∙ append_assoc (map router.view routers) (router.view r ∷ []) (outputs_from h task members m (k + 1) (drop (k + 1) joints))
    ∙ ap (λ v. map router.view routers ++ (v ∷ outputs_from h task members m (k + 1) (drop (k + 1) joints))) is
    ∙ ap (λ l. map router.view routers ++ outputs_from h task members m k l) (sym more)
    ∙ before

module _ (task k : ℕ) (first before after : Harness) (gone : txs_of after (output_at task k) ≡ []) (others : (g : Giver) → g ≢ output_at task k → txs_of after g ≡ txs_of before g) where
  given_by : (n : ℕ) → (n < k → txs_of before (output_at task n) ≡ []) → (n ≡ k) ⊎ ((n < k) ⊎ (k < n)) → n < k + 1 → txs_of after (output_at task n) ≡ []
  given_by n earlier (inl e) lt = ap (λ i. txs_of after (output_at task i)) e ∙ gone
  given_by n earlier (inr (inl less)) lt = others (output_at task n) (output_differs task n k less) ∙ earlier less
  given_by n earlier (inr (inr more)) lt = absurd (omega arith)

  pub outputs_gone : ((n : ℕ) → n < k → txs_of before (output_at task n) ≡ []) → (n : ℕ) → n < k + 1 → txs_of after (output_at task n) ≡ []
  outputs_gone earlier n = given_by n (earlier n) (cases_order n k)

  pub givers_kept : ((g : Giver) → ((n : ℕ) → n < k → g ≢ output_at task n) → txs_of before g ≡ txs_of first g)
      → (g : Giver) → ((n : ℕ) → n < k + 1 → g ≢ output_at task n) → txs_of after g ≡ txs_of first g
  givers_kept earlier g apart = others g (apart k (omega arith)) ∙ earlier g (λ n lt. apart n (omega (arith, lt)))

pub next_output : (task k : ℕ) (first before : Harness) → ((g : Giver) → ((n : ℕ) → n < k → g ≢ output_at task n) → txs_of before g ≡ txs_of first g) → txs_of before (output_at task k) ≡ txs_of first (output_at task k)
next_output task k first before kept = kept (output_at task k) (λ n lt e. output_differs task n k lt (sym e))
