-- What is made over ends through which nothing went.
use Rattle.std.proofs.Common.{arith, ◌≡◌, ◌≢◌, ◌∙◌, ◌+◌, ◌*◌, ◌<◌, ◌≤◌, ◌++◌, ℕ, zero, suc, ℤ, Bool, true, false, cond, List, [], ◌∷◌, map, length, get_or, take, filter, ap, refl, sym, subst}
use Rattle.std.specs.Prelude.{replicate, if◌then◌else◌, bytes_eq, slice_get, Some, Result, Ok, Err, IfOk}
use Rattle.std.specs.List.{flat_map}
use Rattle.std.proofs.lemmas.List.{length-map, length-append, length-replicate}
use Rattle.std.proofs.lemmas.Option.{slice_get_read, slice_get_within, same_Some}
use Rattle.jet_items.specs.declared.item.Item.{Item}
use Rattle.jet_items.specs.declared.no_memory.NoMemory.{NoMemory}
use Rattle.jet_items.specs.Order.{Each}
use Rattle.jet_boxes.specs.declared.port.Port.{Port}
use Rattle.jet_boxes.specs.declared.port.Port.TheVariants.{Stream, Build}
use Rattle.jet_conveyor.specs.Conveyor as conveyor
use Rattle.jet_harness.specs.declared.channel.Giver.{Giver}
use Rattle.jet_harness.specs.declared.harness.Harness.{Harness}
use Rattle.jet_harness.specs.Harness.{txs_of, rxs_of, fresh_tx, fresh_rx}
use Rattle.jet_layout.specs.declared.joint.Joint.{Joint}
use Rattle.jet_layout.specs.declared.task.Instance.{Instance}
use Rattle.jet_layout.specs.Ports.{joints_out}
use Rattle.jet_plan.specs.declared.dag.Dag.{Dag}
use Rattle.jet_plan.specs.declared.edge.Edge.{Edge}
use Rattle.jet_plan.specs.declared.vertex.Vertex.{Vertex}
use Rattle.jet_plan.specs.Graph.{edges_into}
use Rattle.jet_plan.specs.Kinds.{reads_files}
use Rattle.jet_ring.specs.Ring.{Ring, TxView, RxView}
use Rattle.jet_router.specs.Dest.{DestView, fresh}
use Rattle.jet_router.specs.Router as router
use Rattle.jet_run.specs.Flows.{IsFor}
use Rattle.jet_tasklet.specs.declared.any.AnyTasklet.{AnyTasklet}
use Rattle.jet_tasklet.specs.declared.input.Input.{Input}
use Rattle.jet_tasklet.specs.Inputs.{InputView, input_view, inputs_view, queue_count}
use Rattle.jet_tasklet.specs.Keeps.{IsUnread, IsUnsent}
use Rattle.jet_tasklet.specs.Outputs.{HasDest, ready}
use Rattle.jet_tasklet.specs.Trace.{same_port}
use Rattle.jet_tasklet.specs.Views.{ins, outs}
use Rattle.jet_deploy.specs.Ends.{input_at, output_at, input_over, inputs_from, router_over, outputs_from, Fits, FitAll}
use Rattle.jet_deploy.specs.Instances.{HasMore}
use Rattle.jet_deploy.specs.Making.{Ground, IsInstance, port_of, vertex_ports, HasFreshEnds}

-- ---- inputs

fresh_received : (rs : List Ring) → Each (λ (xs : List Item). xs ≡ []) (map (λ (r : RxView Item). r.received) (map fresh_rx rs))
fresh_received [] = tt
fresh_received (r ∷ rs) = (refl, fresh_received rs)

none_done : (n : ℕ) → Each (λ (d : Bool). d ≡ false) (replicate n false)
none_done zero = tt
none_done (suc n) = (refl, none_done n)

input_unread : (p : Port) (rs : List Ring) → IsUnread (input_over p (map fresh_rx rs))
input_unread p rs = record {
  even = record { received = simp length-map; done = simp (length-map, length-replicate) };
  received = fresh_received rs;
  done = none_done (length (map fresh_rx rs));
}

abbrev AreFreshRxs : Harness → ℕ → Type 0
AreFreshRxs h k = (n : ℕ) → (rs : List Ring) × (rxs_of h (input_at k n) ≡ map fresh_rx rs) × (length rs ≤ 2000000)

pub inputs_unread : (h : Harness) (k n : ℕ) (ps : List Port) → AreFreshRxs h k → Each IsUnread (inputs_from h k n ps)
inputs_unread h k n [] f = tt
inputs_unread h k n (p ∷ ps) f = (subst (λ (rxs : List (RxView Item)). IsUnread (input_over p rxs)) (sym (f n).1) (input_unread p (f n).0), inputs_unread h k (n + 1) ps f)

chosen_few : (b : Bool) (rs : List Ring) (m : ℕ) → length rs ≤ m → length (cond b rs []) ≤ m
chosen_few true rs m h = h
chosen_few false rs m h = omega arith

pub queues_few : (port : Port) (h : Harness) (k n : ℕ) (ps : List Port) → AreFreshRxs h k → queue_count port (inputs_from h k n ps) ≤ length ps * 2000000
queues_few port h k n [] f = omega arith
queues_few port h k n (p ∷ ps) f =
    let rings = map (λ (r : RxView Item). r.ring) (rxs_of h (input_at k n)) in
    let size : length rings ≤ 2000000 = few (rxs_of h (input_at k n)) (f n) in
    let here = chosen_few (same_port p port) rings 2000000 size in
    let rest = queues_few port h k (n + 1) ps f in
    let sum : queue_count port (inputs_from h k n (p ∷ ps)) ≡ length (cond (same_port p port) rings []) + queue_count port (inputs_from h k (n + 1) ps) = simp length-append in
    omega (arith, here, rest, sum)
  where
    few : (rxs : List (RxView Item)) → ((rs : List Ring) × (rxs ≡ map fresh_rx rs) × (length rs ≤ 2000000)) → length (map (λ (r : RxView Item). r.ring) rxs) ≤ 2000000
    few rxs g = let size : length (map (λ (r : RxView Item). r.ring) rxs) ≡ length g.0 = (simp length-map) ∙ (ap length g.1 ∙ (simp length-map)) in let most = g.2 in omega (arith, size, most)

-- ---- ports

kept_few : {X : Type 0} (p : X → Bool) (xs : List X) → length (filter p xs) ≤ length xs
kept_few p [] = omega arith
kept_few p (x ∷ xs) = let rest = kept_few p xs in kept (p x) rest
  where
    kept : (b : Bool) → length (filter p xs) ≤ length xs → length (if b then x ∷ filter p xs else filter p xs) ≤ length (x ∷ xs)
    kept true h = omega (arith, h)
    kept false h = omega (arith, h)

pub ports_few : (dag : Dag) (v : Vertex) → length dag.edges ≤ 64 → length (vertex_ports dag v) ≤ 64
ports_few dag v few = ports_if (reads_files v.kind)
  where
    ports_if : (b : Bool) → length (if b then Stream ∷ [] else map port_of (edges_into v.name dag.edges)) ≤ 64
    ports_if true = omega arith
    ports_if false = let size : length (map port_of (edges_into v.name dag.edges)) ≡ length (edges_into v.name dag.edges) = simp length-map in let most = kept_few (λ (e : Edge). bytes_eq e.to v.name) dag.edges in omega (arith, size, most, few)

pub no_builds : (h : Harness) (k : ℕ) (dag : Dag) (v : Vertex) → reads_files v.kind ≡ true → queue_count Build (inputs_from h k 0 (vertex_ports dag v)) ≡ 0
no_builds h k dag v is = ap (λ (b : Bool). queue_count Build (inputs_from h k 0 (if b then Stream ∷ [] else map port_of (edges_into v.name dag.edges)))) is

-- ---- outputs

pub dests_each : (h : Harness) (k members m n : ℕ) (js : List Joint) → FitAll h k members m n js → Each HasDest (outputs_from h k members m n js)
dests_each h k members m n [] f = tt
dests_each h k members m n (j ∷ js) f =
    let size : length (router.rings (router_over members j j.distributed m (txs_of h (output_at k n)))) ≡ length (txs_of h (output_at k n)) = simp length-map in
    let some = f.0.some in
    (omega (arith, size, some), dests_each h k members m (n + 1) js f.1)

fresh_sent : (rs : List Ring) → Each (λ (xs : List Item). xs ≡ []) (map (λ (t : TxView Item). t.sent) (map (λ (d : DestView). d.tx) (map fresh (map fresh_tx rs))))
fresh_sent [] = tt
fresh_sent (r ∷ rs) = (refl, fresh_sent rs)

pub unsent_each : (h : Harness) (k members m n : ℕ) (js : List Joint) → ((n : ℕ) → (rs : List Ring) × (txs_of h (output_at k n) ≡ map fresh_tx rs)) → Each IsUnsent (outputs_from h k members m n js)
unsent_each h k members m n [] f = tt
unsent_each h k members m n (j ∷ js) f =
    (subst (λ (txs : List (TxView Item)). IsUnsent (router_over members j j.distributed m txs)) (sym (f n).1) (record { free = refl; sents = fresh_sent (f n).0 }), unsent_each h k members m (n + 1) js f)

pub outputs_size : (h : Harness) (k members m n : ℕ) (js : List Joint) → length (outputs_from h k members m n js) ≡ length js
outputs_size h k members m n [] = refl
outputs_size h k members m n (j ∷ js) = let rest = outputs_size h k members m (n + 1) js in omega (arith, rest)

-- ---- the ends that givers have stay where takers' are taken

pub fits_moved : (h b : Harness) (k members m n : ℕ) (js : List Joint) → ((g : Giver) → txs_of b g ≡ txs_of h g) → FitAll h k members m n js → FitAll b k members m n js
fits_moved h b k members m n [] same f = tt
fits_moved h b k members m n (j ∷ js) same f =
    (subst (λ (txs : List (TxView Item)). Fits members j j.distributed m (length txs)) (sym (same (output_at k n))) f.0, fits_moved h b k members m (n + 1) js same f.1)

pub fresh_moved : (h b : Harness) (k : ℕ) → ((g : Giver) → txs_of b g ≡ txs_of h g) → HasFreshEnds h k → (n : ℕ) → (rs : List Ring) × (txs_of b (output_at k n) ≡ map fresh_tx rs)
fresh_moved h b k same f n = let t = f.txs n in (t.0, same (output_at k n) ∙ t.1)

-- ---- what was found

pub vertex_same : (items : List Vertex) (d dag : Dag) (i : ℕ) (v w : Vertex) → items ≡ d.vertices → d ≡ dag → slice_get dag.vertices i ≡ Some w → v ≡ get_or items i v → v ≡ w
vertex_same items d dag i v w all same there at =
    let whole : items ≡ dag.vertices = all ∙ ap (λ (x : Dag). x.vertices) same in
    let within = slice_get_within dag.vertices i w there in
    let size = ap length whole in
    let here : slice_get items i ≡ Some v = slice_get_read items _ i v refl (omega (arith, within, size)) at in
    same_Some v w (sym here ∙ (ap (λ vs. slice_get vs i) whole ∙ there))

pub joints_same : (now outs js : List Joint) (d dag : Dag) (v w : Vertex) → now ≡ outs → outs ≡ joints_out d js v.name → d ≡ dag → v ≡ w → now ≡ joints_out dag js w.name
joints_same now outs js d dag v w value is same alike = value ∙ (is ∙ (ap (λ (x : Dag). joints_out x js v.name) same ∙ ap (λ (x : Vertex). joints_out dag js x.name) alike))

pub few_ports : (now ports : List Port) (d dag : Dag) (v : Vertex) → now ≡ ports → ports ≡ vertex_ports d v → d ≡ dag → length dag.edges ≤ 64 → length now ≤ 64
few_ports now ports d dag v value is same few =
    let size : length now ≡ length (vertex_ports d v) = ap length (value ∙ is) in
    let edges = subst (λ (x : Dag). length x.edges ≤ 64) (sym same) few in
    let most = ports_few d v edges in
    omega (arith, size, most)

pub few_queues : (port : Port) (inputs : List InputView) (h : Harness) (k : ℕ) (ports : List Port) → inputs ≡ inputs_from h k 0 ports → length ports ≤ 64 → AreFreshRxs h k → queue_count port inputs < 4294967296
few_queues port inputs h k ports is few fresh =
    let most = queues_few port h k 0 ports fresh in
    let size = ap (queue_count port) is in
    omega (arith, most, size, few)

-- ---- an instance

module _ (g : Ground) (h b : Harness) (k : ℕ) (i : Instance) (v : Vertex) (there : slice_get g.dag.vertices i.vertex ≡ Some v) (same : (n : ℕ) → txs_of b (output_at k n) ≡ txs_of h (output_at k n)) where
  same_outputs : (n : ℕ) (js : List Joint) → outputs_from b k g.members i.member n js ≡ outputs_from h k g.members i.member n js
  same_outputs n [] = refl
  same_outputs n (j ∷ js) = ap (λ (txs : List (TxView Item)). router_over g.members j j.distributed i.member txs ∷ outputs_from b k g.members i.member (n + 1) js) (same n) ∙ ap (λ l. router_over g.members j j.distributed i.member (txs_of h (output_at k n)) ∷ l) (same_outputs (n + 1) js)

  pub made_if : (made : Result AnyTasklet NoMemory) (is : List InputView) (os : List router.View) (js : List Joint) → IfOk made (IsFor v.kind) → (z : ℤ) → z ≡ g.grain → IfOk made (HasMore g.dag z i.vertex v v.kind)
      → IfOk made (λ t. ins t ≡ is) → is ≡ inputs_from h k 0 (vertex_ports g.dag v)
      → IfOk made (λ t. outs t ≡ map ready os) → os ≡ outputs_from b k g.members i.member 0 js → js ≡ joints_out g.dag g.joints v.name → IfOk made (IsInstance g h k i)
  made_if (Ok t) is os js kind z unit more inputs from outputs into out =
      record {
        vertex = v;
        there = there;
        kind = kind;
        more = subst (λ (y : ℤ). HasMore g.dag y i.vertex v v.kind t) unit more;
        inputs = inputs ∙ from;
        outputs = outputs ∙ ap (map ready) (into ∙ (same_outputs 0 js ∙ ap (outputs_from h k g.members i.member 0) out));
      }
  made_if (Err e) is os js kind z unit more inputs from outputs into out = tt

-- ---- the queues of a port, input by input

pub queues_more : (port : Port) (xs : List Input) (k : ℕ) (x : Input) → k < length xs → x ≡ get_or xs k x → same_port x.port port ≡ true
    → queue_count port (inputs_view (take k xs)) + length (input_view x).queues.rings ≤ queue_count port (inputs_view xs)
queues_more port [] k x lt at is = absurd (omega (arith, lt))
queues_more port (y ∷ ys) zero x lt at is =
    let here : length (cond (same_port y.port port) (input_view y).queues.rings []) ≡ length (input_view x).queues.rings = rw (sym at, is) refl in
    let sum : queue_count port (inputs_view (y ∷ ys)) ≡ length (cond (same_port y.port port) (input_view y).queues.rings []) + queue_count port (inputs_view ys) = simp length-append in
    omega (arith, here, sum)
queues_more port (y ∷ ys) (suc k) x lt at is =
    let rest = queues_more port ys k x (omega (arith, lt)) at is in
    let front : queue_count port (inputs_view (take (suc k) (y ∷ ys))) ≡ length (cond (same_port y.port port) (input_view y).queues.rings []) + queue_count port (inputs_view (take k ys)) = simp length-append in
    let sum : queue_count port (inputs_view (y ∷ ys)) ≡ length (cond (same_port y.port port) (input_view y).queues.rings []) + queue_count port (inputs_view ys) = simp length-append in
    omega (arith, rest, front, sum)
