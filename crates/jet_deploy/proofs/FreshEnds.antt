-- That over the fresh rings of a layout all its tasklets can be made.
use Rattle.std.proofs.Common.{arith, ◌≡◌, ◌≢◌, ◌∙◌, ◌+◌, ◌*◌, ◌==◌, ◌<◌, ◌≤◌, ◌^◌, ◌++◌, ℕ, zero, suc, Bool, true, false, cond, ℤ, List, [], ◌∷◌, Some, map, length, ap, refl, sym, subst, mul-le-mul_left}
use Rattle.std.specs.Prelude.{slice_get, count_by, take, bytes_eq}
use Rattle.std.specs.List.{Contains}
use Rattle.std.proofs.lemmas.List.{length-map, length-append}
use Rattle.std.proofs.lemmas.List.Sums.{sum_by-cons, count_by-le-length}
use Rattle.std.proofs.lemmas.Option.{same_Some, slice_get_within, get_or_from_slice_get}
use Rattle.std.proofs.Math.Seq.{take-length}
use Rattle.jet_harness.specs.declared.channel.Channel.{Channel}
use Rattle.jet_harness.specs.declared.channel.Giver.{Giver}
use Rattle.jet_harness.specs.declared.channel.Giver.TheVariants.{Output}
use Rattle.jet_harness.specs.declared.harness.Harness.{Harness}
use Rattle.jet_harness.specs.Channels.{channels, wire_channel, file_channel, same_giver, same_taker}
use Rattle.jet_harness.specs.Harness.{txs_of, rxs_of, fresh_tx, fresh_rx, given_by, taken_by, Joins}
use Rattle.jet_harness.specs.Places.{place_at_giver, place_at_taker}
use Rattle.jet_layout.specs.declared.joint.Joint.{Joint}
use Rattle.jet_layout.specs.declared.layout.Layout.{Layout}
use Rattle.jet_layout.specs.declared.task.Instance.{Instance}
use Rattle.jet_layout.specs.declared.task.Link.{Link}
use Rattle.jet_layout.specs.declared.task.Task.TheVariants.{Run, Send, Receive}
use Rattle.jet_layout.specs.declared.wire.Port.{Port}
use Rattle.jet_layout.specs.declared.wire.Taker.{Taker}
use Rattle.jet_layout.specs.declared.wire.Wire.{Wire}
use Rattle.jet_layout.specs.Counts.{HasCounted}
use Rattle.jet_layout.specs.Destinations.{destination_count, HasOutputs}
use Rattle.jet_layout.specs.Joints.{count}
use Rattle.jet_layout.specs.Places as places
use Rattle.jet_layout.specs.Ports.{gives_at, wire_count, HasWires, IsHeard, joints_out}
use Rattle.jet_plan.specs.declared.dag.Dag.{Dag}
use Rattle.jet_plan.specs.declared.route.Route.{Route}
use Rattle.jet_plan.specs.declared.route.Route.TheVariants.{Unicast, Isolated, Partitioned, Broadcast}
use Rattle.jet_plan.specs.declared.settings.Settings.{Settings}
use Rattle.jet_plan.specs.declared.vertex.Vertex.{Vertex}
use Rattle.jet_plan.specs.Ends.{edges_from}
use Rattle.jet_plan.specs.Kinds.{is_sink, is_isolated, is_partitioned}
use Rattle.jet_plan.specs.Rings.{members, rings, ring_slots, slots}
use Rattle.jet_ring.specs.Ring.{Ring}
use Rattle.jet_deploy.specs.Ends.{input_at, output_at, Fits, FitAll}
use Rattle.jet_deploy.specs.Making.{Ground, CanRun, CanLink, CanMake, HasFreshEnds}
use Rattle.jet_deploy.specs.inner.Standing.{ground_over}

-- ---- how many ends there are

module _ (k n : ℕ) where
  abbrev gives : Channel → Bool
  gives c = same_giver (output_at k n) c.giver

  abbrev weight : Channel → ℕ
  weight c = cond (gives c) 1 0

  no_files : (ps : List Port) → count_by gives (map file_channel ps) ≡ 0
  no_files [] = refl
  no_files (p ∷ ps) = sum_by-cons weight (file_channel p) (map file_channel ps) ∙ ap (λ (x : ℕ). 0 + x) (no_files ps)

  of_wires : (ws : List Wire) (ps : List Port) → count_by gives (map wire_channel ws ++ map file_channel ps) ≡ count_by (gives_at k n) ws
  of_wires [] ps = no_files ps
  of_wires (w ∷ ws) ps =
      sum_by-cons weight (wire_channel w) (map wire_channel ws ++ map file_channel ps)
      ∙ ap (λ x. weight (wire_channel w) + x) (of_wires ws ps)
      ∙ sym (sum_by-cons (λ (x : Wire). cond (gives_at k n x) 1 0) w ws)

-- what the law of harnesses says of the counts of ends
pub record Counted (cs : List Channel) (h : Harness) : Type 0 where
  pub sends : (g : Giver) → length (txs_of h g) ≡ place_at_giver cs (length cs) g
  pub receives : (t : Taker) → length (rxs_of h t) ≡ place_at_taker cs (length cs) t

sent_count : (l : Layout) (h : Harness) → Counted (channels l) h → (k n : ℕ) → length (txs_of h (output_at k n)) ≡ wire_count l.wires k n
sent_count l h c k n = c.sends (output_at k n) ∙ ap (count_by (gives k n)) (take-length (channels l)) ∙ of_wires k n l.wires l.files

pub few_at : (cs : List Channel) (p : Channel → Bool) → count_by p (take (length cs) cs) ≤ length cs
few_at cs p =
    let le = count_by-le-length p cs in
    let all = ap (count_by p) (take-length cs) in
    omega (arith, le, all)

fresh_ends : (cs : List Channel) (capacity : ℕ) (rs : List Ring) (h : Harness) → Joins cs capacity rs h → Counted cs h → length cs ≤ 2000000 → (k : ℕ) → HasFreshEnds h k
fresh_ends cs capacity rs h j c few k =
    record {
      rxs = λ n.
          let t = input_at k n in
          let long = ap length (sym (j.takers t)) ∙ c.receives t in
          let same = length-map (taken_by t cs rs) fresh_rx in
          let le = few_at cs (λ x. same_taker t x.taker) in
          (taken_by t cs rs, j.takers t, omega (arith, long, same, le, few));
      txs = λ n. (given_by (output_at k n) cs rs, j.givers (output_at k n));
    }

-- rings of two slots or more, of which there are four million at most
pub few_rings : (n r : ℕ) → 2 ≤ r → n * r ≤ 4000000 → n ≤ 2000000
few_rings n r two most = let m = mul-le-mul_left n two in omega (arith, m, most)

-- ---- which ends fit

not_isolated : (r : Route) → is_partitioned r ≡ true → is_isolated r ≡ false
not_isolated Unicast e = cc
not_isolated Isolated e = cc
not_isolated Partitioned e = refl
not_isolated Broadcast e = cc

outputs_here : (width m n : ℕ) (j : Joint) (across : Bool) → n ≡ destination_count width j across m → 0 < n → 0 < count j.from m → HasOutputs j across m
outputs_here width m n j true e some from = from
outputs_here width m n j false e some from = omega (arith, e, some)

fits : (width k n m : ℕ) (wires : List Wire) (j : Joint) (ends : ℕ) → ends ≡ wire_count wires k n → ends < 2 ^ 32 → HasWires width wires k n m j → Fits width j j.distributed m ends
fits width k n m wires j ends e few has =
    let some = has.some in
    record {
      some = omega (arith, e, some);
      few = few;
      instances = has.consumers;
      here = λ p. outputs_here width m ends j j.distributed (e ∙ has.each (not_isolated j.route p)) (omega (arith, e, some)) has.producers;
      each = λ p. e ∙ has.each (not_isolated j.route p);
    }

fit_all : (h : Harness) (k width m n : ℕ) (js : List Joint) → ((o : ℕ) (j : Joint) → slice_get js o ≡ Some j → Fits width j j.distributed m (length (txs_of h (output_at k (n + o))))) → FitAll h k width m n js
fit_all h k width m n [] each = tt
fit_all h k width m n (j ∷ js) each =
    let z : n + 0 ≡ n = omega arith in (
      subst (λ (i : ℕ). Fits width j j.distributed m (length (txs_of h (output_at k i)))) z (each 0 j refl),
      fit_all h k width m (n + 1) js (λ o x at.
          let e : n + suc o ≡ (n + 1) + o = omega arith in
          subst (λ (i : ℕ). Fits width x x.distributed m (length (txs_of h (output_at k i)))) e (each (suc o) x at)),
    )

-- ---- all tasks

-- what the laws of layouts say
pub record Facts (dag : Dag) (width : ℕ) (l : Layout) : Type 0 where
  pub instances : (k : ℕ) (i : Instance) → slice_get l.tasks k ≡ Some (Run i) → places.IsInstance dag width i
  pub senders : (k : ℕ) (x : Link) → slice_get l.tasks k ≡ Some (Send x) → places.IsLink width l.joints x
  pub wires : (k n : ℕ) (i : Instance) (v : Vertex) (j : Joint) → slice_get l.tasks k ≡ Some (Run i) → slice_get dag.vertices i.vertex ≡ Some v
      → slice_get (joints_out dag l.joints v.name) n ≡ Some j → HasWires width l.wires k n i.member j
  pub outputs : (v : Vertex) → length (joints_out dag l.joints v.name) ≡ edges_from dag.edges v.name
  pub some : (v : Vertex) → Contains dag.vertices v → is_sink v.kind ≡ false → 0 < edges_from dag.edges v.name
  pub heard : (k : ℕ) (x : Link) → slice_get l.tasks k ≡ Some (Receive x) → IsHeard width l.joints l.wires k x
  pub edges : length dag.edges ≤ 64
  pub few : length (channels l) ≤ 2000000
  pub behind : (k : ℕ) (x : Link) → slice_get l.tasks k ≡ Some (Send x) → slice_get l.tasks (k + 1) ≡ Some (Receive x)
  pub before : (k : ℕ) (x : Link) → slice_get l.tasks (k + 1) ≡ Some (Receive x) → slice_get l.tasks k ≡ Some (Send x)
  pub first : (x : Link) → slice_get l.tasks 0 ≢ Some (Receive x)

module _ (dag : Dag) (width : ℕ) (l : Layout) (capacity : ℕ) (rs : List Ring) (h : Harness) (f : Facts dag width l) (j : Joins (channels l) capacity rs h) (c : Counted (channels l) h) where
  few_ends : (k n : ℕ) → length (txs_of h (output_at k n)) < 2 ^ 32
  few_ends k n =
      let e = c.sends (output_at k n) in
      let le = few_at (channels l) (gives k n) in
      let few = f.few in
      omega (arith, e, le, few)

  fresh : (k : ℕ) → HasFreshEnds h k
  fresh k = fresh_ends (channels l) capacity rs h j c f.few k

  can_run : (grain : ℤ) (k : ℕ) (i : Instance) → slice_get l.tasks k ≡ Some (Run i) → CanRun (ground_over dag l width grain) h k i
  can_run grain k i at =
      let is = f.instances k i at in
      let v = is.vertex in
      let long = f.outputs v in
      let some = f.some v (i.vertex, slice_get_within dag.vertices i.vertex v is.at, get_or_from_slice_get dag.vertices i.vertex v v is.at) is.plain in
      let few = count_by-le-length (λ e. bytes_eq e.from v.name) dag.edges in
      let most = f.edges in
      record {
        vertex = v;
        there = is.at;
        no_sink = is.plain;
        member = is.inside;
        some = omega (arith, long, some);
        few = omega (arith, long, few, most);
        fit = fit_all h k width i.member 0 (joints_out dag l.joints v.name) (λ o x here.
            let z : 0 + o ≡ o = omega arith in
            subst (λ (n : ℕ). Fits width x x.distributed i.member (length (txs_of h (output_at k n)))) (sym z)
            (fits width k o i.member l.wires x (length (txs_of h (output_at k o))) (sent_count l h c k o) (few_ends k o) (f.wires k o i v x at is.at here)));
        fresh = fresh k;
      }

  can_link : (grain : ℤ) (k : ℕ) (x : Link) → slice_get l.tasks k ≡ Some (Send x) → CanLink (ground_over dag l width grain) h k x
  can_link grain k x at =
      let is = f.senders k x at in
      let heard = f.heard (k + 1) x (f.behind k x at) in
      let e = sent_count l h c (k + 1) 0 in
      let some = heard.some in
      record {
        joint = heard.joint;
        at = heard.at;
        member = is.to;
        fit = record {
          some = omega (arith, e, some);
          few = few_ends (k + 1) 0;
          instances = heard.consumers;
          here = λ p. heard.here;
          each = λ p. e ∙ heard.each;
        };
        from = fresh k;
        to = fresh (k + 1);
      }

  can_make : (grain : ℤ) → CanMake (ground_over dag l width grain) h l.tasks
  can_make grain = record { runs = can_run grain; links = can_link grain; behind = f.behind; before = f.before; first = f.first }

-- what is told of the job of a plan is told of the plan's
pub can_make_of : (dag d : Dag) (s t : Settings) (l : Layout) (capacity : ℕ) (rs : List Ring) (h : Harness) (grain : ℤ) → d ≡ dag → t ≡ s → Facts d (members t) l → Joins (channels l) capacity rs h → Counted (channels l) h
    → CanMake (ground_over dag l (members s) grain) h l.tasks
can_make_of dag d s t l capacity rs h grain e u f j c =
    subst (λ (x : Dag). CanMake (ground_over x l (members s) grain) h l.tasks) e
    (subst (λ (x : Settings). CanMake (ground_over d l (members x) grain) h l.tasks) u (can_make d (members t) l capacity rs h f j c grain))

-- a layout has few rings
pub few_channels : (dag d : Dag) (s t : Settings) (l : Layout) (n : ℕ) → d ≡ dag → t ≡ s → HasCounted d t l → 2 ≤ ring_slots t → n ≡ slots dag s → n ≤ 4000000 → length (channels l) ≤ 2000000
few_channels dag d s t l count same u has two is bound =
    let there : slots d t ≡ slots dag s = ap (λ (x : Dag). slots x t) same ∙ ap (slots dag) u in
    let n = few_rings (rings d t) (ring_slots t) two (omega (arith, there, is, bound)) in
    let all = length-append (map wire_channel l.wires) (map file_channel l.files) in
    let ws = length-map l.wires wire_channel in
    let ps = length-map l.files file_channel in
    let e = has.rings in
    omega (arith, n, all, ws, ps, e)
