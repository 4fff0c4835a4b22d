-- How many wires each output of an instance has.
use Rattle.std.proofs.Common.{arith, ◌≡◌, ◌∙◌, ◌+◌, ◌*◌, ◌%◌, ◌<◌, ◌≤◌, ◌==◌, ◌||◌, ◌⊎◌, inl, inr, ◌∷◌, [], if◌then◌else◌, Bool, true, false, ℕ, zero, suc, List, length, map, take, cond, Some, ap, refl, sym, subst}
use Rattle.std.specs.Prelude.{slice_get, count_by, sum_by, bytes_eq, ◌&&◌}
use Rattle.std.specs.List.{All, filter, flat_map, range_with_len}
use Rattle.std.specs.Option.{option_map_or}
use Rattle.std.proofs.lemmas.Bool.{and_parts, cases_order}
use Rattle.std.proofs.lemmas.Bool.Decides.{nat_tests}
use Rattle.std.proofs.lemmas.List.Elements.{All-nil, All-cons, All-same, All-weaker, All-filter, All-contains, filter_passes}
use Rattle.std.proofs.lemmas.List.FromFn.{length-range_with_len}
use Rattle.std.proofs.lemmas.List.Sums.{sum_by-cons, sum_by-append, sum_by_more, length-filter}
use Rattle.std.proofs.lemmas.Option.{same_Some, slice_get_within, get_or_from_slice_get}
use Rattle.jet_plan.specs.declared.dag.Dag.{Dag}
use Rattle.jet_plan.specs.declared.edge.Edge.{Edge}
use Rattle.jet_plan.specs.declared.kind.Kind.{Kind}
use Rattle.jet_plan.specs.declared.kind.Kind.TheVariants.{Source, Side, Map, Filter, Flat, Join, Accumulate, Combine, Sink}
use Rattle.jet_plan.specs.declared.settings.Settings.{Settings}
use Rattle.jet_plan.specs.declared.vertex.Vertex.{Vertex}
use Rattle.jet_plan.specs.Ends.{edges_from}
use Rattle.jet_plan.specs.Kinds.{reads_files, is_isolated, is_side, is_sink, is_combine}
use Rattle.jet_plan.specs.Rings.{members, instances, sum_below}
use Rattle.jet_layout.specs.declared.end.EdgeEnd.{EdgeEnd}
use Rattle.jet_layout.specs.declared.joint.Joint.{Joint}
use Rattle.jet_layout.specs.declared.layout.Layout.{Layout}
use Rattle.jet_layout.specs.declared.task.Instance.{Instance}
use Rattle.jet_layout.specs.declared.task.Link.{Link}
use Rattle.jet_layout.specs.declared.task.Task.{Task}
use Rattle.jet_layout.specs.declared.task.Task.TheVariants.{Run, Send, Receive}
use Rattle.jet_layout.specs.declared.wire.Wire.{Wire}
use Rattle.jet_layout.specs.Joints.{count, port, taker, vertex_ends, output_number, joints_from, joints}
use Rattle.jet_layout.specs.Layouts.{IsLayout}
use Rattle.jet_layout.specs.Links.{link_between, links_from, links_of}
use Rattle.jet_layout.specs.Ports.{joints_out, gives_at, wire_count, HasWires}
use Rattle.jet_layout.specs.Tasks.{instance_tasks, link_tasks}
use Rattle.jet_layout.specs.Wires.{consumers, producer_wires, local_wires, link_wires, links_wires, edge_wires, wires_from}
use Rattle.jet_layout.proofs.Counting.{sum_flat, same_sums, sum_if, into, out}
use Rattle.jet_layout.proofs.Destinations.{link_to_first, each, first}
use Rattle.jet_layout.specs.inner.Facts.{Facts}
use Rattle.jet_layout.proofs.Facts.{AreKnown, known}
use Rattle.jet_layout.proofs.Joining.{IsJoint, IsSomeEdge, IsRest, rest_head, rest_tail, rest_all, contains, named, same_name, make, next_joint, joints_are_edges}
use Rattle.jet_layout.proofs.Numbering.{before}
use Rattle.jet_layout.proofs.Places.{run, same_instance, same_run, stands, IsPlaced, placed, front_or_behind, end_from}
use Rattle.jet_layout.proofs.Summing.{nothing_each, without, sum_none, sum_one, sum_same, count_map, count_numbers, Weighs, picked, equal, other_above, one_if}
use Rattle.jet_layout.proofs.Wired.{all_flat, IsLink, links_are, instance_at, start_plain}

equal_if : (a b : ℕ) → (a == b) ≡ true → a ≡ b
equal_if a b h = grind (arith, nat_tests)

both : (a b : Bool) → a ≡ true → b ≡ true → (a && b) ≡ true
both true true h k = refl
both true false h k = k
both false b h k = h

not_true : (b : Bool) → (b ≡ true → ⊥) → b ≡ false
not_true true h = absurd (h refl)
not_true false h = refl

contradicts : (b : Bool) → b ≡ false → b ≡ true → ⊥
contradicts b f t = cc (f, t)

one_each : (n : ℕ) → n * 1 ≡ n
one_each n = omega arith

one_link : (j : Joint) (m k : ℕ) (b : Bool) → All (λ (q : Link). q.from ≡ m) (if b then [] else record { edge = j.edge; from = m; to = k } ∷ [])
one_link j m k true = All-nil (λ (q : Link). q.from ≡ m)
one_link j m k false = All-cons (λ (q : Link). q.from ≡ m) (record { edge = j.edge; from = m; to = k }) [] refl (All-nil (λ (q : Link). q.from ≡ m))

-- the links from a member are from it
from_here : (width : ℕ) (j : Joint) (m : ℕ) → All (λ (q : Link). q.from ≡ m) (links_from j width m)
from_here width j m = all_flat (λ (q : Link). q.from ≡ m) (link_between j m) width (λ k lt. one_link j m k (k == m || (count j.from m == 0 || count j.to k == 0)))

pub element : {X : Type 0} (P : X → Type 0) (xs : List X) (n : ℕ) (x : X) → All P xs → slice_get xs n ≡ Some x → P x
element P xs n x all at = All-contains P xs x all (contains xs n x at)

no_side : (k : Kind) → reads_files k ≡ false → (is_side k || is_sink k) ≡ true → is_sink k ≡ true
no_side (Side file) reads single = absurd (cc reads)
no_side Sink reads single = refl
no_side (Source files lag) reads single = single
no_side (Map set) reads single = single
no_side (Filter test) reads single = single
no_side (Flat legs) reads single = single
no_side (Join mode rekey fields) reads single = single
no_side (Accumulate size slide) reads single = single
no_side Combine reads single = single

some_true : (a b c : Bool) → b ≡ true → (a || b || c) ≡ true
some_true true b c h = refl
some_true false true c h = refl
some_true false false c h = absurd (cc h)

-- how many consumers a producer gives to on its own member
given : (b c : Bool) (n i : ℕ) → (n == 0) ≡ c → 0 < n → 0 < length (if b then (if c then [] else (i % n ∷ [])) else range_with_len 0 n)
given true true n i e some = absurd (omega (arith, equal_if n 0 e, some))
given true false n i e some = omega arith
given false c n i e some = let size = length-range_with_len 0 n in omega (arith, size, some)

given_one : (b c : Bool) (n i : ℕ) → b ≡ true → (n == 0) ≡ c → 0 < n → length (if b then (if c then [] else (i % n ∷ [])) else range_with_len 0 n) ≡ 1
given_one true true n i h e some = absurd (omega (arith, equal_if n 0 e, some))
given_one true false n i h e some = refl
given_one false c n i h e some = absurd (cc h)

all_given : (b c : Bool) (n i : ℕ) → b ≡ false → length (if b then (if c then [] else (i % n ∷ [])) else range_with_len 0 n) ≡ n
all_given true c n i h = absurd (cc h)
all_given false c n i h = length-range_with_len 0 n

module _ (dag : Dag) (s : Settings) (l : Layout) (is : IsLayout dag s l) (facts : Facts dag s) where
  abbrev width : ℕ
  width = members s

  abbrev sure : AreKnown dag
  sure = known dag s facts

  -- no two vertices have the same name
  one_name : (u v : ℕ) (x y : Vertex) → slice_get dag.vertices u ≡ Some x → slice_get dag.vertices v ≡ Some y → x.name ≡ y.name → u ≡ v
  one_name u v x y at there same = elim (cases_order u v) [
    | inl e ↦ e
    | inr order ↦ elim order [
      | inl less ↦ absurd (apart u v x y at there same less)
      | inr more ↦ absurd (apart v u y x there at (sym same) more)
    ]
  ]
    where
      apart : (u v : ℕ) (x y : Vertex) → slice_get dag.vertices u ≡ Some x → slice_get dag.vertices v ≡ Some y → x.name ≡ y.name → u < v → ⊥
      apart u v x y at there same less =
          let shape = facts.shape in
          let vertices = shape.vertices in
          vertices.names u v x less (slice_get_within dag.vertices v y there)
          (ap (λ (z : Vertex). z.name) (get_or_from_slice_get dag.vertices u x x at) ∙ same ∙ sym (ap (λ (z : Vertex). z.name) (get_or_from_slice_get dag.vertices v y x there)))

  -- whether a joint leads from the vertex of this name
  abbrev leads_from : List ℕ → Joint → Bool
  leads_from name j = option_map_or (λ e. bytes_eq e.from name) (slice_get dag.edges j.edge) false

  leaves : (name : List ℕ) (n : ℕ) (e : Edge) (j : Joint) → IsJoint width dag n e j → leads_from name j ≡ bytes_eq e.from name
  leaves name n e j edge = ap (λ z. option_map_or (λ (d : Edge). bytes_eq d.from name) (slice_get dag.edges z) false) edge.number ∙ ap (λ o. option_map_or (λ (d : Edge). bytes_eq d.from name) o false) edge.edge

  -- how many edges before the one with the number n lead from there
  abbrev before_edge : List ℕ → ℕ → ℕ
  before_edge name n = count_by (λ e. bytes_eq e.from name) (take n dag.edges)

  one_edge_more : (name : List ℕ) (n : ℕ) (e : Edge) (j : Joint) → IsJoint width dag n e j → before_edge name (n + 1) ≡ before_edge name n + cond (leads_from name j) 1 0
  one_edge_more name n e j edge =
      sum_by_more (λ (d : Edge). cond (bytes_eq d.from name) 1 0) dag.edges n e (slice_get_within dag.edges n e edge.edge)
      ∙ ap (λ (d : Edge). before_edge name n + cond (bytes_eq d.from name) 1 0) (get_or_from_slice_get dag.edges n e e edge.edge)
      ∙ ap (λ b. before_edge name n + cond b 1 0) (sym (leaves name n e j edge))

  counted_out : (name : List ℕ) (n : ℕ) (es : List Edge) → IsRest dag.edges n es → count_by (leads_from name) (joints_from dag.vertices dag.edges (vertex_ends width 0 dag.vertices) n es) ≡ count_by (λ e. bytes_eq e.from name) es
  counted_out name n [] rest = refl
  counted_out name n (e ∷ es) rest =
      let at = rest_head dag.edges n e es rest in
      let j = (make width dag sure n e at).0 in
      let next = ap (count_by (leads_from name)) (next_joint width dag sure n e es at) in
      let sums = sum_by-cons (λ d. cond (leads_from name d) 1 0) j (joints_from dag.vertices dag.edges (vertex_ends width 0 dag.vertices) (n + 1) es) in
      let here = ap one_if (leaves name n e j (make width dag sure n e at).2) in
      let all = sum_by-cons (λ (d : Edge). cond (bytes_eq d.from name) 1 0) e es in
      let more = counted_out name (n + 1) es (rest_tail dag.edges n e es rest) in
      omega (arith, next, sums, here, all, more)

  pub outputs_counted : (name : List ℕ) → length (joints_out dag l.joints name) ≡ edges_from dag.edges name
  outputs_counted name = length-filter (leads_from name) l.joints ∙ ap (count_by (leads_from name)) is.joints ∙ counted_out name 0 dag.edges (rest_all dag.edges)

  pub consumers_some : (n : ℕ) (e : Edge) (j : Joint) → IsJoint width dag n e j → 1 ≤ (j.to).parallelism
  consumers_some n e j edge =
      let leads = edge.leads in
      let ranges = facts.ranges in
      let some = ranges.instances edge.end leads.end in
      let same = ap (λ (d : EdgeEnd). d.parallelism) edge.to in
      omega (arith, same, some)

  -- where a joint's consumers are one in all, the joint leads to the sink
  to_sink : (n : ℕ) (e : Edge) (j : Joint) (edge : IsJoint width dag n e j) → (j.to).single ≡ true → is_sink (edge.end).kind ≡ true
  to_sink n e j edge single = let shape = facts.shape in let edges = shape.edges in no_side (edge.end).kind (edges.firsts e edge.start edge.end edge.leads) (sym (ap (λ (d : EdgeEnd). d.single) edge.to) ∙ single)

  -- where each producer gives to one consumer, no item goes to another member
  stays : (n : ℕ) (e : Edge) (j : Joint) → IsJoint width dag n e j → is_isolated j.route ≡ true → j.distributed ≡ false
  stays n e j edge only =
      let shape = facts.shape in
      let routes = shape.routes in
      let leads = edge.leads in
      edge.distributed ∙ routes.isolated e leads.edge (ap is_isolated (sym edge.route) ∙ only)

  -- a producer has consumers on its own member, or a link to others
  reaches : (n : ℕ) (e : Edge) (j : Joint) (edge : IsJoint width dag n e j) (m : ℕ) (b d : Bool) → (j.to).single ≡ b → j.distributed ≡ d → m < width → 0 < count j.from m
      → (0 < count j.to m) ⊎ ((d ≡ true) × (is_isolated j.route ≡ false) × (0 < length (links_from j width m)))
  reaches n e j edge m false d single spread inside from = inl (
      let same = each j.to m single in
      let some = consumers_some n e j edge in
      omega (arith, same, some))
  reaches n e j edge zero true d single spread inside from = inl (let one = first j.to single in omega (arith, one))
  reaches n e j edge (suc m) true true single spread inside from = inr (
    refl,
    not_true (is_isolated j.route) (λ h.
        let shape = facts.shape in
        let routes = shape.routes in
        let leads = edge.leads in
        contradicts e.distributed (routes.isolated e leads.edge (ap is_isolated (sym edge.route) ∙ h)) (sym edge.distributed ∙ spread)),
    (let one = first j.to single in link_to_first j (suc m) width from (omega (arith, one)) (omega arith) (omega (arith, inside))),
  )
  reaches n e j edge (suc m) true false single spread inside from =
      let shape = facts.shape in
      let routes = shape.routes in
      let sink = to_sink n e j edge single in
      let gathered = routes.gathered e edge.start edge.end edge.leads (omega (arith, inside)) (some_true (is_combine (edge.end).kind) (is_sink (edge.end).kind) e.build sink) in
      absurd (contradicts j.distributed spread (edge.distributed ∙ gathered))

  -- ---- the output with the number n of the tasklet k, which is an instance

  module _ (k n : ℕ) (t : Task) (own : IsPlaced width dag.vertices k t) where
    here : slice_get (instance_tasks width 0 dag.vertices) k ≡ Some (run own.number own.member own.instance)
    here = stands width dag.vertices own.number own.vertex own.member own.instance k own.at own.plain own.inside own.there own.place

    -- whether it is that of producer a of the joint on member b
    abbrev test : Joint → ℕ → ℕ → Bool
    test j b a = k == (port j.from b a).task && n == (port j.from b a).number

    -- the wires out of it between instances, and those into links from member b
    abbrev near : Joint → ℕ
    near j = sum_below width (λ b. sum_below (count j.from b) (λ a. cond (test j b a) (length (consumers j.route (count j.to b) a)) 0))

    abbrev sent : Joint → ℕ → ℕ
    sent j b = sum_below (count j.from b) (λ a. cond (test j b a) 1 0)

    abbrev weight : Joint → ℕ
    weight j = near j + sum_by (λ q. sent j q.from) (links_of width j)

    near_count : (j : Joint) → count_by (gives_at k n) (flat_map (local_wires j) (range_with_len 0 width)) ≡ near j
    near_count j =
        let one : Wire → ℕ = λ w. if gives_at k n w then 1 else 0 in
        sum_flat one (local_wires j) width
        ∙ same_sums (λ b. count_by (gives_at k n) (local_wires j b)) (λ b. sum_below (count j.from b) (λ a. cond (test j b a) (length (consumers j.route (count j.to b) a)) 0)) width (λ b.
        sum_flat one (producer_wires j b) (count j.from b)
        ∙ same_sums (λ a. count_by (gives_at k n) (producer_wires j b a)) (λ a. cond (test j b a) (length (consumers j.route (count j.to b) a)) 0) (count j.from b) (λ a.
        count_map (gives_at k n) (λ c. record { giver = port j.from b a; taker = taker j.to b c }) (test j b a) (consumers j.route (count j.to b) a) (λ c. refl)))

    links_count : (j : Joint) (number : ℕ) (qs : List Link) → k < number → count_by (gives_at k n) (links_wires j number qs) ≡ sum_by (λ q. sent j q.from) qs
    links_count j number [] lt = refl
    links_count j number (q ∷ qs) lt =
        let first = map (into j number q) (range_with_len 0 (count j.from q.from)) in
        let second = map (out j number q) (range_with_len 0 (count j.to q.to)) in
        let one : Wire → ℕ = λ w. if gives_at k n w then 1 else 0 in
        let parts = sum_by-append one (link_wires j number q) (links_wires j (number + 2) qs) in
        let two = sum_by-append one first second in
        let givers : count_by (gives_at k n) first ≡ sent j q.from = count_numbers (gives_at k n) (into j number q) (count j.from q.from) in
        let apart = λ (c : ℕ). without (k == number + 1) (n == 0) (other_above k (number + 1) (omega (arith, lt))) in
        let none : count_by (gives_at k n) second ≡ 0 = count_map (gives_at k n) (out j number q) false (range_with_len 0 (count j.to q.to)) apart in
        let rest = links_count j (number + 2) qs (omega (arith, lt)) in
        let sums = sum_by-cons (λ (r : Link). sent j r.from) q qs in
        omega (arith, parts, two, givers, none, rest, sums)

    wires_count : (number : ℕ) (js : List Joint) → k < number → count_by (gives_at k n) (wires_from width number js) ≡ sum_by weight js
    wires_count number [] lt = refl
    wires_count number (j ∷ js) lt =
        let one : Wire → ℕ = λ w. if gives_at k n w then 1 else 0 in
        let parts = sum_by-append one (edge_wires width number j) (wires_from width (number + 2 * length (links_of width j)) js) in
        let two = sum_by-append one (flat_map (local_wires j) (range_with_len 0 width)) (links_wires j number (links_of width j)) in
        let local = near_count j in
        let linked = links_count j number (links_of width j) lt in
        let rest = wires_count (number + 2 * length (links_of width j)) js (omega (arith, lt)) in
        let sums = sum_by-cons weight j js in
        omega (arith, parts, two, local, linked, rest, sums)

    -- what it has if the joint is its edge
    abbrev whole : Joint → ℕ
    whole j = length (consumers j.route (count j.to own.member) own.instance) + (if j.distributed then length (links_from j width own.member) else 0)

    module _ (number : ℕ) (e : Edge) (j : Joint) (edge : IsJoint width dag number e j) where
      is_it : (b a : ℕ) → b < width → a < count j.from b → test j b a ≡ true → (edge.giver ≡ own.number) × (b ≡ own.member) × (a ≡ own.instance) × (n ≡ (j.from).number)
      is_it b a inside there h =
          let parts = and_parts (k == (port j.from b a).task) (n == (port j.from b a).number) h in
          let task = equal_if k (port j.from b a).task parts.0 in
          let at = instance_at dag s l is facts j.from edge.giver edge.start (output_number dag.edges number e) b a edge.from edge.at_start (start_plain dag s l is facts number e j edge) inside there in
          let same = same_run edge.giver own.number b own.member a own.instance (sym at ∙ ap (slice_get (instance_tasks width 0 dag.vertices)) (sym task) ∙ here) in
          (same.0, same.1, same.2, equal_if n (port j.from b a).number parts.1)

      nothing : ((b a : ℕ) → b < width → a < count j.from b → test j b a ≡ true → ⊥) → weight j ≡ 0
      nothing h =
          let no : (b a : ℕ) → b < width → a < count j.from b → test j b a ≡ false = λ b a inside there. not_true (test j b a) (h b a inside there) in
          let local : near j ≡ 0 = sum_none (λ b. sum_below (count j.from b) (λ a. cond (test j b a) (length (consumers j.route (count j.to b) a)) 0)) width (λ b inside.
          sum_none (λ a. cond (test j b a) (length (consumers j.route (count j.to b) a)) 0) (count j.from b) (λ a there. ap (λ c. if c then length (consumers j.route (count j.to b) a) else 0) (no b a inside there))) in
          let silent : (b : ℕ) → b < width → sent j b ≡ 0 = λ b inside. sum_none (λ a. cond (test j b a) 1 0) (count j.from b) (λ a there. ap (λ c. if c then 1 else 0) (no b a inside there)) in
          let far : sum_by (λ (q : Link). sent j q.from) (links_of width j) ≡ 0 =
          sum_same (λ (q : Link). sent j q.from) 0 (links_of width j) (All-weaker (IsLink width j) (λ (q : Link). sent j q.from ≡ 0) (λ q link. silent q.from link.from) (links_of width j) (links_are width j)) ∙ nothing_each (length (links_of width j)) in
          omega (arith, local, far)

      its_vertex : edge.giver ≡ own.number → edge.start ≡ own.vertex
      its_vertex same = same_Some edge.start own.vertex (sym edge.at_start ∙ ap (slice_get dag.vertices) same ∙ own.at)

      producers : edge.giver ≡ own.number → own.instance < count j.from own.member
      producers same =
          let counts : count j.from own.member ≡ instances own.vertex own.member = ap (λ (d : EdgeEnd). count d own.member) edge.from ∙ ap (λ (v : Vertex). instances v own.member) (its_vertex same) in
          let there = own.there in
          omega (arith, counts, there)

      own_test : edge.giver ≡ own.number → n ≡ (j.from).number → test j own.member own.instance ≡ true
      own_test same numbered =
          let place : (port j.from own.member own.instance).task ≡ k =
          ap (λ (d : EdgeEnd). d.first + own.member * d.parallelism + own.instance) edge.from
          ∙ ap (λ g. before width dag.vertices g + own.member * (edge.start).parallelism + own.instance) same
          ∙ ap (λ (v : Vertex). before width dag.vertices own.number + own.member * v.parallelism + own.instance) (its_vertex same)
          ∙ own.place in
          both (k == (port j.from own.member own.instance).task) (n == (port j.from own.member own.instance).number) (equal k (port j.from own.member own.instance).task (sym place)) (equal n (j.from).number numbered)

      its_own : edge.giver ≡ own.number → n ≡ (j.from).number → weight j ≡ whole j
      its_own same numbered =
          let m : ℕ = own.member in
          let i : ℕ = own.instance in
          let yes = own_test same numbered in
          let there = producers same in
          let no_member : (b a : ℕ) → b < width → a < count j.from b → (b ≡ m → ⊥) → test j b a ≡ false = λ b a inside lt other. not_true (test j b a) (λ h. other (is_it b a inside lt h).1) in
          let no_instance : (a : ℕ) → a < count j.from m → (a ≡ i → ⊥) → test j m a ≡ false = λ a lt other. not_true (test j m a) (λ h. other (is_it m a own.inside lt h).2) in
          let local : near j ≡ length (consumers j.route (count j.to m) i) =
          sum_one (λ b. sum_below (count j.from b) (λ a. cond (test j b a) (length (consumers j.route (count j.to b) a)) 0)) width m own.inside (λ b inside other.
          sum_none (λ a. cond (test j b a) (length (consumers j.route (count j.to b) a)) 0) (count j.from b) (λ a lt. ap (λ c. if c then length (consumers j.route (count j.to b) a) else 0) (no_member b a inside lt other)))
          ∙ sum_one (λ a. cond (test j m a) (length (consumers j.route (count j.to m) a)) 0) (count j.from m) i there (λ a lt other. ap (λ c. if c then length (consumers j.route (count j.to m) a) else 0) (no_instance a lt other))
          ∙ ap (λ c. if c then length (consumers j.route (count j.to m) i) else 0) yes in
          let silent : (b : ℕ) → b < width → (b ≡ m → ⊥) → sent j b ≡ 0 = λ b inside other. sum_none (λ a. cond (test j b a) 1 0) (count j.from b) (λ a lt. ap (λ c. if c then 1 else 0) (no_member b a inside lt other)) in
          let one : sent j m ≡ 1 = sum_one (λ a. cond (test j m a) 1 0) (count j.from m) i there (λ a lt other. ap (λ c. if c then 1 else 0) (no_instance a lt other)) ∙ ap (λ c. if c then 1 else 0) yes in
          let w : Link → ℕ = λ q. sent j q.from in
          let others : (b : ℕ) → b < width → (b ≡ m → ⊥) → sum_by w (links_from j width b) ≡ 0 = λ b inside other.
          sum_same w 0 (links_from j width b) (All-weaker (λ (q : Link). q.from ≡ b) (λ q. w q ≡ 0) (λ q at. ap (sent j) at ∙ silent b inside other) (links_from j width b) (from_here width j b)) ∙ nothing_each (length (links_from j width b)) in
          let ours : sum_by w (links_from j width m) ≡ length (links_from j width m) =
          sum_same w 1 (links_from j width m) (All-weaker (λ (q : Link). q.from ≡ m) (λ q. w q ≡ 1) (λ q at. ap (sent j) at ∙ one) (links_from j width m) (from_here width j m)) ∙ one_each (length (links_from j width m)) in
          let far : sum_by w (links_of width j) ≡ (if j.distributed then length (links_from j width m) else 0) =
          sum_if w j.distributed (flat_map (links_from j width) (range_with_len 0 width))
          ∙ ap (λ z. if j.distributed then z else 0) (sum_flat w (links_from j width) width ∙ sum_one (λ b. sum_by w (links_from j width b)) width m own.inside others ∙ ours) in
          omega (arith, local, far)

      -- the joint leads from the vertex of the instance
      its_giver : bytes_eq e.from (own.vertex).name ≡ true → edge.giver ≡ own.number
      its_giver h =
          let leads = edge.leads in
          one_name edge.giver own.number edge.start own.vertex edge.at_start own.at (leads.from ∙ same_name e.from (own.vertex).name h)

      leads_out : edge.giver ≡ own.number → bytes_eq e.from (own.vertex).name ≡ true
      leads_out same =
          let leads = edge.leads in
          named e.from (own.vertex).name (sym leads.from ∙ ap (λ (v : Vertex). v.name) (its_vertex same))

      its_output : bytes_eq e.from (own.vertex).name ≡ true → (j.from).number ≡ before_edge (own.vertex).name number
      its_output h = ap (λ (d : EdgeEnd). d.number) edge.from ∙ ap (λ a. before_edge a number) (same_name e.from (own.vertex).name h)

      weighed : (a c : Bool) → bytes_eq e.from (own.vertex).name ≡ a → (before_edge (own.vertex).name number == n) ≡ c → weight j ≡ (if a && c then whole j else 0)
      weighed true true leads numbered = its_own (its_giver leads) (sym (its_output leads ∙ equal_if (before_edge (own.vertex).name number) n numbered))
      weighed true false leads numbered = nothing (λ b a inside there h.
          let is = is_it b a inside there h in
          contradicts (before_edge (own.vertex).name number == n) numbered (equal (before_edge (own.vertex).name number) n (sym (is.3 ∙ its_output leads))))
      weighed false c leads numbered = nothing (λ b a inside there h.
          let is = is_it b a inside there h in
          contradicts (bytes_eq e.from (own.vertex).name) leads (leads_out is.0))

      weight_is : weight j ≡ (if leads_from (own.vertex).name j && before_edge (own.vertex).name number == n then whole j else 0)
      weight_is = weighed (bytes_eq e.from (own.vertex).name) (before_edge (own.vertex).name number == n) refl refl
          ∙ sym (ap (λ a. if a && before_edge (own.vertex).name number == n then whole j else 0) (leaves (own.vertex).name number e j edge))

    abbrev name : List ℕ
    name = (own.vertex).name

    weighs : (number : ℕ) (es : List Edge) → IsRest dag.edges number es → Weighs (leads_from name) weight whole n (before_edge name number) (joints_from dag.vertices dag.edges (vertex_ends width 0 dag.vertices) number es)
    weighs number [] rest = tt
    weighs number (e ∷ es) rest =
        let at = rest_head dag.edges number e es rest in
        let made = make width dag sure number e at in
        let more : List Joint = joints_from dag.vertices dag.edges (vertex_ends width 0 dag.vertices) (number + 1) es in
        subst (λ js. Weighs (leads_from name) weight whole n (before_edge name number) js) (sym (next_joint width dag sure number e es at)) (
          weight_is number e made.0 made.2,
          subst (λ b. Weighs (leads_from name) weight whole n b more) (one_edge_more name number e made.0 made.2) (weighs (number + 1) es (rest_tail dag.edges number e es rest)),
        )

    k_inside : k < length (instance_tasks width 0 dag.vertices)
    k_inside = slice_get_within (instance_tasks width 0 dag.vertices) k (run own.number own.member own.instance) here

    pub counted : (j : Joint) → slice_get (joints_out dag l.joints name) n ≡ Some j → wire_count l.wires k n ≡ whole j
    counted j at =
        let none : before_edge name 0 + n ≡ n = omega arith in
        ap (count_by (gives_at k n)) is.wires ∙ wires_count (length (instance_tasks width 0 dag.vertices)) l.joints k_inside ∙ ap (sum_by weight) is.joints
        ∙ picked (leads_from name) weight whole n (before_edge name 0) n (joints width dag) j (weighs 0 dag.edges (rest_all dag.edges)) (ap (λ js. slice_get (filter (leads_from name) js) n) (sym is.joints) ∙ at) none

    pub has_wires : (j : Joint) → slice_get (joints_out dag l.joints name) n ≡ Some j → HasWires width l.wires k n own.member j
    has_wires j at =
        let edges = All-same (IsSomeEdge width dag sure) l.joints (joints width dag) is.joints (joints_are_edges width dag sure) in
        let some = element (IsSomeEdge width dag sure) (joints_out dag l.joints name) n j (All-filter (leads_from name) (IsSomeEdge width dag sure) l.joints edges) at in
        let edge = some.2 in
        let leads = element (λ d. leads_from name d ≡ true) (joints_out dag l.joints name) n j (filter_passes (leads_from name) l.joints) at in
        let giver = its_giver some.0 some.1 j edge (sym (leaves name some.0 some.1 j edge) ∙ leads) in
        let there = producers some.0 some.1 j edge giver in
        let from : 0 < count j.from own.member = omega (arith, there) in
        let is_counted = counted j at in
        let local : ℕ = length (consumers j.route (count j.to own.member) own.instance) in
        let linked : ℕ = if j.distributed then length (links_from j width own.member) else 0 in
        record {
          some = elim (reaches some.0 some.1 j edge own.member (j.to).single j.distributed refl refl own.inside from) [
            | inl here ↦
                let more : 0 < local = given (is_isolated j.route) (count j.to own.member == 0) (count j.to own.member) own.instance refl here in
                omega (arith, is_counted, more)
            | inr far ↦
                let all : linked ≡ length (links_from j width own.member) = ap (λ b. if b then length (links_from j width own.member) else 0) far.0 in
                let more = far.2 in
                omega (arith, is_counted, all, more)
          ];
          each = λ plain. is_counted ∙ ap (λ c. c + linked) (all_given (is_isolated j.route) (count j.to own.member == 0) (count j.to own.member) own.instance plain);
          one = λ only. elim (reaches some.0 some.1 j edge own.member (j.to).single j.distributed refl refl own.inside from) [
            | inl here ↦
                let single : local ≡ 1 = given_one (is_isolated j.route) (count j.to own.member == 0) (count j.to own.member) own.instance only refl here in
                let none : linked ≡ 0 = ap (λ b. if b then length (links_from j width own.member) else 0) (stays some.0 some.1 j edge only) in
                omega (arith, is_counted, single, none)
            | inr far ↦ absurd (contradicts (is_isolated j.route) far.1 only)
          ];
          producers = from;
          consumers = consumers_some some.0 some.1 j edge;
        }

  no_end : (i : Instance) (q : Link) (a b : Type 0) → (a × (Run i ≡ Send q)) ⊎ (b × (Run i ≡ Receive q)) → ⊥
  no_end i q a b (inl h) = cc h.1
  no_end i q a b (inr h) = cc h.1

  -- a tasklet that runs an instance is one of those of the vertices
  pub among_instances : (k : ℕ) (i : Instance) → slice_get l.tasks k ≡ Some (Run i) → slice_get (instance_tasks width 0 dag.vertices) k ≡ Some (Run i)
  among_instances k i at = elim (front_or_behind (instance_tasks width 0 dag.vertices) (flat_map link_tasks l.links) k (Run i) (ap (λ ts. slice_get ts k) (sym is.tasks) ∙ at)) [
    | inl front ↦ front
    | inr back ↦
        let end = end_from l.links back.0 (Run i) back.2 in
        absurd (no_end i end.link (2 * end.number ≡ back.0) (2 * end.number + 1 ≡ back.0) end.is)
  ]

  pub same_parts : (i : Instance) (u m a : ℕ) → Run i ≡ run u m a → (i.vertex ≡ u) × (i.member ≡ m) × (i.number ≡ a)
  same_parts i u m a h =
      let same = same_instance i (record { vertex = u; member = m; number = a }) (ap (λ t. Some t) h) in
      (ap (λ (j : Instance). j.vertex) same, ap (λ (j : Instance). j.member) same, ap (λ (j : Instance). j.number) same)

  pub instances_have_wires : (k n : ℕ) (i : Instance) (v : Vertex) (j : Joint) → slice_get l.tasks k ≡ Some (Run i) → slice_get dag.vertices i.vertex ≡ Some v → slice_get (joints_out dag l.joints v.name) n ≡ Some j
      → HasWires width l.wires k n i.member j
  instances_have_wires k n i v j at vertex output =
      let own = placed width dag.vertices k (Run i) (among_instances k i at) in
      let parts = same_parts i own.number own.member own.instance own.is in
      let its : v ≡ own.vertex = same_Some v own.vertex (sym vertex ∙ ap (slice_get dag.vertices) parts.0 ∙ own.at) in
      let there : slice_get (joints_out dag l.joints (own.vertex).name) n ≡ Some j = ap (λ (x : Vertex). slice_get (joints_out dag l.joints x.name) n) (sym its) ∙ output in
      subst (λ m. HasWires width l.wires k n m j) (sym parts.1) (has_wires k n (Run i) own j there)
