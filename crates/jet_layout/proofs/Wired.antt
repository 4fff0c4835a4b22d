-- Each wire has its ports.
use Rattle.std.proofs.Common.{arith, ◌≡◌, ◌∙◌, ◌+◌, ◌*◌, ◌%◌, ◌/◌, ◌<◌, ◌==◌, ◌||◌, ◌⊎◌, inl, inr, ◌∷◌, ◌++◌, [], if◌then◌else◌, Bool, true, false, ℕ, zero, suc, List, length, map, take, cond, Some, ap, refl, sym, subst}
use Rattle.std.specs.Prelude.{slice_get, count_by, bytes_eq, ◌≢◌}
use Rattle.std.specs.List.{All, flat_map, range_with_len}
use Rattle.std.specs.Option.{option_map_or}
use Rattle.std.proofs.lemmas.Bool.Decides.{nat_tests}
use Rattle.std.proofs.lemmas.List.Elements.{All-nil, All-cons, All-head, All-tail, All-same, All-append, All-map, All-weaker}
use Rattle.std.proofs.lemmas.List.Sums.{sum_by-cons}
use Rattle.std.proofs.lemmas.Option.{same_Some}
use Rattle.std.proofs.Math.Nat.{mod-eq_of_lt, div-eq_of_lt}
use Rattle.std.proofs.lemmas.Nat.{mod_below}
use Rattle.jet_plan.specs.declared.dag.Dag.{Dag}
use Rattle.jet_plan.specs.declared.edge.Edge.{Edge}
use Rattle.jet_plan.specs.declared.kind.Kind.{Kind}
use Rattle.jet_plan.specs.declared.kind.Kind.TheVariants.{Source, Side, Map, Filter, Flat, Join, Accumulate, Combine, Sink as SinkKind}
use Rattle.jet_plan.specs.declared.settings.Settings.{Settings}
use Rattle.jet_plan.specs.declared.vertex.Vertex.{Vertex}
use Rattle.jet_plan.specs.Depth.{depth}
use Rattle.jet_plan.specs.Ends.{edges_from}
use Rattle.jet_plan.specs.Kinds.{is_isolated, is_side, is_sink, reads_files}
use Rattle.jet_plan.specs.Rings.{members}
use Rattle.jet_layout.specs.declared.end.EdgeEnd.{EdgeEnd}
use Rattle.jet_layout.specs.declared.joint.Joint.{Joint}
use Rattle.jet_layout.specs.declared.layout.Layout.{Layout}
use Rattle.jet_layout.specs.declared.task.Link.{Link}
use Rattle.jet_layout.specs.declared.task.Task.TheVariants.{Send, Receive}
use Rattle.jet_layout.specs.declared.wire.Port.{Port}
use Rattle.jet_layout.specs.declared.wire.Taker.TheVariants.{Input, Sink}
use Rattle.jet_layout.specs.declared.wire.Wire.{Wire}
use Rattle.jet_layout.specs.Files.{file_port, file_ports, files_from, chosen_files}
use Rattle.jet_layout.specs.Joints.{count, port, taker, end_of, vertex_ends, output_number, input_number, joints}
use Rattle.jet_layout.specs.Layouts.{IsLayout}
use Rattle.jet_layout.specs.Links.{link_between, links_from, links_of}
use Rattle.jet_layout.specs.Ports.{edges_to, vertex_inputs, outputs_of, inputs_of, HasOutput, HasInput, HasPorts}
use Rattle.jet_layout.specs.Tasks.{task_count, instance_tasks, link_tasks}
use Rattle.jet_layout.specs.Wires.{consumers, producer_wires, local_wires, link_wires, links_wires, edge_wires, wires_from}
use Rattle.jet_layout.proofs.Counting.{into, out}
use Rattle.jet_layout.specs.inner.Facts.{Facts}
use Rattle.jet_layout.proofs.Facts.{known}
use Rattle.jet_layout.proofs.Joining.{IsJoint, IsSomeEdge, IsRest, rest_head, rest_tail, rest_all, rest_front, rest_behind, contains, named, joints_are_edges}
use Rattle.jet_layout.proofs.Numbering.{before}
use Rattle.jet_layout.proofs.Places.{flat_more, behind, in_front, run, same_run, stands, ends_at}

-- ---- what holds of all

pub all_numbers : (P : ℕ → Type 0) (a n : ℕ) → ((k : ℕ) → k < a + n → P k) → All P (range_with_len a n)
all_numbers P a zero h = All-nil P
all_numbers P a (suc n) h = All-cons P a (range_with_len (a + 1) n) (h a (omega arith)) (all_numbers P (a + 1) n (λ k lt. h k (omega (arith, lt))))

pub all_below : (P : ℕ → Type 0) (n : ℕ) → ((k : ℕ) → k < n → P k) → All P (range_with_len 0 n)
all_below P n h = all_numbers P 0 n (λ k lt. h k (omega (arith, lt)))

pub all_flat : {X : Type 0} (P : X → Type 0) (f : ℕ → List X) (n : ℕ) → ((k : ℕ) → k < n → All P (f k)) → All P (flat_map f (range_with_len 0 n))
all_flat P f zero h = All-nil P
all_flat P f (suc n) h = All-same P _ _ (flat_more f n) (All-append P (flat_map f (range_with_len 0 n)) (f n) (all_flat P f n (λ k lt. h k (omega (arith, lt)))) (h n (omega arith)))

consumers_by : (b c : Bool) (n i : ℕ) → (n == 0) ≡ c → All (λ k. k < n) (if b then (if c then [] else i % n ∷ []) else range_with_len 0 n)
consumers_by true true n i e = All-nil (λ k. k < n)
consumers_by true false n i e = let some : 0 < n = grind (arith, nat_tests) in All-cons (λ k. k < n) (i % n) [] (mod_below i n some) (All-nil (λ k. k < n))
consumers_by false c n i e = all_below (λ k. k < n) n (λ k lt. lt)

-- ---- links

-- the link is one of the joint
pub record IsLink (width : ℕ) (j : Joint) (k : Link) : Type 0 where
  pub edge : k.edge ≡ j.edge
  pub apart : k.from ≢ k.to
  pub from : k.from < width
  pub to : k.to < width
  pub givers : 0 < count j.from k.from
  pub takers : 0 < count j.to k.to

some_of : (n : ℕ) → (n == 0) ≡ false → 0 < n
some_of n e = grind (arith, nat_tests)

other_members : (m k : ℕ) → (k == m) ≡ false → m ≡ k → ⊥
other_members m k e same = absurd (grind (arith, nat_tests))

between_by : (width : ℕ) (j : Joint) (m k : ℕ) → m < width → k < width → (a b c : Bool) → (k == m) ≡ a → (count j.from m == 0) ≡ b → (count j.to k == 0) ≡ c
    → All (IsLink width j) (if a || (b || c) then [] else record { edge = j.edge; from = m; to = k } ∷ [])
between_by width j m k p q true b c d e f = All-nil (IsLink width j)
between_by width j m k p q false true c d e f = All-nil (IsLink width j)
between_by width j m k p q false false true d e f = All-nil (IsLink width j)
between_by width j m k p q false false false d e f =
    All-cons (IsLink width j) (record { edge = j.edge; from = m; to = k }) [] (record { edge = refl; apart = other_members m k d; from = p; to = q; givers = some_of (count j.from m) e; takers = some_of (count j.to k) f }) (All-nil (IsLink width j))

links_by : (width : ℕ) (j : Joint) (b : Bool) → All (IsLink width j) (if b then flat_map (links_from j width) (range_with_len 0 width) else [])
links_by width j true = all_flat (IsLink width j) (links_from j width) width (λ m p. all_flat (IsLink width j) (link_between j m) width (λ k q. between_by width j m k p q (k == m) (count j.from m == 0) (count j.to k == 0) refl refl refl))
links_by width j false = All-nil (IsLink width j)

pub links_are : (width : ℕ) (j : Joint) → All (IsLink width j) (links_of width j)
links_are width j = links_by width j j.distributed

-- ---- numbers of edges

one_and : {X : Type 0} (p : X → Bool) (y : X) (n k : ℕ) → p y ≡ true → n ≡ cond (p y) 1 0 + k → n ≡ 1 + k
one_and p y n k h e = e ∙ ap (λ b. cond b 1 0 + k) h

-- fewer pass before one that passes than pass at all
pub earlier : {X : Type 0} (p : X → Bool) (xs : List X) (n : ℕ) (x : X) → slice_get xs n ≡ Some x → p x ≡ true → count_by p (take n xs) < count_by p xs
earlier p [] n x at h = absurd (cc at)
earlier p (y ∷ ys) zero x at h =
    let sums = one_and p y (count_by p (y ∷ ys)) (count_by p ys) (ap p (same_Some y x at) ∙ h) (sum_by-cons (λ z. cond (p z) 1 0) y ys) in
    omega (arith, sums)
earlier p (y ∷ ys) (suc n) x at h =
    let front = sum_by-cons (λ z. cond (p z) 1 0) y (take n ys) in
    let sums = sum_by-cons (λ z. cond (p z) 1 0) y ys in
    let rest = earlier p ys n x at h in
    omega (arith, front, sums, rest)

not_below_itself : (a b : ℕ) → a ≡ b → a < b → ⊥
not_below_itself a b e h = absurd (omega (arith, e, h))

-- ---- what takes

pub taken_by : (d : EdgeEnd) (m k : ℕ) (p : Port) (b : Bool) → d.sink ≡ b → (if b then Sink else Input (port d m k)) ≡ Input p → (d.sink ≡ false) × (port d m k ≡ p)
taken_by d m k p true e h = absurd (cc h)
taken_by d m k p false e h = (e, cc h)

pub same_input : (a b : Port) → Input a ≡ Input b → a ≡ b
same_input a b h = cc h

-- ---- files

file_facts : (sides : Bool) (k : Kind) (place : ℕ) → place < chosen_files sides k → (reads_files k ≡ true) × (is_sink k ≡ false) × ((is_side k ≡ false) ⊎ ((is_side k ≡ true) × (place ≡ 0)))
file_facts false (Source files lag) place h = (refl, refl, inl refl)
file_facts true (Source files lag) place h = absurd (omega (arith, h))
file_facts true (Side file) place h = (refl, refl, inr (refl, omega (arith, h)))
file_facts false (Side file) place h = absurd (omega (arith, h))
file_facts false (Map set) place h = absurd (omega (arith, h))
file_facts false (Filter test) place h = absurd (omega (arith, h))
file_facts false (Flat legs) place h = absurd (omega (arith, h))
file_facts false (Join mode rekey fields) place h = absurd (omega (arith, h))
file_facts false (Accumulate size slide) place h = absurd (omega (arith, h))
file_facts false Combine place h = absurd (omega (arith, h))
file_facts false SinkKind place h = absurd (omega (arith, h))
file_facts true (Map set) place h = absurd (omega (arith, h))
file_facts true (Filter test) place h = absurd (omega (arith, h))
file_facts true (Flat legs) place h = absurd (omega (arith, h))
file_facts true (Join mode rekey fields) place h = absurd (omega (arith, h))
file_facts true (Accumulate size slide) place h = absurd (omega (arith, h))
file_facts true Combine place h = absurd (omega (arith, h))
file_facts true SinkKind place h = absurd (omega (arith, h))

-- a file goes to an instance that there is
dealt : (single sink : Bool) (width parallelism place : ℕ) → 0 < width → 0 < parallelism → sink ≡ false → (single ≡ false) ⊎ ((single ≡ true) × (place ≡ 0))
    → (place / width) % parallelism < (if single || sink then (if place % width == 0 then 1 else 0) else parallelism)
dealt true sink width parallelism place w p plain (inl a) = absurd (cc a)
dealt true sink width parallelism place w p plain (inr a) =
    let first : place < width = let e = a.1 in omega (arith, e, w) in
    let member : place % width ≡ 0 = mod-eq_of_lt first ∙ a.1 in
    let quotient : place / width ≡ 0 = div-eq_of_lt first in
    let instance : (place / width) % parallelism ≡ 0 = ap (λ n. n % parallelism) quotient ∙ mod-eq_of_lt p in
    subst (λ n. (place / width) % parallelism < (if n == 0 then 1 else 0)) (sym member) (omega (arith, instance))
dealt false true width parallelism place w p plain a = absurd (cc plain)
dealt false false width parallelism place w p plain a = mod_below (place / width) parallelism p

module _ (dag : Dag) (s : Settings) (l : Layout) (is : IsLayout dag s l) (facts : Facts dag s) where
  abbrev width : ℕ
  width = members s

  -- how many instances there are
  abbrev base : ℕ
  base = length (instance_tasks width 0 dag.vertices)

  -- ---- tasklets

  pub instance_at : (d : EdgeEnd) (u : ℕ) (x : Vertex) (number m i : ℕ) → d ≡ end_of (before width dag.vertices u) x number → slice_get dag.vertices u ≡ Some x → is_sink x.kind ≡ false → m < width → i < count d m
      → slice_get (instance_tasks width 0 dag.vertices) (d.first + m * d.parallelism + i) ≡ Some (run u m i)
  instance_at d u x number m i same at plain inside there =
      let own : i < count (end_of (before width dag.vertices u) x number) m = subst (λ (f : EdgeEnd). i < count f m) same there in
      subst (λ (f : EdgeEnd). slice_get (instance_tasks width 0 dag.vertices) (f.first + m * f.parallelism + i) ≡ Some (run u m i)) (sym same)
      (stands width dag.vertices u x m i (before width dag.vertices u + m * x.parallelism + i) at plain inside own refl)

  pub task_at : (d : EdgeEnd) (u : ℕ) (x : Vertex) (number m i : ℕ) → d ≡ end_of (before width dag.vertices u) x number → slice_get dag.vertices u ≡ Some x → is_sink x.kind ≡ false → m < width → i < count d m
      → slice_get l.tasks (d.first + m * d.parallelism + i) ≡ Some (run u m i)
  task_at d u x number m i same at plain inside there =
      ap (λ ts. slice_get ts (d.first + m * d.parallelism + i)) is.tasks
      ∙ in_front (instance_tasks width 0 dag.vertices) (flat_map link_tasks l.links) (d.first + m * d.parallelism + i) (run u m i) (instance_at d u x number m i same at plain inside there)

  pub sender_at : (number q : ℕ) (k : Link) → number ≡ base + 2 * q → slice_get l.links q ≡ Some k → slice_get l.tasks number ≡ Some (Send k)
  sender_at number q k e at =
      ap (λ ts. slice_get ts number) is.tasks ∙ behind (instance_tasks width 0 dag.vertices) (flat_map link_tasks l.links) (2 * q) number (sym e) ∙ (ends_at l.links q k at).0

  pub receiver_at : (number q : ℕ) (k : Link) → number ≡ base + 2 * q → slice_get l.links q ≡ Some k → slice_get l.tasks (number + 1) ≡ Some (Receive k)
  receiver_at number q k e at =
      ap (λ ts. slice_get ts (number + 1)) is.tasks ∙ behind (instance_tasks width 0 dag.vertices) (flat_map link_tasks l.links) (2 * q + 1) (number + 1) (omega (arith, e)) ∙ (ends_at l.links q k at).1

  -- ---- the ports of a joint

  module _ (n : ℕ) (e : Edge) (j : Joint) (edge : IsJoint width dag n e j) where
    pub start_plain : is_sink (edge.start).kind ≡ false
    start_plain = let shape = facts.shape in let edges = shape.edges in edges.last e edge.start edge.end edge.leads

    pub giver_at : (m i : ℕ) → m < width → i < count j.from m → slice_get l.tasks ((port j.from m i).task) ≡ Some (run edge.giver m i)
    giver_at m i inside there = task_at j.from edge.giver edge.start (output_number dag.edges n e) m i edge.from edge.at_start start_plain inside there

    has_output : (m i : ℕ) → m < width → i < count j.from m → HasOutput dag l.tasks (port j.from m i)
    has_output m i inside there =
        let leads = edge.leads in
        let number : (j.from).number ≡ output_number dag.edges n e = ap (λ (d : EdgeEnd). d.number) edge.from in
        let outputs : outputs_of dag (run edge.giver m i) ≡ edges_from dag.edges (edge.start).name = ap (λ o. option_map_or (λ (v : Vertex). edges_from dag.edges v.name) o 0) edge.at_start in
        let less = earlier (λ (f : Edge). bytes_eq f.from e.from) dag.edges n e edge.edge (named e.from e.from refl) in
        let same = ap (λ a. count_by (λ (f : Edge). bytes_eq f.from a) dag.edges) leads.from in
        record { task = run edge.giver m i; at = giver_at m i inside there; below = omega (arith, number, outputs, less, same) }

    end_plain : (j.to).sink ≡ false → is_sink (edge.end).kind ≡ false
    end_plain h = sym (ap (λ (d : EdgeEnd). d.sink) edge.to) ∙ h

    pub taker_at : (m k : ℕ) → m < width → k < count j.to m → (j.to).sink ≡ false → slice_get l.tasks ((port j.to m k).task) ≡ Some (run edge.taken m k)
    taker_at m k inside there plain = task_at j.to edge.taken edge.end (input_number dag.edges n e) m k edge.to edge.at_end (end_plain plain) inside there

    input_of : (m k : ℕ) → m < width → k < count j.to m → (j.to).sink ≡ false → HasInput dag l.tasks (port j.to m k)
    input_of m k inside there plain =
        let leads = edge.leads in
        let number : (j.to).number ≡ input_number dag.edges n e = ap (λ (d : EdgeEnd). d.number) edge.to in
        let whole : inputs_of dag (run edge.taken m k) ≡ vertex_inputs dag edge.end = ap (λ o. option_map_or (vertex_inputs dag) o 0) edge.at_end in
        let shape = facts.shape in
        let edges = shape.edges in
        let inputs : vertex_inputs dag edge.end ≡ edges_to dag.edges (edge.end).name = ap (λ b. if b then 1 else edges_to dag.edges (edge.end).name) (edges.firsts e edge.start edge.end leads) in
        let less = earlier (λ (f : Edge). bytes_eq f.to e.to) dag.edges n e edge.edge (named e.to e.to refl) in
        let same = ap (λ a. count_by (λ (f : Edge). bytes_eq f.to a) dag.edges) leads.to in
        record { task = run edge.taken m k; at = taker_at m k inside there plain; below = omega (arith, number, whole, inputs, less, same) }

    has_input : (m k : ℕ) → m < width → k < count j.to m → (p : Port) → taker j.to m k ≡ Input p → HasInput dag l.tasks p
    has_input m k inside there p h =
        let t = taken_by j.to m k p (j.to).sink refl h in
        subst (λ q. HasInput dag l.tasks q) t.1 (input_of m k inside there t.0)

    -- an edge leads to another vertex
    two_ends : edge.giver ≡ edge.taken → ⊥
    two_ends same =
        let leads = edge.leads in
        let vertex : edge.start ≡ edge.end = same_Some edge.start edge.end (sym edge.at_start ∙ ap (slice_get dag.vertices) same ∙ edge.at_end) in
        let name : e.from ≡ e.to = sym leads.from ∙ ap (λ (v : Vertex). v.name) vertex ∙ leads.to in
        not_below_itself (depth dag e.from) (depth dag e.to) (ap (depth dag) name) (facts.deeper e leads.edge)

    apart : (m i k : ℕ) → m < width → i < count j.from m → k < count j.to m → (p : Port) → taker j.to m k ≡ Input p → (port j.from m i).task ≡ p.task → ⊥
    apart m i k inside from to p h same =
        let t = taken_by j.to m k p (j.to).sink refl h in
        let port_is = ap (λ (q : Port). q.task) t.1 in
        two_ends (same_run edge.giver edge.taken m m i k (sym (giver_at m i inside from) ∙ ap (slice_get l.tasks) (same ∙ sym port_is) ∙ taker_at m k inside to t.0)).0

    local_wire : (m i k : ℕ) → m < width → i < count j.from m → k < count j.to m → HasPorts dag l.tasks (record { giver = port j.from m i; taker = taker j.to m k })
    local_wire m i k inside from to = record { giver = has_output m i inside from; taker = has_input m k inside to; apart = apart m i k inside from to }

    into_wire : (number q : ℕ) (k : Link) (i : ℕ) → number ≡ base + 2 * q → slice_get l.links q ≡ Some k → IsLink width j k → i < count j.from k.from
        → HasPorts dag l.tasks (record { giver = port j.from k.from i; taker = Input (record { task = number; number = 0 }) })
    into_wire number q k i e at link there = record {
      giver = has_output k.from i link.from there;
      taker = λ p h. subst (λ r. HasInput dag l.tasks r) (same_input (record { task = number; number = 0 }) p h) (record { task = Send k; at = sender_at number q k e at; below = omega arith });
      apart = λ p h same.
          let port_is : number ≡ p.task = ap (λ (r : Port). r.task) (same_input (record { task = number; number = 0 }) p h) in
          cc (sym (giver_at k.from i link.from there) ∙ ap (slice_get l.tasks) (same ∙ sym port_is) ∙ sender_at number q k e at);
    }

    out_wire : (number q : ℕ) (k : Link) (i : ℕ) → number ≡ base + 2 * q → slice_get l.links q ≡ Some k → IsLink width j k → i < count j.to k.to
        → HasPorts dag l.tasks (record { giver = record { task = number + 1; number = 0 }; taker = taker j.to k.to i })
    out_wire number q k i e at link there = record {
      giver = record { task = Receive k; at = receiver_at number q k e at; below = omega arith };
      taker = has_input k.to i link.to there;
      apart = λ p h same.
          let t = taken_by j.to k.to i p (j.to).sink refl h in
          let port_is = ap (λ (r : Port). r.task) t.1 in
          cc (sym (receiver_at number q k e at) ∙ ap (slice_get l.tasks) (same ∙ sym port_is) ∙ taker_at k.to i link.to there t.0);
    }

    abbrev P : Wire → Type 0
    P = HasPorts dag l.tasks

    local_all : All P (flat_map (local_wires j) (range_with_len 0 width))
    local_all = all_flat P (local_wires j) width (λ m inside. all_flat P (producer_wires j m) (count j.from m) (λ i there.
        let n : ℕ = count j.to m in
        All-map P (λ k. record { giver = port j.from m i; taker = taker j.to m k }) (consumers j.route n i)
        (All-weaker (λ k. k < n) (λ k. P (record { giver = port j.from m i; taker = taker j.to m k })) (λ k to. local_wire m i k inside there to) (consumers j.route n i) (consumers_by (is_isolated j.route) (n == 0) n i refl))))

    pub links_all : (number q : ℕ) (ks : List Link) → number ≡ base + 2 * q → All (IsLink width j) ks → IsRest l.links q ks → All P (links_wires j number ks)
    links_all number q [] e links rest = All-nil P
    links_all number q (k ∷ ks) e links rest =
        let at = rest_head l.links q k ks rest in
        let link = All-head (IsLink width j) k ks links in
        All-append P (link_wires j number k) (links_wires j (number + 2) ks)
        (All-append P (map (into j number k) (range_with_len 0 (count j.from k.from))) (map (out j number k) (range_with_len 0 (count j.to k.to)))
        (All-map P (into j number k) (range_with_len 0 (count j.from k.from)) (all_below (λ i. P (into j number k i)) (count j.from k.from) (λ i lt. into_wire number q k i e at link lt)))
        (All-map P (out j number k) (range_with_len 0 (count j.to k.to)) (all_below (λ i. P (out j number k i)) (count j.to k.to) (λ i lt. out_wire number q k i e at link lt))))
        (links_all (number + 2) (q + 1) ks (omega (arith, e)) (All-tail (IsLink width j) k ks links) (rest_tail l.links q k ks rest))

    edge_all : (number q : ℕ) → number ≡ base + 2 * q → IsRest l.links q (links_of width j) → All P (edge_wires width number j)
    edge_all number q e rest = All-append P (flat_map (local_wires j) (range_with_len 0 width)) (links_wires j number (links_of width j)) local_all (links_all number q (links_of width j) e (links_are width j) rest)

  joints_all : (number q : ℕ) (js : List Joint) → number ≡ base + 2 * q → All (IsSomeEdge width dag (known dag s facts)) js → IsRest l.links q (flat_map (links_of width) js) → All (HasPorts dag l.tasks) (wires_from width number js)
  joints_all number q [] e edges rest = All-nil (HasPorts dag l.tasks)
  joints_all number q (j ∷ js) e edges rest =
      let edge = All-head (IsSomeEdge width dag (known dag s facts)) j js edges in
      let more = flat_map (links_of width) js in
      All-append (HasPorts dag l.tasks) (edge_wires width number j) (wires_from width (number + 2 * length (links_of width j)) js)
      (edge_all edge.0 edge.1 j edge.2 number q e (rest_front l.links q (links_of width j) more rest))
      (joints_all (number + 2 * length (links_of width j)) (q + length (links_of width j)) js (omega (arith, e)) (All-tail (IsSomeEdge width dag (known dag s facts)) j js edges) (rest_behind l.links q (links_of width j) more rest))

  pub wires_all : All (HasPorts dag l.tasks) l.wires
  wires_all =
      let edges = joints_are_edges width dag (known dag s facts) in
      All-same (HasPorts dag l.tasks) l.wires (wires_from width base l.joints) is.wires
      (joints_all base 0 l.joints (omega arith) (All-same (IsSomeEdge width dag (known dag s facts)) l.joints (joints width dag) is.joints edges)
      (subst (λ ks. IsRest l.links 0 ks) is.links (rest_all l.links)))

  -- ---- the ports of files

  file_input : (u : ℕ) (x : Vertex) (first place : ℕ) (sides : Bool) → slice_get dag.vertices u ≡ Some x → first ≡ before width dag.vertices u → place < chosen_files sides x.kind
      → HasInput dag l.tasks (file_port (end_of first x 0) width place)
  file_input u x first place sides at start less =
      let f = file_facts sides x.kind place less in
      let ranges = facts.ranges in
      let some_members : 0 < width = let m = ranges.members in omega (arith, m) in
      let some_instances : 0 < x.parallelism = let p = ranges.instances x (contains dag.vertices u x at) in omega (arith, p) in
      let there = dealt (is_side x.kind) (is_sink x.kind) width x.parallelism place some_members some_instances f.1 f.2 in
      let whole : inputs_of dag (run u (place % width) ((place / width) % x.parallelism)) ≡ vertex_inputs dag x = ap (λ o. option_map_or (vertex_inputs dag) o 0) at in
      let one : vertex_inputs dag x ≡ 1 = ap (λ b. if b then 1 else edges_to dag.edges x.name) f.0 in
      record {
        task = run u (place % width) ((place / width) % x.parallelism);
        at = task_at (end_of first x 0) u x 0 (place % width) ((place / width) % x.parallelism) (ap (λ n. end_of n x 0) start) at f.1 (mod_below place width some_members) there;
        below = omega (arith, whole, one);
      }

  vertex_files : (sides : Bool) (v first : ℕ) (xs : List Vertex) → IsRest dag.vertices v xs → ((q : ℕ) → first + before width xs q ≡ before width dag.vertices (v + q))
      → All (HasInput dag l.tasks) (files_from sides width (vertex_ends width first xs) xs)
  vertex_files sides v first [] rest sums = All-nil (HasInput dag l.tasks)
  vertex_files sides v first (x ∷ xs) rest sums =
      let at = rest_head dag.vertices v x xs rest in
      let n : ℕ = chosen_files sides x.kind in
      let here : v + 0 ≡ v = omega arith in
      let none : first ≡ first + 0 = omega arith in
      let start : first ≡ before width dag.vertices v = none ∙ sums 0 ∙ ap (before width dag.vertices) here in
      All-append (HasInput dag l.tasks) (file_ports width (end_of first x 0) n) (files_from sides width (vertex_ends width (first + task_count width x) xs) xs)
      (All-map (HasInput dag l.tasks) (file_port (end_of first x 0) width) (range_with_len 0 n) (all_below (λ place. HasInput dag l.tasks (file_port (end_of first x 0) width place)) n (λ place less. file_input v x first place sides at start less)))
      (vertex_files sides (v + 1) (first + task_count width x) xs (rest_tail dag.vertices v x xs rest) (λ q.
      let on : v + suc q ≡ v + 1 + q = omega arith in
      let sum : first + task_count width x + before width xs q ≡ first + (task_count width x + before width xs q) = omega arith in
      sum ∙ sums (suc q) ∙ ap (before width dag.vertices) on))

  pub files_all : All (HasInput dag l.tasks) l.files
  files_all =
      let ends = vertex_ends width 0 dag.vertices in
      let all = λ (sides : Bool). vertex_files sides 0 0 dag.vertices (rest_all dag.vertices) (λ q.
      let same : 0 + q ≡ q = omega arith in
      let none : 0 + before width dag.vertices q ≡ before width dag.vertices q = omega arith in
      none ∙ sym (ap (before width dag.vertices) same)) in
      All-same (HasInput dag l.tasks) l.files (files_from false width ends dag.vertices ++ files_from true width ends dag.vertices) is.files
      (All-append (HasInput dag l.tasks) (files_from false width ends dag.vertices) (files_from true width ends dag.vertices) (all false) (all true))
