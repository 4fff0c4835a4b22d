-- A layout has what its plan counts.
use Rattle.std.proofs.Common.{arith, ◌≡◌, ◌∙◌, ◌+◌, ◌*◌, ◌%◌, ◌≤◌, ◌==◌, ◌||◌, ◌∷◌, [], if◌then◌else◌, Bool, true, false, ℕ, zero, suc, List, length, map, Option, Some, None, ap, refl, sym, add-one, nat_lt, position, cond}
use Rattle.std.specs.Prelude.{slice_get, slice_index_or, sum_by, option_map}
use Rattle.std.specs.List.{flat_map, range_with_len, position_or_len, find}
use Rattle.std.specs.Option.{option_map_or, option_and_then}
use Rattle.std.proofs.lemmas.Bool.Decides.{nat_tests}
use Rattle.std.proofs.lemmas.List.{length-append, length-map}
use Rattle.std.proofs.lemmas.List.Concat.{length-flat_map}
use Rattle.std.proofs.lemmas.List.Folds.{find_at}
use Rattle.std.proofs.lemmas.List.FromFn.{length-map-range_with_len, length-range_with_len}
use Rattle.std.proofs.lemmas.List.Sums.{sum_by-cons, sum_by-append}
use Rattle.std.proofs.lemmas.Option.{cond_some, slice_get_past}
use Rattle.jet_plan.specs.declared.dag.Dag.{Dag}
use Rattle.jet_plan.specs.declared.edge.Edge.{Edge}
use Rattle.jet_plan.specs.declared.settings.Settings.{Settings}
use Rattle.jet_plan.specs.declared.vertex.Vertex.{Vertex}
use Rattle.jet_plan.specs.Kinds.{is_isolated, is_side, file_count}
use Rattle.jet_plan.specs.Names.{has_name}
use Rattle.jet_plan.specs.Rings as plan
use Rattle.jet_plan.specs.Rings.{sum_below, link_count, link_rings, local_rings, sum_pairs, edge_links, edge_rings, at_ends}
use Rattle.jet_plan.specs.Sizes as sizes
use Rattle.jet_layout.specs.declared.end.EdgeEnd.{EdgeEnd}
use Rattle.jet_layout.specs.declared.joint.Joint.{Joint}
use Rattle.jet_layout.specs.declared.layout.Layout.{Layout}
use Rattle.jet_layout.specs.declared.task.Link.{Link}
use Rattle.jet_layout.specs.declared.wire.Taker.TheVariants.{Input}
use Rattle.jet_layout.specs.declared.wire.Wire.{Wire}
use Rattle.jet_layout.specs.Counts.{HasCounted}
use Rattle.jet_layout.specs.Files.{file_port, files_from, chosen_files}
use Rattle.jet_layout.specs.Joints.{count, port, taker, end_of, vertex_ends, output_number, input_number, nothing, numbered, joint, joint_of, joints_from, joints}
use Rattle.jet_layout.specs.Layouts.{IsLayout}
use Rattle.jet_layout.specs.Links.{link_between, links_from, links_of}
use Rattle.jet_layout.specs.Tasks.{task_count, vertex_tasks, instance_tasks, link_tasks}
use Rattle.jet_layout.specs.Wires.{consumers, producer_wires, local_wires, link_wires, links_wires, edge_wires, wires_from}
use Rattle.jet_layout.proofs.Numbering.{vertex_length, before, end_at, found}
use Rattle.jet_layout.proofs.Ranges.{flat_map_more}

-- ---- sums over the numbers below another

pub length_flat : {X : Type 0} (f : ℕ → List X) (n : ℕ) → length (flat_map f (range_with_len 0 n)) ≡ sum_below n (λ k. length (f k))
length_flat f zero = refl
length_flat f (suc n) =
    ap (λ k. length (flat_map f (range_with_len 0 k))) (sym (add-one n)) ∙ ap length (flat_map_more f n)
    ∙ length-append (flat_map f (range_with_len 0 n)) (f n) ∙ ap (λ k. k + length (f n)) (length_flat f n)

pub sum_flat : {X : Type 0} (w : X → ℕ) (f : ℕ → List X) (n : ℕ) → sum_by w (flat_map f (range_with_len 0 n)) ≡ sum_below n (λ k. sum_by w (f k))
sum_flat w f zero = refl
sum_flat w f (suc n) =
    ap (λ k. sum_by w (flat_map f (range_with_len 0 k))) (sym (add-one n)) ∙ ap (sum_by w) (flat_map_more f n)
    ∙ sum_by-append w (flat_map f (range_with_len 0 n)) (f n) ∙ ap (λ k. k + sum_by w (f n)) (sum_flat w f n)

pub same_sums : (f g : ℕ → ℕ) (n : ℕ) → ((k : ℕ) → f k ≡ g k) → sum_below n f ≡ sum_below n g
same_sums f g zero h = refl
same_sums f g (suc n) h = let a = same_sums f g n h in let b = h n in omega (arith, a, b)

one_more_row : (m p : ℕ) → m * p + p ≡ suc m * p
one_more_row m p = omega arith

pub equal_parts : (c n : ℕ) → sum_below n (λ k. c) ≡ n * c
equal_parts c zero = omega arith
equal_parts c (suc n) = let a = equal_parts c n in let b = one_more_row n c in omega (arith, a, b)

length_if : {X : Type 0} (b : Bool) (xs : List X) → length (if b then xs else []) ≡ (if b then length xs else 0)
length_if true xs = refl
length_if false xs = refl

pub sum_if : {X : Type 0} (w : X → ℕ) (b : Bool) (xs : List X) → sum_by w (if b then xs else []) ≡ (if b then sum_by w xs else 0)
sum_if w true xs = refl
sum_if w false xs = refl

-- ---- the links of an edge

one_unless : {X : Type 0} (a b : Bool) (x : X) → length (if a || b then [] else (x ∷ [])) ≡ (if a then 0 else (if b then 0 else 1))
one_unless true b x = refl
one_unless false true x = refl
one_unless false false x = refl

its_unless : {X : Type 0} (w : X → ℕ) (a b : Bool) (x : X) → sum_by w (if a || b then [] else (x ∷ [])) ≡ (if a then 0 else (if b then 0 else w x))
its_unless w true b x = refl
its_unless w false true x = refl
its_unless w false false x = let one = sum_by-cons w x [] in omega (arith, one)

length_of_links : (members : ℕ) (j : Joint) → length (links_of members j) ≡ (if j.distributed then sum_pairs members (λ m k. link_count (count j.from m) (count j.to k)) else 0)
length_of_links members j =
    length_if j.distributed (flat_map (links_from j members) (range_with_len 0 members))
    ∙ ap (λ n. if j.distributed then n else 0) (length_flat (links_from j members) members
    ∙ same_sums (λ m. length (links_from j members m)) (λ m. sum_below members (λ k. if k == m then 0 else link_count (count j.from m) (count j.to k))) members (λ m.
    length_flat (link_between j m) members
    ∙ same_sums (λ k. length (link_between j m k)) (λ k. if k == m then 0 else link_count (count j.from m) (count j.to k)) members (λ k.
    one_unless (k == m) (count j.from m == 0 || count j.to k == 0) (record { edge = j.edge; from = m; to = k }))))

-- the rings into and out of a link
abbrev link_size : Joint → Link → ℕ
link_size j l = count j.from l.from + count j.to l.to

size_of_links : (members : ℕ) (j : Joint) → sum_by (link_size j) (links_of members j) ≡ (if j.distributed then sum_pairs members (λ m k. link_rings (count j.from m) (count j.to k)) else 0)
size_of_links members j =
    sum_if (link_size j) j.distributed (flat_map (links_from j members) (range_with_len 0 members))
    ∙ ap (λ n. if j.distributed then n else 0) (sum_flat (link_size j) (links_from j members) members
    ∙ same_sums (λ m. sum_by (link_size j) (links_from j members m)) (λ m. sum_below members (λ k. if k == m then 0 else link_rings (count j.from m) (count j.to k))) members (λ m.
    sum_flat (link_size j) (link_between j m) members
    ∙ same_sums (λ k. sum_by (link_size j) (link_between j m k)) (λ k. if k == m then 0 else link_rings (count j.from m) (count j.to k)) members (λ k.
    its_unless (link_size j) (k == m) (count j.from m == 0 || count j.to k == 0) (record { edge = j.edge; from = m; to = k }))))

-- ---- the rings of an edge

consumer_count : (b c : Bool) (n i : ℕ) → length (if b then (if c then [] else (i % n ∷ [])) else range_with_len 0 n) ≡ (if b then (if c then 0 else 1) else n)
consumer_count true true n i = refl
consumer_count true false n i = refl
consumer_count false c n i = length-range_with_len 0 n

times : (b a c : Bool) (from to : ℕ) → (from == 0) ≡ a → (to == 0) ≡ c → from * (if b then (if c then 0 else 1) else to) ≡ (if b then (if a || c then 0 else from) else from * to)
times true true true from to p q = omega arith
times true false true from to p q = omega arith
times true true false from to p q = let none : from ≡ 0 = grind (arith, nat_tests) in omega (arith, none)
times true false false from to p q = omega arith
times false a c from to p q = refl

length_local : (j : Joint) (m : ℕ) → length (local_wires j m) ≡ local_rings j.route (count j.from m) (count j.to m)
length_local j m =
    let own : ℕ = if is_isolated j.route then (if count j.to m == 0 then 0 else 1) else count j.to m in
    length_flat (producer_wires j m) (count j.from m)
    ∙ same_sums (λ i. length (producer_wires j m i)) (λ i. own) (count j.from m) (λ i. length-map (consumers j.route (count j.to m) i) _ ∙ consumer_count (is_isolated j.route) (count j.to m == 0) (count j.to m) i)
    ∙ equal_parts own (count j.from m)
    ∙ times (is_isolated j.route) (count j.from m == 0) (count j.to m == 0) (count j.from m) (count j.to m) refl refl

-- a ring into the sender of a link, and one out of its receiver
abbrev pub into : Joint → ℕ → Link → ℕ → Wire
into j number l i = record { giver = port j.from l.from i; taker = Input (record { task = number; number = 0 }) }

abbrev pub out : Joint → ℕ → Link → ℕ → Wire
out j number l k = record { giver = record { task = number + 1; number = 0 }; taker = taker j.to l.to k }

length_link : (j : Joint) (number : ℕ) (l : Link) → length (link_wires j number l) ≡ link_size j l
length_link j number l =
    let both = length-append (map (into j number l) (range_with_len 0 (count j.from l.from))) (map (out j number l) (range_with_len 0 (count j.to l.to))) in
    let first = length-map-range_with_len (into j number l) 0 (count j.from l.from) in
    let second = length-map-range_with_len (out j number l) 0 (count j.to l.to) in
    omega (arith, both, first, second)

length_each_link : (j : Joint) (number : ℕ) (ls : List Link) → length (links_wires j number ls) ≡ sum_by (link_size j) ls
length_each_link j number [] = refl
length_each_link j number (l ∷ ls) =
    let both = length-append (link_wires j number l) (links_wires j (number + 2) ls) in
    let one = length_link j number l in
    let others = length_each_link j (number + 2) ls in
    let sums = sum_by-cons (link_size j) l ls in
    omega (arith, both, one, others, sums)

-- how many rings an edge has
abbrev size : ℕ → Joint → ℕ
size members j = sum_below members (λ m. local_rings j.route (count j.from m) (count j.to m)) + (if j.distributed then sum_pairs members (λ m k. link_rings (count j.from m) (count j.to k)) else 0)

length_edge : (members number : ℕ) (j : Joint) → length (edge_wires members number j) ≡ size members j
length_edge members number j =
    let both = length-append (flat_map (local_wires j) (range_with_len 0 members)) (links_wires j number (links_of members j)) in
    let local = length_flat (local_wires j) members ∙ same_sums (λ m. length (local_wires j m)) (λ m. local_rings j.route (count j.from m) (count j.to m)) members (length_local j) in
    let linked = length_each_link j number (links_of members j) ∙ size_of_links members j in
    omega (arith, both, local, linked)

length_wires : (members number : ℕ) (js : List Joint) → length (wires_from members number js) ≡ sum_by (size members) js
length_wires members number [] = refl
length_wires members number (j ∷ js) =
    let rest : ℕ = number + 2 * length (links_of members j) in
    let both = length-append (edge_wires members number j) (wires_from members rest js) in
    let one = length_edge members number j in
    let others = length_wires members rest js in
    let sums = sum_by-cons (size members) j js in
    omega (arith, both, one, others, sums)

length_links : (ls : List Link) → length (flat_map link_tasks ls) ≡ 2 * length ls
length_links [] = refl
length_links (l ∷ ls) =
    let both = length-append (link_tasks l) (flat_map link_tasks ls) in
    let more = length_links ls in
    omega (arith, both, more)

-- ---- edges, by the vertices at their ends

pub none_fits : (b : Bool) (k n : ℕ) → nat_lt k n ≡ b → cond b (Some k) None ≡ None → n ≤ k
none_fits true k n is h = absurd (cc h)
none_fits false k n is h = grind (arith, nat_tests)

past : (p : Vertex → Bool) (xs : List Vertex) → position p xs ≡ None → find p xs ≡ None
past p xs h = find_at p xs ∙ slice_get_past xs (position_or_len p xs) (none_fits (nat_lt (position_or_len p xs) (length xs)) (position_or_len p xs) (length xs) refl h)

at : (p : Vertex → Bool) (xs : List Vertex) (u : ℕ) (h : position p xs ≡ Some u) → find p xs ≡ Some (found p xs u h).0
at p xs u h =
    let parts = cond_some (nat_lt (position_or_len p xs) (length xs)) (position_or_len p xs) u h in
    find_at p xs ∙ ap (slice_get xs) parts.1 ∙ (found p xs u h).1

module _ (members : ℕ) (vertices : List Vertex) (edges : List Edge) where
  abbrev ends : List EdgeEnd
  ends = vertex_ends members 0 vertices

  -- an edge between these ends
  abbrev between : ℕ → Edge → EdgeEnd → EdgeEnd → Joint
  between n e d f = record { edge = n; from = numbered d (output_number edges n e); to = numbered f (input_number edges n e); route = e.route; distributed = e.distributed }

  module _ (F : Joint → ℕ) (G : Edge → Vertex → Vertex → ℕ) (same : (n : ℕ) (e : Edge) (a b : ℕ) (x y : Vertex) → F (between n e (end_of a x 0) (end_of b y 0)) ≡ G e x y) where
    one_edge : (n : ℕ) (e : Edge) (o q : Option ℕ) → position (has_name e.from) vertices ≡ o → position (has_name e.to) vertices ≡ q
        → sum_by F (option_map_or (λ j. j ∷ []) (option_and_then (λ u. option_map (joint edges ends n e u) q) o) []) ≡ at_ends vertices (G e) e
    one_edge n e None q from to = sym (ap (λ r. option_map_or (λ u. option_map_or (λ v. G e u v) (find (has_name e.to) vertices) 0) r 0) (past (has_name e.from) vertices from))
    one_edge n e (Some u) None from to =
        sym (ap (λ r. option_map_or (λ x. option_map_or (λ v. G e x v) r 0) (find (has_name e.from) vertices) 0) (past (has_name e.to) vertices to)
        ∙ ap (λ r. option_map_or (λ x. 0) r 0) (at (has_name e.from) vertices u from))
    one_edge n e (Some u) (Some v) from to =
        let giver = found (has_name e.from) vertices u from in
        let taken = found (has_name e.to) vertices v to in
        let one = sum_by-cons F (joint edges ends n e u v) [] in
        let is : F (joint edges ends n e u v) ≡ G e giver.0 taken.0 =
        ap (λ d. F (between n e d (slice_index_or ends v nothing))) (end_at members 0 vertices u nothing giver.0 giver.1)
        ∙ ap (λ d. F (between n e (end_of (0 + before members vertices u) giver.0 0) d)) (end_at members 0 vertices v nothing taken.0 taken.1)
        ∙ same n e (0 + before members vertices u) (0 + before members vertices v) giver.0 taken.0 in
        let told : at_ends vertices (G e) e ≡ G e giver.0 taken.0 =
        ap (λ r. option_map_or (λ x. option_map_or (λ y. G e x y) (find (has_name e.to) vertices) 0) r 0) (at (has_name e.from) vertices u from)
        ∙ ap (λ r. option_map_or (λ y. G e giver.0 y) r 0) (at (has_name e.to) vertices v to) in
        omega (arith, one, is, told)

    pub all_edges : (n : ℕ) (es : List Edge) → sum_by F (joints_from vertices edges ends n es) ≡ sum_by (λ e. at_ends vertices (G e) e) es
    all_edges n [] = refl
    all_edges n (e ∷ es) =
        let both = sum_by-append F (option_map_or (λ j. j ∷ []) (joint_of vertices edges ends n e) []) (joints_from vertices edges ends (n + 1) es) in
        let one = one_edge n e (position (has_name e.from) vertices) (position (has_name e.to) vertices) refl refl in
        let others = all_edges (n + 1) es in
        let sums = sum_by-cons (λ d. at_ends vertices (G d) d) e es in
        omega (arith, both, one, others, sums)

-- ---- instances and files

length_instances : (members v : ℕ) (xs : List Vertex) → length (instance_tasks members v xs) ≡ sum_by (task_count members) xs
length_instances members v [] = refl
length_instances members v (x ∷ xs) =
    let both = length-append (vertex_tasks members v x) (instance_tasks members (v + 1) xs) in
    let one = vertex_length members v x in
    let others = length_instances members (v + 1) xs in
    let sums = sum_by-cons (task_count members) x xs in
    omega (arith, both, one, others, sums)

length_files : (sides : Bool) (members first : ℕ) (xs : List Vertex) → length (files_from sides members (vertex_ends members first xs) xs) ≡ sum_by (λ x. chosen_files sides x.kind) xs
length_files sides members first [] = refl
length_files sides members first (x ∷ xs) =
    let own = map (file_port (end_of first x 0) members) (range_with_len 0 (chosen_files sides x.kind)) in
    let rest = files_from sides members (vertex_ends members (first + task_count members x) xs) xs in
    let both = length-append own rest in
    let one = length-map-range_with_len (file_port (end_of first x 0) members) 0 (chosen_files sides x.kind) in
    let others = length_files sides members (first + task_count members x) xs in
    let sums = sum_by-cons (λ y. chosen_files sides y.kind) x xs in
    omega (arith, both, one, others, sums)

either : (b : Bool) (n : ℕ) → (if b then 0 else n) + (if b then n else 0) ≡ n
either true n = omega arith
either false n = omega arith

all_files : (xs : List Vertex) → sum_by (λ x. chosen_files false x.kind) xs + sum_by (λ x. chosen_files true x.kind) xs ≡ sizes.files xs
all_files [] = refl
all_files (x ∷ xs) =
    let own = either (is_side x.kind) (file_count x.kind) in
    let rest = all_files xs in
    let plain = sum_by-cons (λ y. chosen_files false y.kind) x xs in
    let sides = sum_by-cons (λ y. chosen_files true y.kind) x xs in
    let sums = sum_by-cons (λ (y : Vertex). file_count y.kind) x xs in
    omega (arith, own, rest, plain, sides, sums)

pub has_counted : (dag : Dag) (s : Settings) (l : Layout) → IsLayout dag s l → HasCounted dag s l
has_counted dag s l is =
    let width : ℕ = plan.members s in
    let links : length l.links ≡ plan.links dag s =
    ap length is.links ∙ ap (λ js. length (flat_map (links_of width) js)) is.joints
    ∙ length-flat_map (links_of width) (joints width dag)
    ∙ all_edges width dag.vertices dag.edges (λ j. length (links_of width j)) (edge_links width) (λ n e a b x y. length_of_links width (between width dag.vertices dag.edges n e (end_of a x 0) (end_of b y 0))) 0 dag.edges in
    let wires : length l.wires ≡ sum_by (plan.rings_of width dag.vertices) dag.edges =
    ap length is.wires ∙ ap (λ js. length (wires_from width (length (instance_tasks width 0 dag.vertices)) js)) is.joints
    ∙ length_wires width (length (instance_tasks width 0 dag.vertices)) (joints width dag)
    ∙ all_edges width dag.vertices dag.edges (size width) (edge_rings width) (λ n e a b x y. refl) 0 dag.edges in
    let files : length l.files ≡ sizes.files dag.vertices =
    ap length is.files
    ∙ length-append (files_from false width (vertex_ends width 0 dag.vertices) dag.vertices) (files_from true width (vertex_ends width 0 dag.vertices) dag.vertices)
    ∙ ap (λ n. n + length (files_from true width (vertex_ends width 0 dag.vertices) dag.vertices)) (length_files false width 0 dag.vertices)
    ∙ ap (λ n. sum_by (λ x. chosen_files false x.kind) dag.vertices + n) (length_files true width 0 dag.vertices)
    ∙ all_files dag.vertices in
    let both = ap length is.tasks ∙ length-append (instance_tasks width 0 dag.vertices) (flat_map link_tasks l.links) in
    let own = length_instances width 0 dag.vertices in
    let linked = length_links l.links in
    record {
      tasks = omega (arith, both, own, linked, links);
      links = links;
      rings = omega (arith, wires, files);
    }
