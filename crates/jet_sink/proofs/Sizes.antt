-- The sizes of the windows of a job without a fault, and the windows that come along its edges.
use Rattle.std.proofs.Common.{arith, ◌≡◌, ◌∙◌, ◌+◌, ◌<◌, ℕ, zero, suc, List, [], ◌∷◌, ◌++◌, length, get_or, take, slice_index_or, Option, Some, None, ap, refl, sym, subst}
use Rattle.std.specs.Prelude.{filter, option_map, All}
use Rattle.std.specs.List.{flat_map, enumerate_from}
use Rattle.std.proofs.lemmas.List.{take_more}
use Rattle.std.proofs.lemmas.List.Concat.{flat_map-append}
use Rattle.std.proofs.lemmas.List.FromFn.{length-enumerate_from, get_or-enumerate_from}
use Rattle.jet_flow.specs.Inflows as inflows
use Rattle.jet_items.specs.Rows.{Window}
use Rattle.jet_plan.specs.declared.dag.Dag.{Dag}
use Rattle.jet_plan.specs.declared.edge.Edge.{Edge}
use Rattle.jet_plan.specs.declared.settings.Settings.{Settings}
use Rattle.jet_plan.specs.declared.vertex.Vertex.{Vertex}
use Rattle.jet_plan.specs.declared.fault.PlanFault.TheVariants.{Policy}
use Rattle.jet_plan.specs.Faults.{shape_faults, end_faults, edge_faults, range_faults, large_faults, fault}
use Rattle.jet_plan.specs.First.{first_of}
use Rattle.jet_plan.specs.Names.{has_name}
use Rattle.jet_plan.specs.SettingRanges.{wrong_sizes, wrong_sizes_from}
use Rattle.jet_policy.specs.declared.policy.PolicyFault.{PolicyFault}
use Rattle.jet_sink.specs.Naming.{windows_along}

-- ---- none of several

abbrev AreNone : {X : Type 0} → List (Option X) → Type 0
AreNone [] = Unit {0}
AreNone (o ∷ os) = (o ≡ None) × AreNone os

none_each : {X : Type 0} (os : List (Option X)) → first_of os ≡ None → AreNone os
none_each [] h = tt
none_each (None ∷ os) h = (refl, none_each os h)
none_each (Some x ∷ os) h = absurd (cc h)

group_none : {X : Type 0} (xs ys : List (Option X)) → first_of (xs ++ ys) ≡ None → (first_of xs ≡ None) × (first_of ys ≡ None)
group_none [] ys h = (refl, h)
group_none (None ∷ xs) ys h = group_none xs ys h
group_none (Some x ∷ xs) ys h = absurd (cc h)

not_mapped : {X Y : Type 0} (f : X → Y) (o : Option X) → option_map f o ≡ None → o ≡ None
not_mapped f None h = refl
not_mapped f (Some x) h = absurd (cc h)

-- ---- the sizes of windows

sizes_if : (n : ℕ) (w : Vertex) (ws : List Vertex) (o : Option PolicyFault) → wrong_sizes w.kind ≡ o → wrong_sizes_from n (w ∷ ws) ≡ None → (o ≡ None) × (wrong_sizes_from (n + 1) ws ≡ None)
sizes_if n w ws None is h = (refl, rw is at h)
sizes_if n w ws (Some why) is h = absurd (cc (rw is at h))

sizes_at : (n : ℕ) (ws : List Vertex) → wrong_sizes_from n ws ≡ None → (k : ℕ) (d : Vertex) → k < length ws → (let w = slice_index_or ws k d in wrong_sizes w.kind) ≡ None
sizes_at n [] h k d inside = absurd (omega (arith, inside))
sizes_at n (w ∷ ws) h zero d inside = (sizes_if n w ws (wrong_sizes w.kind) refl h).0
sizes_at n (w ∷ ws) h (suc k) d inside = sizes_at (n + 1) ws (sizes_if n w ws (wrong_sizes w.kind) refl h).1 k d (omega (arith, inside))

pub all_sized : (dag : Dag) (s : Settings) → fault dag s ≡ None → All (λ v. wrong_sizes v.kind ≡ None) dag.vertices
unfolding range_faults
all_sized dag s h =
    let shapes = group_none (shape_faults dag) (end_faults dag ++ (edge_faults dag s ++ (range_faults dag s ++ large_faults dag s))) h in
    let ends = group_none (end_faults dag) (edge_faults dag s ++ (range_faults dag s ++ large_faults dag s)) shapes.1 in
    let edges = group_none (edge_faults dag s) (range_faults dag s ++ large_faults dag s) ends.1 in
    let ranges = none_each (range_faults dag s) (group_none (range_faults dag s) (large_faults dag s) edges.1).0 in
    sizes_at 0 dag.vertices (not_mapped (λ p. Policy p.0 p.1) (wrong_sizes_from 0 dag.vertices) ranges.1.0)

-- ---- the windows along edges

pub along_all : (dag : Dag) (n : ℕ) (name : List ℕ) (es : List Edge) → flat_map (windows_along dag n name) es ≡ flat_map (λ v. inflows.window_of n name v.kind) (flat_map (λ e. filter (has_name e.from) dag.vertices) es)
along_all dag n name [] = refl
along_all dag n name (e ∷ es) =
    ap (λ (ws : List Window). windows_along dag n name e ++ ws) (along_all dag n name es)
    ∙ sym (flat_map-append (λ (v : Vertex). inflows.window_of n name v.kind) (filter (has_name e.from) dag.vertices) (flat_map (λ (d : Edge). filter (has_name d.from) dag.vertices) es))

-- ---- the windows of vertices by their numbers

pair : (a b : ℕ) (x y : Vertex) → a ≡ b → x ≡ y → (let p : ℕ × Vertex = (a, x) in let q : ℕ × Vertex = (b, y) in p ≡ q)
pair a b x y e f = cc

pub numbered_more : (vs : List Vertex) (i : ℕ) (v : Vertex) → i < length vs → v ≡ get_or vs i v → (let p : ℕ × Vertex = (i, v) in take (i + 1) (enumerate_from 0 vs) ≡ take i (enumerate_from 0 vs) ++ p ∷ [])
numbered_more vs i v inside at =
    let within : i < length (enumerate_from 0 vs) = subst (λ (n : ℕ). i < n) (sym (length-enumerate_from 0 vs)) inside in
    let d : ℕ × Vertex = (i, v) in
    let is : get_or (enumerate_from 0 vs) i d ≡ d = get_or-enumerate_from 0 vs i d inside ∙ pair (0 + i) i (get_or vs i v) v (omega arith) (sym at) in
    take_more (enumerate_from 0 vs) i d within ∙ ap (λ (p : ℕ × Vertex). take i (enumerate_from 0 vs) ++ p ∷ []) is
