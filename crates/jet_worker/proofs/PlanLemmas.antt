-- What a valid job keeps: the limits of its check.
use Rattle.std.proofs.Common.{◌≡◌, ℕ, zero, suc, ◌+◌, ◌<◌, ◌≤◌, ℤ, pos, negsuc, Bool, true, false, not, List, [], ◌∷◌, ◌++◌, nat_lt, nat_le, position, Option, Some, None, All, refl, sym, ap, ◌∙◌, subst, arith, inl, inr}
use Rattle.std.specs.Prelude.{◌&&◌, ◌||◌, ◌==◌, bytes_eq, flat_map, unsigned_abs}
use Rattle.std.specs.Int.{◌∣◌}
use Rattle.std.specs.Option.{option_or}
use Rattle.std.proofs.lemmas.Bool.Decides.{nat_tests}
use Rattle.std.proofs.lemmas.List.Elements.{All-head, All-tail}
use Rattle.std.proofs.lemmas.Nat.Gcd.{dvd_antisymm, le_of_dvd}
use Rattle.std.proofs.Math.Nat.{eq-zero_of_zero-dvd}
use Rattle.jet_policy.specs.declared.policy.PolicyFault.{PolicyFault}
use Rattle.jet_policy.specs.PolicyCause.{is_length, policy_fault}
use Rattle.jet_lines.specs.Files.{most_lines}
use Rattle.jet_plan.specs.declared.dag.Dag.{Dag}
use Rattle.jet_plan.specs.declared.edge.Edge.{Edge}
use Rattle.jet_plan.specs.declared.kind.Kind.{Kind}
use Rattle.jet_plan.specs.declared.kind.Kind.TheVariants as kind
use Rattle.jet_plan.specs.declared.settings.Settings.{Settings}
use Rattle.jet_plan.specs.declared.setting_name.SettingName.TheVariants.{Lines}
use Rattle.jet_plan.specs.declared.vertex.Vertex.{Vertex}
use Rattle.jet_plan.specs.declared.fault.PlanFault.TheVariants.{Policy, Setting, SinkCount, WindowPath, WrongInputs}
use Rattle.jet_plan.specs.Ends.{builds_into, has_wrong_inputs, may_have_inputs, sinks, streams_into}
use Rattle.jet_plan.specs.Faults.{edge_faults, end_faults, fault, range_faults}
use Rattle.jet_plan.specs.First.{first_of}
use Rattle.jet_plan.specs.Kinds.{is_accumulate, is_combine, is_sink}
use Rattle.jet_plan.specs.Names.{end_is, has_name}
use Rattle.jet_plan.specs.Paths.{leaves_window_path}
use Rattle.jet_plan.specs.SettingRanges.{is_between, limit_settings, wrong_grant, wrong_limit, wrong_setting, wrong_size, wrong_sizes, wrong_sizes_from}
use Rattle.jet_flow.specs.Grain.{IsGrain, slides, slides_of}
use Rattle.jet_worker.proofs.ValidLemmas.{In, any_in, counted_in, edges_none, ends_none, first, found_in, implies, none_at, none_each, not_mapped, not_not, not_true, option_both, ranges_none, same_name, second, to_le}

-- ---- the most lines

within : (least most : ℕ) (z : ℤ) → is_between least most z ≡ true → (z ≡ pos (unsigned_abs z)) × (unsigned_abs z ≤ most)
within least most (pos n) h = (refl, to_le n most (second (nat_le least n) (nat_le n most) h))
within least most (negsuc n) h = absurd (cc h)

pub lines_within : (dag : Dag) (s : Settings) → fault dag s ≡ None → (s.lines ≡ pos (unsigned_abs s.lines)) × (unsigned_abs s.lines ≤ most_lines)
unfolding range_faults
lines_within dag s h =
    let none = none_each (range_faults dag s) (ranges_none dag s h) in
    let limits = none_each (limit_settings s) (option_both (wrong_limit s) (wrong_grant s) (option_both (wrong_size s) (option_or (wrong_limit s) (wrong_grant s)) (not_mapped Setting (wrong_setting s) none.1.1.0)).1).0 in
    within 1 4294967294 s.lines (not_not (is_between 1 4294967294 s.lines) (not_true (not (is_between 1 4294967294 s.lines)) Lines limits.1.1.1.0))

-- ---- a valid job has a window

path_parts : (a b c d : Bool) → (a || b || c || d) ≡ false → (a ≡ false) × (c ≡ false)
path_parts true b c d h = absurd (cc h)
path_parts false true c d h = absurd (cc h)
path_parts false false true d h = absurd (cc h)
path_parts false false false d h = (refl, refl)

some : (n : ℕ) → (n == 1) ≡ true → 0 < n
some zero h = absurd (cc h)
some (suc n) h = omega arith

more_than : (n : ℕ) → nat_lt 0 n ≡ true → 0 < n
more_than n h = grind (arith, nat_tests)

sink_inputs : (k : Kind) (a b : ℕ) → is_sink k ≡ true → may_have_inputs k a b ≡ true → 0 < a
sink_inputs kind.Sink a b is h = more_than a (first (nat_lt 0 a) (b == 0) h)
sink_inputs (kind.Source fs lag) a b is h = absurd (cc is)
sink_inputs (kind.Side f) a b is h = absurd (cc is)
sink_inputs (kind.Map set) a b is h = absurd (cc is)
sink_inputs (kind.Filter t) a b is h = absurd (cc is)
sink_inputs (kind.Flat legs) a b is h = absurd (cc is)
sink_inputs (kind.Join m r fs) a b is h = absurd (cc is)
sink_inputs (kind.Accumulate size slide) a b is h = absurd (cc is)
sink_inputs kind.Combine a b is h = absurd (cc is)

combine_inputs : (k : Kind) (a b : ℕ) → is_combine k ≡ true → may_have_inputs k a b ≡ true → 0 < a
combine_inputs kind.Combine a b is h = some a (first (a == 1) (b == 0) h)
combine_inputs (kind.Source fs lag) a b is h = absurd (cc is)
combine_inputs (kind.Side f) a b is h = absurd (cc is)
combine_inputs (kind.Map set) a b is h = absurd (cc is)
combine_inputs (kind.Filter t) a b is h = absurd (cc is)
combine_inputs (kind.Flat legs) a b is h = absurd (cc is)
combine_inputs (kind.Join m r fs) a b is h = absurd (cc is)
combine_inputs (kind.Accumulate size slide) a b is h = absurd (cc is)
combine_inputs kind.Sink a b is h = absurd (cc is)

-- an edge into a vertex that has inputs
edge_into : (edges : List Edge) (name : List ℕ) → 0 < streams_into edges name → (e : Edge) × In e edges × (bytes_eq e.to name ≡ true)
edge_into edges name h =
    let e = counted_in (λ (e : Edge). bytes_eq e.to name && not e.build) edges h in
    (e.0, e.1, first (bytes_eq e.0.to name) (not e.0.build) e.2)

-- the vertex of a name is of this kind
end_in : (dag : Dag) (p : Kind → Bool) (name : List ℕ) (v : Vertex) → In v dag.vertices → bytes_eq v.name name ≡ true → p v.kind ≡ true → end_is dag p name ≡ true
end_in dag p name v is named kind_is = any_in (λ (w : Vertex). has_name name w && p w.kind) v dag.vertices is (both (bytes_eq v.name name) (p v.kind) named kind_is)
  where
    both : (a b : Bool) → a ≡ true → b ≡ true → (a && b) ≡ true
    both true b h k = k
    both false b h k = absurd (cc h)

end_found : (dag : Dag) (p : Kind → Bool) (name : List ℕ) → end_is dag p name ≡ true → (v : Vertex) × In v dag.vertices × (bytes_eq v.name name ≡ true) × (p v.kind ≡ true)
end_found dag p name h =
    let v = found_in (λ (w : Vertex). has_name name w && p w.kind) dag.vertices h in
    (v.0, v.1, first (bytes_eq v.0.name name) (p v.0.kind) v.2, second (bytes_eq v.0.name name) (p v.0.kind) v.2)

-- what the faults leave of the window's path
pub record HasPaths (dag : Dag) : Type 0 where
  pub sink : 0 < sinks dag.vertices
  pub inputs : (v : Vertex) → In v dag.vertices → may_have_inputs v.kind (streams_into dag.edges v.name) (builds_into dag.edges v.name) ≡ true
  pub into_sink : (e : Edge) → In e dag.edges → end_is dag is_sink e.to ≡ true → end_is dag is_combine e.from ≡ true
  pub into_combine : (e : Edge) → In e dag.edges → end_is dag is_combine e.to ≡ true → end_is dag is_accumulate e.from ≡ true

path_of : (dag : Dag) (e : Edge) → leaves_window_path dag e ≡ false → (end_is dag is_sink e.to ≡ true → end_is dag is_combine e.from ≡ true) × (end_is dag is_combine e.to ≡ true → end_is dag is_accumulate e.from ≡ true)
path_of dag e h =
    let parts = path_parts (end_is dag is_sink e.to && not (end_is dag is_combine e.from)) (end_is dag is_accumulate e.from && not (end_is dag is_combine e.to))
    (end_is dag is_combine e.to && not (end_is dag is_accumulate e.from)) (end_is dag is_combine e.from && not (end_is dag is_sink e.to)) h in
    (implies (end_is dag is_sink e.to) (end_is dag is_combine e.from) parts.0, implies (end_is dag is_combine e.to) (end_is dag is_accumulate e.from) parts.1)

paths_of : (dag : Dag) (s : Settings) → first_of (end_faults dag) ≡ None → first_of (edge_faults dag s) ≡ None → HasPaths dag
unfolding end_faults edge_faults
paths_of dag s h k =
    let ends = none_each (end_faults dag) h in
    let edges = none_each (edge_faults dag s) k in
    let wrong = not_mapped WrongInputs (position (has_wrong_inputs dag.edges) dag.vertices) ends.1.1.0 in
    let leaves = not_mapped WindowPath (position (leaves_window_path dag) dag.edges) edges.0 in
    record {
      sink = some (sinks dag.vertices) (not_not (sinks dag.vertices == 1) (not_true (not (sinks dag.vertices == 1)) (SinkCount (sinks dag.vertices)) ends.1.0));
      inputs = λ v is. not_not (may_have_inputs v.kind (streams_into dag.edges v.name) (builds_into dag.edges v.name)) (none_at (has_wrong_inputs dag.edges) dag.vertices v wrong is);
      into_sink = λ e is. (path_of dag e (none_at (leaves_window_path dag) dag.edges e leaves is)).0;
      into_combine = λ e is. (path_of dag e (none_at (leaves_window_path dag) dag.edges e leaves is)).1;
    }

window_in : (dag : Dag) → HasPaths dag → (v : Vertex) × In v dag.vertices × (is_accumulate v.kind ≡ true)
window_in dag h =
    let z = counted_in (λ (v : Vertex). is_sink v.kind) dag.vertices h.sink in
    let e = edge_into dag.edges z.0.name (sink_inputs z.0.kind (streams_into dag.edges z.0.name) (builds_into dag.edges z.0.name) z.2 (h.inputs z.0 z.1)) in
    let w = end_found dag is_combine e.0.from (h.into_sink e.0 e.1 (end_in dag is_sink e.0.to z.0 z.1 (same_name e.0.to z.0.name e.2) z.2)) in
    let f = edge_into dag.edges w.0.name (combine_inputs w.0.kind (streams_into dag.edges w.0.name) (builds_into dag.edges w.0.name) w.3 (h.inputs w.0 w.1)) in
    let v = end_found dag is_accumulate f.0.from (h.into_combine f.0 f.1 (end_in dag is_combine f.0.to w.0 w.1 (same_name f.0.to w.0.name f.2) w.3)) in
    (v.0, v.1, v.3)

-- ---- the unit

length_is : (z : ℤ) → is_length z ≡ true → (1 ≤ unsigned_abs z) × (unsigned_abs z ≤ 1000000000000)
length_is (pos n) h = (to_le 1 n (first (nat_le 1 n) (nat_le n 1000000000000) h), to_le n 1000000000000 (second (nat_le 1 n) (nat_le n 1000000000000) h))
length_is (negsuc n) h = absurd (cc h)

slide_is : (size slide : ℤ) → policy_fault size slide ≡ None → is_length slide ≡ true
slide_is size slide h = slide_if (is_length size) (is_length slide) refl refl h
  where
    slide_if : (a b : Bool) → is_length size ≡ a → is_length slide ≡ b → policy_fault size slide ≡ None → is_length slide ≡ true
    slide_if a true one two h = two
    slide_if true false one two h = absurd (cc (rw (one, two) at h))
    slide_if false false one two h = absurd (cc (rw one at h))

sizes_if : (n : ℕ) (w v : Vertex) (ws : List Vertex) (o : Option PolicyFault) → (wrong_sizes_from (n + 1) ws ≡ None → In v ws → wrong_sizes v.kind ≡ None) → wrong_sizes w.kind ≡ o
    → wrong_sizes_from n (w ∷ ws) ≡ None → In v (w ∷ ws) → wrong_sizes v.kind ≡ None
sizes_if n w v ws None rest one h (inl same) = ap (λ (x : Vertex). wrong_sizes x.kind) (sym same) ∙ one
sizes_if n w v ws None rest one h (inr more) = rest (rw one at h) more
sizes_if n w v ws (Some why) rest one h is = absurd (cc (rw one at h))

no_wrong_sizes : (n : ℕ) (vertices : List Vertex) (v : Vertex) → wrong_sizes_from n vertices ≡ None → In v vertices → wrong_sizes v.kind ≡ None
no_wrong_sizes n [] v h is = absurd is
no_wrong_sizes n (w ∷ ws) v h is = sizes_if n w v ws (wrong_sizes w.kind) (no_wrong_sizes (n + 1) ws v) refl h is

slide_of : (k : Kind) → is_accumulate k ≡ true → wrong_sizes k ≡ None → (n : ℕ) × (slides_of k ≡ n ∷ []) × (1 ≤ n) × (n ≤ 1000000000000)
slide_of (kind.Accumulate size slide) is h = let bounds = length_is slide (slide_is size slide h) in (unsigned_abs slide, refl, bounds.0, bounds.1)
slide_of kind.Combine is h = absurd (cc is)
slide_of (kind.Source fs lag) is h = absurd (cc is)
slide_of (kind.Side f) is h = absurd (cc is)
slide_of (kind.Map set) is h = absurd (cc is)
slide_of (kind.Filter t) is h = absurd (cc is)
slide_of (kind.Flat legs) is h = absurd (cc is)
slide_of (kind.Join m r fs) is h = absurd (cc is)
slide_of kind.Sink is h = absurd (cc is)

-- what holds of all holds of each part
mapped_in : {X Y : Type 0} (f : X → List Y) (x : X) (y : Y) (xs : List X) → In x xs → f x ≡ y ∷ [] → In y (flat_map f xs)
mapped_in f x y [] is one = absurd is
mapped_in f x y (z ∷ zs) (inl same) one = subst (λ (ys : List _). In y (ys ++ flat_map f zs)) (sym (ap f same ∙ one)) (inl refl)
mapped_in f x y (z ∷ zs) (inr more) one = later_in (f z) (flat_map f zs) y (mapped_in f x y zs more one)
  where
    later_in : {Y : Type 0} (xs ys : List Y) (y : Y) → In y ys → In y (xs ++ ys)
    later_in [] ys y h = h
    later_in (x ∷ xs) ys y h = inr (later_in xs ys y h)

all_in : {X : Type 0} (P : X → Type 0) (x : X) (xs : List X) → All P xs → In x xs → P x
all_in P x [] h is = absurd is
all_in P x (y ∷ ys) h (inl same) = subst P same (All-head P y ys h)
all_in P x (y ∷ ys) h (inr more) = all_in P x ys (All-tail P y ys h) more

unit_bounds : (g n : ℕ) → g ∣ n → 1 ≤ n → n ≤ 1000000000000 → (1 ≤ g) × (g ≤ 1000000000000)
unit_bounds zero n h low high = let none : n ≡ 0 = eq-zero_of_zero-dvd h in absurd (omega (arith, none, low))
unit_bounds (suc g) n h low high = let small : suc g ≤ n = le_of_dvd (omega (arith, low)) h in (omega arith, omega (arith, small, high))

sizes_none : (dag : Dag) (s : Settings) → first_of (range_faults dag s) ≡ None → wrong_sizes_from 0 dag.vertices ≡ None
unfolding range_faults
sizes_none dag s h = let none = none_each (range_faults dag s) h in not_mapped (λ p. Policy p.0 p.1) (wrong_sizes_from 0 dag.vertices) none.1.0

pub unit_within : (dag : Dag) (s : Settings) (g : ℕ) → fault dag s ≡ None → IsGrain dag g → (1 ≤ g) × (g ≤ 1000000000000)
unit_within dag s g valid h =
    let v = window_in dag (paths_of dag s (ends_none dag s valid) (edges_none dag s valid)) in
    let slide = slide_of v.0.kind v.2 (no_wrong_sizes 0 dag.vertices v.0 (sizes_none dag s (ranges_none dag s valid)) v.1) in
    unit_bounds g slide.0 (all_in (λ (n : ℕ). g ∣ n) slide.0 (slides dag) h.divides (mapped_in (λ (w : Vertex). slides_of w.kind) v.0 slide.0 dag.vertices v.1 slide.1)) slide.2 slide.3

pub unit_is : (dag : Dag) (g h : ℕ) → IsGrain dag g → IsGrain dag h → g ≡ h
unit_is dag g h one two = dvd_antisymm (two.greatest g one.divides) (one.greatest h two.divides)
