-- What a job without a fault leaves of the numbers of its vertices.
use Rattle.std.proofs.Common.{arith, ◌≡◌, ◌∙◌, ◌+◌, ◌<◌, ◌≤◌, ◌≤ℤ◌, ℕ, zero, suc, ℤ, pos, negsuc, Bool, true, false, not, cond, List, [], ◌∷◌, ◌++◌, length, position, nat_le, nat_lt, Option, Some, None, ap, refl, sym, subst}
use Rattle.std.specs.Prelude.{◌&&◌, option_map}
use Rattle.std.specs.List.{Contains, list_any, position_or_len}
use Rattle.std.proofs.lemmas.Bool.Decides.{nat_tests}
use Rattle.std.proofs.lemmas.Int.{ints}
use Rattle.std.proofs.lemmas.List.Folds.{list_any-from_Any}
use Rattle.std.proofs.lemmas.List.Sums.{fails_before_first}
use Rattle.jet_items.specs.Ranges.{most_time}
use Rattle.jet_policy.specs.declared.policy.PolicyFault.{PolicyFault}
use Rattle.jet_plan.specs.declared.dag.Dag.{Dag}
use Rattle.jet_plan.specs.declared.kind.Kind.{Kind}
use Rattle.jet_plan.specs.declared.kind.Kind.TheVariants.{Source, Side, Map, Filter, Flat, Join, Accumulate, Combine, Sink}
use Rattle.jet_plan.specs.declared.many.Many.TheVariants.{Legs}
use Rattle.jet_plan.specs.declared.settings.Settings.{Settings}
use Rattle.jet_plan.specs.declared.setting_name.SettingName.TheVariants.{Lag}
use Rattle.jet_plan.specs.declared.vertex.Vertex.{Vertex}
use Rattle.jet_plan.specs.declared.fault.PlanFault.{PlanFault}
use Rattle.jet_plan.specs.declared.fault.PlanFault.TheVariants.{Policy, Setting, TooMany}
use Rattle.jet_plan.specs.Faults.{shape_faults, end_faults, edge_faults, range_faults, large_faults, fault}
use Rattle.jet_plan.specs.First.{first_of, where_true}
use Rattle.jet_plan.specs.SettingRanges.{has_wrong_lag, is_between, wrong_sizes, wrong_sizes_from}
use Rattle.jet_plan.specs.Sizes.{sizes, too_many, has_wrong_legs, is_from_1_to_8}
use Rattle.jet_deploy.specs.Ranges.{IsInRange, IsLag}

-- ---- none of several

abbrev AreNone : {X : Type 0} → List (Option X) → Type 0
AreNone [] = Unit {0}
AreNone (o ∷ os) = (o ≡ None) × AreNone os

none_each : {X : Type 0} (os : List (Option X)) → first_of os ≡ None → AreNone os
none_each [] h = tt
none_each (None ∷ os) h = (refl, none_each os h)
none_each (Some x ∷ os) h = absurd (cc h)

group_none : {X : Type 0} (xs ys : List (Option X)) → first_of (xs ++ ys) ≡ None → (first_of xs ≡ None) × (first_of ys ≡ None)
group_none [] ys h = (refl, h)
group_none (None ∷ xs) ys h = group_none xs ys h
group_none (Some x ∷ xs) ys h = absurd (cc h)

not_mapped : {X Y : Type 0} (f : X → Y) (o : Option X) → option_map f o ≡ None → o ≡ None
not_mapped f None h = refl
not_mapped f (Some x) h = absurd (cc h)

not_true : {X : Type 0} (b : Bool) (x : X) → where_true b x ≡ None → b ≡ false
not_true true x h = absurd (cc h)
not_true false x h = refl

not_not : (b : Bool) → not b ≡ false → b ≡ true
not_not true h = refl
not_not false h = absurd (cc h)

both : (a b : Bool) → (a && b) ≡ true → (a ≡ true) × (b ≡ true)
both true b h = (refl, h)
both false b h = absurd (cc h)

to_le : (m n : ℕ) → nat_le m n ≡ true → m ≤ n
to_le m n h = grind (arith, nat_tests)

-- ---- none of a list

past : (n m : ℕ) → cond (nat_lt n m) (Some n) None ≡ None → m ≤ n
past n m h = grind (arith, nat_tests)

pub none_passes : {X : Type 0} (p : X → Bool) (xs : List X) → position p xs ≡ None → (x : X) → Contains xs x → p x ≡ false
none_passes p xs h x (k, lt, at) = let far = past (position_or_len p xs) (length xs) h in ap p (sym at) ∙ fails_before_first p xs k x (omega (arith, far, lt))

true_false : true ≡ false → ⊥
true_false h = cc h

false_of : (b : Bool) → (b ≡ true → ⊥) → b ≡ false
false_of true h = absurd (h refl)
false_of false h = refl

none_any : {X : Type 0} (p : X → Bool) (xs : List X) → list_any p xs ≡ false → (x : X) → Contains xs x → p x ≡ false
none_any p xs none x there = false_of (p x) (λ h. true_false (sym (list_any-from_Any p xs (there.0, x, there.1, there.2, h)) ∙ none))

-- ---- the sizes of windows

sizes_if : (n : ℕ) (w v : Vertex) (ws : List Vertex) (o : Option PolicyFault) → wrong_sizes w.kind ≡ o → wrong_sizes_from n (w ∷ ws) ≡ None → (o ≡ None) × (wrong_sizes_from (n + 1) ws ≡ None)
sizes_if n w v ws None is h = (refl, rw is at h)
sizes_if n w v ws (Some why) is h = absurd (cc (rw is at h))

sizes_each : (n : ℕ) (ws : List Vertex) → wrong_sizes_from n ws ≡ None → (v : Vertex) → Contains ws v → wrong_sizes v.kind ≡ None
sizes_each n [] h v there = absurd (omega (arith, there.1))
sizes_each n (w ∷ ws) h v (zero, lt, at) = let here : w ≡ v = at in ap (λ (x : Vertex). wrong_sizes x.kind) (sym here) ∙ (sizes_if n w v ws (wrong_sizes w.kind) refl h).0
sizes_each n (w ∷ ws) h v (suc k, lt, at) = sizes_each (n + 1) ws (sizes_if n w v ws (wrong_sizes w.kind) refl h).1 v (k, omega (arith, lt), at)

-- ---- all of them

lag_within : (z : ℤ) → is_between 0 most_time z ≡ true → IsLag z
lag_within (pos n) h = let small : n ≤ most_time = to_le n most_time (both (nat_le 0 n) (nat_le n most_time) h).1 in (omega (arith, ints), omega (arith, ints, small))
lag_within (negsuc n) h = absurd (cc h)

legs_within : (n : ℕ) → is_from_1_to_8 n ≡ true → (1 ≤ n) × (n ≤ 8)
legs_within n h = let parts = both (nat_le 1 n) (nat_le n 8) h in (to_le 1 n parts.0, to_le n 8 parts.1)

in_range : (k : Kind) → has_wrong_lag k ≡ false → has_wrong_legs k ≡ false → wrong_sizes k ≡ None → IsInRange k
in_range (Source names lag) lags legs windows = lag_within lag (not_not (is_between 0 most_time lag) lags)
in_range (Flat legs) lags few windows = legs_within (length legs) (not_not (is_from_1_to_8 (length legs)) few)
in_range (Accumulate size slide) lags legs windows = windows
in_range (Side file) lags legs windows = tt
in_range (Map set) lags legs windows = tt
in_range (Filter test) lags legs windows = tt
in_range (Join mode rekey fields) lags legs windows = tt
in_range Combine lags legs windows = tt
in_range Sink lags legs windows = tt

pub vertices_in_range : (dag : Dag) (s : Settings) → fault dag s ≡ None → (v : Vertex) → Contains dag.vertices v → IsInRange v.kind
unfolding shape_faults range_faults
vertices_in_range dag s h v there =
    let shapes = group_none (shape_faults dag) (end_faults dag ++ (edge_faults dag s ++ (range_faults dag s ++ large_faults dag s))) h in
    let ends = group_none (end_faults dag) (edge_faults dag s ++ (range_faults dag s ++ large_faults dag s)) shapes.1 in
    let edges = group_none (edge_faults dag s) (range_faults dag s ++ large_faults dag s) ends.1 in
    let ranges = none_each (range_faults dag s) (group_none (range_faults dag s) (large_faults dag s) edges.1).0 in
    let many = none_each (sizes dag) (not_mapped TooMany (too_many dag) (none_each (shape_faults dag) shapes.0).1.0) in
    in_range v.kind
    (none_passes (λ (w : Vertex). has_wrong_lag w.kind) dag.vertices (not_mapped (λ i. Setting (Lag i)) (position (λ (w : Vertex). has_wrong_lag w.kind) dag.vertices) ranges.1.1.1.0) v there)
    (none_any (λ (w : Vertex). has_wrong_legs w.kind) dag.vertices (not_true (list_any (λ (w : Vertex). has_wrong_legs w.kind) dag.vertices) Legs many.1.1.1.1.0) v there)
    (sizes_each 0 dag.vertices (not_mapped (λ p. Policy p.0 p.1) (wrong_sizes_from 0 dag.vertices) ranges.1.0) v there)
