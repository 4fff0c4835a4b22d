-- What a valid job keeps: its edges are known, and have no cycle.
use Rattle.std.proofs.Common.{◌≡◌, ℕ, ◌≤◌, List, [], ◌∷◌, ◌++◌, Bool, true, false, refl, sym, ap, ◌∙◌, Option, Some, None, cond, position, nat_lt, length, arith, get_or}
use Rattle.std.specs.Prelude.{option_map}
use Rattle.std.specs.List.{list_any, position_or_len}
use Rattle.std.proofs.lemmas.Bool.Decides.{nat_tests}
use Rattle.std.proofs.lemmas.List.Folds.{Any-from_list_any}
use Rattle.std.proofs.lemmas.List.Sums.{fails_before_first}
use Rattle.jet_plan.specs.declared.dag.Dag.{Dag}
use Rattle.jet_plan.specs.declared.settings.Settings.{Settings}
use Rattle.jet_plan.specs.declared.fault.PlanFault.TheVariants.{UnknownEnd, Cycle, KeyGrowth}
use Rattle.jet_plan.specs.First.{first_of, where_true}
use Rattle.jet_plan.specs.Faults.{shape_faults, end_faults, edge_faults, range_faults, large_faults}
use Rattle.jet_plan.specs.Growth.{is_cyclic, longest_key}
use Rattle.jet_plan.specs.Names.{has_unknown_end, AreKnown}
use Rattle.jet_plan.specs.Plans.{IsValid}

-- ---- where none is found

contradicts : true ≡ false → ⊥
contradicts h = cc h

false_of : (b : Bool) → (b ≡ true → ⊥) → b ≡ false
false_of true h = absurd (h refl)
false_of false h = refl

is_none : {X : Type 0} (b : Bool) (x : X) → cond b (Some x) None ≡ None → b ≡ false
is_none true x h = absurd (cc h)
is_none false x h = refl

past : (m n : ℕ) → nat_lt m n ≡ false → n ≤ m
past m n h = grind (arith, nat_tests)

-- what has no first passes nowhere
none_passes : {X : Type 0} (p : X → Bool) (xs : List X) → position p xs ≡ None → list_any p xs ≡ false
none_passes p xs h =
    false_of (list_any p xs) (λ t.
    let a = Any-from_list_any p xs t in
    let far = past (position_or_len p xs) (length xs) (is_none (nat_lt (position_or_len p xs) (length xs)) (position_or_len p xs) h) in
    let fails : p (get_or xs a.0 a.1) ≡ false = fails_before_first p xs a.0 a.1 (omega (arith, far, a.2)) in
    contradicts (sym a.4 ∙ (ap p (sym a.3) ∙ fails)))

-- ---- where no fault is first

none_in_front : {X : Type 0} (xs ys : List (Option X)) → first_of (xs ++ ys) ≡ None → first_of xs ≡ None
none_in_front [] ys h = refl
none_in_front (None ∷ xs) ys h = none_in_front xs ys h
none_in_front (Some x ∷ xs) ys h = absurd (cc h)

none_behind : {X : Type 0} (xs ys : List (Option X)) → first_of (xs ++ ys) ≡ None → first_of ys ≡ None
none_behind [] ys h = h
none_behind (None ∷ xs) ys h = none_behind xs ys h
none_behind (Some x ∷ xs) ys h = absurd (cc h)

abbrev AreNone : {X : Type 0} → List (Option X) → Type 0
AreNone [] = Unit {0}
AreNone (o ∷ os) = (o ≡ None) × AreNone os

none_each : {X : Type 0} (os : List (Option X)) → first_of os ≡ None → AreNone os
none_each [] h = tt
none_each (None ∷ os) h = (refl, none_each os h)
none_each (Some x ∷ os) h = absurd (cc h)

not_mapped : {X Y : Type 0} (f : X → Y) (o : Option X) → option_map f o ≡ None → o ≡ None
not_mapped f None h = refl
not_mapped f (Some x) h = absurd (cc h)

not_true : {X : Type 0} (b : Bool) (x : X) → where_true b x ≡ None → b ≡ false
not_true true x h = absurd (cc h)
not_true false x h = refl

-- ---- a valid job

shape_is_good : (dag : Dag) (s : Settings) → IsValid dag s → first_of (shape_faults dag) ≡ None
shape_is_good dag s h = none_in_front (shape_faults dag) (end_faults dag ++ (edge_faults dag s ++ (range_faults dag s ++ large_faults dag s))) h

-- each edge goes from a vertex to a vertex
pub valid_known : (dag : Dag) (s : Settings) → IsValid dag s → AreKnown dag.vertices dag.edges
unfolding shape_faults
valid_known dag s h =
    let none = none_each (shape_faults dag) (shape_is_good dag s h) in
    none_passes (has_unknown_end dag.vertices) dag.edges (not_mapped UnknownEnd (position (has_unknown_end dag.vertices) dag.edges) none.1.1.1.0)

-- no walk is as long as the vertices are many
pub valid_acyclic : (dag : Dag) (s : Settings) → IsValid dag s → is_cyclic dag ≡ false
unfolding shape_faults
valid_acyclic dag s h =
    let none = none_each (shape_faults dag) (shape_is_good dag s h) in
    not_true (is_cyclic dag) Cycle none.1.1.1.1.0

range_is_good : (dag : Dag) (s : Settings) → IsValid dag s → first_of (range_faults dag s) ≡ None
range_is_good dag s h =
    none_in_front (range_faults dag s) (large_faults dag s)
    (none_behind (edge_faults dag s) (range_faults dag s ++ large_faults dag s)
    (none_behind (end_faults dag) (edge_faults dag s ++ (range_faults dag s ++ large_faults dag s))
    (none_behind (shape_faults dag) (end_faults dag ++ (edge_faults dag s ++ (range_faults dag s ++ large_faults dag s))) h)))

-- no key grows beyond 40 bytes
pub valid_keys : (dag : Dag) (s : Settings) → IsValid dag s → list_any (λ v. nat_lt 40 (longest_key dag v.name)) dag.vertices ≡ false
unfolding range_faults
valid_keys dag s h =
    let none = none_each (range_faults dag s) (range_is_good dag s h) in
    none_passes (λ v. nat_lt 40 (longest_key dag v.name)) dag.vertices (not_mapped KeyGrowth (position (λ v. nat_lt 40 (longest_key dag v.name)) dag.vertices) none.0)
