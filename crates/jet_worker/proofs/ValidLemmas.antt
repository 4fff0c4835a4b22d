-- What no fault of a valid job leaves.
use Rattle.std.proofs.Common.{◌≡◌, ℕ, ◌+◌, ◌<◌, ◌≤◌, Bool, true, false, not, List, [], ◌∷◌, ◌++◌, nat_le, position, Option, Some, None, refl, sym, ap, ◌∙◌, subst, arith, inl, inr}
use Rattle.std.specs.Prelude.{◌⊎◌, ◌&&◌, ◌||◌, bytes_eq, cond, count_by, option_map}
use Rattle.std.specs.List.{list_any, position_from}
use Rattle.std.specs.Option.{option_or}
use Rattle.std.proofs.lemmas.Bool.Decides.{nat_tests}
use Rattle.std.proofs.lemmas.Iterator.Adapters.{position_from-zero}
use Rattle.std.proofs.lemmas.Slice.Eq.{bytes_eq-Decides}
use Rattle.jet_plan.specs.declared.dag.Dag.{Dag}
use Rattle.jet_plan.specs.declared.settings.Settings.{Settings}
use Rattle.jet_plan.specs.Faults.{edge_faults, end_faults, fault, large_faults, range_faults, shape_faults}
use Rattle.jet_plan.specs.First.{first_of, where_true}
use Rattle.jet_worker.proofs.CountLemmas.{count_first, zero_and}

-- ---- groups of faults

abbrev pub AreNone : {X : Type 0} → List (Option X) → Type 0
AreNone [] = Unit {0}
AreNone (o ∷ os) = (o ≡ None) × AreNone os

pub none_each : {X : Type 0} (os : List (Option X)) → first_of os ≡ None → AreNone os
none_each [] h = tt
none_each (None ∷ os) h = (refl, none_each os h)
none_each (Some x ∷ os) h = absurd (cc h)

pub group_none : {X : Type 0} (xs ys : List (Option X)) → first_of (xs ++ ys) ≡ None → (first_of xs ≡ None) × (first_of ys ≡ None)
group_none [] ys h = (refl, h)
group_none (None ∷ xs) ys h = group_none xs ys h
group_none (Some x ∷ xs) ys h = absurd (cc h)

pub not_true : {X : Type 0} (b : Bool) (x : X) → where_true b x ≡ None → b ≡ false
not_true true x h = absurd (cc h)
not_true false x h = refl

pub not_mapped : {X Y : Type 0} (f : X → Y) (o : Option X) → option_map f o ≡ None → o ≡ None
not_mapped f None h = refl
not_mapped f (Some x) h = absurd (cc h)

pub not_not : (b : Bool) → not b ≡ false → b ≡ true
not_not true h = refl
not_not false h = absurd (cc h)

pub first : (a b : Bool) → (a && b) ≡ true → a ≡ true
first true b h = refl
first false b h = absurd (cc h)

pub second : (a b : Bool) → (a && b) ≡ true → b ≡ true
second true b h = h
second false b h = absurd (cc h)

pub neither : (a b : Bool) → (a || b) ≡ false → (a ≡ false) × (b ≡ false)
neither true b h = absurd (cc h)
neither false b h = (refl, h)

pub implies : (a b : Bool) → (a && not b) ≡ false → a ≡ true → b ≡ true
implies true b h is = not_not b h
implies false b h is = absurd (cc is)

pub option_both : {X : Type 0} (a b : Option X) → option_or a b ≡ None → (a ≡ None) × (b ≡ None)
option_both None b h = (refl, h)
option_both (Some x) b h = absurd (cc h)

pub after_shape : (dag : Dag) (s : Settings) → fault dag s ≡ None → first_of (end_faults dag ++ (edge_faults dag s ++ (range_faults dag s ++ large_faults dag s))) ≡ None
after_shape dag s h = (group_none (shape_faults dag) (end_faults dag ++ (edge_faults dag s ++ (range_faults dag s ++ large_faults dag s))) h).1

pub after_ends : (dag : Dag) (s : Settings) → fault dag s ≡ None → first_of (edge_faults dag s ++ (range_faults dag s ++ large_faults dag s)) ≡ None
after_ends dag s h = (group_none (end_faults dag) (edge_faults dag s ++ (range_faults dag s ++ large_faults dag s)) (after_shape dag s h)).1

pub ends_none : (dag : Dag) (s : Settings) → fault dag s ≡ None → first_of (end_faults dag) ≡ None
ends_none dag s h = (group_none (end_faults dag) (edge_faults dag s ++ (range_faults dag s ++ large_faults dag s)) (after_shape dag s h)).0

pub edges_none : (dag : Dag) (s : Settings) → fault dag s ≡ None → first_of (edge_faults dag s) ≡ None
edges_none dag s h = (group_none (edge_faults dag s) (range_faults dag s ++ large_faults dag s) (after_ends dag s h)).0

pub ranges_none : (dag : Dag) (s : Settings) → fault dag s ≡ None → first_of (range_faults dag s) ≡ None
ranges_none dag s h = (group_none (range_faults dag s) (large_faults dag s) (group_none (edge_faults dag s) (range_faults dag s ++ large_faults dag s) (after_ends dag s h)).1).0

pub to_le : (m n : ℕ) → nat_le m n ≡ true → m ≤ n
to_le m n h = grind (arith, nat_tests)

-- ---- vertices among those of a job

abbrev pub In : {X : Type 0} → X → List X → Type 0
In x [] = ⊥
In x (y ∷ ys) = (y ≡ x) ⊎ In x ys

pub found_if : {X : Type 0} (p : X → Bool) (x : X) (xs : List X) (b : Bool) → (list_any p xs ≡ true → (y : X) × In y xs × (p y ≡ true)) → p x ≡ b → list_any p (x ∷ xs) ≡ true → (y : X) × In y (x ∷ xs) × (p y ≡ true)
found_if p x xs true rest is h = (x, inl refl, is)
found_if p x xs false rest is h = let more = rest (rw is at h) in (more.0, inr more.1, more.2)

pub found_in : {X : Type 0} (p : X → Bool) (xs : List X) → list_any p xs ≡ true → (x : X) × In x xs × (p x ≡ true)
found_in p [] h = absurd (cc h)
found_in p (x ∷ xs) h = found_if p x xs (p x) (found_in p xs) refl h

pub any_if : (b c : Bool) → c ≡ true → (b || c) ≡ true
any_if true c h = refl
any_if false c h = h

pub any_in : {X : Type 0} (p : X → Bool) (x : X) (xs : List X) → In x xs → p x ≡ true → list_any p xs ≡ true
any_in p x [] h is = absurd h
any_in p x (y ∷ ys) (inl same) is = rw (ap p same ∙ is) refl
any_in p x (y ∷ ys) (inr more) is = any_if (p y) (list_any p ys) (any_in p x ys more is)

pub counted_if : {X : Type 0} (p : X → Bool) (x : X) (xs : List X) (b : Bool) → (0 < count_by p xs → (y : X) × In y xs × (p y ≡ true)) → p x ≡ b → 0 < count_by p (x ∷ xs) → (y : X) × In y (x ∷ xs) × (p y ≡ true)
counted_if p x xs true rest is h = (x, inl refl, is)
counted_if p x xs false rest is h =
    let more = rest (subst (λ (n : ℕ). 0 < n) (count_first p x xs ∙ ap (λ (b : Bool). cond b 1 0 + count_by p xs) is ∙ zero_and (count_by p xs)) h) in
    (more.0, inr more.1, more.2)

pub counted_in : {X : Type 0} (p : X → Bool) (xs : List X) → 0 < count_by p xs → (x : X) × In x xs × (p x ≡ true)
counted_in p [] h = absurd (omega (arith, h))
counted_in p (x ∷ xs) h = counted_if p x xs (p x) (counted_in p xs) refl h

pub none_if : {X : Type 0} (p : X → Bool) (i : ℕ) (y x : X) (ys : List X) (b : Bool) → (position_from p (i + 1) ys ≡ None → In x ys → p x ≡ false) → p y ≡ b → position_from p i (y ∷ ys) ≡ None → In x (y ∷ ys) → p x ≡ false
none_if p i y x ys true rest at h is = absurd (cc (rw at at h))
none_if p i y x ys false rest at h (inl same) = ap p (sym same) ∙ at
none_if p i y x ys false rest at h (inr more) = rest (rw at at h) more

pub none_from : {X : Type 0} (p : X → Bool) (i : ℕ) (xs : List X) (x : X) → position_from p i xs ≡ None → In x xs → p x ≡ false
none_from p i [] x h is = absurd is
none_from p i (y ∷ ys) x h is = none_if p i y x ys (p y) (none_from p (i + 1) ys x) refl h is

pub none_at : {X : Type 0} (p : X → Bool) (xs : List X) (x : X) → position p xs ≡ None → In x xs → p x ≡ false
none_at p xs x h is = none_from p 0 xs x (sym (position_from-zero p xs) ∙ h) is

pub same_name : (a b : List ℕ) → bytes_eq a b ≡ true → bytes_eq b a ≡ true
same_name a b h = (bytes_eq-Decides b a).1 (sym ((bytes_eq-Decides a b).0 h))
