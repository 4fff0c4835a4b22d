use Rattle.std.proofs.Common.{◌≡◌, ℕ, ◌≤◌, List, Bool, true, false, refl, sym, ap, ◌∙◌, Some, None, position, cond, nat_lt, length, arith, get_or}
use Rattle.std.specs.List.{list_any, position_or_len}
use Rattle.std.proofs.lemmas.Bool.Decides.{nat_tests}
use Rattle.std.proofs.lemmas.List.Folds.{Any-from_list_any}
use Rattle.std.proofs.lemmas.List.Sums.{fails_before_first}
use Rattle.jet_plan.specs.declared.edge.Edge.{Edge}
use Rattle.jet_plan.specs.declared.vertex.Vertex.{Vertex}
use Rattle.jet_plan.specs.Names.{has_unknown_end, AreKnown}

is_none : {X : Type 0} (b : Bool) (x : X) → None ≡ cond b (Some x) None → b ≡ false
is_none true x h = absurd (cc h)
is_none false x h = refl

false_of : (b : Bool) → (b ≡ true → ⊥) → b ≡ false
false_of true h = absurd (h refl)
false_of false h = refl

past : (m n : ℕ) → nat_lt m n ≡ false → n ≤ m
past m n h = grind (arith, nat_tests)

contradicts : true ≡ false → ⊥
contradicts h = cc h

-- what is found nowhere passes nowhere
pub none_passes : {X : Type 0} (p : X → Bool) (xs : List X) → None ≡ position p xs → list_any p xs ≡ false
none_passes p xs h =
    false_of (list_any p xs) (λ t.
    let a = Any-from_list_any p xs t in
    let far = past (position_or_len p xs) (length xs) (is_none (nat_lt (position_or_len p xs) (length xs)) (position_or_len p xs) h) in
    let fails : p (get_or xs a.0 a.1) ≡ false = fails_before_first p xs a.0 a.1 (omega (arith, far, a.2)) in
    contradicts (sym a.4 ∙ (ap p (sym a.3) ∙ fails)))

-- where no edge has an unknown end, all are known
pub none_unknown : (vertices : List Vertex) (edges : List Edge) → None ≡ position (has_unknown_end vertices) edges → AreKnown vertices edges
none_unknown vertices edges h = none_passes (has_unknown_end vertices) edges h
