use Rattle.std.proofs.Common.{◌≡◌, ℕ, zero, suc, ◌+◌, ◌-◌, ◌*◌, ◌^◌, ◌<◌, ◌≤◌, max, List, [], ◌∷◌, map, length, fold, true, false, Bool, nat_lt, position, Option, Some, None, refl, sym, ap, ◌∙◌, arith, not, cond}
use Rattle.std.specs.Prelude.{sum, filter, ◌⊎◌}
use Rattle.std.proofs.Common.{inl, inr}
use Rattle.std.proofs.Math.Nat.{le-mul_of_pos_right}
use Rattle.std.proofs.lemmas.List.{length-map}
use Rattle.std.proofs.lemmas.Bool.Decides.{nat_tests}
use Rattle.std.specs.List.{prefix_len, list_any, find}
use Rattle.std.specs.Option.{option_map_or}
use Rattle.jet_plan.specs.declared.edge.Edge.{Edge}
use Rattle.jet_plan.specs.declared.mode.ModeSpec.TheVariants.{Inner, Left}
use Rattle.jet_plan.specs.declared.vertex.Vertex.{Vertex}
use Rattle.jet_plan.specs.declared.kind.Kind.{Kind}
use Rattle.jet_plan.specs.declared.kind.Kind.TheVariants.{Source, Side, Flat, Join, Combine, Sink}
use Rattle.jet_plan.specs.declared.measure.Measure.{Measure}
use Rattle.jet_plan.specs.declared.measure.Measure.TheVariants.{LongestKey, Growth}
use Rattle.jet_plan.specs.Graph.{edges_into}
use Rattle.jet_plan.specs.Along.{before}
use Rattle.jet_plan.specs.Names.{has_name, has_unknown_end, AreKnown}
use Rattle.jet_plan.specs.Growth.{greatest, longest_after, growth_after}
use Rattle.jet_plan.specs.Tables.{entry, IsTable, cap, capped_sum, rule_of, rule_by, measured}
use Rattle.jet_plan.proofs.Rounds.{round_is, map_same, or_false}

cap_cap : (n : ℕ) → cap (cap n) ≡ cap n
cap_cap n = omega arith

map_cap_cap : (xs : List ℕ) → map cap (map cap xs) ≡ map cap xs
map_cap_cap [] = refl
map_cap_cap (x ∷ xs) = let a = cap_cap x in let b = map_cap_cap xs in cc

-- ---- keys

-- the greatest of capped numbers
capped_fold : (xs : List ℕ) (n : ℕ) → cap (fold max n xs) ≡ fold max (cap n) (map cap xs)
capped_fold [] n = refl
capped_fold (x ∷ xs) n = capped_fold xs (max n x) ∙ ap (λ m. fold max m (map cap xs)) (omega arith)

cap_greatest : (xs : List ℕ) → cap (greatest (map cap xs)) ≡ cap (greatest xs)
cap_greatest xs = capped_fold (map cap xs) 0 ∙ (ap (fold max (cap 0)) (map_cap_cap xs) ∙ sym (capped_fold xs 0))

-- what counts of the longest key that enters is its cap
longest_cap : (kind : Kind) (n m : ℕ) → cap n ≡ cap m → cap (longest_after kind n) ≡ cap (longest_after kind m)
longest_cap (Source files lag) n m e = refl
longest_cap (Flat legs) n m e = omega arith
longest_cap (Join Inner true fields) n m e = refl
longest_cap (Join Left true fields) n m e = omega arith
longest_cap (Side file) n m e = refl
longest_cap Sink n m e = refl
longest_cap kind n m e = e

-- ---- events

capped_from : (xs : List ℕ) (n : ℕ) → fold (λ a x. cap (a + x)) (cap n) xs ≡ cap (fold (λ a x. a + x) n xs)
capped_from [] n = refl
capped_from (x ∷ xs) n =
    let e : cap (cap n + x) ≡ cap (n + x) = omega arith in
    ap (λ m. fold (λ a y. cap (a + y)) m xs) e ∙ capped_from xs (n + x)

-- the sum that is held after each summand is the sum, held
pub capped_sum_is : (xs : List ℕ) → capped_sum xs ≡ cap (sum xs)
capped_sum_is xs = capped_from xs 0

capped_parts : (xs : List ℕ) (n : ℕ) → cap (fold (λ a x. a + x) (cap n) (map cap xs)) ≡ cap (fold (λ a x. a + x) n xs)
capped_parts xs n = sym (capped_from (map cap xs) (cap n)) ∙ (ap (λ m. fold (λ a x. cap (a + x)) m (map cap xs)) (cap_cap n) ∙ (same_fold xs n ∙ capped_from xs n)) where
  same_fold : (xs : List ℕ) (n : ℕ) → fold (λ a x. cap (a + x)) (cap n) (map cap xs) ≡ fold (λ a x. cap (a + x)) (cap n) xs
  same_fold [] n = refl
  same_fold (x ∷ xs) n =
      let e : cap (cap n + cap x) ≡ cap (n + x) = omega arith in
      let f : cap (cap n + x) ≡ cap (n + x) = omega arith in
      ap (λ m. fold (λ a y. cap (a + y)) m (map cap xs)) e ∙ (same_fold xs (n + x) ∙ ap (λ m. fold (λ a y. cap (a + y)) m xs) (sym f))

cap_sum : (xs : List ℕ) → cap (sum (map cap xs)) ≡ cap (sum xs)
cap_sum xs = capped_parts xs 0

-- numbers with the same cap are the same, or both reach it
same_or_great : (n m : ℕ) (t : Bool) → nat_lt n (2 ^ 64 - 1) ≡ t → cap n ≡ cap m → (n ≡ m) ⊎ ((2 ^ 64 - 1 ≤ n) × (2 ^ 64 - 1 ≤ m))
same_or_great n m true is e = inl (grind (arith, nat_tests))
same_or_great n m false is e = let h : 2 ^ 64 - 1 ≤ n = grind (arith, nat_tests) in inr (h, omega (arith, h, e))

great_times : (k n m : ℕ) → (n ≡ m) ⊎ ((2 ^ 64 - 1 ≤ n) × (2 ^ 64 - 1 ≤ m)) → cap (n * suc k) ≡ cap (m * suc k)
great_times k n m (inl e) = ap (λ x. cap (x * suc k)) e
great_times k n m (inr h) =
    let a : n ≤ n * suc k = le-mul_of_pos_right n (omega arith) in
    let b : m ≤ m * suc k = le-mul_of_pos_right m (omega arith) in
    omega (arith, a, b, h.0, h.1)

-- a product of capped numbers
cap_times : (k n m : ℕ) → cap n ≡ cap m → cap (n * k) ≡ cap (m * k)
cap_times zero n m e = omega arith
cap_times (suc k) n m e = great_times k n m (same_or_great n m (nat_lt n (2 ^ 64 - 1)) refl e)

-- what counts of the events that enter is their cap
growth_cap : (kind : Kind) (n m : ℕ) → cap n ≡ cap m → cap (growth_after kind n) ≡ cap (growth_after kind m)
growth_cap (Source files lag) n m e = refl
growth_cap (Flat legs) n m e = cap_times (length legs) n m e
growth_cap (Join mode rekey fields) n m e = cap_times 16 n m e
growth_cap (Side file) n m e = refl
growth_cap Sink n m e = refl
growth_cap Combine n m e = refl
growth_cap kind n m e = e

pub growth_of_capped : (kind : Kind) (xs : List ℕ) → cap (growth_after kind (capped_sum xs)) ≡ cap (growth_after kind (sum xs))
growth_of_capped kind xs = growth_cap kind (capped_sum xs) (sum xs) (ap cap (capped_sum_is xs) ∙ cap_cap (sum xs))

-- ---- rounds

rule_cap : (measure : Measure) (kind : Kind) (xs : List ℕ) → cap (rule_of measure kind (map cap xs)) ≡ cap (rule_of measure kind xs)
rule_cap LongestKey kind xs = longest_cap kind (greatest (map cap xs)) (greatest xs) (cap_greatest xs)
rule_cap Growth kind xs = growth_cap kind (sum (map cap xs)) (sum xs) (cap_sum xs)

cap_at : (measure : Measure) (o : Option Vertex) (xs : List ℕ) → cap (option_map_or (λ v. rule_of measure v.kind (map cap xs)) o 0) ≡ cap (option_map_or (λ v. rule_of measure v.kind xs) o 0)
cap_at measure None xs = refl
cap_at measure (Some v) xs = rule_cap measure v.kind xs

map_map_before : (g : List ℕ → ℕ) (into : List Edge) → map (λ e. cap (g e.from)) into ≡ map cap (map (λ e. g e.from) into)
map_map_before g [] = refl
map_map_before g (e ∷ into) = ap (λ xs. cap (g e.from) ∷ xs) (map_map_before g into)

-- a round over capped numbers gives those of one step more
pub next_is : (measure : Measure) (vs : List Vertex) (edges : List Edge) (n : ℕ) (table : List ℕ) → AreKnown vs edges → IsTable vs table (λ name. cap (measured measure vs edges n name))
    → map (λ v. cap (rule_by measure vs v.name (before edges (entry vs table 0) v.name))) vs ≡ map (λ v. cap (measured measure vs edges (suc n) v.name)) vs
next_is measure vs edges n table known is =
    round_is (λ name. cap (measured measure vs edges n name)) (λ v xs. cap (rule_by measure vs v.name xs)) 0 vs edges table known is
    ∙ map_same (λ v. cap (rule_by measure vs v.name (before edges (λ name. cap (measured measure vs edges n name)) v.name))) (λ v. cap (measured measure vs edges (suc n) v.name)) vs
    (λ v. ap (λ xs. cap (rule_by measure vs v.name xs)) (map_map_before (measured measure vs edges n) (edges_into v.name edges))
    ∙ cap_at measure (find (has_name v.name) vs) (before edges (measured measure vs edges n) v.name))

-- ---- the first beyond

prefix_same : (most : ℕ) (g h : Vertex → ℕ) → ((v : Vertex) → nat_lt most (g v) ≡ nat_lt most (h v)) → (vs : List Vertex)
    → prefix_len (λ n. not (nat_lt most n)) (map g vs) ≡ prefix_len (λ v. not (nat_lt most (h v))) vs
prefix_same most g h same [] = refl
prefix_same most g h same (v ∷ vs) = rw (same v, prefix_same most g h same vs) refl

cap_test : (most n : ℕ) → most < 2 ^ 64 - 1 → nat_lt most (cap n) ≡ nat_lt most n
cap_test most n small = grind (arith, nat_tests)

-- the first that is too great is so by its cap
pub first_by_cap : (most : ℕ) → most < 2 ^ 64 - 1 → (g : List ℕ → ℕ) (vs : List Vertex) → position (λ n. nat_lt most n) (map (λ v. cap (g v.name)) vs) ≡ position (λ v. nat_lt most (g v.name)) vs
first_by_cap most small g vs = rw (prefix_same most (λ v. cap (g v.name)) (λ v. g v.name) (λ v. cap_test most (g v.name) small) vs, length-map vs (λ v. cap (g v.name))) refl

known_step : (vs : List Vertex) (e : Edge) (es : List Edge) (b : Bool) → has_unknown_end vs e ≡ false → AreKnown vs es → AreKnown vs (cond b (e ∷ es) es)
known_step vs e es true here rest = rw here rest
known_step vs e es false here rest = rest

-- some of known edges are known
pub known_kept : (p : Edge → Bool) (vs : List Vertex) (es : List Edge) → AreKnown vs es → AreKnown vs (filter p es)
known_kept p vs [] h = refl
known_kept p vs (e ∷ es) h =
    let parts = or_false (has_unknown_end vs e) (list_any (has_unknown_end vs) es) h in
    known_step vs e (filter p es) (p e) parts.0 (known_kept p vs es parts.1)
