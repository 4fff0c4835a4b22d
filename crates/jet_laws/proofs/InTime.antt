-- Within the lag no event is behind.
use Rattle.std.proofs.Common.{◌≡◌, ℤ, pos, ◌-ℤ◌, ◌≤ℤ◌, List, [], ◌∷◌, Bool, true, false, cond, refl, arith, rules}
use Rattle.std.proofs.lemmas.Int.{ints}
use Rattle.std.proofs.lemmas.List.Elements.{All-head, All-tail}
use Rattle.std.specs.Prelude.{All, int_lt, fold}
use Rattle.std.specs.Int.{int_max}
use Rattle.std.specs.Option.{option_map_or}
use Rattle.jet_items.specs.Grid.{floor_to, IsFloor}
use Rattle.jet_items.specs.Marks.{mark_of}
use Rattle.jet_items.proofs.GridLemmas.{floor_is}
use Rattle.jet_laws.specs.InTime.{NoneIsBehind}

abbrev Below : ℤ → ℤ → ℤ → Type 0
Below lag ts t = (t -ℤ lag) ≤ℤ ts

picked : (lag ts x y : ℤ) (b : Bool) → Below lag ts x → Below lag ts y → Below lag ts (cond b x y)
picked lag ts x y true one other = one
picked lag ts x y false one other = other

greatest_below : (lag ts x : ℤ) (xs : List ℤ) → Below lag ts x → All (Below lag ts) xs → Below lag ts (fold int_max x xs)
greatest_below lag ts x [] here rest = here
greatest_below lag ts x (y ∷ ys) here rest =
    greatest_below lag ts (int_max x y) ys (picked lag ts x y (int_lt y x) here (All-head (Below lag ts) y ys rest)) (All-tail (Below lag ts) y ys rest)

not_below : (x y : ℤ) → y ≤ℤ x → int_lt x y ≡ false
not_below x y le = grind (arith, ints, rules, le)

none_behind : (lag grain ts : ℤ) (times : List ℤ) → pos 1 ≤ℤ grain → All (Below lag ts) times
    → option_map_or (λ mark. int_lt ts mark) (mark_of lag grain times) false ≡ false
none_behind lag grain ts [] step all = refl
none_behind lag grain ts (x ∷ xs) step all =
    let t : ℤ = fold int_max x xs in
    let low : Below lag ts t = greatest_below lag ts x xs (All-head (Below lag ts) x xs all) (All-tail (Below lag ts) x xs all) in
    let floor : IsFloor grain (t -ℤ lag) (floor_to grain (t -ℤ lag)) = floor_is grain (t -ℤ lag) step in
    not_below ts (floor_to grain (t -ℤ lag)) (omega (arith, ints, floor.at_most, low))

pub none_is_behind : NoneIsBehind
none_is_behind lag grain events step in_time k d below = none_behind lag grain _ _ step (in_time k d below)
