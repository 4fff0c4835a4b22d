-- Pairs of an end and an accumulator, as a window slides over them.
use Rattle.std.specs.Prelude.{◌≡◌, ℕ, ◌%◌, ◌^◌, ℤ, pos, ◌<ℤ◌, int_lt, List, [], ◌∷◌, filter, Option, Some, None}
use Rattle.std.specs.Int.{int_wrap, w128}
use Rattle.jet_items.specs.Order.{EachPair}
use Rattle.jet_items.specs.Totals.{total}
use Rattle.jet_items.specs.Values.{AccValue}

abbrev pub Pair : Type 0
Pair = ℤ × AccValue

-- what all pairs join to
abbrev pub joined_pairs : List Pair → Option AccValue
joined_pairs pairs = total (λ (p : Pair). Some p.1) pairs

-- the pairs whose end is above this one
abbrev pub pairs_above : ℤ → List Pair → List Pair
pairs_above end pairs = filter (λ (p : Pair). int_lt end p.0) pairs

-- the end of the first pair
abbrev pub first_end : List Pair → Option ℤ
first_end [] = None
first_end (p ∷ ps) = Some p.0

-- ends rise
abbrev pub EndsRise : List Pair → Type 0
EndsRise pairs = EachPair (λ (p q : Pair). p.0 <ℤ q.0) pairs

-- the count and the sum of what pairs join to, 0 where there are none
abbrev pub count_of : Option AccValue → ℕ
count_of None = 0
count_of (Some a) = a.count

abbrev pub sum_of : Option AccValue → ℤ
sum_of None = pos 0
sum_of (Some a) = a.sum

-- ends rise, and the running count and sum are those of the pairs, modulo 2 ^ 64 and 2 ^ 128
pub record Runs (pairs : List Pair) (count : ℕ) (sum : ℤ) : Type 0 where
  pub rising : EndsRise pairs
  pub count_is : count ≡ count_of (joined_pairs pairs) % 2 ^ 64
  pub sum_is : sum ≡ int_wrap w128 (sum_of (joined_pairs pairs))
