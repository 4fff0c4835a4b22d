-- Accumulators joined over lists.
use Rattle.std.specs.Prelude.{◌+◌, ◌%◌, ◌^◌, ℤ, ◌+ℤ◌, List, [], ◌∷◌, Option, Some, None}
use Rattle.std.specs.Int.{int_wrap, int_min, int_max, w128}
use Rattle.jet_items.specs.Values.{AccValue}

-- the accumulator of the values of both
abbrev pub joined : AccValue → AccValue → AccValue
joined a b = record { count = (a.count + b.count) % 2 ^ 64; sum = int_wrap w128 (a.sum +ℤ b.sum); min = int_min a.min b.min; max = int_max a.max b.max }

-- the accumulator of one value
abbrev pub one : ℤ → AccValue
one v = record { count = 1; sum = int_wrap w128 v; min = v; max = v }

-- the same where there may be none
abbrev pub both : Option AccValue → Option AccValue → Option AccValue
both None b = b
both (Some a) None = Some a
both (Some a) (Some b) = Some (joined a b)

-- what the elements bring, joined; none where none brings any
abbrev pub total : {X : Type 0} → (X → Option AccValue) → List X → Option AccValue
total share [] = None
total share (x ∷ xs) = both (share x) (total share xs)
