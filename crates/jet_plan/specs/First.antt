-- The first of several faults.
use Rattle.std.specs.Prelude.{ℕ, Bool, List, [], ◌∷◌, position, Option, Some, None, option_map, if◌then◌else◌, Result, Ok, Err, ⊤}

-- the first that there is
abbrev pub first_of : {X : Type 0} → List (Option X) → Option X
first_of [] = None
first_of (None ∷ more) = first_of more
first_of (Some x ∷ more) = Some x

-- x where the test holds
abbrev pub where_true : {X : Type 0} → Bool → X → Option X
where_true b x = if b then Some x else None

-- what is said of the number of the first that passes, from 0 on
abbrev pub at_first : {X Y : Type 0} → (ℕ → Y) → (X → Bool) → List X → Option Y
at_first f p xs = option_map f (position p xs)

-- accepted where there is no fault
abbrev pub accepted : {F : Type 0} → Option F → Result ⊤ F
accepted None = Ok tt
accepted (Some f) = Err f
