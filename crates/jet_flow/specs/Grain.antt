-- The unit to which the watermarks of a job are rounded down.
use Rattle.std.specs.Int.{◌∣◌}
use Rattle.std.specs.Prelude.{ℕ, unsigned_abs, List, [], ◌∷◌, All, flat_map}
use Rattle.jet_plan.specs.declared.dag.Dag.{Dag}
use Rattle.jet_plan.specs.declared.kind.Kind.{Kind}
use Rattle.jet_plan.specs.declared.kind.Kind.TheVariants.{Accumulate}

-- the slide of an accumulate vertex
abbrev pub slides_of : Kind → List ℕ
slides_of (Accumulate size slide) = unsigned_abs slide ∷ []
slides_of _ = []

-- the slides of all accumulate vertices
abbrev pub slides : Dag → List ℕ
slides dag = flat_map (λ v. slides_of v.kind) dag.vertices

-- g divides each of the numbers, and is divided by each number that does
pub record IsGreatestDivisor (ns : List ℕ) (g : ℕ) : Type 0 where
  pub divides : All (λ n. g ∣ n) ns
  pub greatest : (d : ℕ) → All (λ n. d ∣ n) ns → d ∣ g

-- the unit of the watermarks is the greatest common divisor of all slides
abbrev pub IsGrain : Dag → ℕ → Type 0
IsGrain dag g = IsGreatestDivisor (slides dag) g
