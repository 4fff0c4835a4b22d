-- The numbers that a vertex of a valid job sets, in their ranges.
use Rattle.std.specs.Prelude.{◌≡◌, ◌≤◌, ◌≤ℤ◌, ℤ, pos, length, None}
use Rattle.jet_items.specs.Ranges.{most_time}
use Rattle.jet_plan.specs.declared.kind.Kind.{Kind}
use Rattle.jet_plan.specs.declared.kind.Kind.TheVariants.{Source, Flat, Accumulate}
use Rattle.jet_policy.specs.PolicyCause.{policy_fault}

-- a lag that a source may have
abbrev pub IsLag : ℤ → Type 0
IsLag lag = (pos 0 ≤ℤ lag) × (lag ≤ℤ pos most_time)

-- a unit of watermarks
abbrev pub IsUnit : ℤ → Type 0
IsUnit grain = (pos 1 ≤ℤ grain) × (grain ≤ℤ pos 1000000000000)

-- a source has a lag that it may have, a flat vertex 1 to 8 legs, and an accumulate vertex the sizes of a window
abbrev pub IsInRange : Kind → Type 0
IsInRange (Source names lag) = IsLag lag
IsInRange (Flat legs) = (1 ≤ length legs) × (length legs ≤ 8)
IsInRange (Accumulate size slide) = policy_fault size slide ≡ None
IsInRange _ = Unit {0}
