-- The numbers of a valid job in their ranges.
use Rattle.std.specs.Prelude.{ℕ, ◌≤◌, ℤ, unsigned_abs}
use Rattle.std.specs.List.{Contains}
use Rattle.jet_plan.specs.declared.dag.Dag.{Dag}
use Rattle.jet_plan.specs.declared.vertex.Vertex.{Vertex}
use Rattle.jet_plan.specs.declared.settings.Settings.{Settings}

abbrev pub IsBetween : ℕ → ℕ → ℤ → Type 0
IsBetween least most z = (least ≤ unsigned_abs z) × (unsigned_abs z ≤ most)

-- the settings that say how a job is deployed, and the instances of its vertices
pub record IsRanged (dag : Dag) (s : Settings) : Type 0 where
  pub workers : IsBetween 1 8 s.workers
  pub members : IsBetween 1 4 s.members
  pub ring : IsBetween 2 65536 s.ring
  pub packet : IsBetween 256 65536 s.packet
  pub window : IsBetween 1 16777216 s.window
  pub turns : IsBetween 1 1024 s.turns
  pub lines : IsBetween 1 4294967294 s.lines
  pub peak : (unsigned_abs s.window ≤ unsigned_abs s.peak) × (unsigned_abs s.peak ≤ 16777216)
  pub multiplier : IsBetween 1 16 s.multiplier
  pub period : IsBetween 1 1024 s.period
  pub instances : (v : Vertex) → Contains dag.vertices v → (1 ≤ v.parallelism) × (v.parallelism ≤ 8)
