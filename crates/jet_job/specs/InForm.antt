-- What a job that was read holds before it is checked.
use Rattle.std.specs.Prelude.{ℕ, ◌<◌, ◌≤◌, ℤ, pos, ◌≤ℤ◌, List, length, All}
use Rattle.jet_plan.specs.declared.kind.Kind.{Kind}
use Rattle.jet_plan.specs.declared.kind.Kind.TheVariants.{Source, Flat, Join}
use Rattle.jet_plan.specs.declared.vertex.Vertex.{Vertex}
use Rattle.jet_job.specs.declared.job_text.JobText.{JobText}

-- a list of at least one item and at most so many
abbrev pub IsFew : {X : Type 0} → ℕ → List X → Type 0
IsFew most xs = (1 ≤ length xs) × (length xs ≤ most)

-- a lag that a source may have
abbrev pub IsLag : ℤ → Type 0
IsLag lag = (pos 0 ≤ℤ lag) × (lag ≤ℤ pos 1000000000000000)

-- files and legs are few, a lag is in its range, and a join names no field but those of events and side rows
abbrev pub FitsKind : Kind → Type 0
FitsKind (Source files lag) = IsFew 256 files × IsLag lag
FitsKind (Flat legs) = IsFew 8 legs
FitsKind (Join mode rekey fields) = All (λ field. field < 8) fields
FitsKind _ = Unit {0}

-- a vertex as a job file can have it
pub record Fits (vertex : Vertex) : Type 0 where
  pub instances : (1 ≤ vertex.parallelism) × (vertex.parallelism ≤ 8)
  pub kind : FitsKind vertex.kind

abbrev pub IsInForm : JobText → Type 0
IsInForm job = All Fits job.dag.vertices
