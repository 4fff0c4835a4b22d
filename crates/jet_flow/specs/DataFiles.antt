-- The files that a job reads.
use Rattle.std.specs.Prelude.{ℕ, ℤ, List, [], ◌∷◌, ◌++◌, flat_map, map}
use Rattle.jet_plan.specs.declared.dag.Dag.{Dag}
use Rattle.jet_plan.specs.declared.kind.Kind.{Kind}
use Rattle.jet_plan.specs.declared.kind.Kind.TheVariants.{Source, Side}

-- a file of a source, with the source's lag, or that of a side vertex
pub data DataFile : Type 0 where
  SourceFile : List ℕ → ℤ → DataFile
  SideFile : List ℕ → DataFile

abbrev pub file_name : DataFile → List ℕ
file_name (SourceFile name lag) = name
file_name (SideFile name) = name

-- the files of a source, in their order
abbrev pub sources_of : Kind → List DataFile
sources_of (Source files lag) = map (λ name. SourceFile name lag) files
sources_of _ = []

abbrev pub sides_of : Kind → List DataFile
sides_of (Side file) = SideFile file ∷ []
sides_of _ = []

-- the files of a job by their numbers, from 0 on: those of the sources in the order of the vertices, then the side files
abbrev pub data_files : Dag → List DataFile
data_files dag = flat_map (λ v. sources_of v.kind) dag.vertices ++ flat_map (λ v. sides_of v.kind) dag.vertices
