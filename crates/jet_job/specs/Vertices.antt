-- The vertices of a job file.
use Rattle.std.specs.Prelude.{ℕ, ℤ, pos, Bool, true, false, ◌∷◌, Result, Ok, if◌then◌else◌}
use Rattle.jet_plan.specs.declared.vertex.Vertex.{Vertex}
use Rattle.serde_json.specs.Data.{Data}
use Rattle.jet_job.specs.declared.place.Place.TheVariants as place
use Rattle.jet_job.specs.declared.field.Field.TheVariants as field
use Rattle.jet_job.specs.declared.fault.JobFault.{JobFault}
use Rattle.jet_job.specs.declared.sort.Sort.{Sort}
use Rattle.jet_job.specs.declared.sort.Sort.TheVariants.{Side, Sink}
use Rattle.jet_job.specs.Forms.{of_form, whole_from, key_form, word_form}
use Rattle.jet_job.specs.Members.{◌>>=◌, needed, optional, object_at, only}
use Rattle.jet_job.specs.Words.{sorts}
use Rattle.jet_job.specs.Kinds.{own_fields, kind_at}

abbrev pub has_parallelism : Sort → Bool
has_parallelism Side = false
has_parallelism Sink = false
has_parallelism _ = true

-- 1 to 8, and 1 where nothing is said
abbrev pub parallelism_at : Sort → ℕ → Data → Result ℤ JobFault
parallelism_at sort n d = if has_parallelism sort then optional (pos 1) (of_form (whole_from (pos 1) (pos 8))) (place.Vertex n) field.Parallelism d else Ok (pos 1)

abbrev pub size_of : ℤ → ℕ
size_of (pos n) = n
size_of _ = 0

-- vertex n: its name and kind come first, since its kind says which members it has
abbrev pub vertex_at : ℕ → Data → Result Vertex JobFault
vertex_at n d = do
  object ← object_at (place.Vertex n) d
  name ← needed (of_form (key_form 24)) (place.Vertex n) field.Name d
  sort ← needed (of_form (word_form sorts)) (place.Vertex n) field.Kind d
  known ← only (field.Name ∷ field.Kind ∷ own_fields sort) (place.Vertex n) d
  parallelism ← parallelism_at sort n d
  kind ← kind_at sort n d
  Ok (record { name = name; parallelism = size_of parallelism; kind = kind })
