-- What a vertex does, by the members of its sort.
use Rattle.std.specs.Prelude.{ℕ, pos, false, List, [], ◌∷◌, Result, Ok}
use Rattle.jet_plan.specs.declared.kind.Kind.{Kind}
use Rattle.jet_plan.specs.declared.kind.Kind.TheVariants as kind
use Rattle.serde_json.specs.Data.{Data}
use Rattle.serde_json.specs.Find.{as_bool}
use Rattle.jet_job.specs.declared.place.Place.TheVariants as place
use Rattle.jet_job.specs.declared.field.Field.{Field}
use Rattle.jet_job.specs.declared.field.Field.TheVariants as field
use Rattle.jet_job.specs.declared.fault.JobFault.{JobFault}
use Rattle.jet_job.specs.declared.sort.Sort.{Sort}
use Rattle.jet_job.specs.declared.sort.Sort.TheVariants.{Source, Side, Map, Filter, Flat, Join, Accumulate, Combine, Sink}
use Rattle.jet_job.specs.Forms.{of_form, whole, whole_from, text_form, word_form, expression}
use Rattle.jet_job.specs.Members.{◌>>=◌, needed, optional}
use Rattle.jet_job.specs.Words.{modes}
use Rattle.jet_job.specs.Files.{files_form}
use Rattle.jet_job.specs.Joints.{fields_form}
use Rattle.jet_job.specs.Legs.{legs_at}
use Rattle.jet_job.specs.Sets.{set_at}

-- the members of each sort beside name and kind
abbrev pub own_fields : Sort → List Field
own_fields Source = field.Parallelism ∷ field.Files ∷ field.Lag ∷ []
own_fields Side = field.File ∷ []
own_fields Map = field.Parallelism ∷ field.Set ∷ []
own_fields Filter = field.Parallelism ∷ field.Test ∷ []
own_fields Flat = field.Parallelism ∷ field.Legs ∷ []
own_fields Join = field.Parallelism ∷ field.Mode ∷ field.Rekey ∷ field.Fields ∷ []
own_fields Accumulate = field.Parallelism ∷ field.Size ∷ field.Slide ∷ []
own_fields Combine = field.Parallelism ∷ []
own_fields Sink = []

-- what vertex n does, by its own members behind `parallelism`
abbrev pub kind_at : Sort → ℕ → Data → Result Kind JobFault
kind_at Source n d = do
  files ← needed (of_form files_form) (place.Vertex n) field.Files d
  lag ← needed (of_form (whole_from (pos 0) (pos 1000000000000000))) (place.Vertex n) field.Lag d
  Ok (kind.Source files lag)
kind_at Side n d = do
  file ← needed (of_form text_form) (place.Vertex n) field.File d
  Ok (kind.Side file)
kind_at Map n d = do
  set ← needed (set_at n) (place.Vertex n) field.Set d
  Ok (kind.Map set)
kind_at Filter n d = do
  test ← needed expression (place.Vertex n) field.Test d
  Ok (kind.Filter test)
kind_at Flat n d = do
  legs ← needed (legs_at n) (place.Vertex n) field.Legs d
  Ok (kind.Flat legs)
kind_at Join n d = do
  how ← needed (of_form (word_form modes)) (place.Vertex n) field.Mode d
  rekey ← optional false (of_form as_bool) (place.Vertex n) field.Rekey d
  fields ← optional (0 ∷ 1 ∷ 2 ∷ 3 ∷ []) (of_form fields_form) (place.Vertex n) field.Fields d
  Ok (kind.Join how rekey fields)
kind_at Accumulate n d = do
  size ← needed (of_form whole) (place.Vertex n) field.Size d
  slide ← needed (of_form whole) (place.Vertex n) field.Slide d
  Ok (kind.Accumulate size slide)
kind_at Combine n d = Ok kind.Combine
kind_at Sink n d = Ok kind.Sink
