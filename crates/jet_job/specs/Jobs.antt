-- The job of a job file, or its first fault.
use Rattle.std.specs.Prelude.{ℕ, nat_lt, List, [], ◌∷◌, length, Result, Ok, Err, if◌then◌else◌}
use Rattle.std.specs.Str.{is_utf8}
use Rattle.std.specs.Option.{ok_or}
use Rattle.serde_json.specs.Data.{Data}
use Rattle.serde_json.specs.Find.{get, as_array}
use Rattle.serde_json.specs.Read.{read}
use Rattle.jet_job.specs.declared.place.Place.TheVariants as place
use Rattle.jet_job.specs.declared.field.Field.TheVariants as field
use Rattle.jet_job.specs.declared.fault.JobFault.{JobFault}
use Rattle.jet_job.specs.declared.fault.JobFault.TheVariants.{Long, NotJson}
use Rattle.jet_job.specs.declared.job_text.JobText.{JobText}
use Rattle.jet_job.specs.FieldNames.{field_name}
use Rattle.jet_job.specs.Forms.{of_form}
use Rattle.jet_job.specs.Members.{◌>>=◌, needed, object_at, only, each_at}
use Rattle.jet_job.specs.Vertices.{vertex_at}
use Rattle.jet_job.specs.Edges.{edge_at}
use Rattle.jet_job.specs.SettingsText.{settings_at, or_empty}

-- the job in a value: the vertices by number, then the edges by number, then the settings
abbrev pub job_in : Data → Result JobText JobFault
job_in d = do
  object ← object_at place.Top d
  known ← only (field.Vertices ∷ field.Edges ∷ field.Settings ∷ []) place.Top d
  vs ← needed (of_form as_array) place.Top field.Vertices d
  es ← needed (of_form as_array) place.Top field.Edges d
  vertices ← each_at vertex_at 0 vs
  edges ← each_at edge_at 0 es
  settings ← settings_at (or_empty (get (field_name field.Settings) d))
  Ok (record { dag = record { vertices = vertices; edges = edges }; settings = settings })

-- the value that a text is: JSON in UTF-8, nested as deep as serde_json reads it
abbrev pub json_at : List ℕ → Result Data JobFault
json_at text = if is_utf8 text then ok_or (read text) NotJson else Err NotJson

-- the job of a text, or its first fault
abbrev pub job_at : List ℕ → Result JobText JobFault
job_at text = if nat_lt 1048576 (length text) then Err Long else json_at text >>= job_in
