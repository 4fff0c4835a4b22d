-- What a map sets.
use Rattle.std.specs.Prelude.{ℕ, List, [], ◌∷◌, codes, Option, Some, None, Result, Ok}
use Rattle.std.specs.List.{list_all}
use Rattle.jet_expr.specs.Term.{Term}
use Rattle.serde_json.specs.Data.{Data}
use Rattle.serde_json.specs.Find.{get, as_object}
use Rattle.jet_job.specs.declared.place.Place.{Place}
use Rattle.jet_job.specs.declared.place.Place.TheVariants as place
use Rattle.jet_job.specs.declared.field.Field.{Field}
use Rattle.jet_job.specs.declared.field.Field.TheVariants as field
use Rattle.jet_job.specs.declared.fault.JobFault.{JobFault}
use Rattle.jet_job.specs.Forms.{of_form, expression}
use Rattle.jet_job.specs.Members.{◌>>=◌, where_known, names_of}
use Rattle.jet_job.specs.Words.{is_event_field}

-- one entry, if it is there: a fault of it is one of the member `set` of vertex n
abbrev pub entry_at : ℕ → Option Data → Result (Option Term) JobFault
entry_at n None = Ok None
entry_at n (Some d) = expression (place.Vertex n) field.Set d >>= λ t. Ok (Some t)

abbrev pub entries_at : ℕ → Data → Result (List (Option Term)) JobFault
entries_at n d = do
  v0 ← entry_at n (get (codes "v0") d)
  v1 ← entry_at n (get (codes "v1") d)
  v2 ← entry_at n (get (codes "v2") d)
  v3 ← entry_at n (get (codes "v3") d)
  Ok (v0 ∷ v1 ∷ v2 ∷ v3 ∷ [])

-- an object with an expression, or none, for each value of an event
abbrev pub set_at : ℕ → Place → Field → Data → Result (List (Option Term)) JobFault
set_at n place field d = do
  ms ← of_form as_object place field d
  known ← where_known place (list_all is_event_field (names_of ms))
  entries_at n d
