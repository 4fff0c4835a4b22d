-- The edges of a job file.
use Rattle.std.specs.Prelude.{ℕ, false, [], ◌∷◌, Result, Ok}
use Rattle.jet_plan.specs.declared.edge.Edge.{Edge}
use Rattle.serde_json.specs.Data.{Data}
use Rattle.serde_json.specs.Find.{as_bool}
use Rattle.jet_job.specs.declared.place.Place.TheVariants as place
use Rattle.jet_job.specs.declared.field.Field.TheVariants as field
use Rattle.jet_job.specs.declared.fault.JobFault.{JobFault}
use Rattle.jet_job.specs.Forms.{of_form, key_form, word_form}
use Rattle.jet_job.specs.Members.{◌>>=◌, needed, optional, object_at, only}
use Rattle.jet_job.specs.Words.{routes}

-- edge n
abbrev pub edge_at : ℕ → Data → Result Edge JobFault
edge_at n d = do
  object ← object_at (place.Edge n) d
  known ← only (field.From ∷ field.To ∷ field.Route ∷ field.Distributed ∷ field.Build ∷ []) (place.Edge n) d
  from ← needed (of_form (key_form 24)) (place.Edge n) field.From d
  to ← needed (of_form (key_form 24)) (place.Edge n) field.To d
  route ← needed (of_form (word_form routes)) (place.Edge n) field.Route d
  distributed ← optional false (of_form as_bool) (place.Edge n) field.Distributed d
  build ← optional false (of_form as_bool) (place.Edge n) field.Build d
  Ok (record { from = from; to = to; route = route; distributed = distributed; build = build })
