-- The legs of a flat vertex.
use Rattle.std.specs.Prelude.{ℕ, ◌&&◌, nat_le, pos, List, [], ◌∷◌, Some, None, option_map, Result, Ok, Err, if◌then◌else◌}
use Rattle.jet_expr.specs.Term.{number}
use Rattle.jet_plan.specs.declared.leg.LegSpec.{LegSpec}
use Rattle.serde_json.specs.Data.{Data, Items}
use Rattle.serde_json.specs.Events.{items_len}
use Rattle.serde_json.specs.Find.{as_array}
use Rattle.jet_job.specs.declared.place.Place.{Place}
use Rattle.jet_job.specs.declared.place.Place.TheVariants as place
use Rattle.jet_job.specs.declared.field.Field.{Field}
use Rattle.jet_job.specs.declared.field.Field.TheVariants as field
use Rattle.jet_job.specs.declared.fault.JobFault.{JobFault}
use Rattle.jet_job.specs.declared.fault.JobFault.TheVariants.{WrongKind}
use Rattle.jet_job.specs.Forms.{of_form, expression, key_form}
use Rattle.jet_job.specs.Members.{◌>>=◌, needed, optional, object_at, only, each_at}

-- leg i of vertex n: its test is 1 and it has no tag where it does not say so
abbrev pub leg_at : ℕ → ℕ → Data → Result LegSpec JobFault
leg_at n i d = do
  object ← object_at (place.Leg n i) d
  known ← only (field.Test ∷ field.Value ∷ field.Tag ∷ []) (place.Leg n i) d
  test ← optional (number (pos 1)) expression (place.Leg n i) field.Test d
  value ← needed expression (place.Leg n i) field.Value d
  tag ← optional None (of_form (λ t. option_map Some (key_form 16 t))) (place.Leg n i) field.Tag d
  Ok (record { test = test; value = value; tag = tag })

abbrev pub legs_in : ℕ → Place → Field → Items → Result (List LegSpec) JobFault
legs_in n place field ds = if nat_le 1 (items_len ds) && nat_le (items_len ds) 8 then each_at (leg_at n) 0 ds else Err (WrongKind place field)

-- a list of 1 to 8 legs of vertex n
abbrev pub legs_at : ℕ → Place → Field → Data → Result (List LegSpec) JobFault
legs_at n place field d = of_form as_array place field d >>= legs_in n place field
