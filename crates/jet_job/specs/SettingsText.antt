-- The settings of a job file.
use Rattle.std.specs.Prelude.{ℤ, List, [], ◌∷◌, Option, Some, None, Result, Ok}
use Rattle.jet_plan.specs.Defaults.{defaults, default_peak}
use Rattle.jet_plan.specs.declared.settings.Settings.{Settings}
use Rattle.serde_json.specs.Data.{Data, no_members, object as object_of}
use Rattle.jet_job.specs.declared.place.Place.TheVariants as place
use Rattle.jet_job.specs.declared.field.Field.{Field}
use Rattle.jet_job.specs.declared.field.Field.TheVariants as field
use Rattle.jet_job.specs.declared.fault.JobFault.{JobFault}
use Rattle.jet_job.specs.Forms.{of_form, whole}
use Rattle.jet_job.specs.Members.{◌>>=◌, optional, object_at, only}

abbrev pub settings_fields : List Field
settings_fields = field.Workers ∷ field.Members ∷ field.Ring ∷ field.Packet ∷ field.Window ∷ field.Turns ∷ field.Ahead ∷ field.Lines ∷ field.Peak ∷ field.Multiplier ∷ field.Period ∷ []

-- one setting, a whole number
abbrev pub setting : ℤ → Field → Data → Result ℤ JobFault
setting default field d = optional default (of_form whole) place.Settings field d

-- what links grant: the most, the multiplier and the period; the most hangs on the least where it is not set
abbrev pub grants_at : ℤ → Data → Result (ℤ × ℤ × ℤ) JobFault
grants_at window d = do
  peak ← setting (default_peak window) field.Peak d
  multiplier ← setting defaults.multiplier field.Multiplier d
  period ← setting defaults.period field.Period d
  Ok (peak, multiplier, period)

-- the settings of an object, with the default of each that it lacks
abbrev pub settings_at : Data → Result Settings JobFault
settings_at d = do
  object ← object_at place.Settings d
  known ← only settings_fields place.Settings d
  workers ← setting defaults.workers field.Workers d
  members ← setting defaults.members field.Members d
  ring ← setting defaults.ring field.Ring d
  packet ← setting defaults.packet field.Packet d
  window ← setting defaults.window field.Window d
  turns ← setting defaults.turns field.Turns d
  ahead ← setting defaults.ahead field.Ahead d
  lines ← setting defaults.lines field.Lines d
  grants ← grants_at window d
  Ok (record { workers = workers; members = members; ring = ring; packet = packet; window = window; turns = turns; ahead = ahead; lines = lines; peak = grants.0; multiplier = grants.1; period = grants.2 })

-- a value, or an empty object
abbrev pub or_empty : Option Data → Data
or_empty None = object_of no_members
or_empty (Some d) = d
