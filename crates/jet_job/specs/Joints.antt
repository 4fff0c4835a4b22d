-- The fields of the events that a join gives.
use Rattle.std.specs.Prelude.{ℕ, ◌==◌, List, length, Option, option_and_then}
use Rattle.serde_json.specs.Data.{Data, Items}
use Rattle.serde_json.specs.Find.{as_array}
use Rattle.jet_job.specs.Forms.{each_form, word_form, where_fits}
use Rattle.jet_job.specs.Words.{joint_fields}

abbrev pub fields_in : Items → Option (List ℕ)
fields_in ds = option_and_then (where_fits (λ fs. length fs == 4)) (each_form (word_form joint_fields) ds)

-- a list of four names of fields
abbrev pub fields_form : Data → Option (List ℕ)
fields_form d = option_and_then fields_in (as_array d)
