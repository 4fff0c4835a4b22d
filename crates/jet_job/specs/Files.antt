-- The files of a source.
use Rattle.std.specs.Prelude.{ℕ, ◌&&◌, nat_le, List, length, Option, option_and_then}
use Rattle.serde_json.specs.Data.{Data, Items}
use Rattle.serde_json.specs.Find.{as_array}
use Rattle.jet_job.specs.Forms.{each_form, text_form, where_fits}

abbrev pub files_in : Items → Option (List (List ℕ))
files_in ds = option_and_then (where_fits (λ fs. nat_le 1 (length fs) && nat_le (length fs) 256)) (each_form text_form ds)

-- a list of 1 to 256 texts
abbrev pub files_form : Data → Option (List (List ℕ))
files_form d = option_and_then files_in (as_array d)
