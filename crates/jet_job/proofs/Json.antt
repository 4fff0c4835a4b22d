use Rattle.std.proofs.Common.{◌≡◌, ℕ, List, true, false, Bool, refl}
use Rattle.std.specs.Prelude.{Option, Some, None, Ok, Err, if◌then◌else◌}
use Rattle.std.specs.Option.{ok_or}
use Rattle.std.specs.Str.{IsUtf8, is_utf8}
use Rattle.std.proofs.lemmas.Str.{IsUtf8-from_is_utf8, is_utf8-from_IsUtf8}
use Rattle.serde_json.specs.Data.{Data}
use Rattle.serde_json.specs.Read.{read}
use Rattle.jet_job.specs.declared.fault.JobFault.TheVariants.{NotJson}
use Rattle.jet_job.specs.Jobs.{json_at}

-- a text in UTF-8 that is read
pub json_is : (text : List ℕ) (d : Data) → IsUtf8 text → read text ≡ Some d → json_at text ≡ Ok d
json_is text d utf8 is = rw (is_utf8-from_IsUtf8 text utf8, is) refl

where_none : (text : List ℕ) (b : Bool) (o : Option Data) → (b ≡ true → o ≡ None) → (if b then ok_or o NotJson else Err NotJson) ≡ Err NotJson
where_none text true o none = rw (none refl) refl
where_none text false o none = refl

-- a text that is refused: no UTF-8, or not read
pub no_json : (text : List ℕ) → (IsUtf8 text → read text ≡ None) → json_at text ≡ Err NotJson
no_json text none = where_none text (is_utf8 text) (read text) (λ t. none (IsUtf8-from_is_utf8 text t))
