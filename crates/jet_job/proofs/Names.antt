use Rattle.std.proofs.Common.{◌≡◌, ℕ, List, [], ◌∷◌, String, Global, string_bytes, refl, ap, ◌&&◌, Bool}
use Rattle.std.specs.List.{list_all}
use Rattle.std.specs.Map.{keys_of}
use Rattle.serde_json.specs.View.{members_view}
use Rattle.serde_json.specs.declared.value.Value.{Value}
use Rattle.jet_job.specs.Members.{names_of}

-- a test of the names of members is one of the keys
pub names_same : (p : List ℕ → Bool) (es : List (String Global × Value)) → list_all p (names_of (members_view es)) ≡ list_all (λ k. p (string_bytes k)) (keys_of es)
names_same p [] = refl
names_same p (e ∷ es) = ap (λ b. p (string_bytes e.0) && b) (names_same p es)
