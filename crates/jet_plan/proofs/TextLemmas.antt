use Rattle.std.proofs.Common.{◌≡◌, ◌++◌, [], ◌∷◌, append_assoc, ℕ, List, true, false, Bool, refl}
use Rattle.std.specs.Prelude.{codes}
use Rattle.jet_items.specs.LineText.{line_text}
use Rattle.std.specs.Str.{IsUtf8, is_utf8}
use Rattle.std.proofs.lemmas.Str.{IsUtf8-from_is_utf8, is_utf8-from_IsUtf8}

pub utf8_test : (bs : List ℕ) → IsUtf8 bs → is_utf8 bs ≡ true
utf8_test bs h = is_utf8-from_IsUtf8 bs h

not_true : (b : Bool) → (b ≡ true → ⊥) → b ≡ false
not_true true h = absurd (h refl)
not_true false h = refl

pub no_utf8_test : (bs : List ℕ) → (IsUtf8 bs → ⊥) → is_utf8 bs ≡ false
no_utf8_test bs h = not_true (is_utf8 bs) (λ t. h (IsUtf8-from_is_utf8 bs t))

-- the last line of a plan in the parts that the code makes
pub total_parts : (tasklets rings slots links : List ℕ) →
    codes "total," ++ (tasklets ++ 44 ∷ (rings ++ 44 ∷ (slots ++ 44 ∷ (links ++ 10 ∷ [])))) ≡ line_text (codes "total" ∷ tasklets ∷ rings ∷ slots ∷ links ∷ [])
total_parts tasklets rings slots links = simp append_assoc
