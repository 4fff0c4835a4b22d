-- The content of an added file.
use Rattle.std.proofs.Common.{◌≡◌, ℕ, List, [], ◌∷◌, ◌++◌, Bool, true, false, cond, Option, Some, None, refl, subst, eq-eqb, ◌≢◌}
use Rattle.std.specs.Prelude.{find, bytes_eq, option_map}
use Rattle.jet_file.specs.Contents.{content_in}
use Rattle.jet_file.specs.declared.stored.StoredFile.{StoredFile}

chosen : (t : Bool) (g : StoredFile) (one all : Option StoredFile) (bytes : List ℕ)
    → option_map (λ f. f.content.items) (cond t (Some g) one) ≡ None
    → (option_map (λ f. f.content.items) one ≡ None → option_map (λ f. f.content.items) all ≡ Some bytes)
    → option_map (λ f. f.content.items) (cond t (Some g) all) ≡ Some bytes
chosen true g one all bytes none go = absurd (cc)
chosen false g one all bytes none go = go none

pub content_pushed : (files : List StoredFile) (f : StoredFile) (name : List ℕ) → content_in files name ≡ None → bytes_eq f.name.items name ≡ true
    → content_in (files ++ f ∷ []) name ≡ Some f.content.items
content_pushed [] f name none same = rw same refl
content_pushed (g ∷ files) f name none same =
    chosen (bytes_eq g.name.items name) g (find (λ h. bytes_eq h.name.items name) files) (find (λ h. bytes_eq h.name.items name) (files ++ f ∷ [])) f.content.items none
    (λ rest. content_pushed files f name rest same)

pub bytes_same : (xs ys : List ℕ) → xs ≡ ys → bytes_eq xs ys ≡ true
bytes_same xs ys e = subst (λ (zs : List ℕ). bytes_eq xs zs ≡ true) e (reflexive xs)
  where
    reflexive : (zs : List ℕ) → bytes_eq zs zs ≡ true
    reflexive [] = refl
    reflexive (z ∷ zs) = rw (eq-eqb z z refl, reflexive zs) refl

skipped : (t : Bool) (g : StoredFile) (one all : Option StoredFile)
    → option_map (λ f. f.content.items) one ≡ option_map (λ f. f.content.items) all
    → option_map (λ f. f.content.items) (cond t (Some g) one) ≡ option_map (λ f. f.content.items) (cond t (Some g) all)
skipped true g one all same = refl
skipped false g one all same = same

-- an added file leaves the content of the other names
pub content_others : (files : List StoredFile) (f : StoredFile) (other : List ℕ) → bytes_eq f.name.items other ≡ false
    → content_in (files ++ f ∷ []) other ≡ content_in files other
content_others [] f other differs = rw differs refl
content_others (g ∷ files) f other differs =
    skipped (bytes_eq g.name.items other) g (find (λ h. bytes_eq h.name.items other) (files ++ f ∷ [])) (find (λ h. bytes_eq h.name.items other) files)
    (content_others files f other differs)

-- a test that is not true is false
pub not_true : (b : Bool) → (b ≢ true) → b ≡ false
not_true true differs = absurd (differs refl)
not_true false differs = refl
