-- What the quick reading of a line sees: a field at the front, and what stands behind it.
use Rattle.std.specs.Prelude.{◌≡◌, ◌≢◌, ◌⊎◌, ℕ, ◌≤◌, true, ℤ, pos, List, [], ◌∷◌, ◌++◌, length, Option, Some, None, Ok}
use Rattle.std.specs.List.{list_all}
use Rattle.jet_lines.specs.Grammar.{is_line_byte}
use Rattle.jet_lines.specs.Numbers.{number_at}
use Rattle.jet_lines.specs.Readings.{values_at}
use Rattle.jet_lines.specs.Scan.{fields_of}

-- the bytes behind a field: none at the end of the line, and else a comma and what follows it
abbrev pub comma_and : Option (List ℕ) → List ℕ
comma_and None = []
comma_and (Some rest) = 44 ∷ rest

-- the fields behind a field
abbrev pub fields_after : Option (List ℕ) → Option (List (List ℕ))
fields_after None = Some []
fields_after (Some rest) = fields_of rest

-- a field is at the front, as it stands or between quotation marks, and this stands behind it
abbrev pub IsAtFront : List ℕ → List ℕ → Option (List ℕ) → Type 0
IsAtFront field bytes after = (bytes ≡ field ++ comma_and after) ⊎ (bytes ≡ 34 ∷ (field ++ 34 ∷ comma_and after))

-- a field of this kind is at the front, and this stands behind it
abbrev pub HasFront : (List ℕ → Type 0) → List ℕ → Option (List ℕ) → Type 0
HasFront IsKind bytes after = (field : List ℕ) × IsKind field × IsAtFront field bytes after

-- a number is at the front, and this stands behind it
abbrev pub HasNumber : ℤ → List ℕ → Option (List ℕ) → Type 0
HasNumber z bytes after = HasFront (λ field. number_at field ≡ Some z) bytes after

-- the value that comes next is this, and 0 at the end of the line; and what stands behind it
abbrev pub HasValue : ℤ → Option (List ℕ) → Option (List ℕ) → Type 0
HasValue z None after = (z ≡ pos 0) × (after ≡ None)
HasValue z (Some bytes) after = HasNumber z bytes after

-- the fields to the end of the line are at most four, at least one where there are bytes, and spell these values
pub record AreValues (v : List ℤ) (after : Option (List ℕ)) : Type 0 where
  pub fields : List (List ℕ)
  pub are : fields_after after ≡ Some fields
  pub some : after ≢ None → 1 ≤ length fields
  pub few : length fields ≤ 4
  pub good : list_all is_line_byte (comma_and after) ≡ true
  pub values : (a b : List ℕ) → values_at (a ∷ b ∷ fields) ≡ Ok v
