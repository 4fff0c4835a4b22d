-- Lines of text that a job writes.
use Rattle.std.specs.Prelude.{ℕ, List, [], ◌∷◌, ◌++◌}
use Rattle.std.specs.List.{join_with_byte}

-- fields between commas, and a line feed
abbrev pub line_text : List (List ℕ) → List ℕ
line_text fields = join_with_byte 44 fields ++ 10 ∷ []
