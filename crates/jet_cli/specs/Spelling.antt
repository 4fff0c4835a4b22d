-- How a command's operands and options are spelled.
use Rattle.std.specs.Prelude.{◌≡◌, ◌⊎◌, ℕ, Bool, true, false, List, [], ◌∷◌, ◌++◌, map, Some, bytes_eq, codes}
use Rattle.std.specs.List.{list_any, AllByRecursion}
use Rattle.jet_cli.specs.JobWords.{Part, Operand, Given, is_option_word, JobCommand, job_in}

-- an operand, an option with its value behind `=`, or an option with its value in the next word
pub data Spelling : Type 0 where
  Bare : List ℕ → Spelling
  Joined : List ℕ → List ℕ → Spelling
  Parted : List ℕ → List ℕ → Spelling

-- the words of one
abbrev pub spelled : Spelling → List (List ℕ)
spelled (Bare word) = word ∷ []
spelled (Joined name value) = (name ++ 61 ∷ value) ∷ []
spelled (Parted name value) = name ∷ value ∷ []

-- the words of several, one behind another
abbrev pub spelled_all : List Spelling → List (List ℕ)
spelled_all [] = []
spelled_all (s ∷ rest) = spelled s ++ spelled_all rest

-- what one says
abbrev pub part_of : Spelling → Part
part_of (Bare word) = Operand word
part_of (Joined name value) = Given name value
part_of (Parted name value) = Given name value

-- `--workers`, `--members` or `--ring`
abbrev pub is_option_name : List ℕ → Bool
is_option_name name = list_any (bytes_eq name) (codes "--workers" ∷ codes "--members" ∷ codes "--ring" ∷ [])

-- neither an operand nor a value in a word of its own looks like an option, and an option's name is one of the three
abbrev pub IsSpelling : Spelling → Type 0
IsSpelling (Bare word) = is_option_word word ≡ false
IsSpelling (Joined name value) = is_option_name name ≡ true
IsSpelling (Parted name value) = (is_option_name name ≡ true) × (is_option_word value ≡ false)

-- the words spell operands and options, then operands alone if `--` stands between, and all of them make this command
pub record IsSpelled (words : List (List ℕ)) (c : JobCommand) : Type 0 where
  pub spellings : List Spelling
  pub operands : List (List ℕ)
  pub are : AllByRecursion IsSpelling spellings
  pub words_are : (words ≡ spelled_all spellings ++ codes "--" ∷ operands) ⊎ ((words ≡ spelled_all spellings) × (operands ≡ []))
  pub makes : job_in (map part_of spellings ++ map Operand operands) ≡ Some c
