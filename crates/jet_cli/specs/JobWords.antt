-- The words behind `plan` and `check`: a job's name, and options.
use Rattle.std.specs.Prelude.{ℕ, ℤ, pos, ◌==◌, nat_le, ◌&&◌, ◌||◌, not, Bool, List, [], ◌∷◌, ◌++◌, map, length, position, slice_get, slice_index, Option, Some, None, is_some, option_and_then, bytes_eq, codes, if◌then◌else◌}
use Rattle.std.specs.List.{list_all, before_first, after_first, filter_map}
use Rattle.jet_cli.specs.Digits.{digits_word}
use Rattle.jet_cli.specs.declared.job_words.Options.{Options}

-- what words say: an operand, an option with its value, or an option that lacks one
pub data Part : Type 0 where
  Operand : List ℕ → Part
  Given : List ℕ → List ℕ → Part
  Lone : List ℕ → Part

-- a word that begins with a minus, and not a minus alone
abbrev pub is_option_word : List ℕ → Bool
is_option_word word = nat_le 2 (length word) && slice_index word 0 == 45

-- a `=` stands in it
abbrev pub has_equals : List ℕ → Bool
has_equals word = is_some (position (λ b. b == 61) word)

-- what a word says without the next one: an option's value stands behind the first `=`
abbrev pub alone : List ℕ → Part
alone word =
    if not (is_option_word word) then Operand word
    else if has_equals word then Given (before_first (λ b. b == 61) word) (after_first (λ b. b == 61) word)
    else Lone word

-- an option without `=` has its value in the next word, where that is no option
abbrev pub takes : List ℕ → List ℕ → Bool
takes word next = is_option_word word && not (has_equals word) && not (is_option_word next)

-- what words say one after another, where none is `--`
unfoldable pub marked_parts : List (List ℕ) → List Part
marked_parts [] = []
marked_parts (word ∷ []) = alone word ∷ []
marked_parts (word ∷ next ∷ rest) = if takes word next then Given word next ∷ marked_parts rest else alone word ∷ marked_parts (next ∷ rest)

-- `--`
abbrev pub is_end_of_options : List ℕ → Bool
is_end_of_options word = bytes_eq word (codes "--")

-- what words say: behind the first `--` all are operands
abbrev pub parts_of : List (List ℕ) → List Part
parts_of words = marked_parts (before_first is_end_of_options words) ++ map Operand (after_first is_end_of_options words)

-- the number of one to six digits, where it lies in a range
abbrev pub number_within : ℕ → ℕ → List ℕ → Option ℤ
number_within least most word = option_and_then (λ n. if nat_le least n && nat_le n most then Some (pos n) else None) (digits_word 6 word)

-- the value of the option of this name and range
abbrev pub value_of : List ℕ → ℕ → ℕ → Part → Option ℤ
value_of option least most (Given name value) = if bytes_eq name option then number_within least most value else None
value_of option least most (Operand word) = None
value_of option least most (Lone name) = None

-- `--workers` takes 1 to 8
abbrev pub workers_in : Part → Option ℤ
workers_in = value_of (codes "--workers") 1 8

-- `--members` takes 1 to 4
abbrev pub members_in : Part → Option ℤ
members_in = value_of (codes "--members") 1 4

-- `--ring` takes 2 to 65536
abbrev pub ring_in : Part → Option ℤ
ring_in = value_of (codes "--ring") 2 65536

-- the word of an operand
abbrev pub operand_in : Part → Option (List ℕ)
operand_in (Operand word) = Some word
operand_in (Given name value) = None
operand_in (Lone name) = None

-- an operand, or one of the three options with a value in its range
abbrev pub is_known : Part → Bool
is_known part = is_some (operand_in part) || is_some (workers_in part) || is_some (members_in part) || is_some (ring_in part)

-- `plan JOB` or `check JOB`, with the numbers that options give
pub record JobCommand : Type 0 where
  pub job : List ℕ
  pub options : Options

-- none, or one
abbrev pub is_at_most_one : {X : Type 0} → List X → Bool
is_at_most_one xs = nat_le (length xs) 1

-- one operand, and each option at most once
abbrev pub job_from : List (List ℕ) → List ℤ → List ℤ → List ℤ → Option JobCommand
job_from (job ∷ []) workers members rings =
    if is_at_most_one workers && is_at_most_one members && is_at_most_one rings
    then Some (record { job = job; options = record { workers = slice_get workers 0; members = slice_get members 0; ring = slice_get rings 0 } })
    else None
job_from jobs workers members rings = None

-- the job and the options of these parts, where each is known
abbrev pub job_in : List Part → Option JobCommand
job_in parts =
    if list_all is_known parts
    then job_from (filter_map operand_in parts) (filter_map workers_in parts) (filter_map members_in parts) (filter_map ring_in parts)
    else None
