-- The words that are a command.
use Rattle.std.specs.Prelude.{ℕ, ◌==◌, nat_le, ◌&&◌, not, Bool, List, [], ◌∷◌, length, slice_index, Option, Some, None, option_map, bytes_eq, codes, if◌then◌else◌}
use Rattle.jet_items.specs.Ranges.{most_time}
use Rattle.jet_cli.specs.Digits.{digits_word}
use Rattle.jet_cli.specs.JobWords.{JobCommand, parts_of, job_in}

-- `window SIZE SLIDE LAG FILE`
pub record WindowCommand : Type 0 where
  pub size : ℕ
  pub slide : ℕ
  pub lag : ℕ
  pub file : List ℕ

-- `window`, `run`, `plan` or `check`, with what stands behind it
pub data JetCommand : Type 0 where
  WindowOf : WindowCommand → JetCommand
  RunOf : JobCommand → JetCommand
  PlanOf : JobCommand → JetCommand
  CheckOf : JobCommand → JetCommand

-- a name of 1 to 255 bytes that does not begin with a minus
abbrev pub is_file_name : List ℕ → Bool
is_file_name name = nat_le 1 (length name) && nat_le (length name) 255 && not (slice_index name 0 == 45)

-- sizes and lag of 1 to 16 digits, a lag of at most 10 ^ 15, and a file name
abbrev pub window_at : Option ℕ → Option ℕ → Option ℕ → List ℕ → Option WindowCommand
window_at (Some size) (Some slide) (Some lag) file =
    if nat_le lag most_time && is_file_name file then Some (record { size = size; slide = slide; lag = lag; file = file }) else None
window_at size slide lag file = None

-- the words behind `window`
abbrev pub window_of : List (List ℕ) → Option WindowCommand
window_of (size ∷ slide ∷ lag ∷ file ∷ []) = window_at (digits_word 16 size) (digits_word 16 slide) (digits_word 16 lag) file
window_of words = None

-- the words behind `run`, `plan` and `check`
abbrev pub job_of : List (List ℕ) → Option JobCommand
job_of words = job_in (parts_of words)

-- the command of these words, where they are one
abbrev pub command_of : List (List ℕ) → Option JetCommand
command_of [] = None
command_of (command ∷ words) =
    if bytes_eq command (codes "window") then option_map WindowOf (window_of words)
    else if bytes_eq command (codes "run") then option_map RunOf (job_of words)
    else if bytes_eq command (codes "plan") then option_map PlanOf (job_of words)
    else if bytes_eq command (codes "check") then option_map CheckOf (job_of words)
    else None
