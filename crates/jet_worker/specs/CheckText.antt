-- What the check of a file finds: its first bad line, or the numbers of its lines and of what they hold.
use Rattle.std.specs.Prelude.{ℕ, ℤ, pos, List, [], ◌∷◌, length, count_by, decimal, codes, Option}
use Rattle.jet_items.specs.LineText.{line_text}
use Rattle.jet_items.specs.Marks.{is_behind}
use Rattle.jet_items.specs.Values.{EventValue}
use Rattle.jet_lines.specs.Files.{events_of, first_bad_line}
use Rattle.jet_lines.specs.Lines.{lines_of}
use Rattle.jet_lines.specs.Readings.{event_line}
use Rattle.jet_lines.specs.declared.fault.LineFault.{LineFault}
use Rattle.jet_flow.specs.DataFiles.{DataFile, SourceFile, SideFile}
use Rattle.jet_flow.specs.SideFiles.{first_bad_row, rows_of}

-- what a check is of: the files of a job, the most lines that each may have, and the unit of the watermarks
pub record Checks : Type 0 where
  pub files : List DataFile
  pub most : ℕ
  pub unit : ℕ

-- how many of these events of one file are behind
abbrev pub behind_count : ℤ → ℤ → List EventValue → ℕ
behind_count lag unit events = count_by (is_behind lag unit events) events

-- the line of a file with its number: how many lines it has, and events and those behind, or rows
abbrev pub check_line : Checks → ℕ × DataFile → List ℕ → List ℕ
check_line c (p, SourceFile name lag) bytes = line_text (codes "part" ∷ decimal p ∷ decimal (length (lines_of bytes))
    ∷ decimal (length (events_of c.most p bytes)) ∷ decimal (behind_count lag (pos c.unit) (events_of c.most p bytes)) ∷ [])
check_line c (p, SideFile name) bytes = line_text (codes "side" ∷ decimal p ∷ decimal (length (lines_of bytes)) ∷ decimal (length (rows_of c.most bytes)) ∷ [])

-- the number and the fault of the first bad line of a file with its number
abbrev pub first_bad : Checks → ℕ × DataFile → List ℕ → Option (ℕ × LineFault)
first_bad c (p, SourceFile name lag) bytes = first_bad_line (event_line p) c.most bytes
first_bad c (p, SideFile name) bytes = first_bad_row c.most bytes
