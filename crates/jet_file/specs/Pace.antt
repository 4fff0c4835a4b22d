-- That rows are written as soon as the watermark of a source has passed their ends by the read-ahead.
use Rattle.std.specs.Prelude.{◌≡◌, ℕ, ◌+◌, ◌≤◌, ◌==◌, ℤ, ◌-ℤ◌, int_le, List, [], ◌∷◌, ◌++◌, length, filter, All, Option, IfSome, if◌then◌else◌}
use Rattle.jet_items.specs.Rows.{Window}
use Rattle.jet_items.specs.Values.{RowValue}
use Rattle.jet_file.specs.Outside.{CallMade, Opened, Read, Wrote, Missed}
use Rattle.jet_file.specs.Text.{rows_text}
use Rattle.jet_file.specs.declared.outside.Out.{Out}
use Rattle.jet_file.specs.declared.outside.Out.TheVariants.{Rows, Notes}

-- how many bytes of the file of this number these calls took
abbrev pub taken_by : ℕ → List CallMade → ℕ
taken_by file [] = 0
taken_by file (Read other n ∷ calls) = (if other == file then n else 0) + taken_by file calls
taken_by file (Opened name other ∷ calls) = taken_by file calls
taken_by file (Wrote to n ∷ calls) = taken_by file calls
taken_by file (Missed tried ∷ calls) = taken_by file calls

-- n, where the outputs are the same
abbrev pub where_to : Out → Out → ℕ → ℕ
where_to Rows Rows n = n
where_to Rows Notes n = 0
where_to Notes Rows n = 0
where_to Notes Notes n = n

-- how many bytes these calls wrote to the output
abbrev pub wrote_by : Out → List CallMade → ℕ
wrote_by out [] = 0
wrote_by out (Wrote to n ∷ calls) = where_to out to n + wrote_by out calls
wrote_by out (Opened name file ∷ calls) = wrote_by out calls
wrote_by out (Read file n ∷ calls) = wrote_by out calls
wrote_by out (Missed tried ∷ calls) = wrote_by out calls

-- a source file of a job: its number, and the watermark of the events in the whole lines of the first n bytes of it; there
-- may be none where the last of these lines that is not empty is an idle note, since the file may be read on then
pub record Source : Type 0 where
  pub file : ℕ
  pub mark : ℕ → Option ℤ

-- the rows whose ends are at most t
abbrev pub rows_until : ℤ → List RowValue → List RowValue
rows_until t rows = filter (λ r. int_le r.end t) rows

-- At each read of a source file, let m be the watermark of what was taken of the file before, where there is one: then
-- each row line whose end is at most m less `ahead` was written to Rows before the read. Rows stand in the order of
-- their ends, so the rows until a time are a front of the table and their text is a front of Rows. That so many bytes
-- were written says that they were.
pub record IsPaced (windows : List Window) (sources : List Source) (ahead : ℤ) (rows : List RowValue) (calls : List CallMade) : Type 0 where
  pub each : All (λ s. (before after : List CallMade) (n : ℕ) → calls ≡ before ++ Read s.file n ∷ after
      → IfSome (s.mark (taken_by s.file before)) (λ m. length (rows_text windows (rows_until (m -ℤ ahead) rows)) ≤ wrote_by Rows before)) sources
