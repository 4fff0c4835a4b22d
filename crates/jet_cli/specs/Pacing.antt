-- How the run over one file keeps pace with its watermark.
use Rattle.jet_cli.specs.Base.{base_window}
use Rattle.std.specs.Prelude.{◌≡◌, ◌≢◌, ℕ, ◌≤◌, ℤ, pos, ◌-ℤ◌, ◌≤ℤ◌, List, [], ◌∷◌, ◌++◌, length, take, Option, Some, IfSome, IsSomeAnd, codes, flat_map, All, Bool, true, false}
use Rattle.jet_items.specs.Values.{RowValue}
use Rattle.jet_lines.specs.Files.{are_good, events_in, most_lines, whole_lines}
use Rattle.jet_lines.specs.Readings.{event_line}
use Rattle.jet_file.specs.Outside.{Told, CallMade, Read, rest_of}
use Rattle.jet_file.specs.Pace.{taken_by, wrote_by, rows_until, IsPaced, Source}
use Rattle.jet_file.specs.Text.{late_line, row_line}
use Rattle.jet_file.specs.declared.outside.Out.TheVariants.{Notes, Rows}
use Rattle.jet_worker.specs.Calls.{ReadsOrWrites, OpensInOrder, opened_by}
use Rattle.jet_cli.specs.Counting.{late_among, mark_after}
use Rattle.jet_cli.specs.Words.{WindowCommand}

-- `window` has no read-ahead: rows are written before the next read
abbrev pub base_ahead : ℤ
base_ahead = pos 0

-- the watermark of the events in the whole lines of the first n bytes of the file
abbrev pub base_mark : WindowCommand → List ℕ → ℕ → Option ℤ
base_mark c content n = mark_after c (events_in most_lines 0 (whole_lines (take n content)))

-- these bytes of the file were taken and the lines of these rows written; at each read those were written that the
-- watermark of then had closed, and the watermark has not fallen since
pub record HasPaced (c : WindowCommand) (file : ℕ) (bytes : List ℕ) (closed : Option ℤ) (table : List RowValue) (old now : Told) : Type 0 where
  pub calls : List CallMade
  pub quiet : All ReadsOrWrites calls
  pub trace : now.trace ≡ old.trace ++ calls
  pub rest : rest_of old file ≡ bytes ++ rest_of now file
  pub taken : taken_by file calls ≡ length bytes
  pub wrote : wrote_by Rows calls ≡ length (flat_map (row_line (codes "w") (pos c.size)) table)
  pub each : (before after : List CallMade) (n : ℕ) → calls ≡ before ++ Read file n ∷ after
      → IfSome (base_mark c (rest_of old file) (taken_by file before))
      (λ m. (length (flat_map (row_line (codes "w") (pos c.size)) (rows_until (m -ℤ base_ahead) table)) ≤ wrote_by Rows before) × IsSomeAnd closed (λ t. m ≤ℤ t))

-- the late lines of the events of these lines of the file
abbrev pub base_late_of : WindowCommand → List (List ℕ) → List ℕ
base_late_of c lines = flat_map (late_line (codes "w")) (late_among c (events_in most_lines 0 lines))

-- Before a read of the file no read has found its end, no whole line of the bytes taken is bad, and the late lines of these, and
-- no others, were written. Late lines stand in the order of their events, so that so many bytes were written says that they were.
pub record IsReady (c : WindowCommand) (content : List ℕ) (file : ℕ) (before : List CallMade) : Type 0 where
  pub live : All (λ call. call ≢ Read file 0) before
  pub good : are_good (event_line 0) most_lines (whole_lines (take (taken_by file before) content)) ≡ true
  pub late : wrote_by Notes before ≡ length (base_late_of c (whole_lines (take (taken_by file before) content)))

-- each read of the file comes when all is ready for it
abbrev pub ReadsReady : WindowCommand → List ℕ → ℕ → List CallMade → Type 0
ReadsReady c content file calls = (before after : List CallMade) (n : ℕ) → calls ≡ before ++ Read file n ∷ after → IsReady c content file before

-- the same of the command's file, under the number of its opening
abbrev pub ReadsOn : WindowCommand → Told → List CallMade → Type 0
ReadsOn c told calls = (content : List ℕ) (file : ℕ) → told.content c.file ≡ Some content → opened_by calls ≡ file ∷ [] → ReadsReady c content file calls

-- the command's file under this number
abbrev pub base_source : WindowCommand → List ℕ → ℕ → Source
base_source c content file = record { file = file; mark = base_mark c content }

-- under whatever number this call opened the command's file, no read of it ran ahead of the rows, or of what else it has to wait for
pub record KeepsPace (c : WindowCommand) (content : List ℕ) (table : List RowValue) (before now : ℕ → Bool) (old new : Told) : Type 0 where
  pub calls : List CallMade
  pub opens : OpensInOrder (c.file ∷ []) calls
  pub ready : ReadsOn c old calls
  pub trace : new.trace ≡ old.trace ++ calls
  pub paced : (file : ℕ) → before file ≡ false → now file ≡ true → (new.place file).name ≡ c.file
      → IsPaced (base_window c ∷ []) (base_source c content file ∷ []) base_ahead table calls
