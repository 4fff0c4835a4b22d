-- How far the run over one file has come.
use Rattle.std.specs.Prelude.{◌≡◌, ◌≢◌, ℕ, ◌+◌, ◌<◌, Bool, true, false, pos, List, [], ◌++◌, length, All, Option, Some, None, option_to_list, Ok, codes, flat_map}
use Rattle.jet_items.specs.Values.{EventValue, RowValue}
use Rattle.jet_lines.specs.Cutting.{MayCome}
use Rattle.jet_lines.specs.Files.{are_good, events_in, most_lines}
use Rattle.jet_lines.specs.Lines.{lines_of}
use Rattle.jet_lines.specs.LinesValue.{LinesValue}
use Rattle.jet_lines.specs.Readings.{event_line}
use Rattle.jet_file.specs.Outside.{Told, CallMade, Read, WhereTold, rest_of}
use Rattle.jet_file.specs.Pace.{taken_by, wrote_by}
use Rattle.jet_file.specs.Text.{row_line, late_line}
use Rattle.jet_file.specs.declared.outside.Out.TheVariants.{Rows, Notes}
use Rattle.jet_cli.specs.Counting.{Counts, late_among, mark_after}
use Rattle.jet_worker.specs.Calls.{ReadsOrWrites}
use Rattle.jet_worker.specs.Feeding.{Appends}
use Rattle.jet_cli.specs.Pacing.{HasPaced, ReadsReady}
use Rattle.jet_cli.specs.inner.Took.{ClosesOn, Prints, late_text_of}
use Rattle.jet_cli.specs.Words.{WindowCommand}
use Rattle.jet_cli.specs.declared.counter.WindowCounter.{WindowCounter}

-- these bytes of the file were taken, to the end where it has ended, in reads for which all was ready, and these texts were written
pub record HasRun (c : WindowCommand) (file : ℕ) (bytes : List ℕ) (ended : Bool) (rows notes : List ℕ) (old now : Told) : Type 0 where
  pub rest : rest_of old file ≡ bytes ++ rest_of now file
  pub end : ended ≡ true → rest_of now file ≡ []
  pub content : now.content ≡ old.content
  pub name : (now.place file).name ≡ (old.place file).name
  pub taken : (now.place file).taken ≡ (old.place file).taken + length bytes
  pub rows_written : now.written Rows ≡ old.written Rows ++ rows
  pub notes_written : now.written Notes ≡ old.written Notes ++ notes
  pub calls : List CallMade
  pub quiet : All ReadsOrWrites calls
  pub taken_is : taken_by file calls ≡ length bytes
  pub wrote_notes : wrote_by Notes calls ≡ length notes
  pub live : ended ≡ false → All (λ call. call ≢ Read file 0) calls
  pub ready : ReadsReady c (rest_of old file) file calls
  pub trace : now.trace ≡ old.trace ++ calls

-- the lines of rows, and of late events, of the one window
abbrev pub base_rows_text : WindowCommand → List RowValue → List ℕ
base_rows_text c rows = flat_map (row_line (codes "w") (pos c.size)) rows

abbrev pub base_late_text : List EventValue → List ℕ
base_late_text events = flat_map (late_line (codes "w")) events

-- these lines of the file were given, all good, their events counted, and the texts of that written
pub record Progress (c : WindowCommand) (file : ℕ) (start now : Option Told) (lines : LinesValue) (w : WindowCounter) : Type 0 where
  pub bytes : List ℕ
  pub given : List (List ℕ)
  pub table : List RowValue
  pub good : are_good (event_line 0) most_lines given ≡ true
  pub most : lines.most ≡ most_lines
  pub number : lines.number ≡ length given
  pub cut : (more : List ℕ) → MayCome lines.ended more → lines_of (bytes ++ more) ≡ given ++ lines_of (lines.rest ++ more)
  pub before : All (λ e. e.line < length given + 1) (events_in most_lines 0 given)
  pub counts : Counts c (events_in most_lines 0 given) table w.marker w.window
  pub prints : Prints c w
  pub no_rows : w.rows.items ≡ []
  pub no_notes : w.notes.items ≡ []
  pub told : WhereTold (HasRun c file bytes lines.ended (base_rows_text c table) (base_late_text (late_among c (events_in most_lines 0 given)))) start now
  pub paced : WhereTold (HasPaced c file bytes (mark_after c (events_in most_lines 0 given)) table) start now

-- the late line of what a line holds, where it holds an event that is behind
abbrev pub late_of_line : WindowCommand → List EventValue → Option EventValue → List ℕ
late_of_line c events None = []
late_of_line c events (Some e) = late_text_of c events e

-- one more line was read, what it holds counted, and the texts of that written
pub record TookLine (c : WindowCommand) (events : List EventValue) (table : List RowValue) (number : ℕ) (line : List ℕ) (now next : Option Told) (new : WindowCounter) : Type 0 where
  pub found : Option EventValue
  pub more : List RowValue
  pub read : event_line 0 number line ≡ Ok found
  pub counts : Counts c (events ++ option_to_list found) (table ++ more) new.marker new.window
  pub prints : Prints c new
  pub closes : ClosesOn (mark_after c events) (mark_after c (events ++ option_to_list found)) more
  pub no_rows : new.rows.items ≡ []
  pub no_notes : new.notes.items ≡ []
  pub told : WhereTold (Appends (base_rows_text c more) (late_of_line c events found)) now next
