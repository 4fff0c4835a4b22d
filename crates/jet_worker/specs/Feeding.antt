-- What the steps of a run do on the outside.
use Rattle.std.specs.Prelude.{◌≡◌, ◌≢◌, ℕ, ◌+◌, ◌<◌, ◌≤◌, Bool, true, false, List, [], ◌∷◌, ◌++◌, length, map, sum, Result, Ok, Err, ◌⊎◌}
use Rattle.jet_file.specs.Outside.{Told, CallMade, Tried, Opening, Reading, Writing, Wrote, Read, OpensFile, ReadsFile, AddsNumber, rest_of}
use Rattle.jet_file.specs.Writing.{HasWritten}
use Rattle.jet_file.specs.declared.outside.Out.{Out}
use Rattle.jet_file.specs.declared.outside.Out.TheVariants.{Rows, Notes}
use Rattle.jet_lines.specs.LinesValue.{LinesValue}
use Rattle.jet_worker.specs.Calls.{ArePieces, most_piece}
use Rattle.jet_worker.specs.inner.Stopped.{spot_of}
use Rattle.jet_worker.specs.Stopping.{IsCallIn, IsWriting, LastIs, LastOf}
use Rattle.jet_worker.specs.declared.stop.Call.{Call}
use Rattle.jet_worker.specs.declared.stop.Call.TheVariants as call
use Rattle.jet_worker.specs.declared.stop.Spot.{Spot}
use Rattle.jet_worker.specs.declared.stop.Stop.{Stop}

-- a step of one call stopped: that call came alone where it failed, and all else is as it was
pub record FailsAt (call : Call) (spot : Spot) (tried : Tried) (stop : Stop) (old new : Told) : Type 0 where
  pub last : List CallMade
  pub is : LastOf call spot tried stop last
  pub same : new ≡ record old { trace = old.trace ++ last }

-- the writing of a text stopped: a front of it was written, and nothing else
pub record StopsWriting (to : Out) (text : List ℕ) (stop : Stop) (old new : Told) : Type 0 where
  pub front : List ℕ
  pub rest : List ℕ
  pub parts : text ≡ front ++ rest
  pub content : new.content ≡ old.content
  pub place : new.place ≡ old.place
  pub written : new.written to ≡ old.written to ++ front
  pub others : (other : Out) → other ≢ to → new.written other ≡ old.written other
  pub lengths : List ℕ
  pub last : List CallMade
  pub fails : LastOf call.Write (spot_of to) (Writing to) stop last
  pub trace : new.trace ≡ old.trace ++ map (Wrote to) lengths ++ last

-- all of the text was appended to the output; or the writing stopped
abbrev pub WritesText : {T : Type 0} → Out → List ℕ → Result T Stop → Told → Told → Type 0
WritesText to text (Ok done) old new = HasWritten to text [] old new
WritesText to text (Err stop) old new = StopsWriting to text stop old new

-- late lines and rows were appended, in writes of these lengths
pub record Appends (rows notes : List ℕ) (old new : Told) : Type 0 where
  pub note_lengths : List ℕ
  pub row_lengths : List ℕ
  pub row_sum : sum row_lengths ≡ length rows
  pub note_sum : sum note_lengths ≡ length notes
  pub content : new.content ≡ old.content
  pub place : new.place ≡ old.place
  pub rows_written : new.written Rows ≡ old.written Rows ++ rows
  pub notes_written : new.written Notes ≡ old.written Notes ++ notes
  pub trace : new.trace ≡ old.trace ++ map (Wrote Notes) note_lengths ++ map (Wrote Rows) row_lengths

-- a front of the late lines was written, and of the rows where these were all
pub record StopsAppending (rows notes : List ℕ) (stop : Stop) (old new : Told) : Type 0 where
  pub rows_front : List ℕ
  pub rows_rest : List ℕ
  pub notes_front : List ℕ
  pub notes_rest : List ℕ
  pub rows_parts : rows ≡ rows_front ++ rows_rest
  pub notes_parts : notes ≡ notes_front ++ notes_rest
  pub order : (notes_rest ≡ []) ⊎ (rows_front ≡ [])
  pub content : new.content ≡ old.content
  pub place : new.place ≡ old.place
  pub rows_written : new.written Rows ≡ old.written Rows ++ rows_front
  pub notes_written : new.written Notes ≡ old.written Notes ++ notes_front
  pub note_lengths : List ℕ
  pub row_lengths : List ℕ
  pub last : List CallMade
  pub fails : LastIs IsWriting stop last
  pub trace : new.trace ≡ old.trace ++ map (Wrote Notes) note_lengths ++ map (Wrote Rows) row_lengths ++ last

-- all late lines and rows were appended; or the writing stopped
abbrev pub Flushes : {T : Type 0} → List ℕ → List ℕ → Result T Stop → Told → Told → Type 0
Flushes rows notes (Ok done) old new = Appends rows notes old new
Flushes rows notes (Err stop) old new = StopsAppending rows notes stop old new

-- the next bytes of the file were put to its lines, or none were left
pub record TakesPiece (file : ℕ) (before after : LinesValue) (old new : Told) : Type 0 where
  pub piece : List ℕ
  pub small : length piece ≤ most_piece
  pub lines : after.rest ≡ before.rest ++ piece
  pub some : after.ended ≡ false → 0 < length piece
  pub end : after.ended ≡ true → rest_of new file ≡ []
  pub rest : rest_of old file ≡ piece ++ rest_of new file
  pub content : new.content ≡ old.content
  pub written : new.written ≡ old.written
  pub name : (new.place file).name ≡ (old.place file).name
  pub taken : (new.place file).taken ≡ (old.place file).taken + length piece
  pub others : (other : ℕ) → other ≢ file → new.place other ≡ old.place other
  pub trace : new.trace ≡ old.trace ++ Read file (length piece) ∷ []

-- the bytes that came were put, or the file has ended
abbrev pub PutsPiece : LinesValue → LinesValue → Type 0
PutsPiece before after = ((piece : List ℕ) × (0 < length piece) × (length piece ≤ most_piece) × (after ≡ record before { rest = before.rest ++ piece; held = after.held })) ⊎ (after ≡ record before { ended = true; held = after.held })

-- the reading of an opened file stopped after reads of these counts, and nothing was written
pub record StopsReads (spot : Spot) (file : ℕ) (stop : Stop) (old new : Told) : Type 0 where
  pub content : new.content ≡ old.content
  pub written : new.written ≡ old.written
  pub counts : List ℕ
  pub pieces : ArePieces counts
  pub last : List CallMade
  pub fails : LastIs (IsCallIn spot file) stop last
  pub trace : new.trace ≡ old.trace ++ map (Read file) counts ++ last

-- the next bytes of the file are at the front of the buffer; or the reading stopped
abbrev pub ReadsBytes : Spot → ℕ → List ℕ → Result ℕ Stop → Told → Told → Type 0
ReadsBytes spot file buffer (Ok n) old new = ReadsFile file buffer n old new
ReadsBytes spot file buffer (Err stop) old new = FailsAt call.Read spot (Reading file) stop old new

-- the next bytes of the file were put to its lines; or the reading stopped, and nothing was taken
abbrev pub ReadsPiece : {T : Type 0} → Spot → ℕ → LinesValue → LinesValue → Result T Stop → Told → Told → Type 0
ReadsPiece spot file before after (Ok done) old new = TakesPiece file before after old new
ReadsPiece spot file before after (Err stop) old new = FailsAt call.Read spot (Reading file) stop old new

-- the file was opened; or the opening stopped
abbrev pub OpensData : Spot → List ℕ → Result ℕ Stop → Told → Told → Type 0
OpensData spot name (Ok file) old new = OpensFile name file old new
OpensData spot name (Err stop) old new = FailsAt call.Open spot (Opening name) stop old new

-- a new number was added; or the numbers stay
abbrev pub AddsData : (ℕ → Bool) → (ℕ → Bool) → Result ℕ Stop → Type 0
AddsData old new (Ok file) = AddsNumber file old new
AddsData old new (Err stop) = new ≡ old
