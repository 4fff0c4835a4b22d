-- The reading and the check of one opened file.
use Rattle.std.specs.Prelude.{◌≡◌, ◌≢◌, ◌⊎◌, ℕ, ◌+◌, ◌<◌, Bool, true, false, All, List, [], ◌++◌, length, map, sum, Option, Some, None, Result, Ok, Err, ⊤}
use Rattle.jet_lines.specs.Cutting.{MayCome}
use Rattle.jet_lines.specs.Lines.{lines_of}
use Rattle.jet_lines.specs.LinesValue.{LinesValue}
use Rattle.jet_file.specs.Outside.{Told, CallMade, WhereTold, Read, rest_of}
use Rattle.jet_file.specs.declared.outside.Out.TheVariants as out
use Rattle.jet_flow.specs.DataFiles.{DataFile}
use Rattle.jet_worker.specs.Calls.{ArePieces, turn_calls}
use Rattle.jet_worker.specs.CheckText.{Checks, check_line, first_bad}
use Rattle.jet_worker.specs.Checked.{AreWanted}
use Rattle.jet_worker.specs.Feeding.{StopsReads}
use Rattle.jet_worker.specs.Stopping.{IsCallIn, IsNoBadLine, LastIs}
use Rattle.jet_worker.specs.inner.Tallying.{Tallied}
use Rattle.jet_worker.specs.declared.stop.Spot.TheVariants.{Part}
use Rattle.jet_worker.specs.declared.stop.Stop.{Stop}
use Rattle.jet_worker.specs.declared.stop.Stop.TheVariants.{BadLine, Outside, NoMemory}
use Rattle.jet_worker.specs.declared.tally.Tally.{Tally}

-- these bytes of the file with its number were taken, to the end where it has ended, in reads that were wanted, and nothing was written
pub record HasTaken (c : Checks) (p : ℕ × DataFile) (at : ℕ) (bytes : List ℕ) (ended : Bool) (old now : Told) : Type 0 where
  pub rest : rest_of old at ≡ bytes ++ rest_of now at
  pub end : ended ≡ true → rest_of now at ≡ []
  pub content : now.content ≡ old.content
  pub written : now.written ≡ old.written
  pub name : (now.place at).name ≡ (old.place at).name
  pub taken : (now.place at).taken ≡ (old.place at).taken + length bytes
  pub others : (other : ℕ) → other ≢ at → now.place other ≡ old.place other
  pub counts : List ℕ
  pub sum : sum counts ≡ length bytes
  pub pieces : ArePieces counts
  pub live : ended ≡ false → All (λ n. 0 < n) counts
  pub wanted : AreWanted c p (rest_of old at) counts
  pub trace : now.trace ≡ old.trace ++ map (Read at) counts

-- these bytes of the file were taken and cut into these lines, which were counted
pub record Progress (c : Checks) (p : ℕ × DataFile) (at : ℕ) (start now : Option Told) (lines : LinesValue) (tally : Tally) : Type 0 where
  pub bytes : List ℕ
  pub given : List (List ℕ)
  pub most : lines.most ≡ c.most
  pub number : lines.number ≡ length given
  pub cut : (more : List ℕ) → MayCome lines.ended more → lines_of (bytes ++ more) ≡ given ++ lines_of (lines.rest ++ more)
  pub tallied : Tallied c p given tally
  pub told : WhereTold (HasTaken c p at bytes lines.ended) start now

-- all that was left of the file was taken, and its lines were counted
pub record HasTallied (c : Checks) (p : ℕ × DataFile) (at count : ℕ) (tally : Tally) (old now : Told) : Type 0 where
  pub bytes : List ℕ
  pub left : rest_of old at ≡ bytes
  pub run : HasTaken c p at bytes true old now
  pub tallied : Tallied c p (lines_of bytes) tally
  pub count_is : count ≡ length (lines_of bytes)

-- where the stop is for a bad line, it is the first one of what was left of the file of this number
abbrev pub IsBadIn : Checks → ℕ × DataFile → List ℕ → Stop → Type 0
IsBadIn c p bytes (BadLine part n why) = (part ≡ p.0) × (first_bad c p bytes ≡ Some (n, why))
IsBadIn c p bytes (Outside call spot) = ⊤
IsBadIn c p bytes NoMemory = ⊤

-- the reading of the file stopped, and nothing was written
pub record StopsReading (c : Checks) (p : ℕ × DataFile) (at : ℕ) (stop : Stop) (old new : Told) : Type 0 where
  pub bad : IsBadIn c p (rest_of old at) stop
  pub reads : StopsReads (Part p.0) at stop old new
  pub wanted : AreWanted c p (rest_of old at) reads.counts

-- the lines of the file were counted to its end; or the reading stopped
abbrev pub TalliesFile : Checks → ℕ × DataFile → ℕ → Tally → Result ℕ Stop → Told → Told → Type 0
TalliesFile c p at tally (Ok count) old new = HasTallied c p at count tally old new
TalliesFile c p at tally (Err stop) old new = StopsReading c p at stop old new

-- the file was read to its end and is good, and its line was written
pub record HasChecked (c : Checks) (p : ℕ × DataFile) (at : ℕ) (old now : Told) : Type 0 where
  pub bytes : List ℕ
  pub left : rest_of old at ≡ bytes
  pub good : first_bad c p bytes ≡ None
  pub name : (now.place at).name ≡ (old.place at).name
  pub taken : (now.place at).taken ≡ (old.place at).taken + length bytes
  pub others : (other : ℕ) → other ≢ at → now.place other ≡ old.place other
  pub content : now.content ≡ old.content
  pub rows : now.written out.Rows ≡ old.written out.Rows ++ check_line c p bytes
  pub notes : now.written out.Notes ≡ old.written out.Notes
  pub counts : List ℕ
  pub pieces : ArePieces counts
  pub wanted : AreWanted c p bytes counts
  pub reads : sum counts ≡ length bytes
  pub lengths : List ℕ
  pub writes : sum lengths ≡ length (check_line c p bytes)
  pub trace : now.trace ≡ old.trace ++ turn_calls (record { file = at; counts = counts; lengths = lengths })

-- the front of a good file's line, or nothing
pub record IsFrontOf (c : Checks) (p : ℕ × DataFile) (bytes front : List ℕ) : Type 0 where
  pub good : first_bad c p bytes ≡ None
  pub rest : List ℕ
  pub parts : check_line c p bytes ≡ front ++ rest

-- the check of the file stopped, and nothing was written but a front of its line where it is good
pub record StopsChecking (c : Checks) (p : ℕ × DataFile) (at : ℕ) (stop : Stop) (old new : Told) : Type 0 where
  pub front : List ℕ
  pub bad : IsBadIn c p (rest_of old at) stop
  pub whole : (front ≡ []) ⊎ (IsNoBadLine stop × IsFrontOf c p (rest_of old at) front)
  pub content : new.content ≡ old.content
  pub rows : new.written out.Rows ≡ old.written out.Rows ++ front
  pub notes : new.written out.Notes ≡ old.written out.Notes
  pub counts : List ℕ
  pub pieces : ArePieces counts
  pub wanted : AreWanted c p (rest_of old at) counts
  pub lengths : List ℕ
  pub order : (lengths ≡ []) ⊎ (sum counts ≡ length (rest_of old at))
  pub last : List CallMade
  pub fails : LastIs (IsCallIn (Part p.0) at) stop last
  pub trace : new.trace ≡ old.trace ++ turn_calls (record { file = at; counts = counts; lengths = lengths }) ++ last

-- the file is good and its line was written; or its check stopped
abbrev pub ChecksFile : {T : Type 0} → Checks → ℕ × DataFile → ℕ → Result T Stop → Told → Told → Type 0
ChecksFile c p at (Ok done) old new = HasChecked c p at old new
ChecksFile c p at (Err stop) old new = StopsChecking c p at stop old new
