-- What the answers of a check of a job's files say.
use Rattle.std.specs.Prelude.{◌≡◌, ◌⊎◌, ℕ, ◌+◌, ◌<◌, Bool, true, false, pos, List, [], ◌∷◌, ◌++◌, length, map, sum, take, flat_map, slice_get, All, Any, Option, Some, None, IsSome, IsSomeAnd, ⊤}
use Rattle.std.specs.List.{AllZip, enumerate_from}
use Rattle.std.specs.Option.{unwrap_or}
use Rattle.jet_lines.specs.Files.{through_last_feed}
use Rattle.jet_lines.specs.declared.fault.LineFault.{LineFault}
use Rattle.jet_file.specs.Outside.{Told, CallMade}
use Rattle.jet_file.specs.declared.outside.Out.TheVariants as out
use Rattle.jet_plan.specs.declared.dag.Dag.{Dag}
use Rattle.jet_plan.specs.declared.settings.Settings.{Settings}
use Rattle.jet_flow.specs.DataFiles.{DataFile, data_files, file_name}
use Rattle.jet_flow.specs.Grain.{IsGrain}
use Rattle.jet_worker.specs.Calls.{EndsFailed, ReadsInOrder, Turn, opened_by, part_place}
use Rattle.jet_worker.specs.CheckText.{Checks, check_line, first_bad}
use Rattle.jet_worker.specs.declared.stop.Stop.{Stop}
use Rattle.jet_worker.specs.declared.stop.Stop.TheVariants.{BadLine, Outside, NoMemory}

-- a check of the files of this job
pub record IsCheckOf (dag : Dag) (settings : Settings) (c : Checks) : Type 0 where
  pub files : c.files ≡ data_files dag
  pub most : settings.lines ≡ pos c.most
  pub unit : IsGrain dag c.unit

-- the files with their numbers
abbrev pub numbered : Checks → List (ℕ × DataFile)
numbered c = enumerate_from 0 c.files

-- the names of the files
abbrev pub names_of : Checks → List (List ℕ)
names_of c = map file_name c.files

-- the bytes of a file, none where it is not there
abbrev pub content_of : Told → DataFile → List ℕ
content_of told file = unwrap_or (told.content (file_name file)) []

-- the lines of the check text for these files
abbrev pub check_lines : Checks → Told → List (ℕ × DataFile) → List ℕ
check_lines c told files = flat_map (λ p. check_line c p (content_of told p.1)) files

-- the file is there, and none of its lines is bad
abbrev pub IsGood : Checks → Told → ℕ × DataFile → Type 0
IsGood c told p = IsSomeAnd (told.content (file_name p.1)) (λ content. first_bad c p content ≡ None)

-- each file of a job is there
abbrev pub AreThere : Checks → Told → Type 0
AreThere c told = All (λ file. IsSome (told.content (file_name file))) c.files

-- the file that these calls opened in the place of its number was new, and was read to its end
pub record IsRead (before now : ℕ → Bool) (calls : List CallMade) (old new : Told) (p : ℕ × DataFile) : Type 0 where
  pub at : ℕ
  pub opening : slice_get (opened_by calls) p.0 ≡ Some at
  pub fresh : before at ≡ false
  pub opened : now at ≡ true
  pub place : IsSomeAnd (old.content (file_name p.1)) (λ content. new.place at ≡ record { name = file_name p.1; taken = length content })

-- Reads of these counts of a file with these bytes were wanted: before each, no read had found the end, and no whole line of
-- the bytes taken was bad.
abbrev pub AreWanted : Checks → ℕ × DataFile → List ℕ → List ℕ → Type 0
AreWanted c p bytes counts = (front back : List ℕ) (n : ℕ) → counts ≡ front ++ n ∷ back
    → All (λ m. 0 < m) front × (first_bad c p (through_last_feed (take (sum front) bytes)) ≡ None)

-- the whole turn of a file with these bytes: its reads come to their number, and its writes to the length of its line
pub record IsTurnOf (c : Checks) (p : ℕ × DataFile) (bytes : List ℕ) (t : Turn) : Type 0 where
  pub wanted : AreWanted c p bytes t.counts
  pub reads : sum t.counts ≡ length bytes
  pub writes : sum t.lengths ≡ length (check_line c p bytes)

-- the turn of a file with these bytes so far: nothing is written before all are read
pub record BeginsTurn (c : Checks) (p : ℕ × DataFile) (bytes : List ℕ) (t : Turn) : Type 0 where
  pub wanted : AreWanted c p bytes t.counts
  pub order : (t.lengths ≡ []) ⊎ (sum t.counts ≡ length bytes)

-- these turns are those of the first of these files, each whole before the next begins
abbrev pub HaveTurns : Checks → Told → List (ℕ × DataFile) → List Turn → Type 0
HaveTurns c told files [] = ⊤
HaveTurns c told [] (t ∷ turns) = ⊥
HaveTurns c told (p ∷ files) (t ∷ []) = BeginsTurn c p (content_of told p.1) t
HaveTurns c told (p ∷ files) (t ∷ next ∷ turns) = IsTurnOf c p (content_of told p.1) t × HaveTurns c told files (next ∷ turns)

-- all files were read and are good, and the whole check text was written, and no other byte
pub record IsChecked (c : Checks) (before now : ℕ → Bool) (calls : List CallMade) (old new : Told) : Type 0 where
  pub order : ReadsInOrder (names_of c) calls
  pub turns : AllZip (λ p t. IsTurnOf c p (content_of old p.1) t) (numbered c) order.turns
  pub good : All (IsGood c old) (numbered c)
  pub read : All (IsRead before now calls old new) (numbered c)
  pub rows : new.written out.Rows ≡ old.written out.Rows ++ check_lines c old (numbered c)
  pub notes : new.written out.Notes ≡ old.written out.Notes
  pub kept : new.content ≡ old.content
  -- what was open before is open, at the same place
  pub opened : (file : ℕ) → before file ≡ true → now file ≡ true
  pub places : (file : ℕ) → before file ≡ true → new.place file ≡ old.place file

-- the line is the first bad one of the file of this number; the files before it are good, and their lines were written;
-- each file is there, since all were opened before
pub record IsBadLine (c : Checks) (part line : ℕ) (why : LineFault) (old new : Told) : Type 0 where
  pub file : DataFile
  pub is : slice_get c.files part ≡ Some file
  pub bad : IsSomeAnd (old.content (file_name file)) (λ content. first_bad c (part, file) content ≡ Some (line, why))
  pub there : AreThere c old
  pub good : All (IsGood c old) (take part (numbered c))
  pub rows : new.written out.Rows ≡ old.written out.Rows ++ check_lines c old (take part (numbered c))
  pub notes : new.written out.Notes ≡ old.written out.Notes
  pub kept : new.content ≡ old.content

-- a front of the lines of the first n files was written, and these are good; where it is not empty, each file is there
pub record IsBegun (c : Checks) (old new : Told) : Type 0 where
  pub n : ℕ
  pub front : List ℕ
  pub rest : List ℕ
  pub there : (front ≡ []) ⊎ AreThere c old
  pub good : All (IsGood c old) (take n (numbered c))
  pub parts : check_lines c old (take n (numbered c)) ≡ front ++ rest
  pub rows : new.written out.Rows ≡ old.written out.Rows ++ front
  pub notes : new.written out.Notes ≡ old.written out.Notes
  pub kept : new.content ≡ old.content

-- Why a check stops, and what it has written then. A bad line is one of the file whose turn was the last. A call that
-- failed is named by the number of its file, which is the place of its opening.
abbrev pub WhyStopped : Checks → Stop → List CallMade → List Turn → Told → Told → Type 0
WhyStopped c (BadLine part line why) calls turns old new = (length turns ≡ part + 1) × IsBadLine c part line why old new
WhyStopped c (Outside call spot) calls turns old new = EndsFailed part_place call spot calls × IsBegun c old new
WhyStopped c NoMemory calls turns old new = IsBegun c old new

-- a check stops, and its calls were in order; each file's line was written before the next file was read
pub record CheckStops (c : Checks) (stop : Stop) (calls : List CallMade) (old new : Told) : Type 0 where
  pub order : ReadsInOrder (names_of c) calls
  pub turns : HaveTurns c old (numbered c) order.turns
  pub why : WhyStopped c stop calls order.turns old new

-- some file is not there, where that is told
abbrev pub LacksSome : List DataFile → Option Told → Type 0
LacksSome files None = ⊤
LacksSome files (Some told) = Any (λ file. told.content (file_name file) ≡ None) files
