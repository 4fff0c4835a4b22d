-- What the answers of a run of a job say.
use Rattle.std.specs.Prelude.{◌≡◌, ℕ, Bool, true, false, List, [], ◌++◌, slice_get, All, Some, IsSomeAnd, ⊤}
use Rattle.std.specs.List.Sorted.{IsPermutation}
use Rattle.jet_file.specs.Outside.{Told, CallMade, rest_of}
use Rattle.jet_file.specs.Text.{rows_text, late_text}
use Rattle.jet_file.specs.declared.outside.Out.TheVariants as out
use Rattle.jet_flow.specs.DataFiles.{DataFile, file_name}
use Rattle.jet_items.specs.Kinds.{rows_of, lates_of}
use Rattle.jet_items.specs.Rows.{Window}
use Rattle.jet_items.specs.Values.{RowValue}
use Rattle.jet_items.specs.declared.item.Item.{Item}
use Rattle.jet_lines.specs.declared.fault.LineFault.{LineFault}
use Rattle.jet_worker.specs.Calls.{EndsFailed, OpensInOrder, opened_by, part_place}
use Rattle.jet_worker.specs.CheckText.{Checks, first_bad}
use Rattle.jet_worker.specs.Checked.{AreThere, IsGood, names_of, numbered}
use Rattle.jet_worker.specs.declared.stop.Stop.{Stop}
use Rattle.jet_worker.specs.declared.stop.Stop.TheVariants.{BadLine, Outside, NoMemory}

-- the file that these calls opened in the place of its number was new, and was read to its end
pub record IsReadOut (before now : ℕ → Bool) (calls : List CallMade) (new : Told) (p : ℕ × DataFile) : Type 0 where
  pub at : ℕ
  pub opening : slice_get (opened_by calls) p.0 ≡ Some at
  pub fresh : before at ≡ false
  pub opened : now at ≡ true
  pub name : (new.place at).name ≡ file_name p.1
  pub end : rest_of new at ≡ []

-- of the items that came to the sink the late events were written to Notes in their order, and to Rows these rows, each once
pub record HasPrinted (windows : List Window) (old new : Told) : Type 0 where
  pub came : List Item
  pub printed : List RowValue
  pub each : IsPermutation (rows_of came) printed
  pub rows : new.written out.Rows ≡ old.written out.Rows ++ rows_text windows printed
  pub notes : new.written out.Notes ≡ old.written out.Notes ++ late_text windows (lates_of came)

-- fronts of such texts were written; rows may still be held
pub record HasBegunPrinting (windows : List Window) (old new : Told) : Type 0 where
  pub came : List Item
  pub printed : List RowValue
  pub held : List RowValue
  pub each : IsPermutation (rows_of came) (printed ++ held)
  pub rows_front : List ℕ
  pub rows_rest : List ℕ
  pub rows_parts : rows_text windows printed ≡ rows_front ++ rows_rest
  pub notes_front : List ℕ
  pub notes_rest : List ℕ
  pub notes_parts : late_text windows (lates_of came) ≡ notes_front ++ notes_rest
  pub rows : new.written out.Rows ≡ old.written out.Rows ++ rows_front
  pub notes : new.written out.Notes ≡ old.written out.Notes ++ notes_front

-- all files are there, were opened in the order of their numbers and read to their ends, and are good; and all that came to
-- the sink was written
pub record HasRun (c : Checks) (windows : List Window) (before now : ℕ → Bool) (calls : List CallMade) (old new : Told) : Type 0 where
  pub order : OpensInOrder (names_of c) calls
  pub good : All (IsGood c old) (numbered c)
  pub read : All (IsReadOut before now calls new) (numbered c)
  pub printed : HasPrinted windows old new
  pub kept : new.content ≡ old.content
  -- what was open before is open, at the same place
  pub opened : (file : ℕ) → before file ≡ true → now file ≡ true
  pub places : (file : ℕ) → before file ≡ true → new.place file ≡ old.place file

-- the line is the first bad one of the file of this number; each file is there, since all were opened before
pub record IsFirstBadLine (c : Checks) (part line : ℕ) (why : LineFault) (old : Told) : Type 0 where
  pub file : DataFile
  pub is : slice_get c.files part ≡ Some file
  pub bad : IsSomeAnd (old.content (file_name file)) (λ content. first_bad c (part, file) content ≡ Some (line, why))
  pub there : AreThere c old

-- Why a run stops. A call that failed is named by the number of its file, which is the place of its opening.
abbrev pub WhyStopped : Checks → Stop → List CallMade → Told → Type 0
WhyStopped c (BadLine part line why) calls old = IsFirstBadLine c part line why old
WhyStopped c (Outside call spot) calls old = EndsFailed part_place call spot calls
WhyStopped c NoMemory calls old = ⊤

-- a run stops, and its calls were in order
pub record RunStops (c : Checks) (windows : List Window) (stop : Stop) (calls : List CallMade) (old new : Told) : Type 0 where
  pub order : OpensInOrder (names_of c) calls
  pub why : WhyStopped c stop calls old
  pub begun : HasBegunPrinting windows old new
  pub kept : new.content ≡ old.content
