-- The calls that a run makes on the outside, in their order. The number of a file is that of its opening among them.
use Rattle.std.specs.Prelude.{◌≡◌, ◌≤◌, ◌⊎◌, ⊤, ℕ, List, [], ◌∷◌, ◌++◌, length, map, flat_map, slice_get, All, Option, Some, None, IsSomeAnd}
use Rattle.jet_file.specs.Outside.{Told, CallMade, Opened, Read, Wrote, Missed, Tried, Opening, Reading, Writing}
use Rattle.jet_file.specs.declared.outside.Out.TheVariants as out
use Rattle.jet_worker.specs.declared.stop.Call.{Call}
use Rattle.jet_worker.specs.declared.stop.Call.TheVariants as call
use Rattle.jet_worker.specs.declared.stop.Spot.{Spot}
use Rattle.jet_worker.specs.declared.stop.Spot.TheVariants.{Part, Rows, Notes}

-- what a run did, with the calls that it added to the trace
pub record Calling (does : List CallMade → Told → Told → Type 0) (old new : Told) : Type 0 where
  pub calls : List CallMade
  pub trace : new.trace ≡ old.trace ++ calls
  pub did : does calls old new

-- the numbers under which calls opened files, in the order of the openings
abbrev pub opened_by : List CallMade → List ℕ
opened_by [] = []
opened_by (Opened name file ∷ calls) = file ∷ opened_by calls
opened_by (Read file n ∷ calls) = opened_by calls
opened_by (Wrote to n ∷ calls) = opened_by calls
opened_by (Missed tried ∷ calls) = opened_by calls

-- the most bytes of a piece of a file
abbrev pub most_piece : ℕ
most_piece = 4096

-- the call reads a piece, or writes, or failed to
abbrev pub ReadsOrWrites : CallMade → Type 0
ReadsOrWrites (Opened name file) = ⊥
ReadsOrWrites (Read file n) = n ≤ most_piece
ReadsOrWrites (Wrote to n) = ⊤
ReadsOrWrites (Missed (Opening name)) = ⊥
ReadsOrWrites (Missed (Reading file)) = ⊤
ReadsOrWrites (Missed (Writing to)) = ⊤

-- Files of these names are opened in this order, and no other call is made before all are open. From then on no file is
-- opened, and files are read piece by piece. The calls may end early, also with an opening that failed.
abbrev pub OpensInOrder : List (List ℕ) → List CallMade → Type 0
OpensInOrder [] calls = All ReadsOrWrites calls
OpensInOrder (name ∷ names) [] = ⊤
OpensInOrder (name ∷ names) (Opened other file ∷ calls) = (other ≡ name) × OpensInOrder names calls
OpensInOrder (name ∷ names) (Missed (Opening other) ∷ calls) = (other ≡ name) × (calls ≡ [])
OpensInOrder (name ∷ names) (call ∷ calls) = ⊥

-- each of these counts is that of a piece
abbrev pub ArePieces : List ℕ → Type 0
ArePieces counts = All (λ n. n ≤ most_piece) counts

-- the turn of an opened file: reads of these counts of it, and then writes of these lengths to Rows
pub record Turn : Type 0 where
  pub file : ℕ
  pub counts : List ℕ
  pub lengths : List ℕ

-- the calls of a turn
abbrev pub turn_calls : Turn → List CallMade
turn_calls t = map (Read t.file) t.counts ++ map (Wrote out.Rows) t.lengths

-- the opening of a name under a number
abbrev pub opening_call : List ℕ × ℕ → CallMade
opening_call o = Opened o.0 o.1

-- nothing, or one call that failed
abbrev pub IsEnd : List CallMade → Type 0
IsEnd last = (last ≡ []) ⊎ ((tried : Tried) × (last ≡ Missed tried ∷ []))

-- Files of these names are opened in this order. When all are open they have their turns in the same order. The calls
-- may end early, also with one that failed.
pub record ReadsInOrder (names : List (List ℕ)) (calls : List CallMade) : Type 0 where
  pub opens : OpensInOrder names calls
  pub opened : List (List ℕ × ℕ)
  pub turns : List Turn
  -- those whose turn has not come
  pub waiting : List ℕ
  pub last : List CallMade
  pub calls_are : calls ≡ map opening_call opened ++ flat_map turn_calls turns ++ last
  pub order : map (λ o. o.1) opened ≡ map (λ t. t.file) turns ++ waiting
  pub end : IsEnd last

-- The call that is named is the one that was tried: the next opening, a read of the file of that opening, or a write.
abbrev pub IsCallOf : (Spot → Option ℕ) → List CallMade → Call → Spot → Tried → Type 0
IsCallOf place_of before call.Open spot (Opening name) = place_of spot ≡ Some (length (opened_by before))
IsCallOf place_of before call.Read spot (Reading file) = IsSomeAnd (place_of spot) (λ k. slice_get (opened_by before) k ≡ Some file)
IsCallOf place_of before call.Write Rows (Writing out.Rows) = ⊤
IsCallOf place_of before call.Write Notes (Writing out.Notes) = ⊤
IsCallOf place_of before call spot tried = ⊥

-- the last call of all failed, and it is the one that is named, where the files have these places among the openings
pub record EndsFailed (place_of : Spot → Option ℕ) (call : Call) (spot : Spot) (calls : List CallMade) : Type 0 where
  pub before : List CallMade
  pub tried : Tried
  pub calls_are : calls ≡ before ++ Missed tried ∷ []
  pub is : IsCallOf place_of before call spot tried

-- each data file is opened in the place of its number, where no other file is opened
abbrev pub part_place : Spot → Option ℕ
part_place (Part p) = Some p
part_place spot = None
