-- The opening of all files that a job reads.
use Rattle.std.specs.Prelude.{◌≡◌, ◌≢◌, ℕ, Bool, true, false, ◌≤ℤ◌, pos, List, [], ◌∷◌, ◌++◌, length, map, take, slice_get, All, IsSome, IsSomeAnd, ⊤}
use Rattle.jet_items.specs.Ranges.{most_time}
use Rattle.jet_file.specs.Outside.{Told, CallMade, Tried, Opening}
use Rattle.jet_flow.specs.DataFiles.{DataFile, SourceFile, SideFile, file_name}
use Rattle.jet_worker.specs.Calls.{opening_call}
use Rattle.jet_worker.specs.CheckText.{Checks}
use Rattle.jet_worker.specs.Checked.{numbered}
use Rattle.jet_worker.specs.Stopping.{LastIs}
use Rattle.jet_worker.specs.declared.files.DataFile.{DataFile as RustFile}
use Rattle.jet_worker.specs.declared.files.DataFile.TheVariants as rust
use Rattle.jet_worker.specs.declared.open.OpenFile.{OpenFile}
use Rattle.jet_worker.specs.declared.stop.Call.{Call}
use Rattle.jet_worker.specs.declared.stop.Call.TheVariants.{Open}
use Rattle.jet_worker.specs.declared.stop.Spot.{Spot}
use Rattle.jet_worker.specs.declared.stop.Spot.TheVariants.{Part}
use Rattle.jet_worker.specs.declared.stop.Stop.{Stop}

-- a file as the program has it
abbrev pub file_in : RustFile → DataFile
file_in (rust.Source name lag) = SourceFile name.now lag
file_in (rust.Side name) = SideFile name.now

-- the lag of a source is from 0 to 10 ^ 15
abbrev pub HasLag : DataFile → Type 0
HasLag (SourceFile name lag) = (pos 0 ≤ℤ lag) × (lag ≤ℤ pos most_time)
HasLag (SideFile name) = ⊤

-- a data file that was opened, with its number among the files and the one under which it is open
pub record Opened : Type 0 where
  pub part : ℕ
  pub file : DataFile
  pub at : ℕ

-- an opened file as the program has it
abbrev pub opened_in : OpenFile → Opened
opened_in o = record { part = o.part; file = file_in o.file; at = o.at }

-- the file with its number among the files
abbrev pub pair_of : Opened → ℕ × DataFile
pair_of o = (o.part, o.file)

-- its name, and the number under which it is open
abbrev pub opening_of : Opened → List ℕ × ℕ
opening_of o = (file_name o.file, o.at)

-- no number is that of a later one
abbrev pub AreApart : List Opened → Type 0
AreApart [] = ⊤
AreApart (o ∷ others) = All (λ x. x.at ≢ o.at) others × AreApart others

-- the numbers are new, and each file has its own
pub record AreNew (before now : ℕ → Bool) (opened : List Opened) : Type 0 where
  pub fresh : All (λ o. before o.at ≡ false) opened
  pub added : All (λ o. now o.at ≡ true) opened
  pub apart : AreApart opened
  pub kept : (n : ℕ) → now n ≡ false → before n ≡ false

-- nothing is taken of the file
abbrev pub IsUnread : Told → Opened → Type 0
IsUnread told o = told.place o.at ≡ record { name = file_name o.file; taken = 0 }

-- the call that is named is the opening of the file of this number
abbrev pub IsNextOpening : Checks → ℕ → Call → Spot → Tried → Type 0
IsNextOpening c n call spot tried = (call ≡ Open) × (spot ≡ Part n) × IsSomeAnd (slice_get c.files n) (λ file. tried ≡ Opening (file_name file))

-- these files are there and were opened, and nothing else changed
pub record HasOpened (opened : List Opened) (old now : Told) : Type 0 where
  pub there : All (λ o. IsSome (old.content (file_name o.file))) opened
  pub unread : All (IsUnread now) opened
  pub others : (n : ℕ) → All (λ o. o.at ≢ n) opened → now.place n ≡ old.place n
  pub content : now.content ≡ old.content
  pub written : now.written ≡ old.written
  pub trace : now.trace ≡ old.trace ++ map opening_call (map opening_of opened)

-- the opening stopped, and nothing was written
pub record StopsOpening (c : Checks) (stop : Stop) (old new : Told) : Type 0 where
  pub opened : List Opened
  pub pairs : map pair_of opened ≡ take (length opened) (numbered c)
  pub content : new.content ≡ old.content
  pub written : new.written ≡ old.written
  pub last : List CallMade
  pub fails : LastIs (IsNextOpening c (length opened)) stop last
  pub trace : new.trace ≡ old.trace ++ map opening_call (map opening_of opened) ++ last
