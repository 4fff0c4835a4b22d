-- What a feed does to what it keeps of the lines of its file.
use Rattle.std.specs.Prelude.{◌≡◌, ◌⊎◌, ⊤, ℕ, ◌≤◌, Bool, true, ℤ, List, ◌++◌, map, Option, Some, None, option_map, Ok, Err}
use Rattle.jet_items.specs.Kinds.{as_event}
use Rattle.jet_items.specs.Marks.{mark_at}
use Rattle.jet_items.specs.Values.{SideValue}
use Rattle.jet_items.specs.declared.item.Item.{Item}
use Rattle.jet_items.specs.declared.item.Item.TheVariants as item
use Rattle.jet_items.specs.declared.no_memory.Refused.{Refused}
use Rattle.jet_items.specs.declared.no_memory.Refused.TheVariants as refused
use Rattle.jet_policy.specs.MarkerValue.{HasSeen, MarkerValue}
use Rattle.jet_lines.specs.Readings.{side_line}
use Rattle.jet_lines.specs.declared.fault.LineFault.{LineFault}
use Rattle.jet_lines.specs.declared.fault.LineFault.TheVariants.{KeyFull}
use Rattle.jet_flow.specs.SideFiles.{most_rows}
use Rattle.jet_feed.specs.Counted.{CountsRow, SameRows, rows_at}
use Rattle.jet_feed.specs.FileItems.{source_line}
use Rattle.jet_feed.specs.Leaves.{allows}
use Rattle.jet_feed.specs.declared.body.Body.{Body}
use Rattle.jet_feed.specs.declared.body.Body.TheVariants.{Source, Side}
use Rattle.jet_feed.specs.declared.leave.Leave.{Leave}
use Rattle.jet_feed.specs.declared.rows.Rows.{Rows}

-- the row that a line holds was counted, where it holds one
abbrev pub CountsFound : Option SideValue → Rows → Rows → Type 0
CountsFound None old new = SameRows old new
CountsFound (Some row) old new = CountsRow row old new

-- line n of a side file holds this item
pub record ReadsRow (n : ℕ) (line : List ℕ) (found : Option Item) (old new : Rows) : Type 0 where
  pub row : Option SideValue
  pub reads : side_line n line ≡ Ok row
  pub is : found ≡ option_map item.Side row
  pub counts : CountsFound row old new

-- line n of the file of number p holds this item
abbrev pub ReadsItem : ℕ → ℕ → List ℕ → Option Item → Body → Body → Type 0
ReadsItem p n line found (Source old) (Source new) = (new ≡ old) × (source_line p n line ≡ Ok found)
ReadsItem p n line found (Side old) (Side new) = ReadsRow n line found old new
ReadsItem p n line found old new = ⊥

-- the row of line n has a key that has no room for it
abbrev pub IsOver : ℕ → List ℕ → LineFault → Rows → Type 0
IsOver n line why rows = (row : SideValue) × (side_line n line ≡ Ok (Some row)) × (why ≡ KeyFull) × (most_rows ≤ rows_at row.key rows)

-- line n of a side file has this fault
abbrev pub RefusesSideLine : ℕ → List ℕ → Rows → Refused LineFault → Type 0
RefusesSideLine n line rows refused.NoMemory = ⊤
RefusesSideLine n line rows (refused.Fault why) = (side_line n line ≡ Err why) ⊎ IsOver n line why rows

-- line n of a source file has this fault
abbrev pub RefusesSourceLine : ℕ → ℕ → List ℕ → Refused LineFault → Type 0
RefusesSourceLine p n line refused.NoMemory = ⊤
RefusesSourceLine p n line (refused.Fault why) = source_line p n line ≡ Err why

-- line n of the file of number p has this fault
abbrev pub RefusesItem : ℕ → ℕ → List ℕ → Body → Refused LineFault → Type 0
RefusesItem p n line (Source marker) why = RefusesSourceLine p n line why
RefusesItem p n line (Side rows) why = RefusesSideLine n line rows why

-- the marks and the counts stay
abbrev pub KeepsBody : Body → Body → Type 0
KeepsBody (Source old) (Source new) = new ≡ old
KeepsBody (Side old) (Side new) = SameRows old new
KeepsBody old new = ⊥

-- the marker sees the time of an event
pub record Sees (given : Item) (old new : MarkerValue) : Type 0 where
  pub lag : new.lag ≡ old.lag
  pub grain : new.grain ≡ old.grain
  pub seen : (times : List ℤ) → HasSeen old times → HasSeen new (times ++ map (λ e. e.ts) (as_event given))

-- the marker of a source sees the time of an event; the counts of a side file stay
abbrev pub Notes : Item → Body → Body → Type 0
Notes given (Source old) (Source new) = Sees given old new
Notes given (Side old) (Side new) = new ≡ old
Notes given old new = ⊥

-- a side file may be read on at any time, and a source where its mark may
abbrev pub may_go_on : Leave → Body → Bool
may_go_on leave (Source m) = allows leave.ahead leave.sink (mark_at m.lag m.grain m.greatest)
may_go_on leave (Side rows) = true
