-- The counting of the lines of a file, line by line.
use Rattle.std.specs.Prelude.{◌≡◌, ℕ, ◌+◌, ◌<◌, ◌≤◌, true, ℤ, pos, List, [], ◌∷◌, ◌++◌, length, map, filter_map, All, Option, Some, None, Result, Ok, Err, is_ok, option_to_list, Bool, false, int_lt, bytes_eq, if◌then◌else◌}
use Rattle.std.specs.List.{list_all}
use Rattle.std.specs.Option.{option_map_or, unwrap_or}
use Rattle.std.specs.Map.{lookup}
use Rattle.std.specs.BTreeMap.{is_at}
use Rattle.std.specs.Ordering.{nat_cmp}
use Rattle.std.specs.Cmp.Lexicographic.{slice_cmp}
use Rattle.jet_items.specs.Marks.{mark_at}
use Rattle.jet_items.specs.Values.{EventValue, SideValue}
use Rattle.jet_items.specs.declared.no_memory.Refused.{Refused}
use Rattle.jet_items.specs.declared.no_memory.Refused.TheVariants as refused
use Rattle.jet_policy.specs.MarkerValue.{HasSeen}
use Rattle.jet_lines.specs.Files.{are_good, events_in, item_of, numbered_at, readings_in}
use Rattle.jet_lines.specs.Readings.{event_line, side_line}
use Rattle.jet_lines.specs.declared.entry.Entry.{Entry}
use Rattle.jet_lines.specs.declared.entry.Entry.TheVariants as entry
use Rattle.jet_lines.specs.declared.fault.LineFault.{LineFault}
use Rattle.jet_lines.specs.declared.fault.LineFault.TheVariants.{KeyFull}
use Rattle.jet_flow.specs.DataFiles.{DataFile, SourceFile, SideFile}
use Rattle.jet_flow.specs.SideFiles.{most_rows, reading_after, rows_with}
use Rattle.jet_worker.specs.CheckText.{Checks, behind_count}
use Rattle.jet_worker.specs.SideRows.{side_after, side_rows}
use Rattle.jet_worker.specs.declared.side_tally.SideTally.{SideTally}
use Rattle.jet_worker.specs.declared.source_tally.SourceTally.{SourceTally}
use Rattle.jet_worker.specs.declared.stop.Stop.{Stop}
use Rattle.jet_worker.specs.declared.stop.Stop.TheVariants.{BadLine, Outside, NoMemory}
use Rattle.jet_worker.specs.declared.tally.Tally.{Tally}
use Rattle.jet_worker.specs.declared.tally.Tally.TheVariants.{Source, Side}

-- a time is below the watermark, where there is one
abbrev pub is_below : Option ℤ → ℤ → Bool
is_below mark ts = option_map_or (λ t. int_lt ts t) mark false

-- these lines of source file p are good, and these are the numbers of their events
pub record SourceTallied (most p : ℕ) (lag unit : ℤ) (given : List (List ℕ)) (t : SourceTally) : Type 0 where
  pub good : are_good (event_line p) most given ≡ true
  pub part : t.part ≡ p
  pub marker_lag : t.marker.lag ≡ lag
  pub marker_unit : t.marker.grain ≡ unit
  pub seen : HasSeen t.marker (map (λ e. e.ts) (events_in most p given))
  pub lines : All (λ e. e.line < length given + 1) (events_in most p given)
  pub events : t.events ≡ length (events_in most p given)
  pub behind : t.behind ≡ behind_count lag unit (events_in most p given)

-- how many rows of a key were counted
abbrev pub rows_at : List ℕ → SideTally → ℕ
rows_at key t = unwrap_or (lookup (is_at (slice_cmp nat_cmp key)) t.counts.entries) 0

-- these lines of a side file are good, and these are the numbers of their rows
pub record SideTallied (most : ℕ) (given : List (List ℕ)) (t : SideTally) : Type 0 where
  pub good : list_all is_ok (side_after [] (readings_in side_line most given)) ≡ true
  pub counts : (key : List ℕ) → rows_at key t ≡ rows_with key (side_rows most given)
  pub rows : t.rows ≡ length (side_rows most given)

-- the tally is one of these lines of a file with its number
abbrev pub Tallied : Checks → ℕ × DataFile → List (List ℕ) → Tally → Type 0
Tallied c (p, SourceFile name lag) given (Source t) = SourceTallied c.most p lag (pos c.unit) given t
Tallied c (p, SideFile name) given (Side t) = SideTallied c.most given t
Tallied c p given t = ⊥

-- no number counts more than n
abbrev pub IsSmall : ℕ → Tally → Type 0
IsSmall n (Source t) = (t.events ≤ n) × (t.behind ≤ n)
IsSmall n (Side t) = t.rows ≤ n

-- the fault of a reading
abbrev pub fault_in : {A : Type 0} → Result (Option A) LineFault → Option LineFault
fault_in (Ok item) = None
fault_in (Err why) = Some why

-- the fault of a line behind these lines of a file with its number
abbrev pub next_fault : Checks → ℕ × DataFile → List (List ℕ) → List ℕ → Option LineFault
next_fault c (p, SourceFile name lag) given line = fault_in (numbered_at (event_line p) c.most (length given + 1, line))
next_fault c (p, SideFile name) given line = fault_in (reading_after (side_rows c.most given) (numbered_at side_line c.most (length given + 1, line)))

-- the event was counted
pub record CountsEvent (e : EventValue) (old new : SourceTally) : Type 0 where
  pub part : new.part ≡ old.part
  pub lag : new.marker.lag ≡ old.marker.lag
  pub unit : new.marker.grain ≡ old.marker.grain
  pub seen : (times : List ℤ) → HasSeen old.marker times → HasSeen new.marker (times ++ e.ts ∷ [])
  pub events : new.events ≡ old.events + 1
  pub behind : new.behind ≡ (if is_below (mark_at old.marker.lag old.marker.grain old.marker.greatest) e.ts then old.behind + 1 else old.behind)

-- the event of an entry was counted, where there is one
abbrev pub CountsEntry : Entry → SourceTally → SourceTally → Type 0
CountsEntry entry.Nothing old new = new ≡ old
CountsEntry (entry.Event e) old new = CountsEvent e old new
CountsEntry entry.Idle old new = new ≡ old

-- a line more of a source file was taken
abbrev pub TakesSourceLine : ℕ → List ℕ → SourceTally → SourceTally → Type 0
TakesSourceLine n line old new = (most p : ℕ) (lag unit : ℤ) (given : List (List ℕ)) → SourceTallied most p lag unit given old → n ≡ length given + 1 → n ≤ most
    → SourceTallied most p lag unit (given ++ line ∷ []) new

-- the line of a source file has this fault
abbrev pub RefusesSourceLine : ℕ → List ℕ → SourceTally → Refused LineFault → Type 0
RefusesSourceLine n line old refused.NoMemory = Unit {0}
RefusesSourceLine n line old (refused.Fault why) = event_line old.part n line ≡ Err why

-- the row was counted, which its key had room for
pub record CountsRow (row : SideValue) (old new : SideTally) : Type 0 where
  pub room : rows_at row.key old < most_rows
  pub counts : (key : List ℕ) → rows_at key new ≡ rows_at key old + (if bytes_eq row.key key then 1 else 0)
  pub rows : new.rows ≡ old.rows + 1

-- the key of the row has no room
abbrev pub RefusesRow : SideValue → SideTally → Refused LineFault → Type 0
RefusesRow row old refused.NoMemory = Unit {0}
RefusesRow row old (refused.Fault why) = (why ≡ KeyFull) × (most_rows ≤ rows_at row.key old)

-- a line more of a side file was taken
abbrev pub TakesSideLine : ℕ → List ℕ → SideTally → SideTally → Type 0
TakesSideLine n line old new = (most : ℕ) (given : List (List ℕ)) → SideTallied most given old → n ≡ length given + 1 → n ≤ most → SideTallied most (given ++ line ∷ []) new

-- the line of a side file has this fault
abbrev pub RefusesSideLine : ℕ → List ℕ → SideTally → Refused LineFault → Type 0
RefusesSideLine n line old refused.NoMemory = Unit {0}
RefusesSideLine n line old (refused.Fault why) = (most : ℕ) (given : List (List ℕ)) → SideTallied most given old
    → reading_after (side_rows most given) (side_line n line) ≡ Err why

-- one line more was taken
abbrev pub TakesLine : ℕ → List ℕ → Tally → Tally → Type 0
TakesLine n line old new = (c : Checks) (p : ℕ × DataFile) (given : List (List ℕ)) → Tallied c p given old → n ≡ length given + 1 → n ≤ c.most
    → Tallied c p (given ++ line ∷ []) new

-- the line has this fault
abbrev pub RefusesLine : ℕ → List ℕ → Tally → Refused LineFault → Type 0
RefusesLine n line old refused.NoMemory = Unit {0}
RefusesLine n line old (refused.Fault why) = (c : Checks) (p : ℕ × DataFile) (given : List (List ℕ)) → Tallied c p given old → n ≡ length given + 1 → n ≤ c.most
    → next_fault c p given line ≡ Some why

-- the reading stops at this line, which has this fault
abbrev pub StopsAtLine : ℕ → ℕ → List ℕ → Tally → Stop → Type 0
StopsAtLine part n line old (BadLine p k why) = (p ≡ part) × (k ≡ n) × RefusesLine n line old (refused.Fault why)
StopsAtLine part n line old (Outside call spot) = ⊥
StopsAtLine part n line old NoMemory = Unit {0}
