-- What the lines of a whole file hold, and its first bad line.
use Rattle.std.specs.Prelude.{◌≡◌, ℕ, ◌+◌, nat_le, ◌==◌, Bool, true, List, [], ◌∷◌, ◌++◌, length, map, filter_map, take_while, Option, Some, None, option_to_list, Result, Ok, Err, is_ok, not, if◌then◌else◌}
use Rattle.std.specs.List.{enumerate_from, list_all}
use Rattle.jet_lines.specs.Lines.{lines_of}
use Rattle.jet_lines.specs.Readings.{event_line, idle_line, side_line}
use Rattle.jet_items.specs.Values.{EventValue, SideValue}
use Rattle.jet_lines.specs.declared.fault.LineFault.{LineFault}
use Rattle.jet_lines.specs.declared.fault.LineFault.TheVariants.{TooMany}

-- the greatest number of lines of a file, so that the number of the first line too many is one of 32 bits too
abbrev pub most_lines : ℕ
most_lines = 4294967294

-- the bytes up to and with the last line feed
abbrev pub through_last_feed : List ℕ → List ℕ
through_last_feed [] = []
through_last_feed (b ∷ bytes) = if list_all (λ c. not (c == 10)) (b ∷ bytes) then [] else b ∷ through_last_feed bytes

-- the lines of bytes that end with a line feed
abbrev pub whole_lines : List ℕ → List (List ℕ)
whole_lines bytes = lines_of (through_last_feed bytes)

-- what line n holds as it is read, where a file may have so many lines
abbrev pub numbered_at : {A : Type 0} → (ℕ → List ℕ → Result (Option A) LineFault) → ℕ → ℕ × List ℕ → Result (Option A) LineFault
numbered_at read most p = if nat_le p.0 most then read p.0 p.1 else Err TooMany

-- what lines hold, numbered from 1 on
abbrev pub readings_in : {A : Type 0} → (ℕ → List ℕ → Result (Option A) LineFault) → ℕ → List (List ℕ) → List (Result (Option A) LineFault)
readings_in read most lines = map (numbered_at read most) (enumerate_from 1 lines)

-- what the lines of a file hold
abbrev pub readings : {A : Type 0} → (ℕ → List ℕ → Result (Option A) LineFault) → ℕ → List ℕ → List (Result (Option A) LineFault)
readings read most bytes = readings_in read most (lines_of bytes)

-- no line has a fault
abbrev pub are_good : {A : Type 0} → (ℕ → List ℕ → Result (Option A) LineFault) → ℕ → List (List ℕ) → Bool
are_good read most lines = list_all is_ok (readings_in read most lines)

-- the event or row that a reading gives, if any
abbrev pub item_of : {A : Type 0} → Result (Option A) LineFault → Option A
item_of (Ok item) = item
item_of (Err fault) = None

-- what is given before the first fault
abbrev pub items_of : {A : Type 0} → List (Result (Option A) LineFault) → List A
items_of all = filter_map item_of (take_while is_ok all)

-- what lines hold before the first bad one, numbered from 1 on
abbrev pub items_in : {A : Type 0} → (ℕ → List ℕ → Result (Option A) LineFault) → ℕ → List (List ℕ) → List A
items_in read most lines = items_of (readings_in read most lines)

-- the events of lines, numbered from 1 on, before the first bad one
abbrev pub events_in : ℕ → ℕ → List (List ℕ) → List EventValue
events_in most part lines = items_in (event_line part) most lines

-- the events of the lines of a source file before the first bad one
abbrev pub events_of : ℕ → ℕ → List ℕ → List EventValue
events_of most part bytes = events_in most part (lines_of bytes)

-- the numbers of the idle notes of a source file before its first bad line
abbrev pub idles_of : ℕ → List ℕ → List ℕ
idles_of most bytes = items_in idle_line most (lines_of bytes)

-- the rows of the lines of a side file before the first bad one
abbrev pub sides_of : ℕ → List ℕ → List SideValue
sides_of most bytes = items_in side_line most (lines_of bytes)

-- the number and the fault of a reading that has one
abbrev pub fault_of : {A : Type 0} → ℕ × Result (Option A) LineFault → Option (ℕ × LineFault)
fault_of (n, Ok item) = None
fault_of (n, Err fault) = Some (n, fault)

-- the first of a list, if any
abbrev pub first_of : {X : Type 0} → List X → Option X
first_of [] = None
first_of (x ∷ xs) = Some x

-- the number and the fault of the first bad line
abbrev pub first_bad_line : {A : Type 0} → (ℕ → List ℕ → Result (Option A) LineFault) → ℕ → List ℕ → Option (ℕ × LineFault)
first_bad_line read most bytes = first_of (filter_map fault_of (enumerate_from 1 (readings read most bytes)))

-- with the line behind them the lines are good still, and give what that line holds too, if anything
abbrev pub GoOn : {A : Type 0} → (ℕ → List ℕ → Result (Option A) LineFault) → ℕ → List (List ℕ) → List ℕ → Option A → Type 0
GoOn read most given line found = (are_good read most (given ++ line ∷ []) ≡ true)
    × (items_in read most (given ++ line ∷ []) ≡ items_in read most given ++ option_to_list found)

-- the line behind the given ones is the first bad one of the file, which gives what they do
abbrev pub EndAt : {A : Type 0} → (ℕ → List ℕ → Result (Option A) LineFault) → ℕ → List ℕ → List (List ℕ) → LineFault → Type 0
EndAt read most content given fault = (first_bad_line read most content ≡ Some (length given + 1, fault))
    × (items_in read most (lines_of content) ≡ items_in read most given)

-- the file has no bad line, and gives what its lines hold, in their order
abbrev pub HoldAll : {A : Type 0} → (ℕ → List ℕ → Result (Option A) LineFault) → ℕ → List ℕ → Type 0
HoldAll read most content = (first_bad_line read most content ≡ None)
    × (items_in read most (lines_of content) ≡ filter_map item_of (readings read most content))
