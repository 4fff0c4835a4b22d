-- What the lines of a side file hold, where a key may have few rows.
use Rattle.std.specs.Prelude.{ℕ, nat_lt, List, take, map, filter_map, count_by, bytes_eq, Option, Some, None, Result, Ok, Err, if◌then◌else◌}
use Rattle.std.specs.List.{enumerate_from}
use Rattle.jet_items.specs.Values.{SideValue}
use Rattle.jet_lines.specs.Files.{fault_of, first_of, item_of, items_of, readings}
use Rattle.jet_lines.specs.Readings.{side_line}
use Rattle.jet_lines.specs.declared.fault.LineFault.{LineFault}
use Rattle.jet_lines.specs.declared.fault.LineFault.TheVariants.{KeyFull}

-- the most rows of one key in a side file
abbrev pub most_rows : ℕ
most_rows = 16

-- how many of these rows have the key
abbrev pub rows_with : List ℕ → List SideValue → ℕ
rows_with key rows = count_by (λ s. bytes_eq s.key key) rows

-- a row, or that its key has as many as it may before it
abbrev pub row_after : List SideValue → SideValue → Result (Option SideValue) LineFault
row_after rows s = if nat_lt (rows_with s.key rows) most_rows then Ok (Some s) else Err KeyFull

-- what a line holds behind these rows
abbrev pub reading_after : List SideValue → Result (Option SideValue) LineFault → Result (Option SideValue) LineFault
reading_after rows (Ok (Some s)) = row_after rows s
reading_after rows (Ok None) = Ok None
reading_after rows (Err fault) = Err fault

-- what the lines of a side file hold, each by itself and then behind the rows of the lines before it
abbrev pub side_readings : ℕ → List ℕ → List (Result (Option SideValue) LineFault)
side_readings most bytes = map (λ p. reading_after (filter_map item_of (take p.0 (readings side_line most bytes))) p.1) (enumerate_from 0 (readings side_line most bytes))

-- the rows of the lines before the first bad one
abbrev pub rows_of : ℕ → List ℕ → List SideValue
rows_of most bytes = items_of (side_readings most bytes)

-- the number and the fault of the first bad line
abbrev pub first_bad_row : ℕ → List ℕ → Option (ℕ × LineFault)
first_bad_row most bytes = first_of (filter_map fault_of (enumerate_from 1 (side_readings most bytes)))
