-- What the lines of a side file hold.
use Rattle.std.specs.Prelude.{ℕ, List, [], ◌∷◌, ◌++◌, filter_map, Option, Result, option_to_list}
use Rattle.jet_items.specs.Values.{SideValue}
use Rattle.jet_lines.specs.Files.{item_of, readings_in}
use Rattle.jet_lines.specs.Readings.{side_line}
use Rattle.jet_lines.specs.declared.fault.LineFault.{LineFault}
use Rattle.jet_flow.specs.SideFiles.{reading_after}

-- what lines of a side file hold, each behind the rows before it
abbrev pub side_after : List SideValue → List (Result (Option SideValue) LineFault) → List (Result (Option SideValue) LineFault)
side_after rows [] = []
side_after rows (r ∷ readings) = reading_after rows r ∷ side_after (rows ++ option_to_list (item_of r)) readings

-- the rows of lines, each by itself
abbrev pub side_rows : ℕ → List (List ℕ) → List SideValue
side_rows most given = filter_map item_of (readings_in side_line most given)
