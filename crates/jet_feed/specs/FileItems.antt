-- What the ring of a data file is sent: the items of the lines before the first bad one, in their order.
use Rattle.std.specs.Prelude.{ℕ, List, map, Option, Some, None, Result, Ok}
use Rattle.jet_items.specs.declared.item.Item.{Item}
use Rattle.jet_items.specs.declared.item.Item.TheVariants as item
use Rattle.jet_lines.specs.Files.{items_in}
use Rattle.jet_lines.specs.Lines.{lines_of}
use Rattle.jet_lines.specs.Readings.{◌>>=◌, entry_at}
use Rattle.jet_lines.specs.declared.entry.Entry.{Entry}
use Rattle.jet_lines.specs.declared.entry.Entry.TheVariants as entry
use Rattle.jet_lines.specs.declared.fault.LineFault.{LineFault}
use Rattle.jet_flow.specs.DataFiles.{DataFile, SourceFile, SideFile}
use Rattle.jet_flow.specs.SideFiles.{rows_of}
use Rattle.jet_worker.specs.CheckText.{Checks}

-- the item of an entry, where it has one
abbrev pub item_in : Entry → Option Item
item_in entry.Nothing = None
item_in (entry.Event e) = Some (item.Event e)
item_in entry.Idle = Some item.Idle

-- the item of line n of source file p
abbrev pub source_line : ℕ → ℕ → List ℕ → Result (Option Item) LineFault
source_line p n line = do
  entry ← entry_at p n line
  Ok (item_in entry)

-- the items of a file with its number: the events and idle notes of a source, or the rows of a side file
abbrev pub file_items : Checks → ℕ × DataFile → List ℕ → List Item
file_items c (p, SourceFile name lag) bytes = items_in (source_line p) c.most (lines_of bytes)
file_items c (p, SideFile name) bytes = map item.Side (rows_of c.most bytes)
