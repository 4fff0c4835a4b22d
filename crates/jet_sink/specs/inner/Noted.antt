-- What a sink does with items that it takes, before it prints the rows that are due.
use Rattle.std.specs.Prelude.{◌≡◌, ◌<◌, Bool, true, List, ◌++◌, length}
use Rattle.std.specs.List.Sorted.{IsPermutation}
use Rattle.jet_coalescer.specs.Notes.{Note, HasNotes}
use Rattle.jet_conveyor.specs.Conveyor as conveyor
use Rattle.jet_file.specs.Text.{late_text}
use Rattle.jet_items.specs.Kinds.{rows_of, lates_of}
use Rattle.jet_items.specs.Values.{RowValue}
use Rattle.jet_window.specs.Held.{is_let_out}
use Rattle.jet_window.specs.InOrder.{IsInOrder}
use Rattle.jet_sink.specs.Drained.{AllDone}
use Rattle.jet_sink.specs.Taken.{TakenItem, items_in, notes_of, HasTaken}
use Rattle.jet_sink.specs.View.{View}

-- rows are held besides, late lines printed, and marks and ends told, each in order; what was let out stays let out
pub record Notes (taken : List TakenItem) (a b : View) : Type 0 where
  pub marks : (told : List Note) → HasNotes a.marks told → HasNotes b.marks (told ++ notes_of taken)
  pub rows : IsPermutation (a.rows.rows ++ rows_of (items_in taken)) b.rows.rows
  pub order : IsInOrder a.rows.rows → IsInOrder b.rows.rows
  pub passed : a.rows.passed ≡ a.marks.low → b.rows.passed ≡ b.marks.low
  pub closed : b.rows.closed ≡ a.rows.closed
  pub later : (row : RowValue) → is_let_out a.rows row ≡ true → is_let_out b.rows row ≡ true
  pub lasting : AllDone a.marks.queues → AllDone b.marks.queues
  pub windows : b.windows ≡ a.windows
  pub row_lines : b.row_lines ≡ a.row_lines
  pub late_lines : b.late_lines ≡ a.late_lines ++ late_text a.windows (lates_of (items_in taken))

-- these items were taken of the queues, and noted
pub record TakesKnown (moved : Bool) (a b : View) (old new : conveyor.View) : Type 0 where
  pub taken : List TakenItem
  pub some : moved ≡ true → 0 < length taken
  pub took : HasTaken taken old new
  pub notes : Notes taken a b
