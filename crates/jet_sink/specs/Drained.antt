-- What a sink has done with all the items that it took since it was made, and what one drain does.
use Rattle.std.specs.Prelude.{◌≡◌, ◌<◌, Bool, true, false, List, [], ◌++◌, length, All}
use Rattle.std.specs.List.Sorted.{IsPermutation}
use Rattle.jet_coalescer.specs.Notes.{HasNotes}
use Rattle.jet_coalescer.specs.declared.queue.Queue.{Queue}
use Rattle.jet_conveyor.specs.Conveyor as conveyor
use Rattle.jet_file.specs.Text.{rows_text, late_text}
use Rattle.jet_items.specs.Kinds.{rows_of, lates_of}
use Rattle.jet_items.specs.Values.{RowValue}
use Rattle.jet_window.specs.Held.{is_let_out}
use Rattle.jet_window.specs.InOrder.{IsInOrder}
use Rattle.jet_sink.specs.Taken.{TakenItem, items_in, notes_of, HasTaken}
use Rattle.jet_sink.specs.View.{View}

-- each queue gave its Done
abbrev pub AllDone : List Queue → Type 0
AllDone queues = All (λ queue. queue.done ≡ true) queues

-- no queue that is not done had an item, and nothing was taken
pub record IsIdle (old new : conveyor.View) : Type 0 where
  pub none : conveyor.NoneKnown old 0 (length old.rings)
  pub same : new ≡ old

-- Of these items a sink has printed these rows, and it holds the others: printed are those whose end its mark has reached, or
-- all, once each queue is done. The mark is the greatest watermark that the queues had, as the items were taken one by one.
pub record HasDrained (s : View) (taken : List TakenItem) (printed : List RowValue) : Type 0 where
  pub marks : HasNotes s.marks (notes_of taken)
  -- each row counts once
  pub rows : IsPermutation (rows_of (items_in taken)) (printed ++ s.rows.rows)
  pub passed : s.rows.passed ≡ s.marks.low
  pub due : All (λ row. is_let_out s.rows row ≡ true) printed
  pub held : All (λ row. is_let_out s.rows row ≡ false) s.rows.rows
  pub order : IsInOrder s.rows.rows
  -- all were let out only where each queue is done, and then none is held
  pub closed : s.rows.closed ≡ true → AllDone s.marks.queues
  pub ended : 0 < length s.marks.queues → AllDone s.marks.queues → s.rows.rows ≡ []

-- One drain took these items and printed these rows, in their order, and the lines of the late events among the items.
pub record Drained (moved : Bool) (a b : View) (old new : conveyor.View) : Type 0 where
  pub taken : List TakenItem
  pub printed : List RowValue
  pub some : moved ≡ true → 0 < length taken
  pub took : HasTaken taken old new
  pub row_lines : b.row_lines ≡ rows_text a.windows printed
  pub late_lines : b.late_lines ≡ late_text a.windows (lates_of (items_in taken))
  pub goes_on : (before : List TakenItem) (rows : List RowValue) → HasDrained a before rows → HasDrained b (before ++ taken) (rows ++ printed) × IsInOrder printed
