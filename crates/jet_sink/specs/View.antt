-- What a contract sees of a sink.
use Rattle.std.specs.Prelude.{ℕ, List}
use Rattle.jet_coalescer.specs.View as coalescer
use Rattle.jet_items.specs.Rows.{Window}
use Rattle.jet_window.specs.Held.{WaitingRows}
use Rattle.jet_sink.specs.declared.sink.Sink.{Sink}

-- the windows that it has lines for; the rows that it holds; its queues and its mark; and the lines that the last drain printed
pub record View : Type 0 where
  pub windows : List Window
  pub rows : WaitingRows
  pub marks : coalescer.View
  pub row_lines : List ℕ
  pub late_lines : List ℕ

abbrev pub view : Sink → View
view s = record { windows = s.windows; rows = s.rows; marks = s.coalescer; row_lines = s.row_lines.items; late_lines = s.late_lines.items }
