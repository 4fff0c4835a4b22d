-- What the end of a file does.
use Rattle.std.specs.Prelude.{List, [], ◌∷◌, ◌++◌, Option}
use Rattle.jet_items.specs.Rows.{AreRows}
use Rattle.jet_items.specs.Values.{EventValue, RowValue}
use Rattle.jet_file.specs.Outside.{Told, WhereTold}
use Rattle.jet_cli.specs.Base.{base_window}
use Rattle.jet_cli.specs.Counting.{kept_among, mark_after}
use Rattle.jet_worker.specs.Feeding.{Appends}
use Rattle.jet_cli.specs.inner.Progress.{base_rows_text}
use Rattle.jet_cli.specs.inner.Took.{ClosesOn}
use Rattle.jet_cli.specs.Words.{WindowCommand}

-- all rows are given, and the last ones written
pub record Ends (c : WindowCommand) (events : List EventValue) (table : List RowValue) (now next : Option Told) : Type 0 where
  pub more : List RowValue
  pub all : AreRows (record { window = base_window c; events = kept_among c events } ∷ []) (table ++ more)
  pub closes : ClosesOn (mark_after c events) (mark_after c events) more
  pub told : WhereTold (Appends (base_rows_text c more) []) now next
