-- What the end of the events does to the counting of a window.
use Rattle.std.specs.Prelude.{◌≡◌, List, [], ◌∷◌, ◌++◌, codes, pos, flat_map}
use Rattle.jet_items.specs.Rows.{AreRows}
use Rattle.jet_items.specs.Values.{EventValue, RowValue}
use Rattle.jet_file.specs.Text.{row_line}
use Rattle.jet_cli.specs.Base.{base_window}
use Rattle.jet_cli.specs.Counting.{kept_among, mark_after}
use Rattle.jet_cli.specs.inner.Took.{ClosesOn}
use Rattle.jet_cli.specs.Words.{WindowCommand}
use Rattle.jet_cli.specs.declared.counter.WindowCounter.{WindowCounter}

-- the rows are all there, and the lines of the last ones were appended
pub record Finished (c : WindowCommand) (events : List EventValue) (table : List RowValue) (old new : WindowCounter) : Type 0 where
  pub given : List RowValue
  pub all : AreRows (record { window = base_window c; events = kept_among c events } ∷ []) (table ++ given)
  pub closes : ClosesOn (mark_after c events) (mark_after c events) given
  pub rows : new.rows.items ≡ old.rows.items ++ flat_map (row_line (codes "w") (pos c.size)) given
  pub notes : new.notes.items ≡ old.notes.items
