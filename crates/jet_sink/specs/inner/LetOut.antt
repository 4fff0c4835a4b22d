-- What the printing of due rows does.
use Rattle.std.specs.Prelude.{◌≡◌, ◌||◌, Bool, true, false, ℕ, List, ◌++◌, All}
use Rattle.jet_file.specs.Text.{rows_text}
use Rattle.jet_items.specs.Rows.{Window}
use Rattle.jet_items.specs.Values.{RowValue}
use Rattle.jet_window.specs.Held.{WaitingRows, is_let_out}
use Rattle.jet_sink.specs.View.{View}

-- these rows stood first and are held no longer: they were let out, and their lines were appended
pub record Prints (windows : List Window) (old new : WaitingRows) (before after : List ℕ) : Type 0 where
  pub given : List RowValue
  pub rows : old.rows ≡ given ++ new.rows
  pub out : All (λ row. is_let_out old row ≡ true) given
  pub passed : new.passed ≡ old.passed
  pub closed : new.closed ≡ old.closed
  pub lines : after ≡ before ++ rows_text windows given

-- all rows that were let out were printed so, and no other
pub record LetsOut (windows : List Window) (old new : WaitingRows) (before after : List ℕ) : Type 0 where
  pub prints : Prints windows old new before after
  pub held : All (λ row. is_let_out new row ≡ false) new.rows

-- the rows that are due were printed, or all; nothing else changed
pub record PrintsDue (all : Bool) (a b : View) : Type 0 where
  pub lets_out : LetsOut a.windows (record a.rows { closed = a.rows.closed || all }) b.rows a.row_lines b.row_lines
  pub late_lines : b.late_lines ≡ a.late_lines
