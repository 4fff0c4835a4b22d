-- What it does to let the watermark pass a time.
use Rattle.std.specs.Prelude.{◌≡◌, ◌⊎◌, ℕ, ℤ, List, [], ◌++◌, Option, Some, flat_map, IfSome, ◌≤ℤ◌}
use Rattle.jet_items.specs.Rows.{Window}
use Rattle.jet_items.specs.Values.{EventValue, RowValue}
use Rattle.jet_file.specs.Text.{row_line}
use Rattle.jet_window.specs.Plain.{HasTaken, RowsBetween, window_named}
use Rattle.jet_cli.specs.declared.counter.WindowCounter.{WindowCounter}

-- nothing closed, and no rows were given; or the windows up to a later mark closed, and these are their rows
abbrev pub ClosesUpTo : Window → Option ℤ → Option ℤ → List EventValue → List RowValue → Type 0
ClosesUpTo w old new events given = ((new ≡ old) × (given ≡ [])) ⊎ ((t : ℤ) × (new ≡ Some t) × IfSome old (λ s. s ≤ℤ t) × RowsBetween w old (Some t) events given)

-- windows closed, and the lines of their rows were appended
pub record Advanced (old new : WindowCounter) : Type 0 where
  pub given : List RowValue
  pub rows : new.rows.items ≡ old.rows.items ++ flat_map (row_line old.name old.size) given
  pub goes_on : (name : List ℕ) (events : List EventValue) → HasTaken old.window events
      → ClosesUpTo (window_named old.window name) old.window.closed new.window.closed events given
  pub taken : (events : List EventValue) → HasTaken old.window events → HasTaken new.window events
