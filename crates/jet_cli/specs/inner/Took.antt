-- What one more event does to the counting of a window.
use Rattle.std.specs.Prelude.{◌≡◌, ℕ, Bool, false, ℤ, int_lt, List, [], ◌∷◌, ◌++◌, codes, pos, flat_map, Option, if◌then◌else◌, ◌≤ℤ◌, ◌<ℤ◌, All, IfSome, IsSomeAnd}
use Rattle.std.specs.Option.{option_map_or}
use Rattle.jet_items.specs.Marks.{mark_at, is_behind}
use Rattle.jet_items.specs.Values.{EventValue, RowValue}
use Rattle.jet_policy.specs.MarkerValue.{MarkerValue}
use Rattle.jet_file.specs.Text.{row_line, late_line}
use Rattle.jet_cli.specs.Counting.{Counts, mark_after}
use Rattle.jet_cli.specs.Words.{WindowCommand}
use Rattle.jet_cli.specs.declared.counter.WindowCounter.{WindowCounter}

-- the watermark of a marker
abbrev pub mark_in : MarkerValue → Option ℤ
mark_in m = mark_at m.lag m.grain m.greatest

-- a time is below the watermark, where there is one
abbrev pub is_below : Option ℤ → ℤ → Bool
is_below mark ts = option_map_or (λ t. int_lt ts t) mark false

-- the windows were closed up to the watermark
abbrev pub IsInStep : WindowCounter → Type 0
IsInStep w = w.window.closed ≡ mark_in w.marker

-- the counter prints rows and late lines of the command's window
pub record Prints (c : WindowCommand) (w : WindowCounter) : Type 0 where
  pub size : w.size ≡ pos c.size
  pub name : w.name ≡ codes "w"

-- the late line of an event that is behind these events
abbrev pub late_text_of : WindowCommand → List EventValue → EventValue → List ℕ
late_text_of c events e = if is_behind (pos c.lag) (pos c.slide) events e then late_line (codes "w") e else []

-- the watermark has not fallen, and these rows end after what it was
pub record ClosesOn (before after : Option ℤ) (given : List RowValue) : Type 0 where
  pub up : IfSome before (λ t. IsSomeAnd after (λ u. t ≤ℤ u))
  pub later : All (λ r. IfSome before (λ t. t <ℤ r.end)) given

-- one more event was counted: these rows were given, and their lines and the event's late line were appended
pub record Took (c : WindowCommand) (events : List EventValue) (e : EventValue) (table : List RowValue) (old new : WindowCounter) : Type 0 where
  pub given : List RowValue
  pub counts : Counts c (events ++ e ∷ []) (table ++ given) new.marker new.window
  pub closes : ClosesOn (mark_after c events) (mark_after c (events ++ e ∷ [])) given
  pub rows : new.rows.items ≡ old.rows.items ++ flat_map (row_line (codes "w") (pos c.size)) given
  pub notes : new.notes.items ≡ old.notes.items ++ late_text_of c events e
