-- The counting of one window, event by event.
use Rattle.std.specs.Prelude.{◌≡◌, not, pos, List, map, filter, Option, ℤ}
use Rattle.jet_items.specs.Marks.{is_behind, mark_of}
use Rattle.jet_items.specs.Values.{EventValue, RowValue, LateValue}
use Rattle.jet_policy.specs.MarkerValue.{MarkerValue, HasSeen}
use Rattle.jet_window.specs.Plain.{PlainValue, HasTaken, RowsUpTo}
use Rattle.jet_cli.specs.Base.{base_window}
use Rattle.jet_cli.specs.Words.{WindowCommand}

-- of these events those behind the watermark of the ones before them, and the others
abbrev pub late_among : WindowCommand → List EventValue → List EventValue
late_among c events = filter (is_behind (pos c.lag) (pos c.slide) events) events

abbrev pub kept_among : WindowCommand → List EventValue → List EventValue
kept_among c events = filter (λ e. not (is_behind (pos c.lag) (pos c.slide) events e)) events

-- late events of the one window
abbrev pub as_late : List EventValue → List LateValue
as_late events = map (λ e. record { vertex = 2; event = e }) events

-- the watermark of events
abbrev pub mark_after : WindowCommand → List EventValue → Option ℤ
mark_after c events = mark_of (pos c.lag) (pos c.slide) (map (λ e. e.ts) events)

-- marker and window have had these events, and these rows were given
pub record Counts (c : WindowCommand) (events : List EventValue) (table : List RowValue) (marker : MarkerValue) (window : PlainValue) : Type 0 where
  pub lag : marker.lag ≡ pos c.lag
  pub grain : marker.grain ≡ pos c.slide
  pub seen : HasSeen marker (map (λ e. e.ts) events)
  pub vertex : window.vertex ≡ 2
  pub size : window.size ≡ pos c.size
  pub slide : window.slide ≡ pos c.slide
  pub closed : window.closed ≡ mark_after c events
  pub taken : HasTaken window (kept_among c events)
  pub rows : RowsUpTo (base_window c) window.closed (kept_among c events) table
