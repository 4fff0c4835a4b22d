-- The job that `window` runs: one file, and one window over its events.
use Rattle.std.specs.Prelude.{ℕ, Bool, pos, List, [], ◌∷◌, codes}
use Rattle.jet_items.specs.Marks.{is_behind}
use Rattle.jet_items.specs.Rows.{Window, Inflow}
use Rattle.jet_items.specs.Values.{EventValue}
use Rattle.jet_lines.specs.Files.{events_of, most_lines}
use Rattle.jet_cli.specs.Words.{WindowCommand}

-- the one window of `window`
abbrev pub base_window : WindowCommand → Window
base_window c = record { vertex = 2; name = codes "w"; size = pos c.size; slide = pos c.slide }

-- the events of the one file
abbrev pub base_events : List ℕ → List EventValue
base_events content = events_of most_lines 0 content

-- what enters the one window
abbrev pub base_inflow : WindowCommand → List ℕ → List Inflow
base_inflow c content = record { window = base_window c; events = base_events content } ∷ []

-- an event of the one file stood behind
abbrev pub base_behind : WindowCommand → List ℕ → EventValue → Bool
base_behind c content = is_behind (pos c.lag) (pos c.slide) (base_events content)
