-- Events that lag less than the lag of a watermark.
use Rattle.std.specs.Prelude.{◌≡◌, false, ℤ, pos, ◌-ℤ◌, ◌≤ℤ◌, List, All}
use Rattle.jet_items.specs.Marks.{times_before, is_behind}
use Rattle.jet_items.specs.Values.{EventValue}

-- each timestamp is at least each earlier one of its file, less the lag
abbrev pub IsInTime : ℤ → List EventValue → Type 0
IsInTime lag events = All (λ e. All (λ t. (t -ℤ lag) ≤ℤ e.ts) (times_before e.line events)) events

-- then no event is behind
abbrev pub NoneIsBehind : Type 0
NoneIsBehind = (lag grain : ℤ) (events : List EventValue) → pos 1 ≤ℤ grain → IsInTime lag events
    → All (λ e. is_behind lag grain events e ≡ false) events
