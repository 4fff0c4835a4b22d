-- Frames: what is known of the events of a key between two multiples of the slide.
use Rattle.std.specs.Prelude.{◌≡◌, ℕ, Bool, true, false, ◌&&◌, ℤ, ◌+ℤ◌, ◌-ℤ◌, int_le, int_lt, List, Option, Some, None, bytes_eq}
use Rattle.std.specs.Ordering.{int_eq}
use Rattle.jet_items.specs.Grid.{floor_to, in_window}
use Rattle.jet_items.specs.Rows.{first_value}
use Rattle.jet_items.specs.Values.{EventValue, AccValue, FrameValue}
use Rattle.jet_items.specs.Totals.{one, total}

-- the least multiple of the slide above ts
abbrev pub frame_end : ℤ → ℤ → ℤ
frame_end slide ts = floor_to slide ts +ℤ slide

-- the accumulator, where the test holds
abbrev pub only : Bool → AccValue → Option AccValue
only true acc = Some acc
only false acc = None

-- what a frame and an event bring to a frame end and a key
abbrev pub frame_at : ℤ → List ℕ → FrameValue → Option AccValue
frame_at end key f = only (bytes_eq f.key key && int_eq f.end end) f.acc

abbrev pub event_at : ℤ → ℤ → List ℕ → EventValue → Option AccValue
event_at slide end key x = only (bytes_eq x.key key && int_eq (frame_end slide x.ts) end) (one (first_value x))

-- at each frame end and key the frames join to what the events there join to, and there is none where no event is
pub record FramesSum (slide : ℤ) (frames : List FrameValue) (events : List EventValue) : Type 0 where
  pub at : (end : ℤ) (key : List ℕ) → total (frame_at end key) frames ≡ total (event_at slide end key) events

-- a frame end lies in the window of this size that ends at e
abbrev pub covers : ℤ → ℤ → ℤ → Bool
covers size e end = int_lt (e -ℤ size) end && int_le end e

-- what a frame and an event bring to a window and a key
abbrev pub frame_in : ℤ → ℤ → List ℕ → FrameValue → Option AccValue
frame_in size e key f = only (bytes_eq f.key key && covers size e f.end) f.acc

abbrev pub event_in : ℤ → ℤ → List ℕ → EventValue → Option AccValue
event_in size e key x = only (bytes_eq x.key key && in_window size e x.ts) (one (first_value x))
