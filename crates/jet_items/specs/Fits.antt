-- That an item lies in the ranges of its Rust types: what the invariants of the types give of each value.
use Rattle.std.specs.Prelude.{◌≡◌, ◌<◌, ◌^◌, length}
use Rattle.std.specs.List.{AllByRecursion}
use Rattle.std.specs.Int.{w128}
use Rattle.std.specs.Int.RustNames.{FitsSigned}
use Rattle.jet_items.specs.KeyBytes.{IsKey}
use Rattle.jet_items.specs.Ranges.{IsWithin, most_time, most_frame_end, most_row_end, most_mark}
use Rattle.jet_items.specs.Values.{EventValue, SideValue, AccValue, FrameValue, RowValue, LateValue}
use Rattle.jet_items.specs.declared.item.Item.{Item}
use Rattle.jet_items.specs.declared.item.Item.TheVariants as item

-- an event: a key, four values, and times and values within 10 ^ 15
pub record EventFits (e : EventValue) : Type 0 where
  pub part : e.part < 2 ^ 16
  pub line : e.line < 2 ^ 32
  pub ts : IsWithin most_time e.ts
  pub key : IsKey 40 e.key
  pub four : length e.v ≡ 4
  pub v : AllByRecursion (IsWithin most_time) e.v

-- a side row: two keys, and four values within 10 ^ 15
pub record SideFits (s : SideValue) : Type 0 where
  pub line : s.line < 2 ^ 32
  pub key : IsKey 40 s.key
  pub label : IsKey 40 s.label
  pub four : length s.v ≡ 4
  pub v : AllByRecursion (IsWithin most_time) s.v

-- an accumulator: a sum of 128 bits, and values within 10 ^ 15
pub record AccFits (a : AccValue) : Type 0 where
  pub count : a.count < 2 ^ 64
  pub sum : FitsSigned w128 a.sum
  pub min : IsWithin most_time a.min
  pub max : IsWithin most_time a.max

-- a frame, which ends within 1001 * 10 ^ 12
pub record FrameFits (f : FrameValue) : Type 0 where
  pub vertex : f.vertex < 2 ^ 8
  pub end : IsWithin most_frame_end f.end
  pub key : IsKey 40 f.key
  pub acc : AccFits f.acc

-- a row, which ends within 1002 * 10 ^ 12
pub record RowFits (r : RowValue) : Type 0 where
  pub vertex : r.vertex < 2 ^ 8
  pub end : IsWithin most_row_end r.end
  pub key : IsKey 40 r.key
  pub acc : AccFits r.acc

-- a late event, with the number of its vertex
pub record LateFits (l : LateValue) : Type 0 where
  pub vertex : l.vertex < 2 ^ 8
  pub event : EventFits l.event

-- an item of any kind; an idle note and the end have no numbers
abbrev pub ItemFits : Item → Type 0
ItemFits (item.Event e) = EventFits e
ItemFits (item.Side s) = SideFits s
ItemFits (item.Frame f) = FrameFits f
ItemFits (item.Row r) = RowFits r
ItemFits (item.Late l) = LateFits l
ItemFits item.Idle = Unit {0}
ItemFits (item.Mark m) = IsWithin most_mark m
ItemFits item.Done = Unit {0}
