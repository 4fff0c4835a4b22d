-- What contracts see of items: plain records, which any numbers fill. That they lie in their ranges is the types' invariant.
use Rattle.std.specs.Prelude.{ℕ, ℤ, List}

-- an event: the number of its file, its line there, its time, its key and four values
pub record EventValue : Type 0 where
  pub part : ℕ
  pub line : ℕ
  pub ts : ℤ
  pub key : List ℕ
  pub v : List ℤ

-- a row of a side file: its line there, its key, the label that a join may put in the key's place, and four values
pub record SideValue : Type 0 where
  pub line : ℕ
  pub key : List ℕ
  pub label : List ℕ
  pub v : List ℤ

-- what is known of some values: how many, their sum, the least and the greatest
pub record AccValue : Type 0 where
  pub count : ℕ
  pub sum : ℤ
  pub min : ℤ
  pub max : ℤ

-- what is known of a key's events between a multiple of the slide and the one before it
pub record FrameValue : Type 0 where
  pub vertex : ℕ
  pub end : ℤ
  pub key : List ℕ
  pub acc : AccValue

-- what is known of a key's events in the window that ends here
pub record RowValue : Type 0 where
  pub vertex : ℕ
  pub end : ℤ
  pub key : List ℕ
  pub acc : AccValue

-- an event that came late at the window of this vertex
pub record LateValue : Type 0 where
  pub vertex : ℕ
  pub event : EventValue
