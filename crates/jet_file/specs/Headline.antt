-- What the answer that a job is done says of its outputs: the rows over all events but the late ones, the late lines,
-- and nothing else. These words speak of items, texts and the outside alone, whatever the job is.
use Rattle.std.specs.Prelude.{◌≡◌, ℕ, ◌==◌, Bool, true, false, List, ◌++◌, length, map, filter, All, Any}
use Rattle.std.specs.List.{AllZip}
use Rattle.std.specs.List.Sorted.{IsPermutation}
use Rattle.jet_items.specs.Rows.{Inflow, AreRows}
use Rattle.jet_items.specs.Values.{EventValue, RowValue, LateValue}
use Rattle.jet_file.specs.Outside.{Told}
use Rattle.jet_file.specs.Text.{rows_text, late_text}

-- the late events of a vertex
abbrev pub late_at : ℕ → List LateValue → List EventValue
late_at vertex late = map (λ l. l.event) (filter (λ l. l.vertex == vertex) late)

-- A reading of what entered windows: these events are late, the others are kept, and these are the rows of the kept ones.
pub record Counted (entered : List Inflow) (behind : EventValue → Bool) (late : List LateValue) (table : List RowValue) : Type 0 where
  pub kept : List Inflow
  -- each event that enters a window counts once: it is late there, or kept
  pub once : AllZip (λ e k. (k.window ≡ e.window) × IsPermutation e.events (late_at e.window.vertex late ++ k.events)) entered kept
  -- a late event is late at one of the windows
  pub late_somewhere : All (λ l. Any (λ e. e.window.vertex ≡ l.vertex) entered) late
  -- and stood behind its own file's watermark
  pub late_behind : All (λ l. behind l.event ≡ true) late
  -- the rows are those of the kept events
  pub are_rows : AreRows kept table

-- Rows and Notes are all that was written: the rows over what entered less the late events, and the late events.
pub record Headline (entered : List Inflow) (behind : EventValue → Bool) (rows notes : List ℕ) : Type 0 where
  pub late : List LateValue
  pub table : List RowValue
  pub counted : Counted entered behind late table
  pub rows_are : rows ≡ rows_text (map (λ e. e.window) entered) table
  pub notes_are : notes ≡ late_text (map (λ e. e.window) entered) late

-- a file that this call opened by its name, and whose bytes were all taken
pub record IsReadWhole (name content : List ℕ) (before now : ℕ → Bool) (new : Told) : Type 0 where
  pub file : ℕ
  pub fresh : before file ≡ false
  pub opened : now file ≡ true
  pub place : new.place file ≡ record { name = name; taken = length content }

-- nothing was written
abbrev pub WritesNothing : Told → Told → Type 0
WritesNothing old new = new.written ≡ old.written
