-- Where the events that flow were read.
use Rattle.std.specs.Prelude.{◌≡◌, ℕ, List, Any, IsSomeAnd, slice_get}
use Rattle.jet_items.specs.Values.{EventValue}
use Rattle.jet_lines.specs.Files.{events_of}
use Rattle.jet_plan.specs.declared.dag.Dag.{Dag}
use Rattle.jet_flow.specs.DataFiles.{file_name, data_files}
use Rattle.jet_flow.specs.Flow.{Contents}

-- the number of the file, the line and the time are the same
abbrev pub SamePlace : EventValue → EventValue → Type 0
SamePlace d e = (d.part ≡ e.part) × (d.line ≡ e.line) × (d.ts ≡ e.ts)

-- the event has the place of one that a source's files hold
abbrev pub HasPlace : Contents → EventValue → Type 0
HasPlace files e = (name : List ℕ) × Any (λ d. SamePlace d e) (files.events name)

-- the event has the place of one of the file with its number
abbrev pub IsInItsFile : ℕ → (List ℕ → List ℕ) → Dag → EventValue → Type 0
IsInItsFile most bytes dag e = IsSomeAnd (slice_get (data_files dag) e.part) (λ file. Any (λ d. SamePlace d e) (events_of most e.part (bytes (file_name file))))
