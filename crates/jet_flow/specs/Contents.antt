-- What the files of a job hold, from their bytes.
use Rattle.std.specs.Prelude.{ℕ, ◌==◌, pos, Bool, false, not, ◌&&◌, ◌||◌, List, [], length, take_while, slice_get}
use Rattle.std.specs.List.{flat_map, find, enumerate_from, list_any}
use Rattle.std.specs.Option.{option_map_or}
use Rattle.jet_items.specs.Marks.{is_behind, is_under, idle_before}
use Rattle.jet_items.specs.Values.{EventValue}
use Rattle.jet_lines.specs.Files.{events_of, idles_of}
use Rattle.jet_plan.specs.declared.dag.Dag.{Dag}
use Rattle.jet_plan.specs.Names.{has_name}
use Rattle.jet_flow.specs.DataFiles.{DataFile, file_name, sources_of, sides_of, data_files}
use Rattle.jet_flow.specs.DataFiles.DataFile.{SourceFile, SideFile}
use Rattle.jet_flow.specs.SideFiles.{rows_of}
use Rattle.jet_flow.specs.Flow.{Contents}

-- the number of a source's first file: so many files have the sources before it
abbrev pub first_number : Dag → List ℕ → ℕ
first_number dag name = length (flat_map (λ v. sources_of v.kind) (take_while (λ v. not (has_name name v)) dag.vertices))

-- the files of the source of this name, with their numbers
abbrev pub source_files : Dag → List ℕ → List (ℕ × DataFile)
source_files dag name = option_map_or (λ v. enumerate_from (first_number dag name) (sources_of v.kind)) (find (has_name name) dag.vertices) []

-- the file of the side vertex of this name
abbrev pub side_files : Dag → List ℕ → List DataFile
side_files dag name = option_map_or (λ v. sides_of v.kind) (find (has_name name) dag.vertices) []

-- what the files of a job hold, where a file of this name has these bytes, and at most so many lines are read of it
abbrev pub contents_of : ℕ → (List ℕ → List ℕ) → Dag → Contents
contents_of most bytes dag = record {
  events = λ name. flat_map (λ p. events_of most p.0 (bytes (file_name p.1))) (source_files dag name);
  rows = λ name. flat_map (λ file. rows_of most (bytes (file_name file))) (side_files dag name);
}

-- ---- which events came late

-- the event of file p, as it was read, stood below the mark of the events before it in its file; a side file has none
abbrev pub behind_own : ℕ → ℕ → (List ℕ → List ℕ) → EventValue → DataFile → Bool
behind_own grain most bytes e (SourceFile name lag) = is_behind lag (pos grain) (events_of most e.part (bytes name)) e
behind_own grain most bytes e (SideFile name) = false

-- an idle note stands before the event in its file
abbrev pub behind_idle : ℕ → (List ℕ → List ℕ) → EventValue → DataFile → Bool
behind_idle most bytes e (SourceFile name lag) = idle_before e.line (idles_of most (bytes name))
behind_idle most bytes e (SideFile name) = false

-- the event stands below the mark of all events of another source file
abbrev pub under_other : ℕ → ℕ → (List ℕ → List ℕ) → EventValue → ℕ × DataFile → Bool
under_other grain most bytes e (q, SourceFile name lag) = not (q == e.part) && is_under lag (pos grain) (events_of most q (bytes name)) e
under_other grain most bytes e (q, SideFile name) = false

-- behind its own mark; or behind an idle note, where its file's mark may have been raised to that of another source file
abbrev pub behind_in : ℕ → ℕ → (List ℕ → List ℕ) → Dag → EventValue → DataFile → Bool
behind_in grain most bytes dag e file = behind_own grain most bytes e file
    || (behind_idle most bytes e file && list_any (under_other grain most bytes e) (enumerate_from 0 (data_files dag)))

-- the event that was read stood behind, also where the vertices changed it since: they leave the number of its file, its
-- line and its time
abbrev pub was_behind : ℕ → ℕ → (List ℕ → List ℕ) → Dag → EventValue → Bool
was_behind grain most bytes dag e = option_map_or (behind_in grain most bytes dag e) (slice_get (data_files dag) e.part) false

-- the event on this line of this file was behind
abbrev pub behind_at : ℕ → ℕ → (List ℕ → List ℕ) → Dag → ℕ → ℕ → Bool
behind_at grain most bytes dag part line =
    option_map_or (λ file. list_any (λ d. (d.line == line) && was_behind grain most bytes dag d) (events_of most part (bytes (file_name file)))) (slice_get (data_files dag) part) false
