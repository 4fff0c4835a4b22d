-- Worked jobs and files, computed from the definitions.
use Rattle.std.proofs.Common.{◌≡◌, ℕ, ◌++◌, List, ◌∷◌, [], Bool, true, false, ℤ, pos, Some, codes, refl, length}
use Rattle.std.specs.Prelude.{bytes_eq, replicate, map, if◌then◌else◌}
use Rattle.std.specs.List.{flat_map}
use Rattle.jet_items.specs.Joins.Pick.{OfEvent, OfSide}
use Rattle.jet_items.specs.Rows.{Inflow}
use Rattle.jet_items.specs.Values.{EventValue}
use Rattle.jet_lines.specs.Scan.{fields_from}
use Rattle.jet_lines.specs.declared.fault.LineFault.TheVariants.{Fields, KeyFull}
use Rattle.jet_plan.specs.declared.dag.Dag.{Dag}
use Rattle.jet_plan.specs.declared.edge.Edge.{Edge}
use Rattle.jet_plan.specs.declared.kind.Kind.TheVariants.{Source, Side, Join, Accumulate, Combine, Sink}
use Rattle.jet_plan.specs.declared.mode.ModeSpec.{ModeSpec}
use Rattle.jet_plan.specs.declared.mode.ModeSpec.TheVariants.{Inner, Left}
use Rattle.jet_plan.specs.declared.route.Route.TheVariants.{Unicast, Broadcast}
use Rattle.jet_flow.specs.BaseJob.{base_window}
use Rattle.jet_flow.specs.Contents.{behind_at, contents_of, was_behind}
use Rattle.jet_flow.specs.Flow.{pick}
use Rattle.jet_flow.specs.Inflows.{inflows}
use Rattle.jet_flow.specs.SideFiles.{first_bad_row, rows_of}

-- ---- a join before a window

plain : List ℕ → List ℕ → Edge
plain from to = record { from = from; to = to; route = Unicast; distributed = false; build = false }

join_dag : ModeSpec → Bool → Dag
join_dag mode rekey = record {
  vertices =
      record { name = codes "s"; parallelism = 1; kind = Source (codes "t.csv" ∷ []) (pos 3) }
      ∷ record { name = codes "a"; parallelism = 1; kind = Accumulate (pos 10) (pos 5) }
      ∷ record { name = codes "w"; parallelism = 1; kind = Combine }
      ∷ record { name = codes "z"; parallelism = 1; kind = Sink }
      ∷ record { name = codes "d"; parallelism = 1; kind = Side (codes "d.csv") }
      ∷ record { name = codes "j"; parallelism = 1; kind = Join mode rekey (4 ∷ 1 ∷ 10 ∷ 3 ∷ []) }
      ∷ [];
  edges =
      plain (codes "s") (codes "j")
      ∷ record { from = codes "d"; to = codes "j"; route = Broadcast; distributed = true; build = true }
      ∷ plain (codes "j") (codes "a")
      ∷ plain (codes "a") (codes "w")
      ∷ plain (codes "w") (codes "z")
      ∷ [];
}

files : List ℕ → List ℕ
files name = if bytes_eq name (codes "t.csv") then codes "3,a,1\n4,c,2" else codes "a,x,10\na,y,20\n"

event : ℕ → ℤ → List ℕ → ℤ → EventValue
event line ts key v0 = record { part = 0; line = line; ts = ts; key = key; v = v0 ∷ pos 0 ∷ pos 0 ∷ pos 0 ∷ [] }

entered : ModeSpec → Bool → List Inflow
entered mode rekey = inflows (contents_of 100 files (join_dag mode rekey)) (join_dag mode rekey)

window_with : List EventValue → List Inflow
window_with events = record { window = base_window (pos 10) (pos 5); events = events } ∷ []

-- an event that meets two rows becomes two; one that meets none is dropped, or goes on where the join is left
joins : (entered Inner false ≡ window_with (event 1 (pos 3) (codes "a") (pos 10) ∷ event 1 (pos 3) (codes "a") (pos 20) ∷ []))
    × (entered Left false ≡ window_with (event 1 (pos 3) (codes "a") (pos 10) ∷ event 1 (pos 3) (codes "a") (pos 20) ∷ event 2 (pos 4) (codes "c") (pos 2) ∷ []))
    × (entered Inner true ≡ window_with (event 1 (pos 3) (codes "x") (pos 10) ∷ event 1 (pos 3) (codes "y") (pos 20) ∷ []))
unfolding plain join_dag files event entered window_with fields_from
joins = (refl, refl, refl)

picks : map pick (0 ∷ 3 ∷ 4 ∷ 7 ∷ 8 ∷ 15 ∷ []) ≡ OfEvent 0 ∷ OfEvent 3 ∷ OfSide 0 ∷ OfSide 3 ∷ OfEvent 0 ∷ OfSide 3 ∷ []
picks = refl

-- ---- events that came late

-- a source of two files
idle_dag : Dag
idle_dag = record { vertices = record { name = codes "s"; parallelism = 1; kind = Source (codes "p0" ∷ codes "p1" ∷ []) (pos 3) } ∷ []; edges = [] }

-- in the first file this line stands between the first event and the last, which has this time
idle_files : List ℕ → List ℕ → List ℕ → List ℕ
idle_files line ts name = if bytes_eq name (codes "p0") then codes "7,a,1\n" ++ line ++ codes "\n" ++ ts ++ codes ",a,1\n" else codes "41,a,1\n"

-- behind an idle note an event is behind where it is below the mark of the other file, and without one it is not
behind_a_note : (was_behind 5 100 (idle_files (codes "#idle") (codes "40")) idle_dag (event 3 (pos 40) (codes "a") (pos 1)) ≡ false)
    × (was_behind 5 100 (idle_files (codes "#idle") (codes "12")) idle_dag (event 3 (pos 12) (codes "a") (pos 1)) ≡ true)
    × (was_behind 5 100 (idle_files [] (codes "12")) idle_dag (event 3 (pos 12) (codes "a") (pos 1)) ≡ false)
    × (behind_at 5 100 (idle_files (codes "#idle") (codes "12")) idle_dag 0 3 ≡ true)
unfolding event idle_dag idle_files fields_from
behind_a_note = (refl, refl, refl, refl)

-- ---- side files

rows_for : List ℕ → ℕ → List ℕ
rows_for line n = flat_map (λ l. l) (replicate n line)

-- a key may have 16 rows; that of another key stands for itself, and a row that is bad by itself has that fault
full : (first_bad_row 100 (rows_for (codes "a,x\n") 17) ≡ Some (17, KeyFull)) × (length (rows_of 100 (rows_for (codes "a,x\n") 17)) ≡ 16)
    × (first_bad_row 100 (rows_for (codes "a,x\n") 16 ++ codes "\nb,x\na\n") ≡ Some (19, Fields))
unfolding rows_for fields_from
full = (refl, refl, refl)
