-- The windows of a job, and the events that enter them.
use Rattle.std.specs.Prelude.{ℕ, List, [], ◌∷◌, map, filter, if◌then◌else◌}
use Rattle.std.specs.List.{flat_map, enumerate_from}
use Rattle.jet_items.specs.Rows.{Window, Inflow}
use Rattle.jet_plan.specs.declared.vertex.Vertex.{Vertex}
use Rattle.jet_plan.specs.declared.dag.Dag.{Dag}
use Rattle.jet_plan.specs.declared.kind.Kind.{Kind}
use Rattle.jet_plan.specs.declared.kind.Kind.TheVariants.{Accumulate}
use Rattle.jet_plan.specs.Graph.{edges_into}
use Rattle.jet_plan.specs.Kinds.{is_combine}
use Rattle.jet_plan.specs.Names.{has_name}
use Rattle.jet_flow.specs.Flow.{Contents, enter}

-- the vertices before the one of this name
abbrev pub vertices_before : Dag → List ℕ → List Vertex
vertices_before dag name = flat_map (λ e. filter (has_name e.from) dag.vertices) (edges_into name dag.edges)

-- the window of combine vertex n, with the size and the slide of an accumulate vertex
abbrev pub window_of : ℕ → List ℕ → Kind → List Window
window_of n name (Accumulate size slide) = record { vertex = n; name = name; size = size; slide = slide } ∷ []
window_of n name _ = []

-- the windows of vertex n: one for a combine vertex, with the sizes of the accumulate vertex before it
abbrev pub windows_at : Dag → ℕ × Vertex → List Window
windows_at dag p = if is_combine p.1.kind then flat_map (λ v. window_of p.0 p.1.name v.kind) (vertices_before dag p.1.name) else []

-- the windows of a job, in the order of its vertices
abbrev pub windows : Dag → List Window
windows dag = flat_map (windows_at dag) (enumerate_from 0 dag.vertices)

-- the windows of a job, each with the events that enter it
abbrev pub inflows : Contents → Dag → List Inflow
inflows files dag = map (λ w. record { window = w; events = enter files dag w.name }) (windows dag)
