-- The job of one file and one window.
use Rattle.std.specs.Prelude.{ℕ, ℤ, List, [], ◌∷◌, true, false, codes}
use Rattle.jet_items.specs.Rows.{Window}
use Rattle.jet_plan.specs.declared.dag.Dag.{Dag}
use Rattle.jet_plan.specs.declared.edge.Edge.{Edge}
use Rattle.jet_plan.specs.declared.kind.Kind.TheVariants.{Source, Accumulate, Combine, Sink}
use Rattle.jet_plan.specs.declared.route.Route.TheVariants.{Unicast, Partitioned}
use Rattle.jet_plan.specs.declared.vertex.Vertex.{Vertex}

-- a source of one file, then a window in its two stages, then the sink
abbrev pub base_vertices : List ℕ → ℤ → ℤ → ℤ → List Vertex
base_vertices file lag size slide =
    record { name = codes "s"; parallelism = 1; kind = Source (file ∷ []) lag }
    ∷ record { name = codes "a"; parallelism = 1; kind = Accumulate size slide }
    ∷ record { name = codes "w"; parallelism = 1; kind = Combine }
    ∷ record { name = codes "z"; parallelism = 1; kind = Sink }
    ∷ []

-- each vertex leads to the next
abbrev pub base_edges : List Edge
base_edges =
    record { from = codes "s"; to = codes "a"; route = Unicast; distributed = false; build = false }
    ∷ record { from = codes "a"; to = codes "w"; route = Partitioned; distributed = true; build = false }
    ∷ record { from = codes "w"; to = codes "z"; route = Unicast; distributed = true; build = false }
    ∷ []

-- the job with this file, lag, size and slide
abbrev pub base_dag : List ℕ → ℤ → ℤ → ℤ → Dag
base_dag file lag size slide = record { vertices = base_vertices file lag size slide; edges = base_edges }

-- its window
abbrev pub base_window : ℤ → ℤ → Window
base_window size slide = record { vertex = 2; name = codes "w"; size = size; slide = slide }
