-- The job of `window`, as a job file would have it.
use Rattle.std.specs.Prelude.{ℕ, pos, Bool, false, List, Option}
use Rattle.jet_flow.specs.BaseJob as flow
use Rattle.jet_plan.specs.Defaults.{defaults}
use Rattle.jet_plan.specs.Faults.{fault}
use Rattle.jet_plan.specs.declared.dag.Dag.{Dag}
use Rattle.jet_plan.specs.declared.edge.Edge.{Edge}
use Rattle.jet_plan.specs.declared.fault.PlanFault.{PlanFault}
use Rattle.jet_plan.specs.declared.kind.Kind.{Kind}
use Rattle.jet_plan.specs.declared.route.Route.{Route}
use Rattle.jet_plan.specs.declared.vertex.Vertex.{Vertex}
use Rattle.jet_cli.specs.Words.{WindowCommand}

-- a vertex with one instance on each member
abbrev pub vertex_of : List ℕ → Kind → Vertex
vertex_of name kind = record { name = name; parallelism = 1; kind = kind }

-- an edge that carries no rows of a side file
abbrev pub edge_of : List ℕ → List ℕ → Route → Bool → Edge
edge_of from to route distributed = record { from = from; to = to; route = route; distributed = distributed; build = false }

-- its vertices and edges: those of the job of one file and one window
abbrev pub base_vertices : WindowCommand → List Vertex
base_vertices c = flow.base_vertices c.file (pos c.lag) (pos c.size) (pos c.slide)

abbrev pub base_edges : List Edge
base_edges = flow.base_edges

-- the job of `window`
abbrev pub base_dag : WindowCommand → Dag
base_dag c = flow.base_dag c.file (pos c.lag) (pos c.size) (pos c.slide)

-- why the job of `window` is refused, with the settings of a job that sets none
abbrev pub base_fault : WindowCommand → Option PlanFault
base_fault c = fault (base_dag c) defaults
