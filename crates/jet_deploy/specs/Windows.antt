-- The two vertices of a window.
use Rattle.std.specs.Prelude.{◌≡◌, ℕ, ℤ, Some, slice_get}
use Rattle.jet_plan.specs.declared.dag.Dag.{Dag}
use Rattle.jet_plan.specs.declared.edge.Edge.{Edge}
use Rattle.jet_plan.specs.declared.kind.Kind.TheVariants.{Accumulate}
use Rattle.jet_plan.specs.declared.vertex.Vertex.{Vertex}
use Rattle.jet_plan.specs.JobShape.{Leads}

-- an edge leads from an accumulate vertex to the vertex with this number: the combine vertex, by which their window is named
pub record IsNamed (dag : Dag) (u : Vertex) (n : ℕ) : Type 0 where
  pub edge : Edge
  pub combine : Vertex
  pub leads : Leads dag edge u combine
  pub number : slice_get dag.vertices n ≡ Some combine

-- an edge leads to a combine vertex from an accumulate vertex with this size and slide
pub record HasSizes (dag : Dag) (v : Vertex) (size slide : ℤ) : Type 0 where
  pub edge : Edge
  pub accumulate : Vertex
  pub leads : Leads dag edge accumulate v
  pub sizes : accumulate.kind ≡ Accumulate size slide
