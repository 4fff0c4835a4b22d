-- The edges of a job and the vertices at their ends.
use Rattle.std.specs.List.{Contains}
use Rattle.jet_plan.specs.declared.dag.Dag.{Dag}
use Rattle.jet_plan.specs.declared.edge.Edge.{Edge}
use Rattle.jet_plan.specs.declared.settings.Settings.{Settings}
use Rattle.jet_plan.specs.declared.vertex.Vertex.{Vertex}
use Rattle.jet_plan.specs.JobShape.{Leads}
use Rattle.jet_layout.specs.inner.Facts.{Facts}

-- each edge has a vertex at both ends
abbrev pub AreKnown : Dag → Type 0
AreKnown dag = (e : Edge) → Contains dag.edges e → (u : Vertex) × (v : Vertex) × Leads dag e u v

pub known : (dag : Dag) (s : Settings) → Facts dag s → AreKnown dag
known dag s facts = let shape = facts.shape in let edges = shape.edges in edges.ends
