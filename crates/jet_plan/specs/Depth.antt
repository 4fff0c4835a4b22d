-- How deep a vertex lies in a job.
use Rattle.std.specs.Prelude.{ℕ, suc, List, map, length}
use Rattle.jet_plan.specs.declared.edge.Edge.{Edge}
use Rattle.jet_plan.specs.declared.dag.Dag.{Dag}
use Rattle.jet_plan.specs.Along.{along}
use Rattle.jet_plan.specs.Growth.{greatest}

-- the most edges of a walk that ends at the vertex, of walks of at most so many
abbrev pub longest_walk : List Edge → ℕ → List ℕ → ℕ
longest_walk edges = along edges (λ name before. greatest (map suc before)) 0

-- the most edges of a walk that ends at the vertex of this name
abbrev pub depth : Dag → List ℕ → ℕ
depth dag = longest_walk dag.edges (length dag.vertices)
