-- What runs along the edges of a graph: a value of each vertex that is made of those of the vertices before it.
use Rattle.std.specs.Prelude.{ℕ, zero, suc, Bool, true, List, map}
use Rattle.std.specs.List.{list_any}
use Rattle.jet_plan.specs.declared.edge.Edge.{Edge}
use Rattle.jet_plan.specs.Graph.{edges_into}

-- the values at the starts of the edges into a vertex, one an edge
abbrev pub before : {X : Type 0} → List Edge → (List ℕ → X) → List ℕ → List X
before edges g name = map (λ e. g e.from) (edges_into name edges)

-- the value of a vertex, over the edges of at most so many steps before it
abbrev pub along : {X : Type 0} → List Edge → (List ℕ → List X → X) → X → ℕ → List ℕ → X
along edges f start zero name = start
along edges f start (suc n) name = f name (before edges (along edges f start n) name)

-- a walk of so many edges ends at the vertex
abbrev pub has_walk : List Edge → ℕ → List ℕ → Bool
has_walk edges = along edges (λ name walks. list_any (λ w. w) walks) true
