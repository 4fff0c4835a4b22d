-- The vertices and edges of a job, by their names.
use Rattle.std.specs.Prelude.{◌≡◌, ℕ, zero, suc, List, filter, bytes_eq}
use Rattle.std.specs.List.{Contains}
use Rattle.jet_plan.specs.declared.edge.Edge.{Edge}

-- the edges into a vertex, and out of one
abbrev pub edges_into : List ℕ → List Edge → List Edge
edges_into name edges = filter (λ e. bytes_eq e.to name) edges

abbrev pub edges_out_of : List ℕ → List Edge → List Edge
edges_out_of name edges = filter (λ e. bytes_eq e.from name) edges

-- a walk along edges that ends at a vertex, by the names before it, the nearest first
pub record Step (edges : List Edge) (from to : List ℕ) : Type 0 where
  pub edge : Edge
  pub there : Contains edges edge
  pub leaves : edge.from ≡ from
  pub enters : edge.to ≡ to

-- so many edges, one after another, lead from a vertex to another
abbrev pub Walk : List Edge → List ℕ → List ℕ → ℕ → Type 0
Walk edges a b zero = a ≡ b
Walk edges a b (suc n) = (c : List ℕ) × Walk edges a c n × Step edges c b

-- one or more edges lead from a vertex back to itself
abbrev pub HasCycle : List Edge → Type 0
HasCycle edges = (a : List ℕ) × (n : ℕ) × Walk edges a a (suc n)
