-- Vertices as ends of edges, one by one.
use Rattle.std.proofs.Common.{arith, ◌≡◌, ◌≤◌, ◌+◌, ◌∷◌, [], ℕ, suc, List, length, ap, refl}
use Rattle.std.specs.List.{All, Contains}
use Rattle.std.proofs.lemmas.List.Elements.{All-nil, All-cons}
use Rattle.jet_plan.specs.declared.vertex.Vertex.{Vertex}
use Rattle.jet_layout.specs.declared.end.EdgeEnd.{EdgeEnd}
use Rattle.jet_layout.specs.Joints.{end_of, vertex_ends}
use Rattle.jet_layout.specs.Tasks.{task_count}

pub length_ends : (members first : ℕ) (xs : List Vertex) → length (vertex_ends members first xs) ≡ length xs
length_ends members first [] = refl
length_ends members first (x ∷ xs) = ap suc (length_ends members (first + task_count members x) xs)

-- each vertex has instances
pub ends_filled : (members first : ℕ) (xs : List Vertex) → ((v : Vertex) → Contains xs v → (1 ≤ v.parallelism) × (v.parallelism ≤ 8)) → All (λ e. 1 ≤ e.parallelism) (vertex_ends members first xs)
ends_filled members first [] h = All-nil _
ends_filled members first (x ∷ xs) h = All-cons (λ (e : EdgeEnd). 1 ≤ e.parallelism) (end_of first x 0) _ (h x (0, omega arith, refl)).0 (ends_filled members (first + task_count members x) xs (λ v there. h v (suc there.0, omega (arith, there.1), there.2)))
