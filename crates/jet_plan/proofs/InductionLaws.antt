-- Laws for crates above: induction over the vertices of a job without a cycle. They speak of any property of vertices, so no contract can say them.
use Rattle.std.proofs.Common.{◌≡◌, ℕ, zero, suc, Bool, true, false, cond, List, [], ◌∷◌, map, length, ◌∙◌, ap, subst, arith}
use Rattle.std.specs.Str.{bytes_eq}
use Rattle.std.specs.List.{list_any, Contains}
use Rattle.std.proofs.lemmas.Slice.Eq.{bytes_eq-Decides}
use Rattle.jet_items.specs.Order.{Each}
use Rattle.jet_plan.specs.declared.edge.Edge.{Edge}
use Rattle.jet_plan.specs.declared.dag.Dag.{Dag}
use Rattle.jet_plan.specs.Graph.{edges_into}
use Rattle.jet_plan.specs.Along.{has_walk}
use Rattle.jet_plan.specs.Growth.{is_cyclic}
use Rattle.jet_plan.specs.Names.{has_name}
use Rattle.jet_plan.proofs.Rounds.{or_false}
use Rattle.jet_plan.proofs.CycleLaws.{no_long_walk}

starts : (edges : List Edge) (n : ℕ) (P : List ℕ → Type 0) → ((name : List ℕ) → has_walk edges n name ≡ false → P name) → (into : List Edge)
    → list_any (λ w. w) (map (λ e. has_walk edges n e.from) into) ≡ false → Each (λ e. P e.from) into
starts edges n P h [] none = tt
starts edges n P h (e ∷ into) none =
    let both = or_false (has_walk edges n e.from) (list_any (λ w. w) (map (λ e. has_walk edges n e.from) into)) none in
    (h e.from both.0, starts edges n P h into both.1)

-- what holds at a vertex wherever it holds at those before it holds where no walk of n edges ends
pub by_walks : (edges : List Edge) (P : List ℕ → Type 0) → ((name : List ℕ) → Each (λ e. P e.from) (edges_into name edges) → P name)
    → (n : ℕ) (name : List ℕ) → has_walk edges n name ≡ false → P name
by_walks edges P step zero name none = absurd (cc none)
by_walks edges P step (suc n) name none = step name (starts edges n P (by_walks edges P step n) (edges_into name edges) none)

kept_here : (P : Edge → Type 0) (e : Edge) (es : List Edge) (b : Bool) → b ≡ true → Each P (cond b (e ∷ es) es) → P e
kept_here P e es true is h = h.0
kept_here P e es false is h = absurd (cc is)

kept_rest : (P : Edge → Type 0) (e : Edge) (es : List Edge) (b : Bool) → Each P (cond b (e ∷ es) es) → Each P es
kept_rest P e es true h = h.1
kept_rest P e es false h = h

-- of each edge into a vertex, what holds of them all
pub each_into : (P : List ℕ → Type 0) (name : List ℕ) (edges : List Edge) → Each (λ e. P e.from) (edges_into name edges)
    → (e : Edge) → Contains edges e → e.to ≡ name → P e.from
each_into P name [] h e there to = absurd (omega (arith, there.1))
each_into P name (x ∷ edges) h e (zero, lt, at) to =
    let is : x ≡ e = at in
    let here : bytes_eq x.to name ≡ true = (bytes_eq-Decides x.to name).1 (ap (λ (y : Edge). y.to) is ∙ to) in
    subst (λ (y : Edge). P y.from) is (kept_here (λ (y : Edge). P y.from) x (edges_into name edges) (bytes_eq x.to name) here h)
each_into P name (x ∷ edges) h e (suc k, lt, at) to =
    each_into P name edges (kept_rest (λ (y : Edge). P y.from) x (edges_into name edges) (bytes_eq x.to name) h) e (k, omega (arith, lt), at) to

-- in a job without a cycle: what holds at a vertex wherever it holds at the start of each edge into it holds at every vertex
pub along_job : (dag : Dag) → is_cyclic dag ≡ false → (P : List ℕ → Type 0)
    → ((name : List ℕ) → ((e : Edge) → Contains dag.edges e → e.to ≡ name → P e.from) → P name)
    → (name : List ℕ) → list_any (has_name name) dag.vertices ≡ true → P name
along_job dag acyclic P step name here =
    by_walks dag.edges P (λ name before. step name (each_into P name dag.edges before)) (length dag.vertices) name (no_long_walk dag.vertices dag.edges acyclic name here)
