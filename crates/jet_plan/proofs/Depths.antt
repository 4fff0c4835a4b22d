-- How deep vertices lie: the depth rises along each edge, and is below the number of vertices.
use Rattle.std.proofs.Common.{◌≡◌, ℕ, zero, suc, ◌+◌, ◌-◌, ◌<◌, ◌≤◌, ◌⊎◌, inl, inr, max, fold, Bool, true, false, cond, List, [], ◌∷◌, map, length, refl, sym, ◌∙◌, ap, subst, arith}
use Rattle.std.specs.Str.{bytes_eq}
use Rattle.std.specs.List.{list_any, Contains}
use Rattle.std.proofs.lemmas.Bool.{cases_lt}
use Rattle.std.proofs.lemmas.Slice.Eq.{bytes_eq-Decides}
use Rattle.jet_plan.specs.declared.edge.Edge.{Edge}
use Rattle.jet_plan.specs.declared.dag.Dag.{Dag}
use Rattle.jet_plan.specs.Graph.{edges_into}
use Rattle.jet_plan.specs.Along.{before, has_walk}
use Rattle.jet_plan.specs.AlongLaws.{AreAlike, along_keeps}
use Rattle.jet_plan.specs.Depth.{longest_walk, depth}
use Rattle.jet_plan.specs.Growth.{greatest, is_cyclic}
use Rattle.jet_plan.specs.Names.{has_name, AreKnown}
use Rattle.jet_plan.proofs.CycleLaws.{one_more, cut_to, at_length, no_long_walk, true_false, known_end}

pub alike_same : {X : Type 0} (xs ys : List X) → AreAlike (λ x y. x ≡ y) xs ys → xs ≡ ys
alike_same [] [] h = refl
alike_same [] (y ∷ ys) h = absurd h
alike_same (x ∷ xs) [] h = absurd h
alike_same (x ∷ xs) (y ∷ ys) h = let a = h.0 in let b = alike_same xs ys h.1 in cc

-- ---- the greatest of numbers

above : (xs : List ℕ) (n : ℕ) → n ≤ fold max n xs
above [] n = omega arith
above (x ∷ xs) n = let h = above xs (max n x) in omega (arith, h)

-- one more than the values before an edge into a vertex, from n on
abbrev tops : (List ℕ → ℕ) → List Edge → List ℕ
tops g into = map suc (map (λ e. g e.from) into)

here_below : (g : List ℕ → ℕ) (x : Edge) (into : List Edge) (n : ℕ) (b : Bool) → b ≡ true → suc (g x.from) ≤ fold max n (tops g (cond b (x ∷ into) into))
here_below g x into n true is = let h = above (tops g into) (max n (suc (g x.from))) in omega (arith, h)
here_below g x into n false is = absurd (cc is)

later_below : (g : List ℕ → ℕ) (m : ℕ) (x : Edge) (into : List Edge) → ((n : ℕ) → m ≤ fold max n (tops g into)) → (n : ℕ) (b : Bool) → m ≤ fold max n (tops g (cond b (x ∷ into) into))
later_below g m x into h n true = h (max n (suc (g x.from)))
later_below g m x into h n false = h n

edge_below : (g : List ℕ → ℕ) (name : List ℕ) (edges : List Edge) (e : Edge) → Contains edges e → e.to ≡ name → (n : ℕ) → suc (g e.from) ≤ fold max n (tops g (edges_into name edges))
edge_below g name [] e there to n = absurd (omega (arith, there.1))
edge_below g name (x ∷ edges) e (zero, lt, at) to n =
    let is : x ≡ e = at in
    let here : bytes_eq x.to name ≡ true = (bytes_eq-Decides x.to name).1 (ap (λ (y : Edge). y.to) is ∙ to) in
    subst (λ (y : Edge). suc (g y.from) ≤ fold max n (tops g (edges_into name (x ∷ edges)))) is (here_below g x (edges_into name edges) n (bytes_eq x.to name) here)
edge_below g name (x ∷ edges) e (suc k, lt, at) to n =
    later_below g (suc (g e.from)) x (edges_into name edges) (edge_below g name edges e (k, omega (arith, lt), at) to) n (bytes_eq x.to name)

-- the greatest is reached: it is where it began, or one more than the value before an edge
abbrev IsReached : (List ℕ → ℕ) → List ℕ → List Edge → ℕ → ℕ → Type 0
IsReached g name edges n m = (m ≡ n) ⊎ ((e : Edge) × Contains edges e × (e.to ≡ name) × (m ≡ suc (g e.from)))

reached_more : (g : List ℕ → ℕ) (name : List ℕ) (x : Edge) (edges : List Edge) (n m : ℕ) → IsReached g name edges n m → IsReached g name (x ∷ edges) n m
reached_more g name x edges n m (inl is) = inl is
reached_more g name x edges n m (inr r) = inr (r.0, (suc r.1.0, omega (arith, r.1.1), r.1.2), r.2, r.3)

reached_max : (g : List ℕ → ℕ) (name : List ℕ) (x : Edge) (edges : List Edge) (n m : ℕ) → x.to ≡ name → IsReached g name edges (max n (suc (g x.from))) m → IsReached g name (x ∷ edges) n m
reached_max g name x edges n m to (inl is) = elim (cases_lt n (suc (g x.from))) [
  | inl lt ↦ inr (x, (0, omega arith, refl), to, omega (arith, is, lt))
  | inr le ↦ inl (omega (arith, is, le))
]
reached_max g name x edges n m to (inr r) = inr (r.0, (suc r.1.0, omega (arith, r.1.1), r.1.2), r.2, r.3)

reached_by : (g : List ℕ → ℕ) (name : List ℕ) (x : Edge) (edges : List Edge) → ((n : ℕ) → IsReached g name edges n (fold max n (tops g (edges_into name edges))))
    → (n : ℕ) (b : Bool) → bytes_eq x.to name ≡ b → IsReached g name (x ∷ edges) n (fold max n (tops g (cond b (x ∷ edges_into name edges) (edges_into name edges))))
reached_by g name x edges rest n true is = reached_max g name x edges n _ ((bytes_eq-Decides x.to name).0 is) (rest (max n (suc (g x.from))))
reached_by g name x edges rest n false is = reached_more g name x edges n _ (rest n)

reached : (g : List ℕ → ℕ) (name : List ℕ) (edges : List Edge) (n : ℕ) → IsReached g name edges n (fold max n (tops g (edges_into name edges)))
reached g name [] n = inl refl
reached g name (x ∷ edges) n = reached_by g name x edges (λ k. reached g name edges k) n (bytes_eq x.to name) refl

-- ---- depths

walks_by : (edges : List Edge) (n : ℕ) (name : List ℕ) → ((from : List ℕ) → has_walk edges (longest_walk edges n from) from ≡ true)
    → IsReached (longest_walk edges n) name edges 0 (longest_walk edges (suc n) name) → has_walk edges (longest_walk edges (suc n) name) name ≡ true
walks_by edges n name earlier (inl none) = at_length edges 0 (longest_walk edges (suc n) name) name (sym none) refl
walks_by edges n name earlier (inr r) =
    at_length edges (suc (longest_walk edges n (r.0).from)) (longest_walk edges (suc n) name) name (sym r.3)
    (one_more edges (longest_walk edges n (r.0).from) (r.0).from name (earlier (r.0).from) (record { edge = r.0; there = r.1; leaves = refl; enters = r.2 }))

-- so long a walk there is
walks : (edges : List Edge) (n : ℕ) (name : List ℕ) → has_walk edges (longest_walk edges n name) name ≡ true
walks edges zero name = refl
walks edges (suc n) name = walks_by edges n name (λ from. walks edges n from) (reached (longest_walk edges n) name edges 0)

-- a depth is below the number of vertices
pub depth_below : (dag : Dag) → is_cyclic dag ≡ false → (name : List ℕ) → list_any (has_name name) dag.vertices ≡ true → depth dag name < length dag.vertices
depth_below dag acyclic name here = elim (cases_lt (depth dag name) (length dag.vertices)) [
  | inl lt ↦ lt
  | inr le ↦
      let n = length dag.vertices in
      let walk = walks dag.edges n name in
      let long : has_walk dag.edges ((depth dag name - n) + n) name ≡ true = at_length dag.edges (depth dag name) ((depth dag name - n) + n) name (omega (arith, le)) walk in
      absurd (true_false (sym (cut_to dag.edges (depth dag name - n) n name long) ∙ no_long_walk dag.vertices dag.edges acyclic name here))
]

-- each edge leads deeper
pub depth_rises : (dag : Dag) → AreKnown dag.vertices dag.edges → is_cyclic dag ≡ false → (e : Edge) → Contains dag.edges e → depth dag e.from < depth dag e.to
depth_rises dag known acyclic e there =
    let n = length dag.vertices in
    let ends = known_end dag.vertices dag.edges known e.from e.to (record { edge = e; there = there; leaves = refl; enters = refl }) in
    let none = no_long_walk dag.vertices dag.edges acyclic e.to ends.1 in
    let keeps : depth dag e.to ≡ greatest (map suc (before dag.edges (depth dag) e.to)) =
    along_keeps (λ x y. x ≡ y) dag.edges (λ name before. greatest (map suc before)) 0 (λ name xs ys h. ap (λ zs. greatest (map suc zs)) (alike_same xs ys h)) n e.to none in
    let below : suc (depth dag e.from) ≤ greatest (map suc (before dag.edges (depth dag) e.to)) = edge_below (depth dag) e.to dag.edges e there refl 0 in
    omega (arith, keeps, below)
