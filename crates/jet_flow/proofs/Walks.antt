-- Fewer edges have fewer walks.
use Rattle.std.proofs.Common.{◌≡◌, ℕ, zero, suc, List, [], ◌∷◌, map, filter, length, true, false, Bool, cond, not, ◌&&◌, ◌||◌, refl, sym, ap, ◌∙◌}
use Rattle.std.specs.Str.{bytes_eq}
use Rattle.std.specs.List.{list_any}
use Rattle.std.proofs.lemmas.Slice.Eq.{bytes_eq-Decides}
use Rattle.jet_plan.specs.declared.edge.Edge.{Edge}
use Rattle.jet_plan.specs.declared.vertex.Vertex.{Vertex}
use Rattle.jet_plan.specs.declared.dag.Dag.{Dag}
use Rattle.jet_plan.specs.Graph.{edges_into}
use Rattle.jet_plan.specs.Along.{has_walk}
use Rattle.jet_plan.specs.AlongLaws.{StartIn}
use Rattle.jet_plan.specs.Growth.{is_cyclic, stream_edges}
use Rattle.jet_plan.specs.Names.{has_name, AreKnown}

contradicts : true ≡ false → ⊥
contradicts h = cc h

-- the tests of a front edge and of the others, where it leads into the vertex or not
one_edge : (into fe ge rest more : Bool) → (fe ≡ true → ge ≡ true) → (rest ≡ true → more ≡ true)
    → (into && fe || rest) ≡ true → (into && ge || more) ≡ true
one_edge true true ge rest more edge others h = rw (edge refl) refl
one_edge true false true rest more edge others h = refl
one_edge true false false rest more edge others h = others h
one_edge false fe ge rest more edge others h = others h

-- a test of the edges into a vertex
passes_into : (f : Edge → Bool) (name : List ℕ) (edges : List Edge) → list_any (λ w. w) (map f (edges_into name edges)) ≡ list_any (λ e. bytes_eq e.to name && f e) edges
passes_into f name [] = refl
passes_into f name (e ∷ edges) = by_test (bytes_eq e.to name) (passes_into f name edges) where
  by_test : (b : Bool) → list_any (λ w. w) (map f (edges_into name edges)) ≡ list_any (λ e. bytes_eq e.to name && f e) edges
      → list_any (λ w. w) (map f (cond b (e ∷ edges_into name edges) (edges_into name edges))) ≡ (b && f e || list_any (λ e. bytes_eq e.to name && f e) edges)
  by_test true h = ap (λ r. f e || r) h
  by_test false h = h

or_later : (a b : Bool) → b ≡ true → (a || b) ≡ true
or_later true b h = refl
or_later false b h = h

fewer_step : (f g : Edge → Bool) (name : List ℕ) (e : Edge) (some edges : List Edge) (b : Bool) → (f e ≡ true → g e ≡ true)
    → (list_any (λ e. bytes_eq e.to name && f e) some ≡ true → list_any (λ e. bytes_eq e.to name && g e) edges ≡ true)
    → list_any (λ e. bytes_eq e.to name && f e) (cond b (e ∷ some) some) ≡ true → (bytes_eq e.to name && g e || list_any (λ e. bytes_eq e.to name && g e) edges) ≡ true
fewer_step f g name e some edges true weaker rest h = one_edge (bytes_eq e.to name) (f e) (g e) _ _ weaker rest h
fewer_step f g name e some edges false weaker rest h = or_later (bytes_eq e.to name && g e) _ (rest h)

-- what passes at one of some edges passes at one of all, where a weaker test is asked
fewer_pass : (p f g : Edge → Bool) (name : List ℕ) (edges : List Edge) → ((e : Edge) → f e ≡ true → g e ≡ true)
    → list_any (λ e. bytes_eq e.to name && f e) (filter p edges) ≡ true → list_any (λ e. bytes_eq e.to name && g e) edges ≡ true
fewer_pass p f g name [] weaker h = h
fewer_pass p f g name (e ∷ edges) weaker h = fewer_step f g name e (filter p edges) edges (p e) (weaker e) (fewer_pass p f g name edges weaker) h

-- a walk over some of the edges is one over all
walks_in_fewer : (p : Edge → Bool) (edges : List Edge) (n : ℕ) (name : List ℕ) → has_walk (filter p edges) n name ≡ true → has_walk edges n name ≡ true
walks_in_fewer p edges zero name h = refl
walks_in_fewer p edges (suc n) name h =
    passes_into (λ e. has_walk edges n e.from) name edges
    ∙ fewer_pass p (λ e. has_walk (filter p edges) n e.from) (λ e. has_walk edges n e.from) name edges (λ e. walks_in_fewer p edges n e.from)
    (sym (passes_into (λ e. has_walk (filter p edges) n e.from) name (filter p edges)) ∙ h)

neither : (a b : Bool) → (a || b) ≡ false → (a ≡ false) × (b ≡ false)
neither true b h = absurd (contradicts h)
neither false b h = (refl, h)

fails_step : (f : List ℕ → Bool) (v : Vertex) (name : List ℕ) (b rest : Bool) → bytes_eq v.name name ≡ b → f v.name ≡ false → (rest ≡ true → f name ≡ false) → (b || rest) ≡ true → f name ≡ false
fails_step f v name true rest is first others here = ap f (sym ((bytes_eq-Decides v.name name).0 is)) ∙ first
fails_step f v name false rest is first others here = others here

-- a test that fails at each vertex fails at that of a name
pub fails_at : (f : List ℕ → Bool) (vertices : List Vertex) (name : List ℕ) → list_any (λ v. f v.name) vertices ≡ false → list_any (has_name name) vertices ≡ true → f name ≡ false
fails_at f [] name none here = absurd (contradicts (sym here))
fails_at f (v ∷ vertices) name none here =
    let parts = neither (f v.name) (list_any (λ v. f v.name) vertices) none in
    fails_step f v name (bytes_eq v.name name) _ refl parts.0 (fails_at f vertices name parts.1) here

-- in a job without a cycle no walk over stream edges is as long as the vertices are many
pub no_stream_walk : (dag : Dag) → is_cyclic dag ≡ false → (name : List ℕ) → list_any (has_name name) dag.vertices ≡ true → has_walk (stream_edges dag) (length dag.vertices) name ≡ false
no_stream_walk dag acyclic name here = by_walk (has_walk (stream_edges dag) (length dag.vertices) name) refl where
  by_walk : (b : Bool) → has_walk (stream_edges dag) (length dag.vertices) name ≡ b → b ≡ false
  by_walk false is = refl
  by_walk true is =
      sym (walks_in_fewer (λ e. not e.build) dag.edges (length dag.vertices) name is)
      ∙ fails_at (has_walk dag.edges (length dag.vertices)) dag.vertices name acyclic here

known_step : (vertices : List Vertex) (e : Edge) (edges : List Edge) (b from to rest : Bool) → list_any (has_name e.from) vertices ≡ from
    → (rest ≡ false → StartIn (λ name. list_any (has_name name) vertices) edges) → (not (from && to) || rest) ≡ false
    → StartIn (λ name. list_any (has_name name) vertices) (cond b (e ∷ edges) edges)
known_step vertices e edges b false to rest is others known = absurd (contradicts known)
known_step vertices e edges b true false rest is others known = absurd (contradicts known)
known_step vertices e edges true true true rest is others known = (is, others known)
known_step vertices e edges false true true rest is others known = others known

-- known edges start at vertices
starts_in : (p : Edge → Bool) (vertices : List Vertex) (edges : List Edge) → AreKnown vertices edges → StartIn (λ name. list_any (has_name name) vertices) (filter p edges)
starts_in p vertices [] known = tt
starts_in p vertices (e ∷ edges) known =
    known_step vertices e (filter p edges) (p e) (list_any (has_name e.from) vertices) (list_any (has_name e.to) vertices) _ refl (starts_in p vertices edges) known

pub streams_start_in : (dag : Dag) → AreKnown dag.vertices dag.edges → StartIn (λ name. list_any (has_name name) dag.vertices) (stream_edges dag)
streams_start_in dag known = starts_in (λ e. not e.build) dag.vertices dag.edges known
