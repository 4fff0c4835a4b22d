-- The edge of a window, found by the name of one of its vertices.
use Rattle.std.proofs.Common.{arith, ◌≡◌, ◌∙◌, ◌+◌, ◌<◌, ◌≤◌, ℕ, zero, suc, ℤ, Bool, true, false, not, cond, ◌⊎◌, inl, inr, List, [], ◌∷◌, length, get_or, position, Option, Some, None, ap, refl, sym, subst}
use Rattle.std.specs.Prelude.{◌&&◌, count_by, bytes_eq, slice_get}
use Rattle.std.specs.List.{Contains, find, position_or_len}
use Rattle.std.proofs.lemmas.List.Elements.{Contains-get_or}
use Rattle.std.proofs.lemmas.List.Folds.{find_at}
use Rattle.std.proofs.lemmas.List.Quantifiers.{position-Some}
use Rattle.std.proofs.lemmas.List.Sums.{passes_at_first, fails_before_first, sum_by-cons}
use Rattle.std.proofs.lemmas.Option.{slice_get_within, slice_get_cases, get_or_from_slice_get, slice_get-get_or}
use Rattle.std.proofs.lemmas.Slice.Eq.{bytes_eq-Decides}
use Rattle.jet_plan.specs.declared.dag.Dag.{Dag}
use Rattle.jet_plan.specs.declared.edge.Edge.{Edge}
use Rattle.jet_plan.specs.declared.kind.Kind.{Kind}
use Rattle.jet_plan.specs.declared.kind.Kind.TheVariants.{Source, Side, Map, Filter, Flat, Join, Accumulate, Combine, Sink}
use Rattle.jet_plan.specs.declared.settings.Settings.{Settings}
use Rattle.jet_plan.specs.declared.vertex.Vertex.{Vertex}
use Rattle.jet_plan.specs.Ends.{edges_from, streams_into}
use Rattle.jet_plan.specs.JobShape.{JobShape, Leads}
use Rattle.jet_plan.specs.Kinds.{is_accumulate, is_combine, is_sink}
use Rattle.jet_plan.specs.Names.{has_name}
use Rattle.jet_deploy.specs.Windows.{IsNamed, HasSizes}
use Rattle.jet_deploy.proofs.Faults.{none_passes}

-- ---- what is found

found : {X : Type 0} (p : X → Bool) (xs : List X) (x : X) → find p xs ≡ Some x → Contains xs x × (p x ≡ true)
found p xs x h =
    let n = position_or_len p xs in
    let at : slice_get xs n ≡ Some x = sym (find_at p xs) ∙ h in
    let lt = slice_get_within xs n x at in
    let is = get_or_from_slice_get xs n x x at in
    ((n, lt, is), ap p (sym is) ∙ passes_at_first p xs x lt)

far : {X : Type 0} (xs : List X) (n : ℕ) → slice_get xs n ≡ None → length xs ≤ n
far xs n none = by_cases (slice_get_cases xs n).1 where
  by_cases : ((x : _) × (n < length xs) × (slice_get xs n ≡ Some x) × (get_or xs n x ≡ x)) ⊎ ((length xs ≤ n) × (slice_get xs n ≡ None)) → length xs ≤ n
  by_cases (inl h) = absurd (cc (h.2, none))
  by_cases (inr h) = h.0

not_found : {X : Type 0} (p : X → Bool) (xs : List X) → find p xs ≡ None → (x : X) → Contains xs x → p x ≡ false
not_found p xs h x (k, lt, at) =
    let past = far xs (position_or_len p xs) (sym (find_at p xs) ∙ h) in
    ap p (sym at) ∙ fails_before_first p xs k x (omega (arith, past, lt))

abbrev one_if : Bool → ℕ
one_if b = cond b 1 0

count_step : {X : Type 0} (p q : X → Bool) (x : X) (xs : List X) (a b : Bool) → p x ≡ a → q x ≡ b → (b ≡ true → a ≡ true) → find p (x ∷ xs) ≡ None → (find p xs ≡ None → count_by q xs ≡ 0) → count_by q (x ∷ xs) ≡ 0
count_step p q x xs true b is at more h rest = absurd (cc (rw is at h))
count_step p q x xs false true is at more h rest = absurd (cc (more refl))
count_step p q x xs false false is at more h rest =
    let step : count_by q (x ∷ xs) ≡ one_if (q x) + count_by q xs = sum_by-cons (λ y. one_if (q y)) x xs in
    let here : one_if (q x) ≡ 0 = ap one_if at in
    let none : count_by q xs ≡ 0 = rest (rw is at h) in
    omega (arith, step, here, none)

-- where none passes a test, none passes a stronger one
none_counted : {X : Type 0} (p q : X → Bool) → ((x : X) → q x ≡ true → p x ≡ true) → (xs : List X) → find p xs ≡ None → count_by q xs ≡ 0
none_counted p q more [] h = refl
none_counted p q more (x ∷ xs) h = count_step p q x xs (p x) (q x) refl refl (more x) h (none_counted p q more xs)

same_name : (a b : List ℕ) → bytes_eq a b ≡ true → a ≡ b
same_name a b h = (bytes_eq-Decides a b).0 h

named : (a b : List ℕ) → a ≡ b → bytes_eq a b ≡ true
named a b h = (bytes_eq-Decides a b).1 h

first : (a b : Bool) → (a && b) ≡ true → a ≡ true
first true b h = refl
first false b h = absurd (cc h)

no_sink : (k : Kind) → is_accumulate k ≡ true → is_sink k ≡ false
no_sink (Accumulate size slide) h = refl
no_sink Combine h = refl
no_sink (Source names lag) h = refl
no_sink (Side file) h = refl
no_sink (Map set) h = refl
no_sink (Filter test) h = refl
no_sink (Flat legs) h = refl
no_sink (Join mode rekey fields) h = refl
no_sink Sink h = absurd (cc h)

sizes_of : (k : Kind) → is_accumulate k ≡ true → (size : ℤ) × (slide : ℤ) × (k ≡ Accumulate size slide)
sizes_of (Accumulate size slide) h = (size, slide, refl)
sizes_of Combine h = absurd (cc h)
sizes_of (Source names lag) h = absurd (cc h)
sizes_of (Side file) h = absurd (cc h)
sizes_of (Map set) h = absurd (cc h)
sizes_of (Filter test) h = absurd (cc h)
sizes_of (Flat legs) h = absurd (cc h)
sizes_of (Join mode rekey fields) h = absurd (cc h)
sizes_of Sink h = absurd (cc h)

-- ---- in a job of its shape

module _ (dag : Dag) (s : Settings) (shape : JobShape dag s) where
  -- an accumulate vertex has an edge out
  pub leaves : (u : Vertex) → Contains dag.vertices u → is_accumulate u.kind ≡ true → find (λ e. bytes_eq e.from u.name) dag.edges ≡ None → ⊥
  leaves u there is none =
      let some : 0 < edges_from dag.edges u.name = shape.vertices.outputs u there (no_sink u.kind is) in
      let zero_of = none_counted (λ (e : Edge). bytes_eq e.from u.name) (λ (e : Edge). bytes_eq e.from u.name) (λ x h. h) dag.edges none in
      absurd (omega (arith, some, zero_of))

  -- an edge out of a vertex leads to a vertex
  pub ends : (name : List ℕ) (e : Edge) → find (λ e. bytes_eq e.from name) dag.edges ≡ Some e → position (has_name e.to) dag.vertices ≡ None → ⊥
  ends name e is none =
      let there = (found (λ (e : Edge). bytes_eq e.from name) dag.edges e is).0 in
      let to = shape.edges.ends e there in
      let fails = none_passes (has_name e.to) dag.vertices none to.1 to.2.end in
      let passes = named (to.1).name e.to to.2.to in
      absurd (cc (fails, passes))

  pub behind : (u : Vertex) → Contains dag.vertices u → (e : Edge) → find (λ e. bytes_eq e.from u.name) dag.edges ≡ Some e → (n : ℕ) → position (has_name e.to) dag.vertices ≡ Some n → IsNamed dag u n
  behind u there e is n at =
      let edge = found (λ (e : Edge). bytes_eq e.from u.name) dag.edges e is in
      let v = get_or dag.vertices n u in
      let place = position-Some (has_name e.to) dag.vertices n u at in
      record {
        edge = e;
        combine = v;
        leads = record { edge = edge.0; start = there; end = Contains-get_or dag.vertices n u place.0; from = sym (same_name e.from u.name edge.1); to = same_name v.name e.to place.1 };
        number = slice_get-get_or dag.vertices n u place.0;
      }

  -- a combine vertex has an edge in
  pub enters : (v : Vertex) → Contains dag.vertices v → is_combine v.kind ≡ true → find (λ e. bytes_eq e.to v.name) dag.edges ≡ None → ⊥
  enters v there is none =
      let one : streams_into dag.edges v.name ≡ 1 = (shape.vertices.combines v there is).0 in
      let zero_of = none_counted (λ (e : Edge). bytes_eq e.to v.name) (λ (e : Edge). bytes_eq e.to v.name && not e.build) (λ x h. first (bytes_eq x.to v.name) (not x.build) h) dag.edges none in
      absurd (omega (arith, one, zero_of))

  -- an edge into a vertex comes from a vertex
  pub starts : (name : List ℕ) (e : Edge) → find (λ e. bytes_eq e.to name) dag.edges ≡ Some e → find (has_name e.from) dag.vertices ≡ None → ⊥
  starts name e is none =
      let there = (found (λ (e : Edge). bytes_eq e.to name) dag.edges e is).0 in
      let from = shape.edges.ends e there in
      let fails = not_found (has_name e.from) dag.vertices none from.0 from.2.start in
      let passes = named (from.0).name e.from from.2.from in
      absurd (cc (fails, passes))

  pub before : (v : Vertex) → Contains dag.vertices v → (e : Edge) → find (λ e. bytes_eq e.to v.name) dag.edges ≡ Some e → (u : Vertex) → find (has_name e.from) dag.vertices ≡ Some u → Leads dag e u v × (is_combine v.kind ≡ is_accumulate u.kind)
  before v there e is u at =
      let edge = found (λ (e : Edge). bytes_eq e.to v.name) dag.edges e is in
      let vertex = found (has_name e.from) dag.vertices u at in
      let leads : Leads dag e u v = record { edge = edge.0; start = vertex.0; end = there; from = same_name u.name e.from vertex.1; to = sym (same_name e.to v.name edge.1) } in
      (leads, shape.edges.frames e u v leads)
