-- Each joint is an edge between two vertices of the job.
use Rattle.std.proofs.Common.{arith, ◌≡◌, ◌∙◌, ◌+◌, ◌∷◌, ◌++◌, [], Bool, true, false, ℕ, suc, List, length, Option, Some, None, ap, refl, sym, nat_lt, position}
use Rattle.std.specs.Prelude.{slice_get, bytes_eq}
use Rattle.std.specs.List.{All, Contains, position_or_len}
use Rattle.std.specs.Option.{option_map_or}
use Rattle.std.proofs.lemmas.List.Elements.{All-nil, All-cons, All-same}
use Rattle.std.proofs.lemmas.List.Sums.{fails_before_first}
use Rattle.std.proofs.lemmas.Option.{slice_get_within, get_or_from_slice_get}
use Rattle.std.proofs.lemmas.Slice.Eq.{bytes_eq-Decides}
use Rattle.jet_plan.specs.declared.dag.Dag.{Dag}
use Rattle.jet_plan.specs.declared.edge.Edge.{Edge}
use Rattle.jet_plan.specs.declared.vertex.Vertex.{Vertex}
use Rattle.jet_plan.specs.JobShape.{Leads}
use Rattle.jet_plan.specs.Names.{has_name}
use Rattle.jet_layout.specs.declared.end.EdgeEnd.{EdgeEnd}
use Rattle.jet_layout.specs.declared.joint.Joint.{Joint}
use Rattle.jet_layout.specs.Joints.{end_of, vertex_ends, output_number, input_number, nothing, numbered, joint, joint_of, joints_from, joints}
use Rattle.jet_layout.proofs.Counting.{none_fits}
use Rattle.jet_layout.proofs.Facts.{AreKnown}
use Rattle.jet_layout.proofs.Numbering.{before, end_at, found}
use Rattle.jet_layout.proofs.Places.{in_front, behind}

pub contains : {X : Type 0} (xs : List X) (k : ℕ) (x : X) → slice_get xs k ≡ Some x → Contains xs x
contains xs k x h = (k, slice_get_within xs k x h, get_or_from_slice_get xs k x x h)

pub same_name : (a b : List ℕ) → bytes_eq a b ≡ true → a ≡ b
same_name a b h = (bytes_eq-Decides a b).0 h

pub named : (a b : List ℕ) → a ≡ b → bytes_eq a b ≡ true
named a b h = (bytes_eq-Decides a b).1 h

somewhere : (p : Vertex → Bool) (xs : List Vertex) (x : Vertex) → Contains xs x → p x ≡ true → position p xs ≡ None → ⊥
somewhere p xs x (k, lt, at) h none =
    let far = none_fits (nat_lt (position_or_len p xs) (length xs)) (position_or_len p xs) (length xs) refl none in
    let fails : p x ≡ false = ap p (sym at) ∙ fails_before_first p xs k x (omega (arith, far, lt)) in
    cc (h, fails)

-- the joint is the edge e with the number n, from the vertex with the number giver to that with the number taken
pub record IsJoint (members : ℕ) (dag : Dag) (n : ℕ) (e : Edge) (j : Joint) : Type 0 where
  pub giver : ℕ
  pub taken : ℕ
  pub start : Vertex
  pub end : Vertex
  pub edge : slice_get dag.edges n ≡ Some e
  pub at_start : slice_get dag.vertices giver ≡ Some start
  pub at_end : slice_get dag.vertices taken ≡ Some end
  pub leads : Leads dag e start end
  pub number : j.edge ≡ n
  pub from : j.from ≡ end_of (before members dag.vertices giver) start (output_number dag.edges n e)
  pub to : j.to ≡ end_of (before members dag.vertices taken) end (input_number dag.edges n e)
  pub route : j.route ≡ e.route
  pub distributed : j.distributed ≡ e.distributed

made : (members : ℕ) (dag : Dag) (n : ℕ) (e : Edge) (u v : ℕ) → slice_get dag.edges n ≡ Some e → position (has_name e.from) dag.vertices ≡ Some u → position (has_name e.to) dag.vertices ≡ Some v
    → IsJoint members dag n e (joint dag.edges (vertex_ends members 0 dag.vertices) n e u v)
made members dag n e u v at from to =
    let giver = found (has_name e.from) dag.vertices u from in
    let taken = found (has_name e.to) dag.vertices v to in
    let start : 0 + before members dag.vertices u ≡ before members dag.vertices u = omega arith in
    let end : 0 + before members dag.vertices v ≡ before members dag.vertices v = omega arith in
    record {
      giver = u;
      taken = v;
      start = giver.0;
      end = taken.0;
      edge = at;
      at_start = giver.1;
      at_end = taken.1;
      leads = record {
        edge = contains dag.edges n e at;
        start = contains dag.vertices u giver.0 giver.1;
        end = contains dag.vertices v taken.0 taken.1;
        from = same_name (giver.0).name e.from giver.2;
        to = same_name (taken.0).name e.to taken.2;
      };
      number = refl;
      from = ap (λ d. numbered d (output_number dag.edges n e)) (end_at members 0 dag.vertices u nothing giver.0 giver.1) ∙ ap (λ f. end_of f giver.0 (output_number dag.edges n e)) start;
      to = ap (λ d. numbered d (input_number dag.edges n e)) (end_at members 0 dag.vertices v nothing taken.0 taken.1) ∙ ap (λ f. end_of f taken.0 (input_number dag.edges n e)) end;
      route = refl;
      distributed = refl;
    }

-- the elements xs are those with numbers from n on
abbrev pub IsRest : {X : Type 0} → List X → ℕ → List X → Type 0
IsRest {X} all n xs = (k : ℕ) (x : X) → slice_get xs k ≡ Some x → slice_get all (n + k) ≡ Some x

pub rest_head : {X : Type 0} (all : List X) (n : ℕ) (x : X) (xs : List X) → IsRest all n (x ∷ xs) → slice_get all n ≡ Some x
rest_head all n x xs h = let same : n ≡ n + 0 = omega arith in ap (slice_get all) same ∙ h 0 x refl

pub rest_tail : {X : Type 0} (all : List X) (n : ℕ) (x : X) (xs : List X) → IsRest all n (x ∷ xs) → IsRest all (n + 1) xs
rest_tail all n x xs h k d at = let same : n + 1 + k ≡ n + suc k = omega arith in ap (slice_get all) same ∙ h (suc k) d at

pub rest_all : {X : Type 0} (all : List X) → IsRest all 0 all
rest_all all k d at = let same : 0 + k ≡ k = omega arith in ap (slice_get all) same ∙ at

pub rest_front : {X : Type 0} (all : List X) (n : ℕ) (xs ys : List X) → IsRest all n (xs ++ ys) → IsRest all n xs
rest_front all n xs ys h k d at = h k d (in_front xs ys k d at)

pub rest_behind : {X : Type 0} (all : List X) (n : ℕ) (xs ys : List X) → IsRest all n (xs ++ ys) → IsRest all (n + length xs) ys
rest_behind all n xs ys h k d at = let same : n + length xs + k ≡ n + (length xs + k) = omega arith in ap (slice_get all) same ∙ h (length xs + k) d (behind xs ys k (length xs + k) refl ∙ at)

module _ (members : ℕ) (dag : Dag) (known : AreKnown dag) where
  abbrev ends : List EdgeEnd
  ends = vertex_ends members 0 dag.vertices

  made_by : (n : ℕ) (e : Edge) → slice_get dag.edges n ≡ Some e → (o q : Option ℕ) → position (has_name e.from) dag.vertices ≡ o → position (has_name e.to) dag.vertices ≡ q
      → (j : Joint) × (joint_of dag.vertices dag.edges ends n e ≡ Some j) × IsJoint members dag n e j
  made_by n e at None q from to =
      let is = known e (contains dag.edges n e at) in
      let leads = is.2 in
      absurd (somewhere (has_name e.from) dag.vertices is.0 leads.start (named (is.0).name e.from leads.from) from)
  made_by n e at (Some u) None from to =
      let is = known e (contains dag.edges n e at) in
      let leads = is.2 in
      absurd (somewhere (has_name e.to) dag.vertices is.1 leads.end (named (is.1).name e.to leads.to) to)
  made_by n e at (Some u) (Some v) from to = (joint dag.edges ends n e u v, (rw from (rw to refl)), made members dag n e u v at from to)

  -- each edge has a joint
  pub make : (n : ℕ) (e : Edge) → slice_get dag.edges n ≡ Some e → (j : Joint) × (joint_of dag.vertices dag.edges ends n e ≡ Some j) × IsJoint members dag n e j
  make n e at = made_by n e at (position (has_name e.from) dag.vertices) (position (has_name e.to) dag.vertices) refl refl

  pub next_joint : (n : ℕ) (e : Edge) (es : List Edge) (at : slice_get dag.edges n ≡ Some e) → joints_from dag.vertices dag.edges ends n (e ∷ es) ≡ (make n e at).0 ∷ joints_from dag.vertices dag.edges ends (n + 1) es
  next_joint n e es at = ap (λ o. option_map_or (λ j. j ∷ []) o [] ++ joints_from dag.vertices dag.edges ends (n + 1) es) (make n e at).1

  -- each joint is an edge
  abbrev pub IsSomeEdge : Joint → Type 0
  IsSomeEdge j = (n : ℕ) × (e : Edge) × IsJoint members dag n e j

  are_edges : (n : ℕ) (es : List Edge) → IsRest dag.edges n es → All IsSomeEdge (joints_from dag.vertices dag.edges ends n es)
  are_edges n [] h = All-nil IsSomeEdge
  are_edges n (e ∷ es) h =
      let at = rest_head dag.edges n e es h in
      let more = joints_from dag.vertices dag.edges ends (n + 1) es in
      All-same IsSomeEdge (joints_from dag.vertices dag.edges ends n (e ∷ es)) ((make n e at).0 ∷ more) (next_joint n e es at)
      (All-cons IsSomeEdge (make n e at).0 more (n, e, (make n e at).2) (are_edges (n + 1) es (rest_tail dag.edges n e es h)))

  pub joints_are_edges : All IsSomeEdge (joints members dag)
  joints_are_edges = are_edges 0 dag.edges (rest_all dag.edges)
