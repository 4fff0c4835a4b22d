-- The shape of a valid job, from the faults that it lacks.
use Rattle.std.proofs.Common.{◌≡◌, ◌≢◌, ℕ, zero, suc, ◌+◌, ◌<◌, ◌==◌, ◌⊎◌, inl, inr, Bool, true, false, cond, not, ◌&&◌, ◌||◌, List, [], ◌∷◌, ◌++◌, length, get_or, take, None, position, refl, sym, ◌∙◌, ap, subst, arith, nat_lt}
use Rattle.std.specs.Prelude.{count_by, int_lt, pos, negsuc, ℤ, unsigned_abs, if◌then◌else◌}
use Rattle.std.specs.Str.{bytes_eq}
use Rattle.std.specs.List.{list_any, enumerate_from, Contains, AllPairs}
use Rattle.std.specs.Option.{option_or}
use Rattle.std.proofs.lemmas.Bool.{cases_order}
use Rattle.std.proofs.lemmas.Bool.Decides.{nat_tests, eqb_tells}
use Rattle.std.proofs.lemmas.List.{get_or_default, get_or-take, length-take}
use Rattle.std.proofs.lemmas.List.Folds.{Any-from_list_any, list_any-from_Any}
use Rattle.std.proofs.lemmas.List.FromFn.{length-enumerate_from, get_or-enumerate_from}
use Rattle.std.proofs.lemmas.List.Recursion.{is_count_by}
use Rattle.std.proofs.lemmas.Slice.Eq.{bytes_eq-Decides}
use Rattle.jet_plan.specs.declared.edge.Edge.{Edge}
use Rattle.jet_plan.specs.declared.vertex.Vertex.{Vertex}
use Rattle.jet_plan.specs.declared.kind.Kind.{Kind}
use Rattle.jet_plan.specs.declared.kind.Kind.TheVariants.{Source, Side, Join, Accumulate, Combine, Sink}
use Rattle.jet_plan.specs.declared.dag.Dag.{Dag}
use Rattle.jet_plan.specs.declared.settings.Settings.{Settings}
use Rattle.jet_plan.specs.declared.setting_name.SettingName.TheVariants.{Members}
use Rattle.jet_plan.specs.declared.fault.PlanFault.TheVariants.{DoubleName, Setting, SinkCount, WrongInputs, WrongOutputs, WindowPath, SideMixed, IsolatedDistributed, BroadcastData, NotGathered}
use Rattle.jet_plan.specs.Ends.{sinks, builds_into, streams_into, edges_from, may_have_inputs, may_have_outputs, has_wrong_inputs, has_wrong_outputs}
use Rattle.jet_plan.specs.Faults.{shape_faults, end_faults, edge_faults, range_faults, large_faults, fault}
use Rattle.jet_plan.specs.First.{at_first}
use Rattle.jet_plan.specs.Gathering.{is_isolated_distributed, broadcasts_events, meets_partitions, crosses_members, is_not_gathered}
use Rattle.jet_plan.specs.JobShape.{sends_events, takes_events, Leads, MeetsPartitions, VertexShape, EdgeShape, RouteShape, JobShape}
use Rattle.jet_plan.specs.Kinds.{reads_files, is_side, is_join, is_accumulate, is_combine, is_sink, is_isolated, is_partitioned, is_broadcast}
use Rattle.jet_plan.specs.Names.{has_name, is_double, first_double, end_is, AreKnown}
use Rattle.jet_plan.specs.Paths.{leaves_window_path, mixes_sides}
use Rattle.jet_plan.specs.SettingRanges.{is_between, wrong_setting, wrong_size, wrong_limit, wrong_grant, size_settings}
use Rattle.jet_plan.proofs.CheckLaws.{none_each, not_true, not_mapped, not_not, option_none, group_none, after_shape, after_edges, valid_shaped, valid_acyclic}
use Rattle.jet_plan.proofs.CycleLaws.{true_false, not_any, both, same_name, known_end, no_long_walk}
use Rattle.jet_plan.proofs.Rounds.{or_false}
use Rattle.jet_plan.proofs.Unknowns.{none_passes}

-- ---- tests

-- where none is told, each element fails the test
fails : {X Y : Type 0} (f : ℕ → Y) (p : X → Bool) (xs : List X) → at_first f p xs ≡ None → (x : X) → Contains xs x → p x ≡ false
fails f p xs h = not_any xs p (none_passes p xs (sym (not_mapped f (position p xs) h)))

passes : {X : Type 0} (xs : List X) (p : X → Bool) (x : X) → Contains xs x → p x ≡ true → list_any p xs ≡ true
passes xs p x there is = list_any-from_Any p xs (there.0, x, there.1, there.2, is)

both_true : (a b : Bool) → a ≡ true → b ≡ true → (a && b) ≡ true
both_true true b x y = y
both_true false b x y = absurd (cc x)

second_false : (a b : Bool) → (a && b) ≡ false → a ≡ true → b ≡ false
second_false true b h is = h
second_false false b h is = absurd (cc is)

implied : (a b : Bool) → (a && not b) ≡ false → a ≡ true → b ≡ true
implied true true h is = refl
implied true false h is = absurd (cc h)
implied false b h is = absurd (cc is)

same : (a b : Bool) → (a ≡ true → b ≡ true) → (b ≡ true → a ≡ true) → a ≡ b
same true b f g = sym (f refl)
same false true f g = g refl
same false false f g = refl

or_left : (a b : Bool) → a ≡ true → (a || b) ≡ true
or_left true b h = refl
or_left false b h = absurd (cc h)

or_right : (a b : Bool) → b ≡ true → (a || b) ≡ true
or_right true b h = refl
or_right false b h = h

is_equal : (m n : ℕ) → (m == n) ≡ true → m ≡ n
is_equal m n h = elim (eqb_tells m n) [
  | inl e ↦ e.1
  | inr e ↦ absurd (true_false (sym h ∙ e.0))
]

is_less : (m n : ℕ) → nat_lt m n ≡ true → m < n
is_less m n h = grind (arith, nat_tests)

named : (a b : List ℕ) → a ≡ b → bytes_eq a b ≡ true
named a b h = (bytes_eq-Decides a b).1 h

-- ---- counts

abbrev tally : {X : Type 0} → (X → Bool) → List X → ℕ
tally p [] = 0
tally p (x ∷ xs) = cond (p x) (1 + tally p xs) (tally p xs)

one_more : (n : ℕ) (b : Bool) → b ≡ true → 0 < cond b (1 + n) n
one_more n true is = omega arith
one_more n false is = absurd (cc is)

no_fewer : (n : ℕ) (b : Bool) → 0 < n → 0 < cond b (1 + n) n
no_fewer n true h = omega arith
no_fewer n false h = h

tallied : {X : Type 0} (p : X → Bool) (xs : List X) (x : X) → Contains xs x → p x ≡ true → 0 < tally p xs
tallied p [] x there is = absurd (omega (arith, there.1))
tallied p (y ∷ xs) x (zero, lt, at) is = let here : y ≡ x = at in one_more (tally p xs) (p y) (ap p here ∙ is)
tallied p (y ∷ xs) x (suc k, lt, at) is = no_fewer (tally p xs) (p y) (tallied p xs x (k, omega (arith, lt), at) is)

-- one that passes is counted
counted : {X : Type 0} (p : X → Bool) (xs : List X) (x : X) → Contains xs x → p x ≡ true → 0 < count_by p xs
counted p xs x there is = subst (λ (n : ℕ). 0 < n) (is_count_by (tally p) p refl (λ x xs. refl) xs) (tallied p xs x there is)

-- ---- vertices by their names

abbrev AreApart : List Vertex → Type 0
AreApart vertices = AllPairs (λ u v. u.name ≢ v.name) vertices

names_differ : (vertices : List Vertex) → first_double vertices ≡ None → AreApart vertices
names_differ vertices h i j d lt within = λ alike.
    let u = get_or vertices i d in
    let v = get_or vertices j d in
    let earlier : i < length (take j vertices) = let l = length-take j vertices in omega (arith, l, lt, within) in
    let at : get_or (take j vertices) i u ≡ u = get_or-take j vertices i u lt ∙ get_or_default vertices i u d (omega (arith, lt, within)) in
    let double : list_any (has_name v.name) (take j vertices) ≡ true = list_any-from_Any (has_name v.name) (take j vertices) (i, u, earlier, at, named u.name v.name alike) in
    let place : get_or (enumerate_from 0 vertices) j (j, v) ≡ (j, v) =
    get_or-enumerate_from 0 vertices j (j, v) within ∙ (ap (λ (n : ℕ). (n, get_or vertices j v)) (omega arith) ∙ ap (λ (w : Vertex). (j, w)) (get_or_default vertices j v d within)) in
    let long : j < length (enumerate_from 0 vertices) = let l = length-enumerate_from 0 vertices in omega (arith, l, within) in
    true_false (sym (list_any-from_Any (is_double vertices) (enumerate_from 0 vertices) (j, (j, v), long, place, double)) ∙ none_passes (is_double vertices) (enumerate_from 0 vertices) (sym h))

-- a name has one vertex
same_vertex : (vertices : List Vertex) → AreApart vertices → (u v : Vertex) → Contains vertices u → Contains vertices v → u.name ≡ v.name → u ≡ v
same_vertex vertices apart u v (i, lt_i, at_i) (j, lt_j, at_j) alike = by_order (cases_order i j) where
  at : get_or vertices j u ≡ v
  at = get_or_default vertices j u v lt_j ∙ at_j

  by_order : (i ≡ j) ⊎ ((i < j) ⊎ (j < i)) → u ≡ v
  by_order (inl e) = sym at_i ∙ (ap (λ k. get_or vertices k u) e ∙ at)
  by_order (inr (inl lt)) = absurd (apart i j u lt lt_j (ap (λ (w : Vertex). w.name) at_i ∙ (alike ∙ sym (ap (λ (w : Vertex). w.name) at))))
  by_order (inr (inr lt)) = absurd (apart j i u lt lt_i (ap (λ (w : Vertex). w.name) at ∙ (sym alike ∙ sym (ap (λ (w : Vertex). w.name) at_i))))

-- what is asked of the vertex of a name is asked of the one vertex that has it
end_kind : (dag : Dag) → AreApart dag.vertices → (p : Kind → Bool) (v : Vertex) (name : List ℕ) → Contains dag.vertices v → v.name ≡ name → end_is dag p name ≡ p v.kind
end_kind dag apart p v name there is =
    same (end_is dag p name) (p v.kind)
    (λ h.
    let found = Any-from_list_any (λ w. has_name name w && p w.kind) dag.vertices h in
    let parts = both (has_name name found.1) (p (found.1).kind) found.4 in
    let one : found.1 ≡ v = same_vertex dag.vertices apart found.1 v (found.0, found.2, found.3) there (same_name (found.1).name name parts.0 ∙ sym is) in
    subst (λ (w : Vertex). p w.kind ≡ true) one parts.1)
    (λ h. passes dag.vertices (λ w. has_name name w && p w.kind) v there (both_true (bytes_eq v.name name) (p v.kind) (named v.name name is) h))

named_vertex : (vertices : List Vertex) (name : List ℕ) → list_any (has_name name) vertices ≡ true → (v : Vertex) × Contains vertices v × (v.name ≡ name)
named_vertex vertices name h = let found = Any-from_list_any (has_name name) vertices h in (found.1, (found.0, found.2, found.3), same_name (found.1).name name found.4)

-- ---- kinds

one_build : (m n : ℕ) → (nat_lt 0 n && m == 1) ≡ true → (m ≡ 1) × (0 < n)
one_build m n h = let parts = both (nat_lt 0 n) (m == 1) h in (is_equal m 1 parts.1, is_less 0 n parts.0)

no_build : (m : ℕ) (b : Bool) → (b && m == 0) ≡ true → 0 < m → ⊥
no_build m b h more = let e = is_equal m 0 (both b (m == 0) h).1 in omega (arith, e, more)

join_inputs : (k : Kind) (n m : ℕ) → may_have_inputs k n m ≡ true → is_join k ≡ true → (m ≡ 1) × (0 < n)
join_inputs (Join mode rekey fields) n m h is = one_build m n h
join_inputs kind n m h is = absurd (cc is)

combine_inputs : (k : Kind) (n m : ℕ) → may_have_inputs k n m ≡ true → is_combine k ≡ true → (n ≡ 1) × (m ≡ 0)
combine_inputs Combine n m h is = let parts = both (n == 1) (m == 0) h in (is_equal n 1 parts.0, is_equal m 0 parts.1)
combine_inputs kind n m h is = absurd (cc is)

join_by_build : (k : Kind) (n m : ℕ) → may_have_inputs k n m ≡ true → 0 < m → is_join k ≡ true
join_by_build (Source files lag) n m h more = absurd (no_build m (n == 0) h more)
join_by_build (Side file) n m h more = absurd (no_build m (n == 0) h more)
join_by_build (Join mode rekey fields) n m h more = refl
join_by_build Combine n m h more = absurd (no_build m (n == 1) h more)
join_by_build kind n m h more = absurd (no_build m (nat_lt 0 n) h more)

one_is_more : (n : ℕ) → (n == 1) ≡ true → 0 < n
one_is_more n h = let e = is_equal n 1 h in omega (arith, e)

no_stream : (n m : ℕ) → (n == 0 && m == 0) ≡ true → 0 < n + m → ⊥
no_stream n m h more = let parts = both (n == 0) (m == 0) h in let a = is_equal n 0 parts.0 in let b = is_equal m 0 parts.1 in omega (arith, a, b, more)

no_file : (k : Kind) (n m : ℕ) → may_have_inputs k n m ≡ true → 0 < n + m → reads_files k ≡ false
no_file (Source files lag) n m h more = absurd (no_stream n m h more)
no_file (Side file) n m h more = absurd (no_stream n m h more)
no_file kind n m h more = refl

has_stream : (k : Kind) (n m : ℕ) → may_have_inputs k n m ≡ true → reads_files k ≡ false → 0 < n
has_stream (Source files lag) n m h is = absurd (cc is)
has_stream (Side file) n m h is = absurd (cc is)
has_stream (Join mode rekey fields) n m h is = (one_build m n h).1
has_stream Combine n m h is = one_is_more n (both (n == 1) (m == 0) h).0
has_stream kind n m h is = is_less 0 n (both (nat_lt 0 n) (m == 0) h).0

no_sink : (k : Kind) (n : ℕ) → may_have_outputs k n ≡ true → 0 < n → is_sink k ≡ false
no_sink Sink n h more = let e = is_equal n 0 h in absurd (omega (arith, e, more))
no_sink kind n h more = refl

-- an edge into a vertex is a build edge or a stream edge
either_way : (edges : List Edge) (name : List ℕ) (e : Edge) → Contains edges e → bytes_eq e.to name ≡ true → (b : Bool) → e.build ≡ b → 0 < streams_into edges name + builds_into edges name
either_way edges name e there to true is =
    let n = counted (λ e. bytes_eq e.to name && e.build) edges e there (both_true (bytes_eq e.to name) e.build to is) in
    omega (arith, n)
either_way edges name e there to false is =
    let n = counted (λ e. bytes_eq e.to name && not e.build) edges e there (both_true (bytes_eq e.to name) (not e.build) to (ap not is)) in
    omega (arith, n)

has_output : (k : Kind) (n : ℕ) → may_have_outputs k n ≡ true → is_sink k ≡ false → 0 < n
has_output (Accumulate size slide) n h is = one_is_more n h
has_output Combine n h is = one_is_more n h
has_output Sink n h is = absurd (cc is)
has_output kind n h is = is_less 0 n h

sends : (k : Kind) (n : ℕ) → may_have_outputs k n ≡ true → 0 < n → is_side k ≡ false → is_accumulate k ≡ false → is_combine k ≡ false → sends_events k ≡ true
sends (Side file) n h more side gathers rows = absurd (cc side)
sends (Accumulate size slide) n h more side gathers rows = absurd (cc gathers)
sends Combine n h more side gathers rows = absurd (cc rows)
sends Sink n h more side gathers rows = let e = is_equal n 0 h in absurd (omega (arith, e, more))
sends kind n h more side gathers rows = refl

takes : (k : Kind) → takes_events k ≡ true → (is_combine k ≡ false) × (is_sink k ≡ false)
takes (Source files lag) h = absurd (cc h)
takes (Side file) h = absurd (cc h)
takes Combine h = absurd (cc h)
takes Sink h = absurd (cc h)
takes kind h = (refl, refl)

-- ---- a job without a fault

record Faultless (dag : Dag) (s : Settings) : Type 0 where
  apart : AreApart dag.vertices
  known : AreKnown dag.vertices dag.edges
  one_sink : sinks dag.vertices ≡ 1
  inputs : (v : Vertex) → Contains dag.vertices v → has_wrong_inputs dag.edges v ≡ false
  outputs : (v : Vertex) → Contains dag.vertices v → has_wrong_outputs dag.edges v ≡ false
  path : (e : Edge) → Contains dag.edges e → leaves_window_path dag e ≡ false
  mixed : (v : Vertex) → Contains dag.vertices v → mixes_sides dag.edges v ≡ false
  isolated : (e : Edge) → Contains dag.edges e → is_isolated_distributed e ≡ false
  broadcast : (e : Edge) → Contains dag.edges e → broadcasts_events e ≡ false
  gathered : (e : Edge) → Contains dag.edges e → is_not_gathered dag s e ≡ false
  members : is_between 1 4 s.members ≡ true

no_double : (dag : Dag) (s : Settings) → fault dag s ≡ None → first_double dag.vertices ≡ None
unfolding shape_faults
no_double dag s h =
    let rest = end_faults dag ++ (edge_faults dag s ++ (range_faults dag s ++ large_faults dag s)) in
    let none = none_each (shape_faults dag) (group_none (shape_faults dag) rest h).0 in
    not_mapped DoubleName (first_double dag.vertices) none.1.1.0

in_range : (dag : Dag) (s : Settings) → fault dag s ≡ None → is_between 1 4 s.members ≡ true
unfolding range_faults
in_range dag s h =
    let none = none_each (range_faults dag s) (group_none (range_faults dag s) (large_faults dag s) (after_edges dag s h)).0 in
    let sizes = none_each (size_settings s) (option_none (wrong_size s) (option_or (wrong_limit s) (wrong_grant s)) (not_mapped Setting (wrong_setting s) none.1.1.0)) in
    not_not (is_between 1 4 s.members) (not_true (not (is_between 1 4 s.members)) Members sizes.1.0)

faultless : (dag : Dag) (s : Settings) → fault dag s ≡ None → Faultless dag s
unfolding end_faults edge_faults
faultless dag s h =
    let ends = group_none (end_faults dag) (edge_faults dag s ++ (range_faults dag s ++ large_faults dag s)) (after_shape dag s h) in
    let at_ends = none_each (end_faults dag) ends.0 in
    let at_edges = none_each (edge_faults dag s) (group_none (edge_faults dag s) (range_faults dag s ++ large_faults dag s) ends.1).0 in
    record {
      apart = names_differ dag.vertices (no_double dag s h);
      known = (valid_shaped dag s h).known;
      one_sink = is_equal (sinks dag.vertices) 1 (not_not (sinks dag.vertices == 1) (not_true (not (sinks dag.vertices == 1)) (SinkCount (sinks dag.vertices)) at_ends.1.0));
      inputs = fails WrongInputs (has_wrong_inputs dag.edges) dag.vertices at_ends.1.1.0;
      outputs = fails WrongOutputs (has_wrong_outputs dag.edges) dag.vertices at_ends.1.1.1.0;
      path = fails WindowPath (leaves_window_path dag) dag.edges at_edges.0;
      mixed = fails SideMixed (mixes_sides dag.edges) dag.vertices at_edges.1.0;
      isolated = fails IsolatedDistributed is_isolated_distributed dag.edges at_edges.1.1.0;
      broadcast = fails BroadcastData broadcasts_events dag.edges at_edges.1.1.1.0;
      gathered = fails NotGathered (is_not_gathered dag s) dag.edges at_edges.1.1.1.1.0;
      members = in_range dag s h;
    }

-- ---- what is not so of an edge

path_parts : (dag : Dag) (e : Edge) → leaves_window_path dag e ≡ false
    → (end_is dag is_sink e.to ≡ true → end_is dag is_combine e.from ≡ true) × (end_is dag is_accumulate e.from ≡ true → end_is dag is_combine e.to ≡ true)
    × (end_is dag is_combine e.to ≡ true → end_is dag is_accumulate e.from ≡ true) × (end_is dag is_combine e.from ≡ true → end_is dag is_sink e.to ≡ true)
path_parts dag e h =
    let sink = end_is dag is_sink e.to in
    let rows = end_is dag is_combine e.from in
    let frames = end_is dag is_accumulate e.from in
    let combine = end_is dag is_combine e.to in
    let a = or_false ((sink && not rows) || (frames && not combine) || (combine && not frames)) (rows && not sink) h in
    let b = or_false ((sink && not rows) || (frames && not combine)) (combine && not frames) a.0 in
    let c = or_false (sink && not rows) (frames && not combine) b.0 in
    (implied sink rows c.0, implied frames combine c.1, implied combine frames b.1, implied rows sink a.1)

gathered_parts : (dag : Dag) (s : Settings) (e : Edge) → is_not_gathered dag s e ≡ false
    → ((end_is dag is_combine e.to && not (is_partitioned e.route)) ≡ false) × ((e.build && not (is_broadcast e.route || is_partitioned e.route)) ≡ false)
    × ((meets_partitions dag e && not (is_partitioned e.route)) ≡ false) × ((int_lt (pos 1) s.members && not e.distributed && crosses_members dag e) ≡ false)
gathered_parts dag s e h =
    let rows = end_is dag is_combine e.to && not (is_partitioned e.route) in
    let builds = e.build && not (is_broadcast e.route || is_partitioned e.route) in
    let joins = meets_partitions dag e && not (is_partitioned e.route) in
    let far = int_lt (pos 1) s.members && not e.distributed && crosses_members dag e in
    let a = or_false (rows || builds || joins) far h in
    let b = or_false (rows || builds) joins a.0 in
    let c = or_false rows builds b.0 in
    (c.0, c.1, b.1, a.1)

stream_once : (all build : Bool) → (all && not build) ≡ false → build ≡ false → all ≡ false
stream_once true true h is = absurd (cc is)
stream_once true false h is = absurd (cc h)
stream_once false build h is = refl

any_first : (a b c d : Bool) → (a || b || c) ≡ true → (a || b || c || d) ≡ true
any_first true b c d h = refl
any_first false true c d h = refl
any_first false false true d h = refl
any_first false false false d h = absurd (cc h)

third : (a b c d : Bool) → c ≡ true → (a || b || c || d) ≡ true
third a b c d is = or_left (a || b || c) d (or_right (a || b) c is)

fourth : (a b c d : Bool) → d ≡ true → (a || b || c || d) ≡ true
fourth a b c d is = or_right (a || b || c) d is

-- ---- the shape

build_is_side : (side build : Bool) → not (if side then build else not build) ≡ false → build ≡ side
build_is_side true true h = refl
build_is_side true false h = absurd (cc h)
build_is_side false true h = absurd (cc h)
build_is_side false false h = refl

spread : (several far crosses : Bool) → (several && not far && crosses) ≡ false → several ≡ true → crosses ≡ true → far ≡ true
spread true true crosses h m c = refl
spread true false true h m c = absurd (cc h)
spread true false false h m c = absurd (cc c)
spread false far crosses h m c = absurd (cc m)

several : (z : ℤ) → is_between 1 4 z ≡ true → 1 < unsigned_abs z → int_lt (pos 1) z ≡ true
several (pos n) h more = grind (arith, nat_tests)
several (negsuc n) h more = absurd (cc h)

module _ (dag : Dag) (s : Settings) (f : Faultless dag s) where
  may_enter : (v : Vertex) → Contains dag.vertices v → may_have_inputs v.kind (streams_into dag.edges v.name) (builds_into dag.edges v.name) ≡ true
  may_enter v there = not_not (may_have_inputs v.kind (streams_into dag.edges v.name) (builds_into dag.edges v.name)) (f.inputs v there)

  may_leave : (v : Vertex) → Contains dag.vertices v → may_have_outputs v.kind (edges_from dag.edges v.name) ≡ true
  may_leave v there = not_not (may_have_outputs v.kind (edges_from dag.edges v.name)) (f.outputs v there)

  vertex_shape : VertexShape dag
  vertex_shape =
      record {
        names = f.apart;
        sink = f.one_sink;
        joins = λ v there is. join_inputs v.kind (streams_into dag.edges v.name) (builds_into dag.edges v.name) (may_enter v there) is;
        combines = λ v there is. combine_inputs v.kind (streams_into dag.edges v.name) (builds_into dag.edges v.name) (may_enter v there) is;
        inputs = λ v there is. has_stream v.kind (streams_into dag.edges v.name) (builds_into dag.edges v.name) (may_enter v there) is;
        outputs = λ v there is. has_output v.kind (edges_from dag.edges v.name) (may_leave v there) is;
      }

  module _ (e : Edge) (u v : Vertex) (l : Leads dag e u v) where
    to_is : (p : Kind → Bool) → end_is dag p e.to ≡ p v.kind
    to_is p = end_kind dag f.apart p v e.to l.end l.to

    from_is : (p : Kind → Bool) → end_is dag p e.from ≡ p u.kind
    from_is p = end_kind dag f.apart p u e.from l.start l.from

    firsts_shape : reads_files v.kind ≡ false
    firsts_shape =
        no_file v.kind (streams_into dag.edges v.name) (builds_into dag.edges v.name) (may_enter v l.end)
        (either_way dag.edges v.name e l.edge (named e.to v.name (sym l.to)) e.build refl)

    leaves : 0 < edges_from dag.edges u.name
    leaves = counted (λ e. bytes_eq e.from u.name) dag.edges e l.edge (named e.from u.name (sym l.from))

    last_shape : is_sink u.kind ≡ false
    last_shape = no_sink u.kind (edges_from dag.edges u.name) (may_leave u l.start) leaves

    frames_shape : is_combine v.kind ≡ is_accumulate u.kind
    frames_shape =
        let parts = path_parts dag e (f.path e l.edge) in
        sym (to_is is_combine) ∙ (same (end_is dag is_combine e.to) (end_is dag is_accumulate e.from) parts.2 parts.1 ∙ from_is is_accumulate)

    rows_shape : is_sink v.kind ≡ is_combine u.kind
    rows_shape =
        let parts = path_parts dag e (f.path e l.edge) in
        sym (to_is is_sink) ∙ (same (end_is dag is_sink e.to) (end_is dag is_combine e.from) parts.0 parts.3 ∙ from_is is_combine)

    sides_shape : e.build ≡ is_side u.kind
    sides_shape =
        build_is_side (is_side u.kind) e.build
        (second_false (bytes_eq e.from u.name) (not (if is_side u.kind then e.build else not e.build))
        (not_any dag.edges (λ e. bytes_eq e.from u.name && not (if is_side u.kind then e.build else not e.build)) (f.mixed u l.start) e l.edge)
        (named e.from u.name (sym l.from)))

    builds_shape : e.build ≡ true → is_join v.kind ≡ true
    builds_shape is =
        join_by_build v.kind (streams_into dag.edges v.name) (builds_into dag.edges v.name) (may_enter v l.end)
        (counted (λ e. bytes_eq e.to v.name && e.build) dag.edges e l.edge (both_true (bytes_eq e.to v.name) e.build (named e.to v.name (sym l.to)) is))

    events_shape : e.build ≡ false → takes_events v.kind ≡ true → sends_events u.kind ≡ true
    events_shape stream taker =
        let no = takes v.kind taker in
        sends u.kind (edges_from dag.edges u.name) (may_leave u l.start) leaves (sym sides_shape ∙ stream) (sym frames_shape ∙ no.0) (sym rows_shape ∙ no.1)

  ends_shape : (e : Edge) → Contains dag.edges e → (u : Vertex) × (v : Vertex) × Leads dag e u v
  ends_shape e there =
      let ends = known_end dag.vertices dag.edges f.known e.from e.to (record { edge = e; there = there; leaves = refl; enters = refl }) in
      let u = named_vertex dag.vertices e.from ends.0 in
      let v = named_vertex dag.vertices e.to ends.1 in
      (u.0, v.0, record { edge = there; start = u.1; end = v.1; from = u.2; to = v.2 })

  edge_shape : EdgeShape dag
  edge_shape = record { ends = ends_shape; firsts = firsts_shape; last = last_shape; frames = frames_shape; rows = rows_shape; sides = sides_shape; builds = builds_shape; events = events_shape }

  -- a stream edge that goes where a partitioned build edge goes
  meets : (e : Edge) → e.build ≡ false → MeetsPartitions dag e → meets_partitions dag e ≡ true
  meets e stream m =
      let way = ends_shape m.other m.edge in
      let join : end_is dag is_join e.to ≡ true = end_kind dag f.apart is_join way.1 e.to way.2.end (way.2.to ∙ m.to) ∙ builds_shape m.other way.0 way.1 way.2 m.build in
      let one : list_any (λ b. b.build && bytes_eq b.to e.to && is_partitioned b.route) dag.edges ≡ true =
      passes dag.edges (λ b. b.build && bytes_eq b.to e.to && is_partitioned b.route) m.other m.edge (rw (m.build, named m.other.to e.to m.to, m.partitioned) refl) in
      rw (stream, join, one) refl

  crosses : (e : Edge) (u v : Vertex) → Leads dag e u v → (is_combine v.kind || is_sink v.kind || e.build) ≡ true → crosses_members dag e ≡ true
  crosses e u v l h = rw (to_is e u v l is_combine, to_is e u v l is_sink) (any_first (is_combine v.kind) (is_sink v.kind) e.build (meets_partitions dag e) h)

  met_crosses : (e : Edge) → MeetsPartitions dag e → (b : Bool) → e.build ≡ b → crosses_members dag e ≡ true
  met_crosses e m true is = third (end_is dag is_combine e.to) (end_is dag is_sink e.to) e.build (meets_partitions dag e) is
  met_crosses e m false is = fourth (end_is dag is_combine e.to) (end_is dag is_sink e.to) e.build (meets_partitions dag e) (meets e is m)

  route_shape : RouteShape dag s
  route_shape =
      record {
        streams = λ e there is. stream_once (is_broadcast e.route) e.build (f.broadcast e there) is;
        builds = λ e there is. implied e.build (is_broadcast e.route || is_partitioned e.route) (gathered_parts dag s e (f.gathered e there)).1 is;
        frames = λ e u v l is. implied (end_is dag is_combine e.to) (is_partitioned e.route) (gathered_parts dag s e (f.gathered e l.edge)).0 (to_is e u v l is_combine ∙ is);
        joined = λ e there is m. implied (meets_partitions dag e) (is_partitioned e.route) (gathered_parts dag s e (f.gathered e there)).2 (meets e is m);
        isolated = λ e there is. second_false (is_isolated e.route) e.distributed (f.isolated e there) is;
        gathered = λ e u v l more is.
            spread (int_lt (pos 1) s.members) e.distributed (crosses_members dag e) (gathered_parts dag s e (f.gathered e l.edge)).3 (several s.members f.members more) (crosses e u v l is);
        met = λ e there more m.
            spread (int_lt (pos 1) s.members) e.distributed (crosses_members dag e) (gathered_parts dag s e (f.gathered e there)).3 (several s.members f.members more) (met_crosses e m e.build refl);
      }

-- a valid job has its shape
pub job_shape : (dag : Dag) (s : Settings) → fault dag s ≡ None → JobShape dag s
job_shape dag s h =
    let f = faultless dag s h in
    record {
      vertices = vertex_shape dag s f;
      edges = edge_shape dag s f;
      routes = route_shape dag s f;
      walks = no_long_walk dag.vertices dag.edges (valid_acyclic dag s h);
    }
