-- No key that leaves a vertex is longer than its longest key.
use Rattle.std.proofs.Common.{◌≡◌, ℕ, zero, suc, ◌+◌, ◌≤◌, List, [], ◌∷◌, ◌++◌, Bool, true, false, length, map, filter, refl, arith, length-append, nat_lt}
use Rattle.std.specs.Prelude.{max, All, Option, Some, None, bytes_eq, ⊤, if◌then◌else◌}
use Rattle.std.specs.List.{AllByRecursion, find, list_any}
use Rattle.std.specs.Option.{option_map_or}
use Rattle.std.proofs.Math.Nat.{le-max_left, le-max_right}
use Rattle.std.proofs.lemmas.Bool.Decides.{nat_tests}
use Rattle.std.proofs.lemmas.List.Elements.{All-from_recursion, recursion_from_All}
use Rattle.jet_items.specs.Joins.{Joining, joined, joined_with, or_itself}
use Rattle.jet_items.specs.Values.{EventValue, SideValue}
use Rattle.jet_expr.specs.Flows.{mapped, passes, leg_event, tagged}
use Rattle.jet_plan.specs.declared.dag.Dag.{Dag}
use Rattle.jet_plan.specs.declared.edge.Edge.{Edge}
use Rattle.jet_plan.specs.declared.kind.Kind.{Kind}
use Rattle.jet_plan.specs.declared.kind.Kind.TheVariants.{Source, Side, Map, Filter, Flat, Join, Accumulate, Combine, Sink}
use Rattle.jet_plan.specs.declared.leg.LegSpec.{LegSpec}
use Rattle.jet_plan.specs.declared.mode.ModeSpec.TheVariants.{Inner, Left}
use Rattle.jet_plan.specs.declared.settings.Settings.{Settings}
use Rattle.jet_plan.specs.declared.vertex.Vertex.{Vertex}
use Rattle.jet_plan.specs.Along.{along, before}
use Rattle.jet_plan.specs.Graph.{edges_into}
use Rattle.jet_plan.specs.Growth.{stream_edges, by_kind, greatest, tag_length, longest_tag, longest_after, longest_rule, longest_key}
use Rattle.jet_plan.specs.Names.{has_name}
use Rattle.jet_plan.specs.Plans.{IsValid}
use Rattle.jet_flow.specs.Flow.{Contents, leg_value, flattened_by, joining, build_rows, leaving, joined_up, flow_rule, flow}
use Rattle.jet_flow.specs.Keys.{AreShort}
use Rattle.jet_flow.proofs.Each.{each_append, each_map, each_flat_map, each_filter, each_weaker, each_of, each_below}
use Rattle.jet_flow.proofs.Valid.{valid_keys}
use Rattle.jet_flow.proofs.Walks.{fails_at}

abbrev KeyWithin : ℕ → EventValue → Type 0
KeyWithin m e = length e.key ≤ m

abbrev LabelWithin : ℕ → SideValue → Type 0
LabelWithin m s = length s.label ≤ m

-- ---- legs

tag_within : (t : Option (List ℕ)) (key : List ℕ) (m n : ℕ) → length key ≤ m → option_map_or (λ tag. length tag) t 0 ≤ n → length (tagged ◌++◌ t key) ≤ m + n
tag_within None key m n h k = omega (arith, h)
tag_within (Some tag) key m n h k = omega (arith, h, k, length-append key tag)

legs_below : (legs : List LegSpec) (n : ℕ) → AllByRecursion (λ x. x ≤ n) (map (λ leg. tag_length leg) legs) → AllByRecursion (λ leg. option_map_or (λ tag. length tag) leg.tag 0 ≤ n) (map leg_value legs)
legs_below [] n h = tt
legs_below (leg ∷ legs) n h = (h.0, legs_below legs n h.1)

flat_within : (legs : List LegSpec) (m : ℕ) (e : EventValue) → KeyWithin m e → AllByRecursion (KeyWithin (m + longest_tag legs)) (flattened_by legs e)
flat_within legs m e h =
    each_map (λ leg. option_map_or (λ tag. length tag) leg.tag 0 ≤ longest_tag legs) (KeyWithin (m + longest_tag legs)) (leg_event ◌++◌ e) (λ leg k. tag_within leg.tag e.key m (longest_tag legs) h k) _
    (each_filter (λ leg. option_map_or (λ tag. length tag) leg.tag 0 ≤ longest_tag legs) (λ leg. passes leg.test e) (map leg_value legs)
    (legs_below legs (longest_tag legs) (each_below 0 (map (λ leg. tag_length leg) legs))))

-- ---- joins

or_within : (m : ℕ) (left : Bool) (e : EventValue) (xs : List EventValue) → (left ≡ true → KeyWithin m e) → AllByRecursion (KeyWithin m) xs → AllByRecursion (KeyWithin m) (or_itself left e xs)
or_within m true e [] own h = (own refl, tt)
or_within m false e [] own h = tt
or_within m left e (x ∷ xs) own h = h

join_within : (m : ℕ) (j : Joining) (rows : List SideValue) (e : EventValue) → (j.left ≡ true → KeyWithin m e) → ((s : SideValue) → LabelWithin 24 s → length (if j.rekey then s.label else e.key) ≤ m)
    → AllByRecursion (LabelWithin 24) rows → AllByRecursion (KeyWithin m) (joined j rows e)
join_within m j rows e own each h =
    or_within m j.left e _ own (each_map (LabelWithin 24) (KeyWithin m) (joined_with j e) each _ (each_filter (LabelWithin 24) (λ s. bytes_eq s.key e.key) rows h))

build_within : (files : Contents) (dag : Dag) (name : List ℕ) → AreShort files → AllByRecursion (LabelWithin 24) (build_rows files dag name)
build_within files dag name short =
    each_flat_map (λ e. ⊤) (LabelWithin 24) (λ e. files.rows e.from) (λ e t. recursion_from_All (LabelWithin 24) (files.rows e.from) (short.labels e.from)) _
    (each_of (λ e. ⊤) (λ e. tt) (filter (λ e. e.build) (edges_into name dag.edges)))

-- ---- what leaves a vertex

leaving_within : (files : Contents) (dag : Dag) (name : List ℕ) → AreShort files → (kind : Kind) (m : ℕ) (came : List EventValue) → AllByRecursion (KeyWithin m) came
    → AllByRecursion (KeyWithin (longest_after kind m)) (leaving files dag name kind came)
leaving_within files dag name short (Source names lag) m came h = recursion_from_All (KeyWithin 24) (files.events name) (short.keys name)
leaving_within files dag name short (Side file) m came h = tt
leaving_within files dag name short (Map set) m came h = each_map (KeyWithin m) (KeyWithin m) (mapped set) (λ e k. k) came h
leaving_within files dag name short (Filter test) m came h = each_filter (KeyWithin m) (passes test) came h
leaving_within files dag name short (Flat legs) m came h = each_flat_map (KeyWithin m) (KeyWithin (m + longest_tag legs)) (flattened_by legs) (flat_within legs m) came h
leaving_within files dag name short (Join Inner true fields) m came h =
    each_flat_map (KeyWithin m) (KeyWithin 24) (joined (joining Inner true fields) (build_rows files dag name))
    (λ e k. join_within 24 (joining Inner true fields) (build_rows files dag name) e (λ no. absurd (cc no)) (λ s l. l) (build_within files dag name short)) came h
leaving_within files dag name short (Join Left true fields) m came h =
    each_flat_map (KeyWithin m) (KeyWithin (max 24 m)) (joined (joining Left true fields) (build_rows files dag name))
    (λ e k. join_within (max 24 m) (joining Left true fields) (build_rows files dag name) e (λ yes. omega (arith, k, le-max_right 24 m)) (λ s l. omega (arith, l, le-max_left 24 m)) (build_within files dag name short)) came h
leaving_within files dag name short (Join Inner false fields) m came h =
    each_flat_map (KeyWithin m) (KeyWithin m) (joined (joining Inner false fields) (build_rows files dag name))
    (λ e k. join_within m (joining Inner false fields) (build_rows files dag name) e (λ no. absurd (cc no)) (λ s l. k) (build_within files dag name short)) came h
leaving_within files dag name short (Join Left false fields) m came h =
    each_flat_map (KeyWithin m) (KeyWithin m) (joined (joining Left false fields) (build_rows files dag name))
    (λ e k. join_within m (joining Left false fields) (build_rows files dag name) e (λ yes. k) (λ s l. k) (build_within files dag name short)) came h
leaving_within files dag name short (Accumulate size slide) m came h = h
leaving_within files dag name short Combine m came h = tt
leaving_within files dag name short Sink m came h = tt

found_within : (files : Contents) (dag : Dag) (name : List ℕ) → AreShort files → (o : Option Vertex) (ks : List ℕ) (came : List EventValue) → AllByRecursion (KeyWithin (greatest ks)) came
    → AllByRecursion (KeyWithin (option_map_or (λ v. longest_rule v.kind ks) o 0)) (option_map_or (λ v. leaving files dag name v.kind came) o [])
found_within files dag name short None ks came h = tt
found_within files dag name short (Some v) ks came h = leaving_within files dag name short v.kind (greatest ks) came h

-- ---- along the edges

together_within : (m : ℕ) (longest : List ℕ → ℕ) (sent : List ℕ → List EventValue) → ((name : List ℕ) → AllByRecursion (KeyWithin (longest name)) (sent name))
    → (into : List Edge) → AllByRecursion (λ k. k ≤ m) (map (λ e. longest e.from) into) → AllByRecursion (KeyWithin m) (joined_up (map (λ e. sent e.from) into))
together_within m longest sent each [] below = tt
together_within m longest sent each (e ∷ into) below =
    each_append (KeyWithin m) (sent e.from) _
    (each_weaker (KeyWithin (longest e.from)) (KeyWithin m) (λ x k. omega (arith, k, below.0)) (sent e.from) (each e.from))
    (together_within m longest sent each into below.1)

along_within : (files : Contents) (dag : Dag) → AreShort files → (n : ℕ) (name : List ℕ)
    → AllByRecursion (KeyWithin (along (stream_edges dag) (by_kind dag.vertices longest_rule 0) 0 n name)) (along (stream_edges dag) (flow_rule files dag) [] n name)
along_within files dag short zero name = tt
along_within files dag short (suc n) name =
    let longest = along (stream_edges dag) (by_kind dag.vertices longest_rule 0) 0 n in
    let ks = before (stream_edges dag) longest name in
    found_within files dag name short (find (has_name name) dag.vertices) ks _
    (together_within (greatest ks) longest (along (stream_edges dag) (flow_rule files dag) [] n) (along_within files dag short n) (edges_into name (stream_edges dag)) (each_below 0 ks))

-- ---- in a valid job

at_most : (m n : ℕ) → nat_lt m n ≡ false → n ≤ m
at_most m n h = grind (arith, nat_tests)

pub keys_within : (dag : Dag) (s : Settings) → IsValid dag s → (files : Contents) → AreShort files → (name : List ℕ) → list_any (has_name name) dag.vertices ≡ true
    → All (λ e. length e.key ≤ 40) (flow files dag name)
keys_within dag s valid files short name here =
    let most = at_most 40 (longest_key dag name) (fails_at (λ name. nat_lt 40 (longest_key dag name)) dag.vertices name (valid_keys dag s valid) here) in
    All-from_recursion (KeyWithin 40) (flow files dag name)
    (each_weaker (KeyWithin (longest_key dag name)) (KeyWithin 40) (λ e k. omega (arith, k, most)) (flow files dag name) (along_within files dag short (length dag.vertices) name))
