-- The flow keeps the rule of each vertex, and whatever does is the flow.
use Rattle.std.proofs.Common.{◌≡◌, ℕ, List, [], ◌∷◌, true, length}
use Rattle.std.specs.Prelude.{Option, Some, None}
use Rattle.std.specs.List.{list_any, find}
use Rattle.std.specs.Option.{option_map_or}
use Rattle.jet_items.specs.Bag.{SameBag}
use Rattle.jet_items.specs.Joins.{joined}
use Rattle.jet_items.specs.Values.{EventValue}
use Rattle.jet_expr.specs.Flows.{mapped, passes}
use Rattle.jet_plan.specs.declared.vertex.Vertex.{Vertex}
use Rattle.jet_plan.specs.declared.dag.Dag.{Dag}
use Rattle.jet_plan.specs.declared.settings.Settings.{Settings}
use Rattle.jet_plan.specs.declared.kind.Kind.{Kind}
use Rattle.jet_plan.specs.declared.kind.Kind.TheVariants.{Source, Side, Map, Filter, Flat, Join, Accumulate, Combine, Sink}
use Rattle.jet_plan.specs.Along.{before}
use Rattle.jet_plan.specs.AlongLaws.{AreAlike, along_unique, along_keeps}
use Rattle.jet_plan.specs.Growth.{stream_edges}
use Rattle.jet_plan.specs.Names.{has_name}
use Rattle.jet_plan.specs.Plans.{IsValid}
use Rattle.jet_flow.specs.Flow.{Contents, flattened_by, joining, build_rows, leaving, flow_rule, flow, joined_up}
use Rattle.jet_items.proofs.Bags.{SameBag-refl, SameBag-sym, SameBag-trans, SameBag-append, SameBag-filter, SameBag-flat_map, SameBag-map}
use Rattle.jet_flow.proofs.Valid.{valid_known, valid_acyclic}
use Rattle.jet_flow.proofs.Walks.{no_stream_walk, streams_start_in}

-- bags that are alike, put together
alike_together : (xs ys : List (List EventValue)) → AreAlike SameBag xs ys → SameBag (joined_up xs) (joined_up ys)
alike_together [] [] h = SameBag-refl []
alike_together [] (y ∷ ys) h = absurd h
alike_together (x ∷ xs) [] h = absurd h
alike_together (x ∷ xs) (y ∷ ys) h = SameBag-append h.0 (alike_together xs ys h.1)

-- what leaves a vertex is told by the bag of what comes in
same_leaving : (files : Contents) (dag : Dag) (name : List ℕ) (kind : Kind) (xs ys : List EventValue) → SameBag xs ys
    → SameBag (leaving files dag name kind xs) (leaving files dag name kind ys)
same_leaving files dag name (Source names lag) xs ys h = SameBag-refl (files.events name)
same_leaving files dag name (Side file) xs ys h = SameBag-refl []
same_leaving files dag name (Map set) xs ys h = SameBag-map (mapped set) h
same_leaving files dag name (Filter test) xs ys h = SameBag-filter (passes test) h
same_leaving files dag name (Flat legs) xs ys h = SameBag-flat_map (flattened_by legs) h
same_leaving files dag name (Join mode rekey fields) xs ys h = SameBag-flat_map (joined (joining mode rekey fields) (build_rows files dag name)) h
same_leaving files dag name (Accumulate size slide) xs ys h = h
same_leaving files dag name Combine xs ys h = SameBag-refl []
same_leaving files dag name Sink xs ys h = SameBag-refl []

at_vertex : (files : Contents) (dag : Dag) (name : List ℕ) (o : Option Vertex) (xs ys : List EventValue) → SameBag xs ys
    → SameBag (option_map_or (λ v. leaving files dag name v.kind xs) o []) (option_map_or (λ v. leaving files dag name v.kind ys) o [])
at_vertex files dag name None xs ys h = SameBag-refl []
at_vertex files dag name (Some v) xs ys h = same_leaving files dag name v.kind xs ys h

same_rule : (files : Contents) (dag : Dag) (name : List ℕ) (xs ys : List (List EventValue)) → AreAlike SameBag xs ys → SameBag (flow_rule files dag name xs) (flow_rule files dag name ys)
same_rule files dag name xs ys h = at_vertex files dag name (find (has_name name) dag.vertices) (joined_up xs) (joined_up ys) (alike_together xs ys h)

-- the flow keeps the rule of each vertex
pub flow_keeps : (dag : Dag) (s : Settings) → IsValid dag s → (files : Contents) (name : List ℕ) → list_any (has_name name) dag.vertices ≡ true
    → SameBag (flow files dag name) (flow_rule files dag name (before (stream_edges dag) (flow files dag) name))
flow_keeps dag s valid files name here =
    along_keeps SameBag (stream_edges dag) (flow_rule files dag) [] (same_rule files dag) (length dag.vertices) name
    (no_stream_walk dag (valid_acyclic dag s valid) name here)

-- what keeps the rules is the flow
pub flow_only : (dag : Dag) (s : Settings) → IsValid dag s → (files : Contents) (sent : List ℕ → List EventValue)
    → ((name : List ℕ) → list_any (has_name name) dag.vertices ≡ true → SameBag (sent name) (flow_rule files dag name (before (stream_edges dag) sent name)))
    → (name : List ℕ) → list_any (has_name name) dag.vertices ≡ true → SameBag (sent name) (flow files dag name)
flow_only dag s valid files sent keeps name here =
    along_unique SameBag (λ x y z p q. SameBag-trans p q) (λ x y p. SameBag-sym p) (λ name. list_any (has_name name) dag.vertices) (stream_edges dag)
    (streams_start_in dag (valid_known dag s valid)) (flow_rule files dag) (same_rule files dag) sent (flow files dag) keeps (flow_keeps dag s valid files)
    (length dag.vertices) name here (no_stream_walk dag (valid_acyclic dag s valid) name here)
