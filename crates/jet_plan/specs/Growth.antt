-- What grows along the stream edges of a job: keys, by tags and labels, and the number of events.
use Rattle.std.specs.Prelude.{ℕ, ◌+◌, ◌*◌, max, Bool, true, not, List, length, map, filter, sum, fold}
use Rattle.std.specs.List.{list_any, find}
use Rattle.std.specs.Option.{option_map_or}
use Rattle.jet_plan.specs.declared.edge.Edge.{Edge}
use Rattle.jet_plan.specs.declared.vertex.Vertex.{Vertex}
use Rattle.jet_plan.specs.declared.leg.LegSpec.{LegSpec}
use Rattle.jet_plan.specs.declared.mode.ModeSpec.TheVariants.{Inner, Left}
use Rattle.jet_plan.specs.declared.kind.Kind.{Kind}
use Rattle.jet_plan.specs.declared.kind.Kind.TheVariants.{Source, Side, Map, Filter, Flat, Join, Accumulate, Combine, Sink}
use Rattle.jet_plan.specs.declared.dag.Dag.{Dag}
use Rattle.jet_plan.specs.Along.{along, has_walk}
use Rattle.jet_plan.specs.Names.{has_name}

-- a walk of as many edges as there are vertices goes in a circle
abbrev pub is_cyclic : Dag → Bool
is_cyclic dag = list_any (λ v. has_walk dag.edges (length dag.vertices) v.name) dag.vertices

abbrev pub streams : List Edge → List Edge
streams = filter (λ e. not e.build)

abbrev pub stream_edges : Dag → List Edge
stream_edges dag = streams dag.edges

-- a rule by kinds as one by names
abbrev pub by_kind : {X : Type 0} → List Vertex → (Kind → List X → X) → X → List ℕ → List X → X
by_kind vertices f other name xs = option_map_or (λ v. f v.kind xs) (find (has_name name) vertices) other

-- ---- keys

abbrev pub greatest : List ℕ → ℕ
greatest = fold max 0

abbrev pub tag_length : LegSpec → ℕ
tag_length leg = option_map_or (λ tag. length tag) leg.tag 0

abbrev pub longest_tag : List LegSpec → ℕ
longest_tag legs = greatest (map (λ leg. tag_length leg) legs)

-- the longest key that can leave a vertex, from the longest that can enter: a tag stands behind the key, and a label of
-- at most 24 bytes in its place
abbrev pub longest_after : Kind → ℕ → ℕ
longest_after (Source files lag) entering = 24
longest_after (Flat legs) entering = entering + longest_tag legs
longest_after (Join Inner true fields) entering = 24
longest_after (Join Left true fields) entering = max 24 entering
longest_after (Side file) entering = 0
longest_after Sink entering = 0
longest_after _ entering = entering

abbrev pub longest_rule : Kind → List ℕ → ℕ
longest_rule kind entering = longest_after kind (greatest entering)

-- the longest key at the vertex of this name, in bytes
abbrev pub longest_key : Dag → List ℕ → ℕ
longest_key dag = along (stream_edges dag) (by_kind dag.vertices longest_rule 0) 0 (length dag.vertices)

-- ---- events

-- how many events can leave a vertex at most for one that is read, from how many can enter
abbrev pub growth_after : Kind → ℕ → ℕ
growth_after (Source files lag) entering = 1
growth_after (Map set) entering = entering
growth_after (Filter test) entering = entering
growth_after (Flat legs) entering = entering * length legs
growth_after (Join mode rekey fields) entering = entering * 16
growth_after (Accumulate size slide) entering = entering
growth_after (Side file) entering = 0
growth_after Combine entering = 0
growth_after Sink entering = 0

-- one summand an edge
abbrev pub growth_rule : Kind → List ℕ → ℕ
growth_rule kind entering = growth_after kind (sum entering)

-- how many events at most leave the vertex of this name for one that is read
abbrev pub growth : Dag → List ℕ → ℕ
growth dag = along (stream_edges dag) (by_kind dag.vertices growth_rule 0) 0 (length dag.vertices)
