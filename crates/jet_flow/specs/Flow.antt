-- The bag of events that leaves each vertex of a job.
use Rattle.std.specs.Prelude.{ℕ, ◌%◌, ◌-◌, nat_lt, Bool, true, false, List, [], ◌++◌, length, map, filter, if◌then◌else◌}
use Rattle.std.specs.List.{flat_map, find}
use Rattle.std.specs.Option.{option_map_or}
use Rattle.jet_items.specs.Values.{EventValue, SideValue}
use Rattle.jet_items.specs.Joins.{Pick, Joining, joined}
use Rattle.jet_items.specs.Joins.Pick.{OfEvent, OfSide}
use Rattle.jet_expr.specs.Flows.{LegValue, mapped, passes, flattened}
use Rattle.jet_plan.specs.declared.dag.Dag.{Dag}
use Rattle.jet_plan.specs.declared.leg.LegSpec.{LegSpec}
use Rattle.jet_plan.specs.declared.mode.ModeSpec.{ModeSpec}
use Rattle.jet_plan.specs.declared.mode.ModeSpec.TheVariants.{Inner, Left}
use Rattle.jet_plan.specs.declared.kind.Kind.{Kind}
use Rattle.jet_plan.specs.declared.kind.Kind.TheVariants.{Source, Side, Map, Filter, Flat, Join, Accumulate, Combine, Sink}
use Rattle.jet_plan.specs.Graph.{edges_into}
use Rattle.jet_plan.specs.Along.{along, before}
use Rattle.jet_plan.specs.Growth.{stream_edges}
use Rattle.jet_plan.specs.Names.{has_name}

-- what the files of a job hold: by a vertex's name, the events of a source's files and the rows of a side vertex's file
pub record Contents : Type 0 where
  pub events : List ℕ → List EventValue
  pub rows : List ℕ → List SideValue

-- ---- what a vertex makes of one event

-- a leg as it acts on events
abbrev pub leg_value : LegSpec → LegValue
leg_value leg = record { test = leg.test; value = leg.value; tag = leg.tag }

-- the events that a flat vertex makes of one: a tag stands behind the key
abbrev pub flattened_by : List LegSpec → EventValue → List EventValue
flattened_by legs = flattened ◌++◌ (map leg_value legs)

-- fields 0 to 3 are the event's and 4 to 7 the row's; a number above 7 counts modulo 8
abbrev pub pick : ℕ → Pick
pick n = if nat_lt (n % 8) 4 then OfEvent (n % 8) else OfSide (n % 8 - 4)

abbrev pub is_left : ModeSpec → Bool
is_left Left = true
is_left Inner = false

-- a join as it acts on events
abbrev pub joining : ModeSpec → Bool → List ℕ → Joining
joining mode rekey fields = record { left = is_left mode; rekey = rekey; picks = map pick fields }

-- the rows that a join builds on: those of the files of its build inputs
abbrev pub build_rows : Contents → Dag → List ℕ → List SideValue
build_rows files dag name = flat_map (λ e. files.rows e.from) (filter (λ e. e.build) (edges_into name dag.edges))

-- ---- what a vertex makes of the events that come in

-- the events that leave a vertex of this name and kind
abbrev pub leaving : Contents → Dag → List ℕ → Kind → List EventValue → List EventValue
leaving files dag name (Source names lag) came = files.events name
leaving files dag name (Side file) came = []
leaving files dag name (Map set) came = map (mapped set) came
leaving files dag name (Filter test) came = filter (passes test) came
leaving files dag name (Flat legs) came = flat_map (flattened_by legs) came
leaving files dag name (Join mode rekey fields) came = flat_map (joined (joining mode rekey fields) (build_rows files dag name)) came
leaving files dag name (Accumulate size slide) came = came
leaving files dag name Combine came = []
leaving files dag name Sink came = []

-- ---- the flow

abbrev pub joined_up : {X : Type 0} → List (List X) → List X
joined_up = flat_map (λ xs. xs)

-- the rule of the vertex of this name: it makes its own of all the events that come in
abbrev pub flow_rule : Contents → Dag → List ℕ → List (List EventValue) → List EventValue
flow_rule files dag name came = option_map_or (λ v. leaving files dag name v.kind (joined_up came)) (find (has_name name) dag.vertices) []

-- the bag of events that leaves the vertex of this name
abbrev pub flow : Contents → Dag → List ℕ → List EventValue
flow files dag = along (stream_edges dag) (flow_rule files dag) [] (length dag.vertices)

-- the events that come in over its stream edges, one summand an edge
abbrev pub incoming : Contents → Dag → List ℕ → List EventValue
incoming files dag name = joined_up (before (stream_edges dag) (flow files dag) name)

-- the events that enter the window of a combine vertex: those that come into the accumulate vertex before it
abbrev pub enter : Contents → Dag → List ℕ → List EventValue
enter files dag name = flat_map (λ e. incoming files dag e.from) (edges_into name dag.edges)
