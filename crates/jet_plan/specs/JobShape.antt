-- The shape of a valid job: which edges lead from which vertices to which, and by which routes.
use Rattle.std.specs.Prelude.{◌≡◌, ◌≢◌, ℕ, ◌<◌, Bool, true, false, ◌||◌, List, length}
use Rattle.std.specs.List.{list_any, Contains, AllPairs}
use Rattle.jet_plan.specs.declared.edge.Edge.{Edge}
use Rattle.jet_plan.specs.declared.vertex.Vertex.{Vertex}
use Rattle.jet_plan.specs.declared.kind.Kind.{Kind}
use Rattle.jet_plan.specs.declared.kind.Kind.TheVariants.{Source, Side, Accumulate, Combine, Sink}
use Rattle.jet_plan.specs.declared.dag.Dag.{Dag}
use Rattle.jet_plan.specs.declared.settings.Settings.{Settings}
use Rattle.jet_plan.specs.Along.{has_walk}
use Rattle.jet_plan.specs.Ends.{sinks, builds_into, streams_into, edges_from}
use Rattle.jet_plan.specs.Kinds.{reads_files, is_side, is_join, is_accumulate, is_combine, is_sink, is_isolated, is_partitioned, is_broadcast}
use Rattle.jet_plan.specs.Names.{has_name}
use Rattle.jet_plan.specs.Rings.{members}

-- a vertex that sends events
abbrev pub sends_events : Kind → Bool
sends_events (Side file) = false
sends_events (Accumulate size slide) = false
sends_events Combine = false
sends_events Sink = false
sends_events _ = true

-- a vertex that takes events
abbrev pub takes_events : Kind → Bool
takes_events (Source files lag) = false
takes_events (Side file) = false
takes_events Combine = false
takes_events Sink = false
takes_events _ = true

-- the edge leads from the vertex u to the vertex v
pub record Leads (dag : Dag) (e : Edge) (u v : Vertex) : Type 0 where
  pub edge : Contains dag.edges e
  pub start : Contains dag.vertices u
  pub end : Contains dag.vertices v
  pub from : u.name ≡ e.from
  pub to : v.name ≡ e.to

-- the edge goes where a partitioned build edge goes too
pub record MeetsPartitions (dag : Dag) (e : Edge) : Type 0 where
  pub other : Edge
  pub edge : Contains dag.edges other
  pub to : other.to ≡ e.to
  pub build : other.build ≡ true
  pub partitioned : is_partitioned other.route ≡ true

-- vertices: their names differ, one is the sink, a join has one build edge, a combine vertex one edge, all but those that read files have a way in that is no build edge, and all but the sink have a way out
pub record VertexShape (dag : Dag) : Type 0 where
  pub names : AllPairs (λ u v. u.name ≢ v.name) dag.vertices
  pub sink : sinks dag.vertices ≡ 1
  pub joins : (v : Vertex) → Contains dag.vertices v → is_join v.kind ≡ true → (builds_into dag.edges v.name ≡ 1) × (0 < streams_into dag.edges v.name)
  pub combines : (v : Vertex) → Contains dag.vertices v → is_combine v.kind ≡ true → (streams_into dag.edges v.name ≡ 1) × (builds_into dag.edges v.name ≡ 0)
  pub inputs : (v : Vertex) → Contains dag.vertices v → reads_files v.kind ≡ false → 0 < streams_into dag.edges v.name
  pub outputs : (v : Vertex) → Contains dag.vertices v → is_sink v.kind ≡ false → 0 < edges_from dag.edges v.name

-- edges: each leads from a vertex to a vertex, none into one that reads files and none out of the sink; one into a combine vertex comes from an accumulate vertex and one into the sink from a combine vertex, and the other way round; side vertices have build edges alone, and they alone; a build edge goes into a join; and events come from what sends them
pub record EdgeShape (dag : Dag) : Type 0 where
  pub ends : (e : Edge) → Contains dag.edges e → (u : Vertex) × (v : Vertex) × Leads dag e u v
  pub firsts : (e : Edge) (u v : Vertex) → Leads dag e u v → reads_files v.kind ≡ false
  pub last : (e : Edge) (u v : Vertex) → Leads dag e u v → is_sink u.kind ≡ false
  pub frames : (e : Edge) (u v : Vertex) → Leads dag e u v → is_combine v.kind ≡ is_accumulate u.kind
  pub rows : (e : Edge) (u v : Vertex) → Leads dag e u v → is_sink v.kind ≡ is_combine u.kind
  pub sides : (e : Edge) (u v : Vertex) → Leads dag e u v → e.build ≡ is_side u.kind
  pub builds : (e : Edge) (u v : Vertex) → Leads dag e u v → e.build ≡ true → is_join v.kind ≡ true
  pub events : (e : Edge) (u v : Vertex) → Leads dag e u v → e.build ≡ false → takes_events v.kind ≡ true → sends_events u.kind ≡ true

-- routes: no stream edge is broadcast, and a build edge is broadcast or partitioned; edges into a combine vertex are partitioned, and where a build edge is, so are the stream edges of its join; no isolated edge is distributed, and with several members all edges are whose items belong together
pub record RouteShape (dag : Dag) (s : Settings) : Type 0 where
  pub streams : (e : Edge) → Contains dag.edges e → e.build ≡ false → is_broadcast e.route ≡ false
  pub builds : (e : Edge) → Contains dag.edges e → e.build ≡ true → (is_broadcast e.route || is_partitioned e.route) ≡ true
  pub frames : (e : Edge) (u v : Vertex) → Leads dag e u v → is_combine v.kind ≡ true → is_partitioned e.route ≡ true
  pub joined : (e : Edge) → Contains dag.edges e → e.build ≡ false → MeetsPartitions dag e → is_partitioned e.route ≡ true
  pub isolated : (e : Edge) → Contains dag.edges e → is_isolated e.route ≡ true → e.distributed ≡ false
  pub gathered : (e : Edge) (u v : Vertex) → Leads dag e u v → 1 < members s → (is_combine v.kind || is_sink v.kind || e.build) ≡ true → e.distributed ≡ true
  pub met : (e : Edge) → Contains dag.edges e → 1 < members s → MeetsPartitions dag e → e.distributed ≡ true

-- the shape of a job: that of its vertices, edges and routes, and no walk has as many edges as there are vertices
pub record JobShape (dag : Dag) (s : Settings) : Type 0 where
  pub vertices : VertexShape dag
  pub edges : EdgeShape dag
  pub routes : RouteShape dag s
  pub walks : (name : List ℕ) → list_any (has_name name) dag.vertices ≡ true → has_walk dag.edges (length dag.vertices) name ≡ false
