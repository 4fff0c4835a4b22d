-- The instances, rings and links of a plan.
use Rattle.std.specs.Prelude.{ℕ, zero, suc, ◌+◌, ◌*◌, ◌/◌, ◌^◌, ◌==◌, min, max, unsigned_abs, ◌||◌, List, sum_by, if◌then◌else◌}
use Rattle.std.specs.Int.{div_ceil}
use Rattle.std.specs.List.{find}
use Rattle.std.specs.Option.{option_map_or}
use Rattle.jet_plan.specs.declared.edge.Edge.{Edge}
use Rattle.jet_plan.specs.declared.vertex.Vertex.{Vertex}
use Rattle.jet_plan.specs.declared.route.Route.{Route}
use Rattle.jet_plan.specs.declared.dag.Dag.{Dag}
use Rattle.jet_plan.specs.declared.settings.Settings.{Settings}
use Rattle.jet_plan.specs.Kinds.{is_isolated, is_side, is_sink}
use Rattle.jet_plan.specs.Names.{has_name}
use Rattle.jet_plan.specs.Sizes.{files}

-- the sum of f over the numbers below n
abbrev pub sum_below : ℕ → (ℕ → ℕ) → ℕ
sum_below zero f = 0
sum_below (suc n) f = sum_below n f + f n

-- how many instances of a vertex stand on a member: a side vertex and the sink have one in all, on member 0
abbrev pub instances : Vertex → ℕ → ℕ
instances v m = if is_side v.kind || is_sink v.kind then (if m == 0 then 1 else 0) else v.parallelism

abbrev pub all_instances : ℕ → Vertex → ℕ
all_instances members v = sum_below members (instances v)

-- the rings between the instances of one member: a ring for each producer where each gives to one consumer, else one
-- for each producer and consumer
abbrev pub local_rings : Route → ℕ → ℕ → ℕ
local_rings route from to = if is_isolated route then (if from == 0 || to == 0 then 0 else from) else from * to

-- the link from a member to another one, where both have instances
abbrev pub link_count : ℕ → ℕ → ℕ
link_count from to = if from == 0 || to == 0 then 0 else 1

-- the rings into the sender of the link and out of its receiver
abbrev pub link_rings : ℕ → ℕ → ℕ
link_rings from to = if from == 0 || to == 0 then 0 else from + to

-- the sum of f over the pairs of members that differ
abbrev pub sum_pairs : ℕ → (ℕ → ℕ → ℕ) → ℕ
sum_pairs members f = sum_below members (λ m. sum_below members (λ k. if k == m then 0 else f m k))

-- the links of an edge from u to v
abbrev pub edge_links : ℕ → Edge → Vertex → Vertex → ℕ
edge_links members e u v = if e.distributed then sum_pairs members (λ m k. link_count (instances u m) (instances v k)) else 0

-- the rings of an edge from u to v
abbrev pub edge_rings : ℕ → Edge → Vertex → Vertex → ℕ
edge_rings members e u v = sum_below members (λ m. local_rings e.route (instances u m) (instances v m))
    + (if e.distributed then sum_pairs members (λ m k. link_rings (instances u m) (instances v k)) else 0)

-- f of the vertices at the ends of an edge
abbrev pub at_ends : List Vertex → (Vertex → Vertex → ℕ) → Edge → ℕ
at_ends vertices f e = option_map_or (λ u. option_map_or (λ v. f u v) (find (has_name e.to) vertices) 0) (find (has_name e.from) vertices) 0

abbrev pub rings_of : ℕ → List Vertex → Edge → ℕ
rings_of members vertices e = at_ends vertices (edge_rings members e) e

abbrev pub links_of : ℕ → List Vertex → Edge → ℕ
links_of members vertices e = at_ends vertices (edge_links members e) e

-- the number of members, and of the slots of a ring; a setting below 0 is refused before they count
abbrev pub members : Settings → ℕ
members s = unsigned_abs s.members

abbrev pub ring_slots : Settings → ℕ
ring_slots s = unsigned_abs s.ring

-- the bytes of a packet, and those that a link may send at the most before they are acknowledged
abbrev pub packet_bytes : Settings → ℕ
packet_bytes s = unsigned_abs s.packet

abbrev pub peak_bytes : Settings → ℕ
peak_bytes s = unsigned_abs s.peak

-- the rings of all edges, and one for each file
abbrev pub rings : Dag → Settings → ℕ
rings dag s = sum_by (rings_of (members s) dag.vertices) dag.edges + files dag.vertices

abbrev pub slots : Dag → Settings → ℕ
slots dag s = rings dag s * ring_slots s

abbrev pub links : Dag → Settings → ℕ
links dag s = sum_by (links_of (members s) dag.vertices) dag.edges

-- the instances of all vertices but the sink, and two for each link
abbrev pub tasklets : Dag → Settings → ℕ
tasklets dag s = sum_by (λ v. if is_sink v.kind then 0 else all_instances (members s) v) dag.vertices + 2 * links dag s

-- The buffers of each of so many links: a packet for each part of the peak, and one more to fill. There are 65536 at most,
-- and all links together take at most 2 ^ 30 bytes; four of each always fit.
abbrev pub buffers_each : ℕ → ℕ → ℕ → ℕ
buffers_each links packet peak = if links == 0 then 4 else max 4 (min (div_ceil peak packet + 1) (min 65536 ((2 ^ 30) / (links * packet))))

abbrev pub buffers : Dag → Settings → ℕ
buffers dag s = buffers_each (links dag s) (packet_bytes s) (peak_bytes s)
