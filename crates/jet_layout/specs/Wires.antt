-- The rings of a deployed job, edge by edge: first those between instances of the same member, then those into and out of the
-- links of the edge.
use Rattle.std.specs.Prelude.{ℕ, ◌+◌, ◌*◌, ◌%◌, ◌==◌, List, [], ◌∷◌, ◌++◌, map, length, if◌then◌else◌}
use Rattle.std.specs.List.{flat_map, range_with_len}
use Rattle.jet_plan.specs.declared.route.Route.{Route}
use Rattle.jet_plan.specs.Kinds.{is_isolated}
use Rattle.jet_layout.specs.declared.joint.Joint.{Joint}
use Rattle.jet_layout.specs.declared.task.Link.{Link}
use Rattle.jet_layout.specs.declared.wire.Wire.{Wire}
use Rattle.jet_layout.specs.declared.wire.Taker.TheVariants.{Input}
use Rattle.jet_layout.specs.Joints.{count, port, taker}
use Rattle.jet_layout.specs.Links.{links_of}

-- the consumers, of n, to which producer i gives on its own member: an isolated producer has one, any other has all
abbrev pub consumers : Route → ℕ → ℕ → List ℕ
consumers route n i = if is_isolated route then (if n == 0 then [] else i % n ∷ []) else range_with_len 0 n

-- the rings out of producer i on member m
abbrev pub producer_wires : Joint → ℕ → ℕ → List Wire
producer_wires j m i = map (λ k. record { giver = port j.from m i; taker = taker j.to m k }) (consumers j.route (count j.to m) i)

-- the rings on member m
abbrev pub local_wires : Joint → ℕ → List Wire
local_wires j m = flat_map (producer_wires j m) (range_with_len 0 (count j.from m))

-- the rings of a link whose sender is the tasklet with this number, and the receiver the next one: from each producer into the
-- sender, and from the receiver to each consumer
abbrev pub link_wires : Joint → ℕ → Link → List Wire
link_wires j number l =
    map (λ i. record { giver = port j.from l.from i; taker = Input (record { task = number; number = 0 }) }) (range_with_len 0 (count j.from l.from))
    ++ map (λ k. record { giver = record { task = number + 1; number = 0 }; taker = taker j.to l.to k }) (range_with_len 0 (count j.to l.to))

-- those of links whose tasklets have the numbers from this one on
abbrev pub links_wires : Joint → ℕ → List Link → List Wire
links_wires j number [] = []
links_wires j number (l ∷ ls) = link_wires j number l ++ links_wires j (number + 2) ls

-- the rings of an edge whose links' tasklets have the numbers from this one on
abbrev pub edge_wires : ℕ → ℕ → Joint → List Wire
edge_wires members number j = flat_map (local_wires j) (range_with_len 0 members) ++ links_wires j number (links_of members j)

-- those of edges
abbrev pub wires_from : ℕ → ℕ → List Joint → List Wire
wires_from members number [] = []
wires_from members number (j ∷ js) = edge_wires members number j ++ wires_from members (number + 2 * length (links_of members j)) js
