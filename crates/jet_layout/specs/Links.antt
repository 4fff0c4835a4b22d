-- The links between members, edge by edge.
use Rattle.std.specs.Prelude.{ℕ, ◌==◌, ◌||◌, List, [], ◌∷◌, if◌then◌else◌}
use Rattle.std.specs.List.{flat_map, range_with_len}
use Rattle.jet_layout.specs.declared.joint.Joint.{Joint}
use Rattle.jet_layout.specs.declared.task.Link.{Link}
use Rattle.jet_layout.specs.Joints.{count}

-- the link from member m to member k: there is one where they differ and both have instances
abbrev pub link_between : Joint → ℕ → ℕ → List Link
link_between j m k = if k == m || (count j.from m == 0 || count j.to k == 0) then [] else record { edge = j.edge; from = m; to = k } ∷ []

-- the links from member m
abbrev pub links_from : Joint → ℕ → ℕ → List Link
links_from j members m = flat_map (link_between j m) (range_with_len 0 members)

-- the links of an edge
abbrev pub links_of : ℕ → Joint → List Link
links_of members j = if j.distributed then flat_map (links_from j members) (range_with_len 0 members) else []
