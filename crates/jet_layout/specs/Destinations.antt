-- How many destinations the outputs of an edge have.
use Rattle.std.specs.Prelude.{ℕ, ◌+◌, ◌<◌, Bool, true, false, length, if◌then◌else◌}
use Rattle.jet_layout.specs.declared.joint.Joint.{Joint}
use Rattle.jet_layout.specs.Joints.{count}
use Rattle.jet_layout.specs.Links.{links_from}

-- the consumers on its own member m, and where items go across members one for each link from there
abbrev pub destination_count : ℕ → Joint → Bool → ℕ → ℕ
destination_count members j across m = count j.to m + (if across then length (links_from j members m) else 0)

-- Member m has outputs of the edge: where items go across members those of its producers, and else those of receivers, each of which has consumers there.
abbrev pub HasOutputs : Joint → Bool → ℕ → Type 0
HasOutputs j true m = 0 < count j.from m
HasOutputs j false m = 0 < count j.to m
