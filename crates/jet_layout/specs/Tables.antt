-- Which destination of an output takes a partition of keys.
use Rattle.std.specs.Prelude.{ℕ, ◌+◌, ◌-◌, ◌/◌, ◌%◌, ◌==◌, nat_lt, Bool, not, ◌&&◌, List, map, if◌then◌else◌}
use Rattle.std.specs.List.{range_with_len}
use Rattle.jet_layout.specs.declared.joint.Joint.{Joint}

-- On its owner a partition belongs to this instance, of so many on each member. The owner is the member that the remainder of the
-- partition by the members names.
abbrev pub instance_of : ℕ → ℕ → ℕ → ℕ
instance_of members parallelism p = (p / members) % parallelism

-- the place of another member k among those that are not m
abbrev pub place_among : ℕ → ℕ → ℕ
place_among m k = if nat_lt k m then k else k - 1

-- The destination of a partition from a member that has the consumers' instances as its first destinations and the other members
-- behind them, where items go to other members at all. A vertex with one instance in all is the one destination.
abbrev pub destination : ℕ → Joint → Bool → ℕ → ℕ → ℕ
destination members j across m p =
    if j.to.single then 0
    else if across && not (p % members == m) then j.to.parallelism + place_among m (p % members)
    else instance_of members j.to.parallelism p

-- the destinations of all 271 partitions
abbrev pub table : ℕ → Joint → Bool → ℕ → List ℕ
table members j across m = map (destination members j across m) (range_with_len 0 271)
