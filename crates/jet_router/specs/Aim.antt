-- Where an item goes.
use Rattle.std.specs.Prelude.{ℕ, List, Option, Some, None, slice_index}
use Rattle.jet_items.specs.Partition.{key_partition}
use Rattle.jet_router.specs.declared.aim.Route.{Route}
use Rattle.jet_router.specs.declared.aim.Route.TheVariants.{Unicast, Broadcast, Partitioned}
use Rattle.jet_router.specs.declared.aim.Aim.{Aim}
use Rattle.jet_router.specs.declared.aim.Aim.TheVariants.{Each, Any, Only}

-- where data with this key goes
abbrev pub by_route : Route → List ℕ → List ℕ → Aim
by_route Unicast table key = Any
by_route Broadcast table key = Each
by_route Partitioned table key = Only (slice_index table (key_partition key))

-- data goes by the route, which for a partitioned one is the table's entry of the key's partition; what has no key goes to each
abbrev pub aim_of : Route → List ℕ → Option (List ℕ) → Aim
aim_of route table None = Each
aim_of route table (Some key) = by_route route table key
