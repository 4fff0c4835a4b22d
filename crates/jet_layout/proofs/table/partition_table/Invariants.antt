use Rattle.std.proofs.Common.{◌≡◌, map}
use Rattle.std.specs.List.{range_with_len}
use Rattle.jet_layout.specs.Tables.{destination}
use Rattle.jet_layout.proofs.table.partition_table.Given as goal

abbrev pub invariant-loop-partition : goal.invariant-loop-partition
invariant-loop-partition l = l.destinations.items ≡ map (destination l.members l.joint l.across l.member) (range_with_len 0 l.partition)
