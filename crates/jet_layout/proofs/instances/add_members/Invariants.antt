use Rattle.std.proofs.Common.{◌≡◌, ◌≤◌, ◌+◌, ◌*◌, ◌++◌, length}
use Rattle.std.specs.List.{flat_map, range_with_len}
use Rattle.jet_layout.specs.Tasks.{member_tasks}
use Rattle.jet_layout.proofs.instances.add_members.Given as goal

abbrev pub invariant-loop-member : goal.invariant-loop-member
invariant-loop-member l = (l.tasks ≡ l.fn.tasks ++ flat_map (member_tasks l.number l.vertex) (range_with_len 0 l.member)) × (length l.tasks ≤ length l.fn.tasks + 255 * l.member)
