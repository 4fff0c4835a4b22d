use Rattle.std.proofs.Common.{◌≡◌, ◌≤◌, ◌*◌, ◌++◌, drop, length}
use Rattle.jet_layout.specs.Joints.{vertex_ends}
use Rattle.jet_layout.specs.Tasks.{instance_tasks}
use Rattle.jet_layout.proofs.instances.add_vertices.Given as goal

abbrev pub invariant-loop-number : goal.invariant-loop-number
invariant-loop-number l = (l.tasks ++ instance_tasks l.members l.number (drop l.number l.vertices) ≡ instance_tasks l.members 0 l.vertices)
    × (l.ends ++ vertex_ends l.members (length l.tasks) (drop l.number l.vertices) ≡ vertex_ends l.members 0 l.vertices)
    × (length l.tasks ≤ 1020 * l.number)
