use Rattle.std.proofs.Common.{◌≡◌, ◌≤◌, ◌*◌, if◌then◌else◌, take, sum_by}
use Rattle.jet_plan.specs.Kinds.{is_sink}
use Rattle.jet_plan.specs.Rings.{all_instances}
use Rattle.jet_plan.proofs.instances.vertex_tasklets.Given as goal

abbrev pub invariant-loop-vertex : goal.invariant-loop-vertex
invariant-loop-vertex l = (l.tasklets ≡ sum_by (λ v. if is_sink v.kind then 0 else all_instances l.members v) (take l.vertex-index l.vertices)) × (l.tasklets ≤ 1020 * l.vertex-index)
