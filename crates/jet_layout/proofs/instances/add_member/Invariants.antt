use Rattle.std.proofs.Common.{◌≡◌, ◌++◌, map}
use Rattle.std.specs.List.{range_with_len}
use Rattle.jet_layout.specs.declared.task.Task.TheVariants.{Run}
use Rattle.jet_layout.proofs.instances.add_member.Given as goal

abbrev pub invariant-loop-number : goal.invariant-loop-number
invariant-loop-number l = l.tasks ≡ l.fn.tasks ++ map (λ i. Run (record { vertex = l.vertex; member = l.member; number = i })) (range_with_len 0 l.number)
