use Rattle.std.proofs.Common.{arith, ◌∙◌, ◌++◌, map, ap}
use Rattle.std.specs.List.{range_with_len}
use Rattle.jet_layout.specs.declared.task.Task.TheVariants.{Run}
use Rattle.jet_layout.specs.Tasks.{member_tasks}
use Rattle.jet_layout.proofs.Ranges.{grown, flat_map_more}
use Rattle.jet_layout.proofs.instances.add_members.Goals as goal

pub loop-member-preserved : goal.loop-member-preserved
loop-member-preserved c =
    let same = c.count.ensures.value ∙ c.requires.same c.loop-member.member in (
      grown _ _ _ c.loop-member.invariant.0
          (c.in_ok-add_member.ensures.tasks ∙ ap (λ n. c.loop-member.tasks ++ map (λ i. Run (record { vertex = c.args.number; member = c.loop-member.member; number = i })) (range_with_len 0 n)) same)
          (flat_map_more (member_tasks c.args.number c.args.vertex.now) c.loop-member.member),
      omega (arith, c.loop-member.invariant.1, c.in_ok-add_member.ensures.few),
    )
