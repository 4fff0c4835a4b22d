use Rattle.std.proofs.Common.{arith, ◌≡◌, false, length, ap}
use Rattle.std.specs.List.{flat_map, range_with_len}
use Rattle.std.proofs.lemmas.List.{length-append}
use Rattle.jet_plan.specs.Kinds.{is_sink}
use Rattle.jet_layout.specs.Tasks.{member_tasks}
use Rattle.jet_layout.proofs.Counts.{length_members, counted, not_sink}
use Rattle.jet_layout.proofs.instances.add_vertex.Goals as goal

pub returns-in_ok-add_members-clause-size : goal.returns-in_ok-add_members-clause-size
returns-in_ok-add_members-clause-size c =
    let tasklets : is_sink c.args.vertex.now.kind ≡ false = not_sink _ _ c.args.vertex.now c.if-not-end.true c.vertex_end-end.ensures in
    let all = length_members c.args.number c.args.vertex.now c.args.members in
    let e = ap length c.in_ok-add_members.ensures.tasks in
    let l = length-append c.args.tasks.now (flat_map (member_tasks c.args.number c.args.vertex.now) (range_with_len 0 c.args.members)) in
    omega (arith, e, l, all, counted c.args.members c.args.vertex.now tasklets)
