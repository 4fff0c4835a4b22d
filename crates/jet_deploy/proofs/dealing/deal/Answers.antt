use Rattle.std.proofs.Common.{arith}
use Rattle.jet_deploy.proofs.Dealt.{few, begins, index_fits, member_small, turn_fits, place_fits, place_small, goes_on, some_workers}
use Rattle.jet_deploy.proofs.dealing.deal.Goals as goal

pub overflow_mul-members : goal.overflow_mul-members
overflow_mul-members g c = let most = few c.args.members c.args.each c.requires.members.1 c.requires.each.1 in omega (arith, most)

pub loop-task-init : goal.loop-task-init
loop-task-init g c =
    begins c.args.members c.args.each c.args.sites.now c.in_ok-workers.workers.items c.new-order.result.items _ c.args.tasks.items
    c.new-order.ensures.items c.into_iter-task-iterator.ensures.into_iter_gives.0 c.in_ok-workers.ensures.idle (omega (arith, c.in_ok-workers.ensures.count)) c.requires.each.0

pub bounds-sites-len : goal.bounds-sites-len
bounds-sites-len g c =
    index_fits c.args.members c.args.each c.args.sites.now c.loop-task.workers.items c.loop-task.invariant c.in-Some.ensures.steps.0 (omega (arith, c.requires.sites)) c.requires.inside c.len.result (omega (arith, c.len.ensures))

pub take-turn-requires-clause-member : goal.take-turn-requires-clause-member
take-turn-requires-clause-member g c =
    member_small c.args.members c.args.each c.args.sites.now c.loop-task.workers.items c.loop-task.invariant c.in-Some.ensures.steps.0 (omega (arith, c.requires.sites)) c.requires.inside c.len.result (omega (arith, c.len.ensures))
    c.requires.members.1 c.requires.each.0 c.member-member.result c.member-member.ensures

pub take-turn-requires-clause-inside : goal.take-turn-requires-clause-inside
take-turn-requires-clause-inside g c =
    turn_fits c.args.members c.args.each c.args.sites.now c.loop-task.workers.items c.loop-task.invariant c.in-Some.ensures.steps.0 (omega (arith, c.requires.sites)) c.requires.inside c.len.result (omega (arith, c.len.ensures))
    c.requires.members.1 c.requires.each.0 c.member-member.result c.member-member.ensures

pub overflow_mul-member : goal.overflow_mul-member
overflow_mul-member g c =
    let most = place_small c.args.members c.args.each c.args.sites.now c.loop-task.workers.items c.loop-task.invariant c.in-Some.ensures.steps.0 (omega (arith, c.requires.sites)) c.requires.inside c.len.result (omega (arith, c.len.ensures))
    c.requires.members.1 c.requires.each.0 c.member-member.result c.member-member.ensures c.take-turn.result c.take-turn.ensures.taken c.requires.each.1 in
    omega (arith, most)

pub overflow_add-member : goal.overflow_add-member
overflow_add-member g c =
    let most = place_small c.args.members c.args.each c.args.sites.now c.loop-task.workers.items c.loop-task.invariant c.in-Some.ensures.steps.0 (omega (arith, c.requires.sites)) c.requires.inside c.len.result (omega (arith, c.len.ensures))
    c.requires.members.1 c.requires.each.0 c.member-member.result c.member-member.ensures c.take-turn.result c.take-turn.ensures.taken c.requires.each.1 in
    omega (arith, most)

pub overflow_cast-member : goal.overflow_cast-member
overflow_cast-member g c =
    let most = place_small c.args.members c.args.each c.args.sites.now c.loop-task.workers.items c.loop-task.invariant c.in-Some.ensures.steps.0 (omega (arith, c.requires.sites)) c.requires.inside c.len.result (omega (arith, c.len.ensures))
    c.requires.members.1 c.requires.each.0 c.member-member.result c.member-member.ensures c.take-turn.result c.take-turn.ensures.taken c.requires.each.1 in
    omega (arith, most)

pub place-requires-clause-inside : goal.place-requires-clause-inside
place-requires-clause-inside g c =
    let fits = place_fits c.args.members c.args.each c.args.sites.now c.loop-task.workers.items c.loop-task.invariant c.in-Some.ensures.steps.0 (omega (arith, c.requires.sites)) c.requires.inside c.len.result (omega (arith, c.len.ensures))
    c.requires.members.1 c.requires.each.0 c.member-member.result c.member-member.ensures c.take-turn.result c.take-turn.ensures.taken in
    omega (arith, fits)

pub loop-task-preserved : goal.loop-task-preserved
loop-task-preserved g c =
    goes_on c.args.members c.args.each c.args.sites.now c.loop-task.workers.items c.loop-task.invariant c.in-Some.ensures.steps.0 (omega (arith, c.requires.sites)) c.requires.inside c.len.result (omega (arith, c.len.ensures))
    c.requires.members.1 c.requires.each.0 c.member-member.result c.member-member.ensures c.take-turn.result c.take-turn.ensures.taken
    c.place.new.workers.items c.place.new.order.items c.take-turn.new.self.next c.in_ok-place.ensures.spot.0
    c.in_ok-place.ensures.tasks c.in_ok-place.ensures.spot.1 c.in_ok-place.ensures.placed c.in_ok-place.ensures.workers c.take-turn.ensures.next

pub returns-clause-some : goal.returns-clause-some
returns-clause-some g c = some_workers c.loop-task.workers.len c.args.members c.args.each (omega (arith, c.loop-task.invariant.count)) c.requires.members c.requires.each
