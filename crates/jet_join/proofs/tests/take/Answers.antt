use Rattle.std.proofs.Common.{rules, subst}
use Rattle.jet_boxes.specs.Entry.{Given}
use Rattle.jet_join.proofs.Trying.{may_take, next_call, last_call}
use Rattle.jet_join.specs.Calls.{JoinCall}
use Rattle.jet_join.proofs.tests.take.Goals as goal

pub accept-requires : goal.accept-requires
accept-requires c = may_take c.loop.join c.args.port 0 c.args.item.now c.requires.data c.loop.invariant

pub returns-then-ended : goal.returns-then-ended
returns-then-ended c =
    last_call c.loop.join c.accept.new.self c.args.port 0 c.args.item.now c.loop.out c.accept.new.out
    (subst (λ r. JoinCall c.loop.join (Given c.args.port 0 c.args.item.now) c.loop.out r c.accept.new.self c.accept.new.out) (search rules) c.accept.ensures.call) c.loop.invariant

pub loop-preserved : goal.loop-preserved
loop-preserved c =
    next_call c.loop.join c.accept.new.self (Given c.args.port 0 c.args.item.now) c.loop.out c.accept.new.out
    (subst (λ r. JoinCall c.loop.join (Given c.args.port 0 c.args.item.now) c.loop.out r c.accept.new.self c.accept.new.out) (search rules) c.accept.ensures.call) c.loop.invariant
