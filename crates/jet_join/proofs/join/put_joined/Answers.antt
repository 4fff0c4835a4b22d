use Rattle.std.proofs.Common.{rules}
use Rattle.jet_join.proofs.Giving.{one_put}
use Rattle.jet_join.proofs.join.put_joined.Goals as goal

pub loop-next-preserved : goal.loop-next-preserved
loop-next-preserved c = record {
  room = search rules;
  moved = one_put c.args.setting.now c.args.event.now c.args.rows.now c.args.next.now c.loop-next.next c.args.out.now.items c.loop-next.out.items c.put-in-loop-next.new.out.items c.index-rows-next.result
      c.loop-next-test.true c.index-rows-next.is (search rules) c.loop-next.invariant.moved;
}
