use Rattle.std.proofs.Common.{arith, ap, ◌≡◌, length}
use Rattle.jet_link.specs.Receiving.{held_size}
use Rattle.jet_link.proofs.RecvEnds.{counted_in, counted_as}
use Rattle.jet_link.proofs.recv_end.RecvEnd.finish.Goals as goal

pub overflow_add-self : goal.overflow_add-self
overflow_add-self c =
    let size : length c.bytes.result.now ≡ held_size c.args.self.now.held = ap length c.bytes.ensures.bytes in
    omega (arith, size, c.args.self.now.right.period, c.args.self.now.right.shape.period, c.bytes.ensures.small, c.requires.turn)

pub invariant_of-self : goal.invariant_of-self
invariant_of-self c = record {
  right = counted_in c.args.self.now.shape c.args.self.now.packets c.args.self.now.acks c.args.self.now.held c.args.self.now.whole c.args.self.now.processed c.args.self.now.offer c.args.self.now.grant c.args.self.now.part c.args.self.now.turns
      c.args.self.now.right c.requires.held c.requires.once (length c.bytes.result.now) (ap length c.bytes.ensures.bytes) c.bytes.ensures.small c.requires.turn;
}

pub returns-clause-counted : goal.returns-clause-counted
returns-clause-counted c =
    let me = c.args.self.now in
    record {
      processed = counted_as me.shape me.packets me.acks me.held me.whole me.processed me.offer me.grant me.part me.turns
          me.right c.requires.held c.requires.once (length c.bytes.result.now) (ap length c.bytes.ensures.bytes);
      is = cc;
    }
