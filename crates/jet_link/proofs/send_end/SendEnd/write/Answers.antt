use Rattle.jet_link.proofs.Spelled.{end_wrote}
use Rattle.jet_link.proofs.send_end.SendEnd.write.Goals as goal

pub invariant_of-self : goal.invariant_of-self
invariant_of-self c =
    let me = c.args.self.now in
    record {
      right = end_wrote c.in-Some.buf c.write_item.new.buf c.args.item.now me.shape me.counts me.stock me.work me.packets me.acks me.outstanding me.right c.in-Some.is
          c.write_item.result c.write_item.ensures.written c.write_item.ensures.full c.write_item.ensures.list;
    }
