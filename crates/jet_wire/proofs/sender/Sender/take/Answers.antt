use Rattle.std.proofs.Common.{◌<◌, length, refl, arith}
use Rattle.jet_conveyor.specs.Conveyor.{view}
use Rattle.jet_wire.specs.Sender.{SenderView, sender_view}
use Rattle.jet_wire.proofs.Coming.{may_note, came_more}
use Rattle.jet_wire.proofs.Going.{one_more, took_more}
use Rattle.jet_wire.proofs.sender.Sender.take.Goals as goal

pub note-self-requires : goal.note-self-requires
note-self-requires c =
    let l = c.requires.keeps in
    let t = c.in-Taken.ensures.taken in
    let may = may_note (sender_view c.args.self.now) l.came l.keeps.takes_in c.in-Taken.queue t.0 t.1.was_open in
    record { exists = may.0; «open» = may.1 }

pub returns-in-Taken-clause-took : goal.returns-in-Taken-clause-took
returns-in-Taken-clause-took c = λ _.
    let v : SenderView = sender_view c.args.self.now in
    let l = c.requires.keeps in
    let t = c.in-Taken.ensures.taken in
    let lt : c.in-Taken.queue < length v.queues.rings = t.0 in
    let inside : c.in-Taken.queue < length v.queues.received = omega (arith, lt, l.keeps.takes_in.received_each) in
    record {
      end = refl;
      queues = took_more v.queues (view c.poll.new.self) c.in-Taken.queue c.in-Taken.item inside t.1 c.poll.ensures.seen;
      count = one_more v.queues (view c.poll.new.self) c.in-Taken.queue c.in-Taken.item inside t.1;
      takes = λ came sent k. (
        record { queue = c.in-Taken.queue; item = c.in-Taken.item },
        came_more v came k.takes_in (view c.poll.new.self) c.note-self.new.coalescer c.in-Taken.queue c.in-Taken.item c.note-self.result lt t.1 c.note-self.ensures sent k.sends c.requires.free,
      );
    }
