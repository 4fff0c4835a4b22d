use Rattle.std.proofs.Common.{rules, arith, ◌≡◌, ◌++◌, ◌∷◌, [], refl, sym}
use Rattle.jet_ring.specs.Ring as ring
use Rattle.jet_link.proofs.SendEnds.{end_took, end_unfair, end_rises}
use Rattle.jet_link.proofs.send_end.SendEnd.take_ack.Goals as goal

pub invariant_of-self-then-room-self : goal.invariant_of-self-then-room-self
invariant_of-self-then-room-self c = record {
  right =
      end_took c.args.self.now.shape c.args.self.now.counts c.args.self.now.stock c.args.self.now.work c.args.self.now.packets c.args.self.now.acks c.take.new.self c.args.self.now.outstanding c.in-Some.ack
      c.args.self.now.right (omega arith) (search rules) c.accepts-allowed.ensures.fits.0 c.accepts-allowed.ensures.fits.1 c.put.new.self c.put.ensures (search rules);
}

pub invariant_of-self-else-allowed : goal.invariant_of-self-else-allowed
invariant_of-self-else-allowed c = record {
  right =
      end_unfair c.args.self.now.shape c.args.self.now.counts c.args.self.now.stock c.args.self.now.work c.args.self.now.packets c.args.self.now.acks c.take.new.self c.args.self.now.outstanding c.in-Some.ack
      c.args.self.now.right (omega arith) (search rules) c.accepts-allowed.ensures.fits.0 c.accepts-allowed.ensures.fits.1 (λ _ ok. search rules);
}

pub invariant_of-self-else-room-self : goal.invariant_of-self-else-room-self
invariant_of-self-else-room-self c = record {
  right =
      end_unfair c.args.self.now.shape c.args.self.now.counts c.args.self.now.stock c.args.self.now.work c.args.self.now.packets c.args.self.now.acks c.take.new.self c.args.self.now.outstanding c.in-Some.ack
      c.args.self.now.right (omega arith) (search rules) c.accepts-allowed.ensures.fits.0 c.accepts-allowed.ensures.fits.1 (λ same _. search rules);
}

pub returns-then-room-self-clause-took : goal.returns-then-room-self-clause-took
returns-then-room-self-clause-took c = λ _.
    let r = end_rises c.args.self.now.shape c.args.self.now.counts c.args.self.now.stock c.args.self.now.work c.args.self.now.packets c.args.self.now.acks c.take.new.self c.args.self.now.outstanding c.in-Some.ack
    c.args.self.now.right (omega arith) (search rules) c.accepts-allowed.ensures.fits.0 c.accepts-allowed.ensures.fits.1 c.put.new.self (search rules) in
    let got : ring.received c.take.new.self ≡ ring.received c.args.self.now.acks ++ c.in-Some.ack ∷ [] = search rules in
    record { took = record { same = record { shape = refl; packets = refl; acks = c.take.ensures.ring }; work = refl; packets = refl; more = (c.in-Some.ack ∷ [], sym got); still_known = c.take.ensures.seen; sent = refl; acked = r.0; limit = r.1 }; one = (c.in-Some.ack, got) }
