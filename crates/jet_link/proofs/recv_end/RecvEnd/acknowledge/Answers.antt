use Rattle.std.proofs.Common.{rules, arith, refl, subst, sym, ap, ◌∙◌, ◌≡◌, ◌++◌, ◌∷◌, [], length, Option, Some, None, Bool, true, false, ℕ}
use Rattle.std.proofs.lemmas.List.{length-append}
use Rattle.jet_ring.specs.Ring as ring
use Rattle.jet_link.specs.declared.packet.Packet.{Packet}
use Rattle.jet_link.specs.Link.{whole_processed}
use Rattle.jet_link.specs.Ends.{recv_of}
use Rattle.jet_link.specs.Receiving.{held_size}
use Rattle.jet_link.specs.Views.{recv_view}
use Rattle.jet_link.proofs.Acknowledged.{ack_of, right_acked, offer_acked}
use Rattle.jet_link.proofs.RecvEnds.{processed_kept, sent_ok}
use Rattle.jet_link.proofs.Written.{acked_is}
use Rattle.jet_link.proofs.recv_end.RecvEnd.acknowledge.Goals as goal

pub invariant_of-self-2 : goal.invariant_of-self-2
invariant_of-self-2 c =
    let me = c.args.self.now in
    let p = c.in-Some.packet in
    let held : me.held ≡ Some p = sym c.take.ensures.value ∙ c.in-Some.is in
    let got : ring.sent c.offer.new.self ≡ ring.sent me.acks ++ ack_of me p c.raised-self.result ∷ [] = sent_ok c.offer.result c.offer.ensures.cause c.offer.ensures.sent (search rules) in
    record {
      right = right_acked me p c.take.new.self c.offer.new.self c.raised-self.result _ held c.requires.whole c.take.ensures.after (ap length c.bytes.ensures.bytes ∙ ap held_size held) got c.raised-self.ensures;
    }

pub returns-clause-acknowledged : goal.returns-clause-acknowledged
returns-clause-acknowledged c = λ ok.
    let me = c.args.self.now in
    let p = c.in-Some.packet in
    let held : me.held ≡ Some p = sym c.take.ensures.value ∙ c.in-Some.is in
    let got : ring.sent c.offer.new.self ≡ ring.sent me.acks ++ ack_of me p c.raised-self.result ∷ [] = sent_ok c.offer.result c.offer.ensures.cause c.offer.ensures.sent (search rules) in
    record {
      packet = p;
      ack = ack_of me p c.raised-self.result;
      was = held;
      buf = refl;
      processed = refl;
      offer = refl;
      raised = offer_acked me p c.take.new.self c.offer.new.self c.raised-self.result _ held c.requires.whole c.take.ensures.after (ap length c.bytes.ensures.bytes ∙ ap held_size held) got c.raised-self.ensures;
      slot = omega (arith, c.offer.ensures.reach, ap length got, length-append (ring.sent me.acks) (ack_of me p c.raised-self.result ∷ []));
      is = acked_is (recv_view me) c.take.new.self (ring.tx_view c.offer.new.self) (ack_of me p c.raised-self.result) c.raised-self.result c.take.ensures.after c.offer.ensures.ring got;
    }

pub returns-clause-processed : goal.returns-clause-processed
returns-clause-processed c = λ ok.
    let me = c.args.self.now in
    let p = c.in-Some.packet in
    let held : me.held ≡ Some p = sym c.take.ensures.value ∙ c.in-Some.is in
    let got : ring.sent c.offer.new.self ≡ ring.sent me.acks ++ ack_of me p c.raised-self.result ∷ [] = sent_ok c.offer.result c.offer.ensures.cause c.offer.ensures.sent (search rules) in
    let same = processed_kept me.shape me.packets me.acks c.offer.new.self p (ack_of me p c.raised-self.result) me.processed me.offer me.grant c.raised-self.result got in
    let F : Option Packet → Bool → Option Packet → Type 0 = λ h b g. whole_processed (recv_of me.packets c.offer.new.self g false me.processed c.raised-self.result me.grant) ≡ whole_processed (recv_of me.packets me.acks h b me.processed me.offer me.grant) in
    subst (λ (g : Option Packet). F me.held me.whole g) (sym c.take.ensures.after) (subst (λ (h : Option Packet). F h me.whole None) (sym held) (subst (λ (b : Bool). F (Some p) b None) (sym c.requires.whole) same))
