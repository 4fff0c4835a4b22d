-- Both ends of a link, met.
use Rattle.std.proofs.Common.{◌≡◌, ◌+◌, ◌++◌, map, length, sym, ap, subst, ◌∙◌}
use Rattle.std.proofs.lemmas.List.{map-append}
use Rattle.jet_link.specs.declared.shape.LinkShape.{LinkShape}
use Rattle.jet_link.specs.Shape.{IsShape}
use Rattle.jet_link.specs.Link.{SendState, RecvState, SendsRight, RecvsRight}
use Rattle.jet_link.specs.Ends.{packet_view, ack_view, send_of, recv_from}
use Rattle.jet_link.specs.Views.{SendView, RecvView, send_state, recv_state}
use Rattle.jet_link.specs.Meeting.{SendMet, RecvMet, BothMet}
use Rattle.jet_link.proofs.Ends.{meets}

-- a meeting changes neither the counts nor what was passed
same_sends : (a s : SendView) → SendMet a s → send_state a ≡ send_state s
same_sends a s m = cc (ap (λ (v : SendView). send_of v.counts v.inside v.work s.packets.sent s.acks.received) m.is, m.packets.sent, m.acks.received)

same_recvs : (b r : RecvView) → RecvMet b r → recv_state b ≡ recv_state r
same_recvs b r m = cc (ap (λ (v : RecvView). recv_from r.packets.received r.acks.sent v.held v.whole v.processed v.offer v.grant) m.is, m.packets.received, m.acks.sent)

pub both_met : (a s : SendView) (b r : RecvView) → IsShape a.shape → SendsRight a.shape (send_state a) → RecvsRight b.shape (recv_state b) → a.shape ≡ b.shape → s.shape ≡ a.shape
    → SendMet a s → RecvMet b r → r.packets.received ++ r.packets.known ≡ s.packets.sent → s.acks.received ++ s.acks.known ≡ r.acks.sent
    → s.packets.free + length r.packets.known ≡ s.packets.ring.cap → r.acks.free + length s.acks.known ≡ r.acks.ring.cap → BothMet s r
both_met a s b r shape sends recvs one kept sm rm pe ae pf af =
    let sends2 : SendsRight a.shape (send_state s) = subst (λ (w : SendState). SendsRight a.shape w) (same_sends a s sm) sends in
    let recvs2 : RecvsRight a.shape (recv_state r) = subst (λ (w : RecvState). RecvsRight a.shape w) (same_recvs b r rm) (subst (λ (l : LinkShape). RecvsRight l (recv_state b)) (sym one) recvs) in
    record {
      packets = pe;
      acks = ae;
      packet_slots = pf;
      ack_slots = af;
      link = meets s.shape (send_state s) (recv_state r) (map packet_view r.packets.known) (map ack_view s.acks.known)
          (subst IsShape (sym kept) shape)
          (subst (λ (l : LinkShape). SendsRight l (send_state s)) (sym kept) sends2)
          (subst (λ (l : LinkShape). RecvsRight l (recv_state r)) (sym kept) recvs2)
          (ap (map packet_view) (sym pe) ∙ map-append packet_view r.packets.received r.packets.known)
          (ap (map ack_view) (sym ae) ∙ map-append ack_view s.acks.received s.acks.known);
    }
