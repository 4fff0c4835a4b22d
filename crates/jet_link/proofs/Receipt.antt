-- A receiver that takes a packet in hand.
use Rattle.std.proofs.Common.{◌≡◌, ℕ, ◌+◌, ◌≤◌, List, [], ◌∷◌, ◌++◌, map, length, get_or, cond, Bool, sym, ap, subst, ◌∙◌, arith, Some, None}
use Rattle.std.proofs.lemmas.List.{length-append, length-map, map_push}
use Rattle.std.proofs.Math.Seq.{get_or-append_seam}
use Rattle.jet_ring.specs.Ring as ring
use Rattle.jet_ring.specs.declared.ends.Tx.{Tx}
use Rattle.jet_ring.specs.declared.ends.Rx.{Rx}
use Rattle.jet_link.specs.declared.packet.Packet.{Packet}
use Rattle.jet_link.specs.declared.ack.Ack.{Ack}
use Rattle.jet_link.specs.declared.shape.LinkShape.{LinkShape}
use Rattle.jet_link.specs.Link.{PacketView, no_packet, RecvsRight, kept, bytes_of, offer_after, whole_processed, whole_offer}
use Rattle.jet_link.specs.Ends.{packet_view, ack_view, recv_of, IsRecvEnd}
use Rattle.jet_link.proofs.Counting.{bytes_front}
use Rattle.jet_link.proofs.Ends.{honest_more, offer_more}

pub end_received : (l : LinkShape) (packets later : Rx Packet) (acks : Tx Ack) (p : Packet) (whole : Bool) (processed offer grant part turns : ℕ)
    → IsRecvEnd l packets acks None whole processed offer grant part turns → ring.received later ≡ ring.received packets ++ p ∷ []
    → IsRecvEnd l later acks (Some p) whole processed offer grant part turns
end_received l packets later acks p whole processed offer grant part turns e got =
    let ps = map packet_view (ring.received packets) in
    let gave = map ack_view (ring.sent acks) in
    let more : map packet_view (ring.received later) ≡ ps ++ packet_view p ∷ [] = ap (map packet_view) got ∙ map_push packet_view (ring.received packets) p in
    let top : length gave + cond whole 1 0 ≤ length ps = omega (arith, e.right.one, e.right.held) in
    let F : List PacketView → Type 0 = λ w. RecvsRight l (record { received = w; gave = gave; holds = 1; whole = cond whole 1 0; processed = processed; offer = offer; grant = grant }) in
    let r : RecvsRight l (record { received = ps ++ packet_view p ∷ []; gave = gave; holds = 1; whole = cond whole 1 0; processed = processed; offer = offer; grant = grant }) = record {
      honest = honest_more l ps (packet_view p ∷ []) gave e.right.honest;
      one = omega (arith, length-append ps (packet_view p ∷ []), e.right.one);
      most = omega arith;
      held = omega (arith, e.right.held);
      processed = e.right.processed ∙ ap kept (sym (bytes_front (length gave + cond whole 1 0) ps (packet_view p ∷ []) top));
      offer = e.right.offer ∙ ap kept (sym (offer_more l (length gave) ps (packet_view p ∷ []) gave (omega (arith, top))));
      low = e.right.low;
      high = e.right.high;
    } in
    let here : length (ring.sent acks) ≡ length ps = omega (arith, e.right.one, length-map (ring.sent acks) ack_view) in
    let there : get_or (map packet_view (ring.received later)) (length (ring.sent acks)) no_packet ≡ packet_view p =
    ap (λ (w : List PacketView). get_or w (length (ring.sent acks)) no_packet) more ∙ ap (λ (k : ℕ). get_or (ps ++ packet_view p ∷ []) k no_packet) here ∙ get_or-append_seam ps (packet_view p) [] no_packet in
    record {
      shape = e.shape;
      right = subst F (sym more) r;
      in_hand = λ q same. let eq : p ≡ q = cc in there ∙ ap packet_view eq;
      period = e.period;
      few = e.few;
    }

-- the bytes processed and the offer are those of the packets before
pub counts_kept : (l : LinkShape) (packets later : Rx Packet) (acks : Tx Ack) (p : Packet) (whole : Bool) (processed offer grant part turns : ℕ)
    → IsRecvEnd l packets acks None whole processed offer grant part turns → ring.received later ≡ ring.received packets ++ p ∷ []
    → (whole_processed (recv_of later acks (Some p) whole processed offer grant) ≡ whole_processed (recv_of packets acks None whole processed offer grant))
    × (whole_offer l (recv_of later acks (Some p) whole processed offer grant) ≡ whole_offer l (recv_of packets acks None whole processed offer grant))
counts_kept l packets later acks p whole processed offer grant part turns e got =
    let ps = map packet_view (ring.received packets) in
    let gave = map ack_view (ring.sent acks) in
    let more : map packet_view (ring.received later) ≡ ps ++ packet_view p ∷ [] = ap (map packet_view) got ∙ map_push packet_view (ring.received packets) p in
    let top : length gave + cond whole 1 0 ≤ length ps = omega (arith, e.right.one, e.right.held) in (
      ap (λ (w : List PacketView). bytes_of (length gave + cond whole 1 0) w) more ∙ bytes_front (length gave + cond whole 1 0) ps (packet_view p ∷ []) top,
      ap (λ (w : List PacketView). offer_after l w gave (length gave)) more ∙ offer_more l (length gave) ps (packet_view p ∷ []) gave (omega (arith, top)),
    )
