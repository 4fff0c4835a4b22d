-- The end that sends, of a new link.
use Rattle.std.proofs.Common.{◌≡◌, ℕ, List, [], map, length, refl, sym, ap, subst, arith, None}
use Rattle.jet_pool.specs.Pool.{StockValue}
use Rattle.jet_ring.specs.Ring as ring
use Rattle.jet_ring.specs.declared.ends.Tx.{Tx}
use Rattle.jet_ring.specs.declared.ends.Rx.{Rx}
use Rattle.jet_link.specs.declared.packet.Packet.{Packet}
use Rattle.jet_link.specs.declared.ack.Ack.{Ack}
use Rattle.jet_link.specs.declared.shape.LinkShape.{LinkShape}
use Rattle.jet_link.specs.Shape.{IsShape}
use Rattle.jet_link.specs.Link.{SendState, SendsRight, bytes_of, room_left}
use Rattle.jet_link.specs.Ends.{packet_view, ack_view, IsSendEnd}

abbrev fresh : LinkShape → SendState
fresh l = record { pushed = []; taken = []; sent = 0; acked = 0; limit = l.window; inside = l.buffers; work = 0 }

fresh_right : (l : LinkShape) → IsShape l → SendsRight l (fresh l)
unfolding bytes_of
fresh_right l s =
    let open_at : room_left (fresh l) ≡ l.window = omega (arith, s.ordered, s.peak) in
    record {
      sent = refl;
      acked = omega arith;
      limit = omega (arith, s.ordered, s.peak);
      within = omega arith;
      bound = omega arith;
      low = omega (arith, open_at);
      high = omega (arith, open_at, s.ordered);
      begun = λ w. absurd (omega (arith, w));
      one = omega arith;
      fewer = omega arith;
      buffers = omega arith;
      rooms = λ k lt. absurd (omega (arith, lt));
      honest = λ h. record { acked = refl; limit = omega (arith, open_at); buffers = omega arith };
    }

pub new_sender : (l : LinkShape) (stock : StockValue) (packets : Tx Packet) (acks : Rx Ack) → IsShape l → stock ≡ record { n = l.buffers; room = l.packet; inside = l.buffers }
    → ring.sent packets ≡ [] → ring.received acks ≡ [] → IsSendEnd l (record { sent = 0; acked = 0; limit = l.window }) stock None packets acks 0
new_sender l stock packets acks s se pe ae =
    let F : List Packet → List Ack → ℕ → Type 0 = λ ps ks i. SendsRight l (record { pushed = map packet_view ps; taken = map ack_view ks; sent = 0; acked = 0; limit = l.window; inside = i; work = 0 }) in
    let r1 : F (ring.sent packets) [] l.buffers = subst (λ (ps : List Packet). F ps [] l.buffers) (sym pe) (fresh_right l s) in
    let r2 : F (ring.sent packets) (ring.received acks) l.buffers = subst (λ (ks : List Ack). F (ring.sent packets) ks l.buffers) (sym ae) r1 in
    record {
      shape = s;
      right = subst (λ (i : ℕ). F (ring.sent packets) (ring.received acks) i) (sym (ap (λ (x : StockValue). x.inside) se)) r2;
      n = ap (λ (x : StockValue). x.n) se;
      room = ap (λ (x : StockValue). x.room) se;
      work_room = λ q none. absurd (cc);
      spelled = λ q none. absurd (cc);
      between = omega (arith, ap length pe, ap length ae);
    }
