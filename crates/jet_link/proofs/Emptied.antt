-- A link of which as many bytes are acknowledged as were sent.
use Rattle.std.proofs.Common.{◌≡◌, ℕ, zero, suc, ◌+◌, ◌-◌, ◌^◌, ◌<◌, ◌≤◌, nat_lt, Bool, true, false, List, [], ◌∷◌, ◌++◌, map, length, get_or, refl, sym, ap, ◌∙◌, arith, ltb-true, ltb-false, Option, Some, None}
use Rattle.std.proofs.lemmas.List.{length-append, length-map, nil_from_length}
use Rattle.jet_link.specs.declared.ack.Ack.{Ack}
use Rattle.jet_link.specs.declared.packet.Packet.{Packet}
use Rattle.jet_link.specs.declared.shape.LinkShape.{LinkShape}
use Rattle.jet_link.specs.Link.{PacketView, no_packet, SendsRight, RecvsRight, bytes_of, all_bytes, less, in_flight}
use Rattle.jet_link.specs.Ends.{packet_view, ack_view, count_of}
use Rattle.jet_link.specs.Views.{SendView, RecvView, send_state, recv_state}
use Rattle.jet_link.specs.Meeting.{BothMet, IsEmptied}
use Rattle.jet_link.proofs.Counting.{bytes_more, bytes_next}

-- every packet has a byte
has_byte : (ps : List Packet) (k : ℕ) → k < length ps → 1 ≤ (get_or (map packet_view ps) k no_packet).size
has_byte [] k lt = absurd (omega (arith, lt))
has_byte (p ∷ ps) zero lt = p.some
has_byte (p ∷ ps) (suc k) lt = has_byte ps k (omega (arith, lt))

-- so the bytes of all packets are those of no fewer
all_of_them : (ps : List Packet) (k : ℕ) → k ≤ length ps → all_bytes (map packet_view ps) ≤ bytes_of k (map packet_view ps) → k ≡ length ps
all_of_them ps k le h = by_test (nat_lt k (length ps)) refl
  where
    by_test : (b : Bool) → nat_lt k (length ps) ≡ b → k ≡ length ps
    by_test false e = omega (arith, le, ltb-false k (length ps) e)
    by_test true e =
        let lt : k < length ps = ltb-true k (length ps) e in
        let views : List PacketView = map packet_view ps in
        let long : length views ≡ length ps = length-map ps packet_view in
        absurd (omega (arith, h, has_byte ps k lt, bytes_next k views, bytes_more (suc k) (length views) views (omega (arith, lt, long))))

none_flies : (sent acked : ℕ) → acked ≡ sent → sent < 2 ^ 64 → less sent acked ≡ 0
none_flies sent acked e lt = omega (arith, e, lt)

none_held : (held : Option Packet) → count_of held ≡ 0 → held ≡ None
none_held None e = refl
none_held (Some p) e = absurd (omega (arith, e))

pub emptied : (s : SendView) (r : RecvView) → SendsRight s.shape (send_state s) → RecvsRight r.shape (recv_state r) → BothMet s r → s.counts.acked ≡ s.counts.sent → IsEmptied s r
emptied s r sends recvs m e =
    let small : s.counts.sent < 2 ^ 64 = omega (arith, sends.sent) in
    let flight : in_flight (send_state s) ≡ 0 = none_flies s.counts.sent s.counts.acked e small in
    let views : List PacketView = map packet_view s.packets.sent in
    let n : ℕ = length (map ack_view s.acks.received) in
    let taken : n ≡ length s.acks.received = length-map s.acks.received ack_view in
    let pushed : length views ≡ length s.packets.sent = length-map s.packets.sent packet_view in
    let more : length (map ack_view s.acks.known) ≡ length s.acks.known = length-map s.acks.known ack_view in
    let bytes : bytes_of n views ≡ all_bytes views - in_flight (send_state s) = sym m.link.took_in.acked in
    let each : n ≡ length s.packets.sent = all_of_them s.packets.sent n (omega (arith, m.link.may_take, pushed)) (omega (arith, bytes, flight)) in
    let gave : length r.acks.sent ≡ length s.acks.received + length s.acks.known = ap length (sym m.acks) ∙ length-append s.acks.received s.acks.known in
    let sent : length s.packets.sent ≡ length r.packets.received + length r.packets.known = ap length (sym m.packets) ∙ length-append r.packets.received r.packets.known in
    let one : length r.packets.received ≡ length r.acks.sent + count_of r.held = omega (arith, recvs.one, length-map r.packets.received packet_view, length-map r.acks.sent ack_view) in
    let none : length s.acks.known ≡ 0 = omega (arith, m.link.may_take, each, taken, pushed, more) in
    let left : length r.packets.known + count_of r.held ≡ 0 = omega (arith, gave, sent, one, each, taken, none) in
    record {
      known = nil_from_length r.packets.known (omega (arith, left));
      held = none_held r.held (omega (arith, left));
      acks_known = nil_from_length s.acks.known none;
      flight = flight;
      buffers = omega (arith, m.link.buffers, left, none, more, length-map r.packets.known packet_view);
    }
