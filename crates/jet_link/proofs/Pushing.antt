-- A sender that pushes a packet.
use Rattle.std.proofs.Common.{◌≡◌, ℕ, suc, ◌+◌, ◌%◌, ◌^◌, ◌<◌, ◌≤◌, List, [], ◌∷◌, ◌++◌, map, length, get_or, refl, sym, ap, subst, ◌∙◌, arith, below_more, Some, None}
use Rattle.std.proofs.lemmas.List.{length-append, map_push, get_or_append_left}
use Rattle.std.proofs.Math.Seq.{get_or-append_seam}
use Rattle.jet_pool.specs.Pool.{StockValue}
use Rattle.jet_ring.specs.Ring as ring
use Rattle.jet_ring.specs.declared.ends.Tx.{Tx}
use Rattle.jet_ring.specs.declared.ends.Rx.{Rx}
use Rattle.jet_link.specs.declared.packet.Packet.{Packet}
use Rattle.jet_link.specs.declared.ack.Ack.{Ack}
use Rattle.jet_link.specs.declared.counts.Counts.{Counts}
use Rattle.jet_link.specs.declared.shape.LinkShape.{LinkShape}
use Rattle.jet_link.specs.Shape.{IsShape}
use Rattle.jet_link.specs.Link.{PacketView, no_packet, AckView, kept, less, IsHonest, SendState, SendsRight, in_flight, room_left, whole_sent, whole_acked, whole_limit}
use Rattle.jet_link.specs.Ends.{packet_view, view_of, IsSendEnd}
use Rattle.jet_link.proofs.Counting.{bytes_front, bytes_push}
use Rattle.jet_link.proofs.Ends.{offer_more}

-- a count that goes on
less_more : (a b n : ℕ) → a < 2 ^ 64 → b < 2 ^ 64 → less a b + n < 2 ^ 64 → less ((a + n) % 2 ^ 64) b ≡ less a b + n
less_more a b n la lb lt = omega (arith, la, lb, lt)

kept_more : (a n : ℕ) → (kept a + n) % 2 ^ 64 ≡ kept (a + n)
kept_more a n = omega arith

module _ (l : LinkShape) where
  -- what is honest of some packets is so of the first of them, where there are as many as acknowledgements
  honest_less : (xs ys : List PacketView) (acks : List AckView) → length acks ≤ length xs → IsHonest l (xs ++ ys) acks → IsHonest l xs acks
  honest_less xs ys acks le h = record {
    fewer = le;
    room = λ k lt. h.room k lt ∙ ap (λ (x : PacketView). x.room) (get_or_append_left xs ys no_packet k (omega (arith, lt, le)));
    processed = λ k lt. h.processed k lt ∙ ap kept (bytes_front (suc k) xs ys (omega (arith, lt, le)));
    offer = λ k lt. h.offer k lt ∙ ap kept (offer_more l (suc k) xs ys acks (omega (arith, lt, le)));
    low = h.low;
    high = h.high;
    rising = λ k lt. omega (arith, h.rising k lt, offer_more l k xs ys acks (omega (arith, lt, le)), offer_more l (suc k) xs ys acks (omega (arith, lt, le)));
  }

  module _ (s : SendState) (p : PacketView) (shape : IsShape l) (right : SendsRight l s) (work : s.work ≡ 1) (room : p.room ≡ l.packet) (most : p.size ≤ p.room) where
    abbrev pub after : SendState
    after = record s { pushed = s.pushed ++ p ∷ []; sent = (s.sent + p.size) % 2 ^ 64; work = 0 }

    fits : s.sent < 2 ^ 64
    fits = omega (arith, right.sent)

    more : in_flight after ≡ in_flight s + p.size
    more = less_more s.sent s.acked p.size fits right.acked (omega (arith, right.bound, shape.packet.1, shape.peak, room, most))

    long : length (s.pushed ++ p ∷ []) ≡ length s.pushed + 1
    long = omega (arith, length-append s.pushed (p ∷ []))

    whole : whole_sent after ≡ whole_sent s + p.size
    whole = bytes_push s.pushed p

    -- what is acknowledged stays
    pub still_acked : whole_acked after ≡ whole_acked s
    still_acked = omega (arith, more, whole, right.within)

    pub pushed_on : SendsRight l after
    pushed_on = record {
      sent = ap (λ (n : ℕ). (n + p.size) % 2 ^ 64) right.sent ∙ kept_more (whole_sent s) p.size ∙ ap kept (sym whole);
      acked = right.acked;
      limit = right.limit;
      within = omega (arith, more, whole, right.within);
      bound = omega (arith, more, right.begun (omega (arith, work)), right.high, room, most);
      low = right.low;
      high = right.high;
      begun = λ w. absurd (omega (arith, w));
      one = omega arith;
      fewer = omega (arith, long, right.fewer);
      buffers = omega (arith, long, right.buffers, work);
      rooms = λ k lt. below_more (λ (i : ℕ). (get_or (s.pushed ++ p ∷ []) i no_packet).room ≡ l.packet) (length s.pushed)
          (λ i li. ap (λ (x : PacketView). x.room) (get_or_append_left s.pushed (p ∷ []) no_packet i li) ∙ right.rooms i li)
          (ap (λ (x : PacketView). x.room) (get_or-append_seam s.pushed p [] no_packet) ∙ room) k (omega (arith, lt, long));
      honest = λ h.
          let t = right.honest (honest_less s.pushed (p ∷ []) s.taken right.fewer h) in
          let a : whole_acked after ≡ whole_acked s = omega (arith, more, whole, right.within) in
          record {
            acked = a ∙ t.acked ∙ sym (bytes_front (length s.taken) s.pushed (p ∷ []) right.fewer);
            limit = ap (λ (n : ℕ). n + room_left s) a ∙ t.limit ∙ sym (offer_more l (length s.taken) s.pushed (p ∷ []) s.taken right.fewer);
            buffers = omega (arith, t.buffers, long, work);
          };
    }

pub end_pushed : (l : LinkShape) (c : Counts) (stock : StockValue) (packets later : Tx Packet) (acks : Rx Ack) (n : ℕ) (p : Packet)
    → IsSendEnd l c stock (Some p.buf) packets acks n → ring.sent later ≡ ring.sent packets ++ p ∷ [] → length p.buf.bytes ≤ p.buf.room
    → IsSendEnd l (record c { sent = (c.sent + length p.buf.bytes) % 2 ^ 64 }) stock None later acks (n + 1)
end_pushed l c stock packets later acks n p e got most =
    let r = pushed_on l (view_of c stock (Some p.buf) packets acks) (packet_view p) e.shape e.right refl (e.work_room p.buf refl) most in
    let more : map packet_view (ring.sent later) ≡ map packet_view (ring.sent packets) ++ packet_view p ∷ [] = ap (map packet_view) got ∙ map_push packet_view (ring.sent packets) p in
    let F : List PacketView → Type 0 = λ ps. SendsRight l (record (view_of c stock (Some p.buf) packets acks) { pushed = ps; sent = (c.sent + length p.buf.bytes) % 2 ^ 64; work = 0 }) in
    record {
      shape = e.shape;
      right = subst F (sym more) r;
      n = e.n;
      room = e.room;
      work_room = λ q none. absurd (cc);
      spelled = λ q none. absurd (cc);
      between = omega (arith, e.between, ap length got, length-append (ring.sent packets) (p ∷ []));
    }

-- what is acknowledged and what is allowed in all stay
pub end_still :
    (l : LinkShape) (c : Counts) (stock : StockValue) (packets later : Tx Packet) (acks : Rx Ack) (n : ℕ) (p : Packet) → IsSendEnd l c stock (Some p.buf) packets acks n → ring.sent later ≡ ring.sent packets ++ p ∷ []
    → length p.buf.bytes ≤ p.buf.room
    → (whole_acked (view_of (record c { sent = (c.sent + length p.buf.bytes) % 2 ^ 64 }) stock None later acks) ≡ whole_acked (view_of c stock (Some p.buf) packets acks))
    × (whole_limit (view_of (record c { sent = (c.sent + length p.buf.bytes) % 2 ^ 64 }) stock None later acks) ≡ whole_limit (view_of c stock (Some p.buf) packets acks))
end_still l c stock packets later acks n p e got most =
    let a = still_acked l (view_of c stock (Some p.buf) packets acks) (packet_view p) e.shape e.right refl (e.work_room p.buf refl) most in
    let more : map packet_view (ring.sent later) ≡ map packet_view (ring.sent packets) ++ packet_view p ∷ [] = ap (map packet_view) got ∙ map_push packet_view (ring.sent packets) p in
    let F : List PacketView → Type 0 = λ ps. whole_acked (record (view_of c stock (Some p.buf) packets acks) { pushed = ps; sent = (c.sent + length p.buf.bytes) % 2 ^ 64; work = 0 }) ≡ whole_acked (view_of c stock (Some p.buf) packets acks) in
    let all : whole_acked (view_of (record c { sent = (c.sent + length p.buf.bytes) % 2 ^ 64 }) stock None later acks) ≡ whole_acked (view_of c stock (Some p.buf) packets acks) = subst F (sym more) a in
    (all, ap (λ (k : ℕ). k + room_left (view_of c stock (Some p.buf) packets acks)) all)
