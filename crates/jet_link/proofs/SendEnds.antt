-- The end that sends, after each of its calls.
use Rattle.std.proofs.Common.{◌≡◌, ℕ, ◌+◌, ◌-◌, ◌^◌, ◌<◌, ◌≤◌, List, [], ◌∷◌, ◌++◌, map, length, refl, sym, ap, subst, ◌∙◌, arith, Option}
use Rattle.std.proofs.lemmas.List.{length-append, length-map, map_push}
use Rattle.jet_pool.specs.Pool.{BufValue, StockValue}
use Rattle.jet_ring.specs.Ring as ring
use Rattle.jet_ring.specs.declared.ends.Tx.{Tx}
use Rattle.jet_ring.specs.declared.ends.Rx.{Rx}
use Rattle.jet_link.specs.declared.packet.Packet.{Packet}
use Rattle.jet_link.specs.declared.ack.Ack.{Ack}
use Rattle.jet_link.specs.declared.counts.Counts.{Counts}
use Rattle.jet_link.specs.declared.shape.LinkShape.{LinkShape}
use Rattle.jet_link.specs.Link.{AckView, IsHonest, SendsRight, Accepts, whole_acked, whole_limit}
use Rattle.jet_link.specs.Ends.{packet_view, ack_view, view_of, IsSendEnd}
use Rattle.jet_link.proofs.Taking.{honest_accepts, took_in, dropped, acked_rises}

module _ (l : LinkShape) (c : Counts) (stock : StockValue) (work : Option BufValue) (packets : Tx Packet) (acks later : Rx Ack) (n : ℕ) (x : Ack)
    (e : IsSendEnd l c stock work packets acks n) (some : 0 < n) (got : ring.received later ≡ ring.received acks ++ x ∷ []) (pf : x.processed < 2 ^ 64) (of : x.offer < 2 ^ 64) where
  more : map ack_view (ring.received later) ≡ map ack_view (ring.received acks) ++ ack_view x ∷ []
  more = ap (map ack_view) got ∙ map_push ack_view (ring.received acks) x

  counted : length (ring.received later) ≡ length (ring.received acks) + 1
  counted = omega (arith, ap length got, length-append (ring.received acks) (x ∷ []))

  fewer : length (map ack_view (ring.received acks)) < length (map packet_view (ring.sent packets))
  fewer = omega (arith, length-map (ring.received acks) ack_view, length-map (ring.sent packets) packet_view, e.between, some)

  -- it was taken, and the rest is right: so is the end
  with_taken : (counts : Counts) (stocked : StockValue) → stocked.n ≡ stock.n → stocked.room ≡ stock.room
      → SendsRight l (record (view_of counts stocked work packets acks) { taken = map ack_view (ring.received acks) ++ ack_view x ∷ [] }) → IsSendEnd l counts stocked work packets later (n - 1)
  with_taken counts stocked same_n same_room r =
      let F : List AckView → Type 0 = λ tk. SendsRight l (record (view_of counts stocked work packets acks) { taken = tk }) in
      record {
        shape = e.shape;
        right = subst F (sym more) r;
        n = same_n ∙ e.n;
        room = same_room ∙ e.room;
        work_room = e.work_room;
        spelled = e.spelled;
        between = omega (arith, counted, e.between, some);
      }

  pub end_took : (stocked : StockValue) → stocked ≡ record stock { inside = stock.inside + 1 } → Accepts l c.sent c.acked c.limit x.processed x.offer
      → IsSendEnd l (record c { acked = x.processed; limit = x.offer }) stocked work packets later (n - 1)
  end_took stocked se ok =
      let r = took_in l (view_of c stock work packets acks) (ack_view x) e.shape e.right fewer pf of ok in
      let G : StockValue → Type 0 = λ st. IsSendEnd l (record c { acked = x.processed; limit = x.offer }) st work packets later (n - 1) in
      subst G (sym se) (with_taken (record c { acked = x.processed; limit = x.offer }) (record stock { inside = stock.inside + 1 }) refl refl r)

  pub end_dropped : (IsHonest l (map packet_view (ring.sent packets)) (map ack_view (ring.received acks) ++ ack_view x ∷ []) → ⊥)
      → IsSendEnd l c stock work packets later (n - 1)
  end_dropped unfair =
      with_taken c stock refl refl (dropped l (view_of c stock work packets acks) (ack_view x) e.shape e.right fewer pf of unfair)

  pub end_unfair : ((x.buf.room ≡ l.packet) → Accepts l c.sent c.acked c.limit x.processed x.offer → ⊥) → IsSendEnd l c stock work packets later (n - 1)
  end_unfair no_such = end_dropped (λ h.
      let a = honest_accepts l (view_of c stock work packets acks) (ack_view x) e.shape e.right fewer pf of h in
      no_such a.0 a.1)

  pub end_rises : (stocked : StockValue) → Accepts l c.sent c.acked c.limit x.processed x.offer
      → (whole_acked (view_of c stock work packets acks) ≤ whole_acked (view_of (record c { acked = x.processed; limit = x.offer }) stocked work packets later))
      × (whole_limit (view_of c stock work packets acks) ≤ whole_limit (view_of (record c { acked = x.processed; limit = x.offer }) stocked work packets later))
  end_rises stocked ok = acked_rises l (view_of c stock work packets acks) (ack_view x) e.shape e.right fewer pf of ok
