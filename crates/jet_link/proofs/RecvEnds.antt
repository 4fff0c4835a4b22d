-- The end that receives, after each of its calls.
use Rattle.std.proofs.Common.{max, ◌≡◌, ℕ, suc, ◌+◌, ◌-◌, ◌*◌, ◌%◌, ◌^◌, ◌<◌, ◌≤◌, List, [], ◌∷◌, ◌++◌, map, length, get_or, refl, sym, ap, subst, ◌∙◌, arith, Option, Some, None, true, false, inl, inr}
use Rattle.std.specs.Prelude.{Result, Ok, Err, IsErr, OnOk, ◌↔◌, IsSome, Bool}
use Rattle.std.proofs.lemmas.List.{length-append, length-map, map_push}
use Rattle.jet_pool.specs.Pool.{BufValue}
use Rattle.jet_ring.specs.Ring as ring
use Rattle.jet_ring.specs.declared.ends.Tx.{Tx}
use Rattle.jet_ring.specs.declared.ends.Rx.{Rx}
use Rattle.jet_link.specs.declared.packet.Packet.{Packet}
use Rattle.jet_link.specs.declared.ack.Ack.{Ack}
use Rattle.jet_link.specs.declared.shape.LinkShape.{LinkShape}
use Rattle.jet_link.specs.Link.{PacketView, no_packet, AckView, RecvsRight, Raised, bytes_of, kept, less, offer_after, whole_processed, whole_offer}
use Rattle.jet_link.specs.Ends.{packet_view, ack_view, recv_of, IsRecvEnd}
use Rattle.jet_link.specs.Receiving.{held_size}
use Rattle.jet_link.proofs.Counting.{bytes_next, less_is}
use Rattle.jet_link.proofs.Acking.{offer_low, offer_high, offer_last, honest_push}

one_more : (k : ℕ) → k + 1 ≡ suc k
one_more k = omega arith

-- the count before the last bytes
back : (b n : ℕ) → n ≤ 2 ^ 32 → less (kept (b + n)) n ≡ kept b
back b n le = omega (arith, le)

forth : (b n : ℕ) → kept (kept b + n) ≡ kept (b + n)
forth b n = omega arith

module _ (l : LinkShape) (packets : Rx Packet) (acks later : Tx Ack) (p : Packet) (x : Ack) (processed offer grant part turns new : ℕ)
    (e : IsRecvEnd l packets acks (Some p) true processed offer grant part turns) (got : ring.sent later ≡ ring.sent acks ++ x ∷ [])
    (buf : x.buf ≡ p.buf) (pe : x.processed ≡ processed) (oe : x.offer ≡ new) (small : length p.buf.bytes ≤ 2 ^ 32) where
  abbrev ps : List PacketView
  ps = map packet_view (ring.received packets)

  abbrev old : List AckView
  old = map ack_view (ring.sent acks)

  abbrev n : ℕ
  n = length p.buf.bytes

  more : map ack_view (ring.sent later) ≡ old ++ ack_view x ∷ []
  more = ap (map ack_view) got ∙ map_push ack_view (ring.sent acks) x

  count : length old ≡ length (ring.sent acks)
  count = length-map (ring.sent acks) ack_view

  here : get_or ps (length old) no_packet ≡ packet_view p
  here = ap (λ (k : ℕ). get_or ps k no_packet) count ∙ e.in_hand p refl

  next : bytes_of (suc (length old)) ps ≡ bytes_of (length old) ps + n
  next = bytes_next (length old) ps ∙ ap (λ (q : PacketView). bytes_of (length old) ps + q.size) here

  done : processed ≡ kept (bytes_of (length old) ps + n)
  done = e.right.processed ∙ ap (λ (k : ℕ). kept (bytes_of k ps)) (omega arith) ∙ ap kept next

  before_is : less processed n ≡ kept (bytes_of (length old) ps)
  before_is = ap (λ (k : ℕ). less k n) done ∙ back (bytes_of (length old) ps) n small

  lies_low : bytes_of (length old) ps + l.window ≤ offer_after l ps old (length old)
  lies_low = offer_low l ps old e.shape e.right.honest (length old) (omega arith)

  lies_high : offer_after l ps old (length old) ≤ bytes_of (length old) ps + l.peak
  lies_high = offer_high l ps old e.shape e.right.honest (length old) (omega arith)

  dist : less offer (less processed n) ≡ offer_after l ps old (length old) - bytes_of (length old) ps
  dist = ap (λ (y : ℕ). less offer y) before_is ∙ ap (λ (y : ℕ). less y (kept (bytes_of (length old) ps))) e.right.offer
      ∙ less_is (offer_after l ps old (length old)) (bytes_of (length old) ps) (omega (arith, lies_low)) (omega (arith, lies_high, e.shape.peak))

  fewer : length old < length ps
  fewer = omega (arith, e.right.one)

  with_offer : (o : ℕ) → new ≡ kept o → bytes_of (suc (length old)) ps + l.window ≤ o → o ≤ bytes_of (suc (length old)) ps + l.peak → offer_after l ps old (length old) ≤ o
      → IsRecvEnd l packets later None false processed new grant part turns
  with_offer o ne low high rises =
      let room : x.buf.room ≡ (get_or ps (length old) no_packet).room = ap (λ (b : BufValue). b.room) buf ∙ ap (λ (q : PacketView). q.room) (sym here) in
      let p1 : x.processed ≡ kept (bytes_of (suc (length old)) ps) = pe ∙ done ∙ ap kept (sym next) in
      let h = honest_push l ps old e.shape e.right.honest (ack_view x) o fewer room p1 (oe ∙ ne) low high rises in
      let last = offer_last l ps old e.shape e.right.honest (ack_view x) o fewer room p1 (oe ∙ ne) low high rises in
      let long : length (old ++ ack_view x ∷ []) ≡ suc (length old) = omega (arith, length-append old (ack_view x ∷ [])) in
      let F : List AckView → Type 0 = λ g. RecvsRight l (record { received = ps; gave = g; holds = 0; whole = 0; processed = processed; offer = new; grant = grant }) in
      let r : RecvsRight l (record { received = ps; gave = old ++ ack_view x ∷ []; holds = 0; whole = 0; processed = processed; offer = new; grant = grant }) = record {
        honest = h;
        one = omega (arith, e.right.one, long);
        most = omega arith;
        held = omega arith;
        processed = done ∙ ap kept (sym next) ∙ ap (λ (k : ℕ). kept (bytes_of k ps)) (omega (arith, long));
        offer = ne ∙ ap kept (sym last) ∙ ap (λ (k : ℕ). kept (offer_after l ps (old ++ ack_view x ∷ []) k)) (sym long);
        low = e.right.low;
        high = e.right.high;
      } in
      record {
        shape = e.shape;
        right = subst F (sym more) r;
        in_hand = λ q none. absurd (cc);
        period = e.period;
        few = e.few;
      }

  pub end_acked : Raised offer (less processed n) n grant new → IsRecvEnd l packets later None false processed new grant part turns
  end_acked (inl r) =
      with_offer (bytes_of (length old) ps + n + grant) (r.1 ∙ ap (λ (k : ℕ). kept (k + (n + grant))) before_is ∙ forth (bytes_of (length old) ps) (n + grant) ∙ ap kept (omega arith))
      (omega (arith, next, e.right.low)) (omega (arith, next, e.right.high)) (omega (arith, r.0, dist, lies_low))
  end_acked (inr r) =
      with_offer (offer_after l ps old (length old)) (r.1 ∙ e.right.offer) (omega (arith, next, e.right.low, r.0, dist, lies_low)) (omega (arith, next, lies_high)) (omega arith)

  last_offer : (o : ℕ) → new ≡ kept o → bytes_of (suc (length old)) ps + l.window ≤ o → o ≤ bytes_of (suc (length old)) ps + l.peak → offer_after l ps old (length old) ≤ o
      → whole_offer l (recv_of packets later None false processed new grant) ≡ o
  last_offer o ne low high rises =
      let room : x.buf.room ≡ (get_or ps (length old) no_packet).room = ap (λ (b : BufValue). b.room) buf ∙ ap (λ (q : PacketView). q.room) (sym here) in
      let p1 : x.processed ≡ kept (bytes_of (suc (length old)) ps) = pe ∙ done ∙ ap kept (sym next) in
      let last = offer_last l ps old e.shape e.right.honest (ack_view x) o fewer room p1 (oe ∙ ne) low high rises in
      let long : length (old ++ ack_view x ∷ []) ≡ suc (length old) = omega (arith, length-append old (ack_view x ∷ [])) in
      ap (λ (g : List AckView). offer_after l ps g (length g)) more ∙ ap (λ (k : ℕ). offer_after l ps (old ++ ack_view x ∷ []) k) long ∙ last

  -- the offer is raised to the grant ahead of the bytes processed where that is more
  pub offer_raised : Raised offer (less processed n) n grant new
      → whole_offer l (recv_of packets later None false processed new grant)
      ≡ max (whole_offer l (recv_of packets acks (Some p) true processed offer grant)) (whole_processed (recv_of packets acks (Some p) true processed offer grant) + grant)
  offer_raised (inl r) =
      last_offer (bytes_of (length old) ps + n + grant) (r.1 ∙ ap (λ (k : ℕ). kept (k + (n + grant))) before_is ∙ forth (bytes_of (length old) ps) (n + grant) ∙ ap kept (omega arith))
      (omega (arith, next, e.right.low)) (omega (arith, next, e.right.high)) (omega (arith, r.0, dist, lies_low))
      ∙ omega (arith, r.0, dist, lies_low, next, ap (λ (k : ℕ). bytes_of k ps) (one_more (length old)))
  offer_raised (inr r) =
      last_offer (offer_after l ps old (length old)) (r.1 ∙ e.right.offer) (omega (arith, next, e.right.low, r.0, dist, lies_low)) (omega (arith, next, lies_high)) (omega arith)
      ∙ omega (arith, r.0, dist, lies_low, next, ap (λ (k : ℕ). bytes_of k ps) (one_more (length old)))

-- the packet that was acknowledged was counted before
module _ (l : LinkShape) (packets : Rx Packet) (acks later : Tx Ack) (p : Packet) (x : Ack) (processed offer grant new : ℕ) (got : ring.sent later ≡ ring.sent acks ++ x ∷ []) where
  pub processed_kept : whole_processed (recv_of packets later None false processed new grant) ≡ whole_processed (recv_of packets acks (Some p) true processed offer grant)
  processed_kept =
      let long : length (map ack_view (ring.sent later)) + 0 ≡ length (map ack_view (ring.sent acks)) + 1 = omega (arith, length-map (ring.sent later) ack_view, length-map (ring.sent acks) ack_view, ap length got, length-append (ring.sent acks) (x ∷ [])) in
      ap (λ (k : ℕ). bytes_of k (map packet_view (ring.received packets))) long

-- an offer that cannot have been given back
pub sent_ok : {T E : Type 0} (r : Result T E) {P Q : Type 0} → (IsErr r ↔ Q) → OnOk r P → (Q → ⊥) → P
sent_ok (Ok x) cause p free = p
sent_ok (Err y) cause p free = absurd (free (cause.0 refl))

module _ (l : LinkShape) (packets : Rx Packet) (acks : Tx Ack) (p : Packet) (processed offer grant part turns : ℕ)
    (e : IsRecvEnd l packets acks (Some p) false processed offer grant part turns) where
  abbrev ps2 : List PacketView
  ps2 = map packet_view (ring.received packets)

  abbrev gave2 : List AckView
  gave2 = map ack_view (ring.sent acks)

  next2 : bytes_of (length gave2 + 1) ps2 ≡ bytes_of (length gave2 + 0) ps2 + length p.buf.bytes
  next2 =
      let here : get_or ps2 (length gave2) no_packet ≡ packet_view p = ap (λ (k : ℕ). get_or ps2 k no_packet) (length-map (ring.sent acks) ack_view) ∙ e.in_hand p refl in
      ap (λ (k : ℕ). bytes_of k ps2) (omega arith) ∙ bytes_next (length gave2) ps2 ∙ ap (λ (q : PacketView). bytes_of (length gave2) ps2 + q.size) here
      ∙ ap (λ (k : ℕ). bytes_of k ps2 + length p.buf.bytes) (omega arith)

  pub counts_on : whole_processed (recv_of packets acks (Some p) true ((processed + length p.buf.bytes) % 2 ^ 64) offer grant) ≡ whole_processed (recv_of packets acks (Some p) false processed offer grant) + length p.buf.bytes
  counts_on = next2

  pub end_counted : length p.buf.bytes ≤ 65536 → part ≤ turns * 65536 → IsRecvEnd l packets acks (Some p) true ((processed + length p.buf.bytes) % 2 ^ 64) offer grant (part + length p.buf.bytes) turns
  end_counted small few = record {
    shape = e.shape;
    right = record {
      honest = e.right.honest;
      one = e.right.one;
      most = e.right.most;
      held = omega arith;
      processed = ap (λ (n : ℕ). kept (n + length p.buf.bytes)) e.right.processed ∙ forth (bytes_of (length gave2 + 0) ps2) (length p.buf.bytes) ∙ ap kept (sym next2);
      offer = e.right.offer;
      low = e.right.low;
      high = e.right.high;
    };
    in_hand = e.in_hand;
    period = e.period;
    few = omega (arith, small, few);
  }

pub counted_in : (l : LinkShape) (packets : Rx Packet) (acks : Tx Ack) (held : Option Packet) (whole : Bool) (processed offer grant part turns : ℕ)
    → IsRecvEnd l packets acks held whole processed offer grant part turns → IsSome held → whole ≡ false → (n : ℕ) → n ≡ held_size held → held_size held ≤ 65536 → part ≤ turns * 65536
    → IsRecvEnd l packets acks held true ((processed + n) % 2 ^ 64) offer grant (part + n) turns
counted_in l packets acks None whole processed offer grant part turns e some once n ne small few = absurd (cc)
counted_in l packets acks (Some p) whole processed offer grant part turns e some once n ne small few =
    let e2 : IsRecvEnd l packets acks (Some p) false processed offer grant part turns = subst (λ (b : Bool). IsRecvEnd l packets acks (Some p) b processed offer grant part turns) once e in
    subst (λ (k : ℕ). IsRecvEnd l packets acks (Some p) true ((processed + k) % 2 ^ 64) offer grant (part + k) turns) (sym ne) (end_counted l packets acks p processed offer grant part turns e2 small few)

pub counted_as : (l : LinkShape) (packets : Rx Packet) (acks : Tx Ack) (held : Option Packet) (whole : Bool) (processed offer grant part turns : ℕ)
    → IsRecvEnd l packets acks held whole processed offer grant part turns → IsSome held → whole ≡ false → (n : ℕ) → n ≡ held_size held
    → whole_processed (recv_of packets acks held true ((processed + n) % 2 ^ 64) offer grant) ≡ whole_processed (recv_of packets acks held whole processed offer grant) + held_size held
counted_as l packets acks None whole processed offer grant part turns e some once n ne = absurd (cc)
counted_as l packets acks (Some p) whole processed offer grant part turns e some once n ne =
    let e2 : IsRecvEnd l packets acks (Some p) false processed offer grant part turns = subst (λ (b : Bool). IsRecvEnd l packets acks (Some p) b processed offer grant part turns) once e in
    let up = counts_on l packets acks p processed offer grant part turns e2 in
    let same : whole_processed (recv_of packets acks (Some p) whole processed offer grant) ≡ whole_processed (recv_of packets acks (Some p) false processed offer grant) = ap (λ (b : Bool). whole_processed (recv_of packets acks (Some p) b processed offer grant)) once in
    omega (arith, up, same)
