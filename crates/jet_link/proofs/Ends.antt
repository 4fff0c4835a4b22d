-- Where the two ends of a link meet.
use Rattle.std.proofs.Common.{◌≡◌, ℕ, zero, suc, ◌+◌, ◌^◌, ◌<◌, ◌≤◌, List, ◌++◌, length, get_or, refl, sym, ap, subst, ◌∙◌, arith}
use Rattle.std.proofs.lemmas.List.{length-append}
use Rattle.std.proofs.lemmas.List.{get_or_append_left}
use Rattle.jet_link.specs.declared.shape.LinkShape.{LinkShape}
use Rattle.jet_link.specs.Shape.{IsShape}
use Rattle.jet_link.specs.Link.{PacketView, no_packet, AckView, no_ack, bytes_of, kept, ahead, offer_after, IsHonest, SendState, RecvState, TookIn, SendsRight, RecvsRight, LinkMet, in_flight, whole_sent, whole_acked, whole_processed}
use Rattle.jet_link.proofs.Counting.{bytes_front, bytes_more, less_zero}

module _ (l : LinkShape) where
  pub offer_more : (k : ℕ) (xs ys : List PacketView) (acks : List AckView) → k ≤ length xs → offer_after l (xs ++ ys) acks k ≡ offer_after l xs acks k
  offer_more zero xs ys acks le = refl
  offer_more (suc k) xs ys acks le = ap (λ (n : ℕ). n + ahead (get_or acks k no_ack)) (bytes_front (suc k) xs ys le)

  pub offer_front : (k : ℕ) (xs : List PacketView) (a b : List AckView) → k ≤ length a → offer_after l xs (a ++ b) k ≡ offer_after l xs a k
  offer_front zero xs a b le = refl
  offer_front (suc k) xs a b le = ap (λ (x : AckView). bytes_of (suc k) xs + ahead x) (get_or_append_left a b no_ack k (omega (arith, le)))

  -- what is honest of some packets is so where more follow
  pub honest_more : (xs ys : List PacketView) (acks : List AckView) → IsHonest l xs acks → IsHonest l (xs ++ ys) acks
  honest_more xs ys acks h = record {
    fewer = omega (arith, length-append xs ys, h.fewer);
    room = λ k lt. h.room k lt ∙ ap (λ (x : PacketView). x.room) (sym (get_or_append_left xs ys no_packet k (omega (arith, lt, h.fewer))));
    processed = λ k lt. h.processed k lt ∙ ap kept (sym (bytes_front (suc k) xs ys (omega (arith, lt, h.fewer))));
    offer = λ k lt. h.offer k lt ∙ ap kept (sym (offer_more (suc k) xs ys acks (omega (arith, lt, h.fewer))));
    low = h.low;
    high = h.high;
    rising = λ k lt. omega (arith, h.rising k lt, offer_more k xs ys acks (omega (arith, lt, h.fewer)), offer_more (suc k) xs ys acks (omega (arith, lt, h.fewer)));
  }

  -- and so are the first of the acknowledgements
  pub honest_front : (xs : List PacketView) (a b : List AckView) → IsHonest l xs (a ++ b) → IsHonest l xs a
  honest_front xs a b h =
      let long : length (a ++ b) ≡ length a + length b = length-append a b in
      let at : (k : ℕ) → k < length a → get_or (a ++ b) k no_ack ≡ get_or a k no_ack = λ k lt. get_or_append_left a b no_ack k lt in
      record {
        fewer = omega (arith, long, h.fewer);
        room = λ k lt. ap (λ (x : AckView). x.room) (sym (at k lt)) ∙ h.room k (omega (arith, lt, long));
        processed = λ k lt. ap (λ (x : AckView). x.processed) (sym (at k lt)) ∙ h.processed k (omega (arith, lt, long));
        offer = λ k lt. ap (λ (x : AckView). x.offer) (sym (at k lt)) ∙ h.offer k (omega (arith, lt, long)) ∙ ap kept (offer_front (suc k) xs a b (omega (arith, lt)));
        low = λ k lt. subst (λ (x : AckView). l.window ≤ ahead x) (at k lt) (h.low k (omega (arith, lt, long)));
        high = λ k lt. subst (λ (x : AckView). ahead x ≤ l.peak) (at k lt) (h.high k (omega (arith, lt, long)));
        rising = λ k lt. omega (arith, h.rising k (omega (arith, lt, long)), offer_front k xs a b (omega (arith, lt)), offer_front (suc k) xs a b (omega (arith, lt)));
      }

  pub meets : (s : SendState) (r : RecvState) (packets : List PacketView) (acks : List AckView) → IsShape l → SendsRight l s → RecvsRight l r
      → s.pushed ≡ r.received ++ packets → r.gave ≡ s.taken ++ acks → LinkMet l s r packets acks
  meets s r packets acks shape sends recvs pe ae =
      let all : IsHonest l s.pushed r.gave = subst (λ (w : List PacketView). IsHonest l w r.gave) (sym pe) (honest_more r.received packets r.gave recvs.honest) in
      let own : IsHonest l s.pushed s.taken = honest_front s.pushed s.taken acks (subst (λ (w : List AckView). IsHonest l s.pushed w) ae all) in
      let took : TookIn l s = sends.honest own in
      let pl : length s.pushed ≡ length r.received + length packets = ap length pe ∙ length-append r.received packets in
      let al : length r.gave ≡ length s.taken + length acks = ap length ae ∙ length-append s.taken acks in
      let most : length r.gave + r.whole ≤ length r.received = omega (arith, recvs.one, recvs.held) in
      let same : bytes_of (length r.gave + r.whole) s.pushed ≡ whole_processed r =
      ap (λ (w : List PacketView). bytes_of (length r.gave + r.whole) w) pe ∙ bytes_front (length r.gave + r.whole) r.received packets most in
      let low = bytes_more (length s.taken) (length r.gave + r.whole) s.pushed (omega (arith, al)) in
      let high = bytes_more (length r.gave + r.whole) (length s.pushed) s.pushed (omega (arith, pl, most)) in
      record {
        packets_are = pe;
        acks_are = ae;
        took_in = took;
        acked = omega (arith, took.acked, low, same);
        processed = omega (arith, high, same);
        buffers = omega (arith, took.buffers, pl, al, recvs.one);
        may_take = omega (arith, pl, al, recvs.one);
        at_rest = λ pn hn an.
            let lens : length s.taken ≡ length s.pushed = omega (arith, ap length pn, ap length an, pl, al, recvs.one) in
            let full : whole_acked s ≡ whole_sent s = took.acked ∙ ap (λ (k : ℕ). bytes_of k s.pushed) lens in
            let none : in_flight s ≡ 0 = omega (arith, full, sends.within) in
            let sent_fits : s.sent < 2 ^ 64 = omega (arith, sends.sent) in
            (less_zero s.sent s.acked sent_fits sends.acked none, none);
      }
