-- A receiver that counts and acknowledges the packet in its hand.
use Rattle.std.proofs.Common.{◌≡◌, ℕ, zero, suc, ◌+◌, ◌-◌, ◌<◌, ◌≤◌, List, [], ◌∷◌, ◌++◌, length, get_or, sym, ap, subst, ◌∙◌, arith, below_more}
use Rattle.std.proofs.lemmas.List.{length-append, get_or_append_left}
use Rattle.std.proofs.Math.Seq.{get_or-append_seam}
use Rattle.jet_link.specs.declared.shape.LinkShape.{LinkShape}
use Rattle.jet_link.specs.Shape.{IsShape}
use Rattle.jet_link.specs.Link.{PacketView, no_packet, AckView, no_ack, bytes_of, kept, less, ahead, offer_after, IsHonest}
use Rattle.jet_link.proofs.Counting.{less_is}
use Rattle.jet_link.proofs.Ends.{offer_front}

module _ (l : LinkShape) (ps : List PacketView) (acks : List AckView) (shape : IsShape l) (h : IsHonest l ps acks) where
  -- the offer after the last acknowledgement lies between the window and the peak ahead of its bytes
  pub offer_low : (k : ℕ) → k ≤ length acks → bytes_of k ps + l.window ≤ offer_after l ps acks k
  unfolding bytes_of
  offer_low zero le = omega arith
  offer_low (suc k) le = omega (arith, h.low k (omega (arith, le)))

  pub offer_high : (k : ℕ) → k ≤ length acks → offer_after l ps acks k ≤ bytes_of k ps + l.peak
  unfolding bytes_of
  offer_high zero le = omega (arith, shape.ordered)
  offer_high (suc k) le = omega (arith, h.high k (omega (arith, le)))

  module _ (a : AckView) (o : ℕ) (fewer : length acks < length ps) (room : a.room ≡ (get_or ps (length acks) no_packet).room)
      (pe : a.processed ≡ kept (bytes_of (suc (length acks)) ps)) (oe : a.offer ≡ kept o)
      (low : bytes_of (suc (length acks)) ps + l.window ≤ o) (high : o ≤ bytes_of (suc (length acks)) ps + l.peak) (rises : offer_after l ps acks (length acks) ≤ o) where
    abbrev more : List AckView
    more = acks ++ a ∷ []

    long : length more ≡ length acks + 1
    long = omega (arith, length-append acks (a ∷ []))

    last : get_or more (length acks) no_ack ≡ a
    last = get_or-append_seam acks a [] no_ack

    early : (k : ℕ) → k < length acks → get_or more k no_ack ≡ get_or acks k no_ack
    early k lt = get_or_append_left acks (a ∷ []) no_ack k lt

    dist : ahead a ≡ o - bytes_of (suc (length acks)) ps
    dist = ap (λ (x : ℕ). less x a.processed) oe ∙ ap (λ (y : ℕ). less (kept o) y) pe ∙ less_is o (bytes_of (suc (length acks)) ps) (omega (arith, low)) (omega (arith, high, shape.peak))

    pub offer_last : offer_after l ps more (suc (length acks)) ≡ o
    offer_last = ap (λ (x : AckView). bytes_of (suc (length acks)) ps + ahead x) last ∙ omega (arith, dist, low)

    was : (k : ℕ) → k ≤ length acks → offer_after l ps more k ≡ offer_after l ps acks k
    was k le = offer_front l k ps acks (a ∷ []) le

    pub honest_push : IsHonest l ps more
    honest_push = record {
      fewer = omega (arith, long, fewer);
      room = λ k lt. below_more (λ (i : ℕ). (get_or more i no_ack).room ≡ (get_or ps i no_packet).room) (length acks)
          (λ i li. ap (λ (x : AckView). x.room) (early i li) ∙ h.room i li) (ap (λ (x : AckView). x.room) last ∙ room) k (omega (arith, lt, long));
      processed = λ k lt. below_more (λ (i : ℕ). (get_or more i no_ack).processed ≡ kept (bytes_of (suc i) ps)) (length acks)
          (λ i li. ap (λ (x : AckView). x.processed) (early i li) ∙ h.processed i li) (ap (λ (x : AckView). x.processed) last ∙ pe) k (omega (arith, lt, long));
      offer = λ k lt. below_more (λ (i : ℕ). (get_or more i no_ack).offer ≡ kept (offer_after l ps more (suc i))) (length acks)
          (λ i li. ap (λ (x : AckView). x.offer) (early i li) ∙ h.offer i li ∙ ap kept (sym (was (suc i) (omega (arith, li)))))
          (ap (λ (x : AckView). x.offer) last ∙ oe ∙ ap kept (sym offer_last)) k (omega (arith, lt, long));
      low = λ k lt. below_more (λ (i : ℕ). l.window ≤ ahead (get_or more i no_ack)) (length acks)
          (λ i li. subst (λ (x : AckView). l.window ≤ ahead x) (sym (early i li)) (h.low i li))
          (subst (λ (x : AckView). l.window ≤ ahead x) (sym last) (omega (arith, dist, low))) k (omega (arith, lt, long));
      high = λ k lt. below_more (λ (i : ℕ). ahead (get_or more i no_ack) ≤ l.peak) (length acks)
          (λ i li. subst (λ (x : AckView). ahead x ≤ l.peak) (sym (early i li)) (h.high i li))
          (subst (λ (x : AckView). ahead x ≤ l.peak) (sym last) (omega (arith, dist, high))) k (omega (arith, lt, long));
      rising = λ k lt. below_more (λ (i : ℕ). offer_after l ps more i ≤ offer_after l ps more (suc i)) (length acks)
          (λ i li. omega (arith, h.rising i li, was i (omega (arith, li)), was (suc i) (omega (arith, li))))
          (omega (arith, was (length acks) (omega arith), offer_last, rises)) k (omega (arith, lt, long));
    }
