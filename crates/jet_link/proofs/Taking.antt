-- A sender that takes an acknowledgement.
use Rattle.std.proofs.Common.{◌≡◌, ℕ, suc, ◌+◌, ◌-◌, ◌^◌, ◌<◌, ◌≤◌, List, [], ◌∷◌, ◌++◌, length, get_or, refl, sym, ap, subst, ◌∙◌, arith}
use Rattle.std.proofs.lemmas.List.{length-append}
use Rattle.std.proofs.Math.Seq.{get_or-append_seam}
use Rattle.jet_link.specs.declared.shape.LinkShape.{LinkShape}
use Rattle.jet_link.specs.Shape.{IsShape}
use Rattle.jet_link.specs.Link.{AckView, no_ack, bytes_of, kept, less, ahead, offer_after, IsHonest, SendState, TookIn, SendsRight, Accepts, in_flight, whole_sent, whole_acked, whole_limit}
use Rattle.jet_link.proofs.Counting.{bytes_more, less_is}
use Rattle.jet_link.proofs.Ends.{honest_front, offer_front}

-- a count between two others
less_between : (a b p : ℕ) → a < 2 ^ 64 → b < 2 ^ 64 → p < 2 ^ 64 → less p b ≤ less a b → less a p ≡ less a b - less p b
less_between a b p la lb lp le = omega (arith, la, lb, lp, le)

-- the count that lies so far below another
below_is : (a w f b : ℕ) → a ≡ kept w → b < 2 ^ 64 → less a b ≡ f → f ≤ w → b ≡ kept (w - f)
below_is a w f b e lb d le = omega (arith, e, lb, d, le)

module _ (l : LinkShape) (s : SendState) (a : AckView) (shape : IsShape l) (right : SendsRight l s) (fewer : length s.taken < length s.pushed)
    (pf : a.processed < 2 ^ 64) (of : a.offer < 2 ^ 64) where
  abbrev more : List AckView
  more = s.taken ++ a ∷ []

  long : length more ≡ suc (length s.taken)
  long = omega (arith, length-append s.taken (a ∷ []))

  last : get_or more (length s.taken) no_ack ≡ a
  last = get_or-append_seam s.taken a [] no_ack

  fits : s.sent < 2 ^ 64
  fits = omega (arith, right.sent)

  -- how far an honest acknowledgement goes
  step : IsHonest l s.pushed more → (less a.processed s.acked ≡ bytes_of (suc (length s.taken)) s.pushed - bytes_of (length s.taken) s.pushed)
      × (bytes_of (length s.taken) s.pushed ≤ bytes_of (suc (length s.taken)) s.pushed) × (bytes_of (suc (length s.taken)) s.pushed ≤ whole_sent s) × TookIn l s
  step h =
      let took : TookIn l s = right.honest (honest_front l s.pushed s.taken (a ∷ []) h) in
      let up = bytes_more (length s.taken) (suc (length s.taken)) s.pushed (omega arith) in
      let top = bytes_more (suc (length s.taken)) (length s.pushed) s.pushed (omega (arith, fewer)) in
      let p : a.processed ≡ kept (bytes_of (suc (length s.taken)) s.pushed) = subst (λ (x : AckView). x.processed ≡ kept (bytes_of (suc (length s.taken)) s.pushed)) last (h.processed (length s.taken) (omega (arith, long))) in
      let b : s.acked ≡ kept (bytes_of (length s.taken) s.pushed) = below_is s.sent (whole_sent s) (in_flight s) s.acked right.sent right.acked refl right.within ∙ ap kept took.acked in
      let flight : whole_sent s - bytes_of (length s.taken) s.pushed ≡ in_flight s = omega (arith, took.acked, right.within) in
      let near : bytes_of (suc (length s.taken)) s.pushed - bytes_of (length s.taken) s.pushed < 2 ^ 64 = omega (arith, flight, top, right.bound, shape.packet.1, shape.peak) in
      let e : less a.processed s.acked ≡ less (kept (bytes_of (suc (length s.taken)) s.pushed)) (kept (bytes_of (length s.taken) s.pushed)) =
      ap (λ (x : ℕ). less x s.acked) p ∙ ap (λ (y : ℕ). less (kept (bytes_of (suc (length s.taken)) s.pushed)) y) b in
      (e ∙ less_is (bytes_of (suc (length s.taken)) s.pushed) (bytes_of (length s.taken) s.pushed) up near, up, top, took)

  pub honest_accepts : IsHonest l s.pushed more → (a.room ≡ l.packet) × Accepts l s.sent s.acked s.limit a.processed a.offer
  honest_accepts h =
      let t = step h in
      let flight : whole_sent s - bytes_of (length s.taken) s.pushed ≡ in_flight s = omega (arith, t.3.acked, right.within) in
      let low : l.window ≤ less a.offer a.processed = subst (λ (x : AckView). l.window ≤ ahead x) last (h.low (length s.taken) (omega (arith, long))) in
      let high : less a.offer a.processed ≤ l.peak = subst (λ (x : AckView). ahead x ≤ l.peak) last (h.high (length s.taken) (omega (arith, long))) in
      let rise : offer_after l s.pushed more (length s.taken) ≤ bytes_of (suc (length s.taken)) s.pushed + less a.offer a.processed =
      subst (λ (x : AckView). offer_after l s.pushed more (length s.taken) ≤ bytes_of (suc (length s.taken)) s.pushed + ahead x) last (h.rising (length s.taken) (omega (arith, long))) in
      let was : offer_after l s.pushed more (length s.taken) ≡ whole_limit s = offer_front l (length s.taken) s.pushed s.taken (a ∷ []) (omega arith) ∙ sym t.3.limit in (
        subst (λ (x : AckView). x.room ≡ l.packet) last (h.room (length s.taken) (omega (arith, long)) ∙ right.rooms (length s.taken) fewer),
        (omega (arith, t.0, t.1, t.2, flight), low, high, omega (arith, t.0, t.1, t.3.acked, rise, was)),
      )

  -- the sender after it took the acknowledgement in
  abbrev pub after : SendState
  after = record s { taken = more; acked = a.processed; limit = a.offer; inside = s.inside + 1 }

  flight_after : Accepts l s.sent s.acked s.limit a.processed a.offer → in_flight after ≡ in_flight s - less a.processed s.acked
  flight_after ok = less_between s.sent s.acked a.processed fits right.acked pf ok.0

  pub took_in : Accepts l s.sent s.acked s.limit a.processed a.offer → SendsRight l after
  took_in ok =
      let f = flight_after ok in
      record {
        sent = right.sent;
        acked = pf;
        limit = of;
        within = omega (arith, f, right.within);
        bound = omega (arith, f, right.bound);
        low = ok.1;
        high = ok.2;
        begun = λ w. omega (arith, f, right.begun w, ok.0, ok.3);
        one = right.one;
        fewer = omega (arith, long, fewer);
        buffers = omega (arith, long, right.buffers);
        rooms = right.rooms;
        honest = λ h.
            let t = step h in
            let acked : whole_acked after ≡ bytes_of (suc (length s.taken)) s.pushed = omega (arith, f, t.0, t.1, t.2, t.3.acked, right.within, ok.0) in
            record {
              acked = acked ∙ ap (λ (k : ℕ). bytes_of k s.pushed) (sym long);
              limit = ap (λ (n : ℕ). n + less a.offer a.processed) acked ∙ ap (λ (x : AckView). bytes_of (suc (length s.taken)) s.pushed + ahead x) (sym last) ∙ ap (λ (k : ℕ). offer_after l s.pushed more k) (sym long);
              buffers = omega (arith, t.3.buffers, long);
            };
      }

  pub acked_rises : Accepts l s.sent s.acked s.limit a.processed a.offer → (whole_acked s ≤ whole_acked after) × (whole_limit s ≤ whole_limit after)
  acked_rises ok = let f = flight_after ok in (omega (arith, f, right.within), omega (arith, f, right.within, ok.0, ok.3))

  -- and after it dropped it
  pub dropped : (IsHonest l s.pushed more → ⊥) → SendsRight l (record s { taken = more })
  dropped unfair = record {
    sent = right.sent;
    acked = right.acked;
    limit = right.limit;
    within = right.within;
    bound = right.bound;
    low = right.low;
    high = right.high;
    begun = right.begun;
    one = right.one;
    fewer = omega (arith, long, fewer);
    buffers = omega (arith, long, right.buffers);
    rooms = right.rooms;
    honest = λ h. absurd (unfair h);
  }
