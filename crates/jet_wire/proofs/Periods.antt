-- What a receiver's turn counts, and what it offers.
use Rattle.std.proofs.Common.{◌≡◌, ℕ, ◌+◌, ◌*◌, min, max, Bool, true, false, [], ◌∷◌, length, refl, sym, ◌∙◌, ap, subst, arith, inl, inr, IsTrue, IsFalse, length-append}
use Rattle.jet_link.specs.declared.shape.LinkShape.{LinkShape}
use Rattle.jet_link.specs.Link.{whole_processed, whole_offer}
use Rattle.jet_link.specs.Receiving.{held_size, Received, SameCounts, Counted, Acknowledged, EndedTurn, next_grant}
use Rattle.jet_link.specs.Views.{RecvView, recv_state}
use Rattle.jet_wire.specs.ReceiverSteps.{CountsBytes, MayAck}
use Rattle.jet_wire.specs.ReceiverTurn.{CountsTurn, Offers}
use Rattle.jet_wire.proofs.Packets.{last_or_not}

abbrev processed : RecvView → ℕ
processed v = whole_processed (recv_state v)

abbrev offered : RecvView → ℕ
offered v = whole_offer v.shape (recv_state v)

-- ---- each step
pub counts_nothing : (a b : RecvView) → b ≡ a → CountsBytes a b
counts_nothing a b is =
    subst (CountsBytes a) (sym is) (record {
      bytes = 0;
      processed = omega arith;
      part = omega arith;
      turns = refl;
      grant = refl;
      shape = refl;
      offers = record { acks = refl; offer = refl };
    })

counts_taken : (a b : RecvView) → Received a b → SameCounts a b → CountsBytes a b
counts_taken a b r s = record {
  bytes = 0;
  processed = omega (arith, s.processed);
  part = omega (arith, ap (λ (w : RecvView). w.part) r.is);
  turns = ap (λ (w : RecvView). w.turns) r.is;
  grant = ap (λ (w : RecvView). w.grant) r.is;
  shape = ap (λ (w : RecvView). w.shape) r.is;
  offers = record { acks = ap (λ (w : RecvView). length w.acks.sent) r.is; offer = s.offer };
}

pub counts_received : (r : Bool) (a b : RecvView) {P : Type 0} → (IsTrue r → Received a b) → (IsTrue r → SameCounts a b) → (IsFalse r → (b ≡ a) × P) → CountsBytes a b
counts_received true a b does same not = counts_taken a b (does refl) (same refl)
counts_received false a b does same not = counts_nothing a b (not refl).0

pub counts_whole : (a b : RecvView) → Counted a b → CountsBytes a b
counts_whole a b c = record {
  bytes = held_size a.held;
  processed = c.processed;
  part = ap (λ (w : RecvView). w.part) c.is;
  turns = ap (λ (w : RecvView). w.turns) c.is;
  grant = ap (λ (w : RecvView). w.grant) c.is;
  shape = ap (λ (w : RecvView). w.shape) c.is;
  offers = record { acks = ap (λ (w : RecvView). length w.acks.sent) c.is; offer = ap (λ (w : RecvView). offered w) c.is };
}

pub acks_nothing : (a b : RecvView) → b ≡ a → MayAck a b
acks_nothing a b is =
    subst (MayAck a) (sym is) (record {
      processed = refl;
      part = refl;
      turns = refl;
      grant = refl;
      shape = refl;
      offers = inl (record { acks = refl; offer = refl });
    })

acks_one : (a b : RecvView) → Acknowledged a b → processed b ≡ processed a → MayAck a b
acks_one a b k same = record {
  processed = same;
  part = ap (λ (w : RecvView). w.part) k.is;
  turns = ap (λ (w : RecvView). w.turns) k.is;
  grant = ap (λ (w : RecvView). w.grant) k.is;
  shape = ap (λ (w : RecvView). w.shape) k.is;
  offers = inr (record {
    acks = ap (λ (w : RecvView). length w.acks.sent) k.is ∙ length-append a.acks.sent (k.ack ∷ []);
    offer = k.raised ∙ ap (λ (n : ℕ). max (offered a) (n + a.grant)) (sym same);
  });
}

pub acks_by : (r : Bool) (a b : RecvView) {P : Type 0} → (IsTrue r → Acknowledged a b) → (IsTrue r → processed b ≡ processed a) → (IsFalse r → (b ≡ a) × P) → MayAck a b
acks_by true a b does same not = acks_one a b (does refl) (same refl)
acks_by false a b does same not = acks_nothing a b (not refl).0

-- ---- the end of the turn
-- a period counts and grants, and nothing else
record Ends (c d : RecvView) : Type 0 where
  pub processed_same : processed d ≡ processed c
  pub offer : offered d ≡ offered c
  pub acks : length d.acks.sent ≡ length c.acks.sent

ends_turn : (c d : RecvView) → EndedTurn c d → Ends c d
ends_turn c d e = elim (last_or_not c.turns c.shape.period e.some) [
  | inl more ↦ record { processed_same = ap (λ (w : RecvView). processed w) (e.within more); offer = ap (λ (w : RecvView). offered w) (e.within more); acks = ap (λ (w : RecvView). length w.acks.sent) (e.within more) }
  | inr last ↦ record { processed_same = ap (λ (w : RecvView). processed w) (e.ends last); offer = ap (λ (w : RecvView). offered w) (e.ends last); acks = ap (λ (w : RecvView). length w.acks.sent) (e.ends last) }
]

abbrev grant_of : LinkShape → ℕ → ℕ
grant_of l part = min (max (part * l.multiplier) l.window) l.peak

module _ (a b c d : RecvView) (counts : CountsBytes a b) (acks : MayAck b c) (e : EndedTurn c d) where
  shapes : c.shape ≡ a.shape
  shapes = acks.shape ∙ counts.shape

  parts : c.part ≡ a.part + counts.bytes
  parts = acks.part ∙ counts.part

  turns : c.turns ≡ a.turns
  turns = acks.turns ∙ counts.turns

  period : c.shape.period ≡ a.shape.period
  period = ap (λ (l : LinkShape). l.period) shapes

  pub settles_counted : CountsTurn a d
  settles_counted = record {
    bytes = counts.bytes;
    processed = (ends_turn c d e).processed_same ∙ (acks.processed ∙ counts.processed);
    within = λ more.
        let is : d ≡ record c { turns = c.turns + 1 } = e.within (omega (arith, more, turns, period)) in
        (omega (arith, ap (λ (w : RecvView). w.turns) is, turns), ap (λ (w : RecvView). w.part) is ∙ parts, ap (λ (w : RecvView). w.grant) is ∙ (acks.grant ∙ counts.grant));
    ends = λ last.
        let is : d ≡ record c { grant = next_grant c; part = 0; turns = 0 } = e.ends (omega (arith, last, turns, period)) in (
          ap (λ (w : RecvView). w.turns) is,
          ap (λ (w : RecvView). w.part) is,
          ap (λ (w : RecvView). w.grant) is ∙ (ap (grant_of c.shape) parts ∙ ap (λ (l : LinkShape). grant_of l (a.part + counts.bytes)) shapes),
        );
  }

  offers_by : Offers b c → Offers a d
  offers_by (inl s) = inl (record {
    acks = (ends_turn c d e).acks ∙ (s.acks ∙ counts.offers.acks);
    offer = (ends_turn c d e).offer ∙ (s.offer ∙ counts.offers.offer);
  })
  offers_by (inr m) = inr (record {
    acks = omega (arith, (ends_turn c d e).acks, m.acks, counts.offers.acks);
    offer = (ends_turn c d e).offer ∙ (m.offer
        ∙ (ap (λ (n : ℕ). max n (processed c + b.grant)) counts.offers.offer
        ∙ (ap (λ (n : ℕ). max (offered a) (n + b.grant)) (sym (ends_turn c d e).processed_same) ∙ ap (λ (g : ℕ). max (offered a) (processed d + g)) counts.grant)));
  })

  pub settles_offers : Offers a d
  settles_offers = offers_by acks.offers

-- ---- after a packet was taken in hand
module _ (a b d : RecvView) (first : CountsBytes a b) where
  pub then_counted : CountsTurn b d → CountsTurn a d
  then_counted t =
      let period : b.shape.period ≡ a.shape.period = ap (λ (l : LinkShape). l.period) first.shape in
      let whole : b.part + t.bytes ≡ a.part + (first.bytes + t.bytes) = omega (arith, first.part) in
      record {
        bytes = first.bytes + t.bytes;
        processed = omega (arith, t.processed, first.processed);
        within = λ more.
            let is = t.within (omega (arith, more, first.turns, period)) in
            (omega (arith, is.0, first.turns), is.1 ∙ whole, is.2 ∙ first.grant);
        ends = λ last.
            let is = t.ends (omega (arith, last, first.turns, period)) in
            (is.0, is.1, is.2 ∙ (ap (grant_of b.shape) whole ∙ ap (λ (l : LinkShape). grant_of l (a.part + (first.bytes + t.bytes))) first.shape));
      }

  pub then_offers : Offers b d → Offers a d
  then_offers (inl s) = inl (record { acks = s.acks ∙ first.offers.acks; offer = s.offer ∙ first.offers.offer })
  then_offers (inr m) = inr (record {
    acks = omega (arith, m.acks, first.offers.acks);
    offer = m.offer ∙ (ap (λ (n : ℕ). max n (processed d + b.grant)) first.offers.offer ∙ ap (λ (g : ℕ). max (offered a) (processed d + g)) first.grant);
  })
