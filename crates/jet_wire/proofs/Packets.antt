-- A receiver that takes, counts and acknowledges packets.
use Rattle.std.proofs.Common.{◌≡◌, ℕ, zero, suc, ◌+◌, ◌<◌, ◌≤◌, Bool, true, false, List, [], ◌∷◌, ◌++◌, drop, length, refl, sym, ◌∙◌, ap, subst, arith, append_assoc, append-nil, Some, None, inl, inr, IsTrue, IsFalse}
use Rattle.std.specs.Prelude.{◌⊎◌}
use Rattle.std.proofs.lemmas.List.{drop_all}
use Rattle.std.proofs.lemmas.List.Concat.{flat_map-append, flat_map-cons}
use mathlib.Core.List.{IsPrefix}
use base.Growing.{prefix_refl, prefix_trans}
use Rattle.jet_items.specs.declared.item.Item.{Item}
use Rattle.jet_spell.specs.Begins.{BeginsWith}
use Rattle.jet_spell.specs.Laws.{SpellingsAreShort}
use Rattle.jet_spell.specs.Packets.{IsSpelled}
use Rattle.jet_spell.specs.Spelling.{spellings}
use Rattle.jet_link.specs.declared.ack.Ack.{Ack}
use Rattle.jet_link.specs.declared.packet.Packet.{Packet}
use Rattle.jet_link.specs.Packets.{packet_bytes, packed}
use Rattle.jet_link.specs.Receiving.{SameRecv, held_bytes, Received, EndedTurn, next_grant}
use Rattle.jet_link.specs.Views.{RecvView}
use Rattle.jet_wire.specs.Receiver.{ReceiverView, bytes_left, ReceiverKeeps}
use Rattle.jet_wire.specs.ReceiverTurn.{RecvGoes}
use Rattle.jet_wire.specs.ReceiverSteps.{Receives}
use Rattle.jet_wire.proofs.Dealing.{none_next}

pub recv_refl : (a : RecvView) → RecvGoes a a
recv_refl a = record {
  same = record { shape = refl; packets = refl; acks = refl };
  received = prefix_refl a.packets.received;
  still_known = prefix_refl (a.packets.received ++ a.packets.known);
  gave = prefix_refl a.acks.sent;
  still_free = refl;
}

pub recv_trans : (a b d : RecvView) → RecvGoes a b → RecvGoes b d → RecvGoes a d
recv_trans a b d p q = record {
  same = record { shape = q.same.shape ∙ p.same.shape; packets = q.same.packets ∙ p.same.packets; acks = q.same.acks ∙ p.same.acks };
  received = prefix_trans a.packets.received b.packets.received d.packets.received p.received q.received;
  still_known = prefix_trans (a.packets.received ++ a.packets.known) (b.packets.received ++ b.packets.known) (d.packets.received ++ d.packets.known) p.still_known q.still_known;
  gave = prefix_trans a.acks.sent b.acks.sent d.acks.sent p.gave q.gave;
  still_free = q.still_free ∙ p.still_free;
}

pub receives_refl : (v : ReceiverView) → Receives v v
receives_refl v = record { router_same = refl; end = recv_refl v.end; stays = record { stays = λ items k. k } }

pub receives_trans : (a b d : ReceiverView) → Receives a b → Receives b d → Receives a d
receives_trans a b d p q = record {
  router_same = q.router_same ∙ p.router_same;
  end = recv_trans a.end b.end d.end p.end q.end;
  stays = record { stays = λ items k. q.stays.stays items (p.stays.stays items k) };
}

-- what is known behind what was received
known_behind : {X : Type 0} (r k m : List X) (x : X) → IsPrefix k (x ∷ m) → IsPrefix (r ++ k) ((r ++ x ∷ []) ++ m)
known_behind r k m x (rest, e) = (rest, append_assoc r k rest ∙ (ap (λ w. r ++ w) e ∙ sym (append_assoc r (x ∷ []) m)))

pub none_left : (v : ReceiverView) → v.end.held ≡ None → v.at ≤ length (held_bytes v.end.held) → bytes_left v ≡ []
none_left v none le = drop_all v.at (held_bytes v.end.held) (omega (arith, ap length (ap held_bytes none)))

-- ---- a packet was taken in hand
module _ (short : SpellingsAreShort) (v : ReceiverView) (e : RecvView) (same : SameRecv v.end e) (free : v.end.held ≡ None) (r : Received v.end e) where
  abbrev taken : ReceiverView
  taken = record v { end = e }

  held_is : e.held ≡ Some r.packet
  held_is = ap (λ (w : RecvView). w.held) r.is

  goes_taken : RecvGoes v.end e
  goes_taken = record {
    same = same;
    received = (r.packet ∷ [], sym r.received);
    still_known = subst (λ (xs : List Packet). IsPrefix (v.end.packets.received ++ v.end.packets.known) (xs ++ e.packets.known)) (sym r.received)
        (known_behind v.end.packets.received v.end.packets.known e.packets.known r.packet r.oldest);
    gave = subst (λ (xs : List Ack). IsPrefix v.end.acks.sent xs) (sym (ap (λ (w : RecvView). w.acks.sent) r.is)) (prefix_refl v.end.acks.sent);
    still_free = ap (λ (w : RecvView). length w.acks.sent + w.acks.free) r.is;
  }

  keeps_taken : (items : List Item) → ReceiverKeeps v items → ReceiverKeeps taken items
  keeps_taken items k =
      let zero_at : v.at ≡ 0 = omega (arith, k.inside, ap length (ap held_bytes free)) in
      let none : bytes_left v ≡ [] = none_left v free k.inside in
      let now : bytes_left taken ≡ r.packet.buf.bytes = ap (λ (n : ℕ). drop n (held_bytes e.held)) zero_at ∙ ap held_bytes held_is in
      let last : packed (r.packet ∷ []) ≡ r.packet.buf.bytes = flat_map-cons packet_bytes r.packet [] ∙ append-nil r.packet.buf.bytes in
      record {
        deals = k.deals;
        dealt = k.dealt;
        items = k.items;
        fits = k.fits;
        bytes = ap packed r.received ∙ (flat_map-append packet_bytes v.end.packets.received (r.packet ∷ []) ∙ (ap (λ (b : List ℕ). packed v.end.packets.received ++ b) last
            ∙ (ap (λ (b : List ℕ). b ++ r.packet.buf.bytes) (k.bytes ∙ (ap (λ (b : List ℕ). spellings items ++ b) none ∙ append-nil (spellings items))) ∙ ap (λ (b : List ℕ). spellings items ++ b) (sym now))));
        inside = omega (arith, zero_at);
        spelled = subst (λ (b : List ℕ). IsSpelled b) (sym now) r.packet.spelled;
        hand = λ busy. let next = k.hand busy in absurd (none_next short next.0 next.1.0 (subst (λ (b : List ℕ). BeginsWith next.0 next.1.0 b) none next.1.1));
        owed = k.owed;
        dests = k.dests;
        whole = λ w. let some = (k.whole (sym (ap (λ (u : RecvView). u.whole) r.is) ∙ w)).0 in absurd (cc);
        done = k.done;
      }

  receives_taken : Receives v taken
  receives_taken = record { router_same = refl; end = goes_taken; stays = record { stays = keeps_taken } }

pub receives_by : SpellingsAreShort → (v : ReceiverView) (e : RecvView) → SameRecv v.end e → v.end.held ≡ None → (r : Bool) {P : Type 0} → (IsTrue r → Received v.end e) → (IsFalse r → (e ≡ v.end) × P) → Receives v (record v { end = e })
receives_by short v e same free true does not = receives_taken short v e same free (does refl)
receives_by short v e same free false does not = subst (λ (w : RecvView). Receives v (record v { end = w })) (sym (not refl).0) (receives_refl v)

-- ---- the turn of the end was counted
with_period : (v : ReceiverView) (grant part turns : ℕ) → Receives v (record v { end = record v.end { grant = grant; part = part; turns = turns } })
with_period v grant part turns = record {
  router_same = refl;
  end = record {
    same = record { shape = refl; packets = refl; acks = refl };
    received = prefix_refl v.end.packets.received;
    still_known = prefix_refl (v.end.packets.received ++ v.end.packets.known);
    gave = prefix_refl v.end.acks.sent;
    still_free = refl;
  };
  stays = record {
    stays = λ items k. record {
      deals = k.deals;
      dealt = k.dealt;
      items = k.items;
      fits = k.fits;
      bytes = k.bytes;
      inside = k.inside;
      spelled = k.spelled;
      hand = k.hand;
      owed = k.owed;
      dests = k.dests;
      whole = k.whole;
      done = k.done;
    };
  };
}

pub last_or_not : (t p : ℕ) → t < p → (t + 1 < p) ⊎ (t + 1 ≡ p)
last_or_not t zero lt = absurd (omega (arith, lt))
last_or_not zero (suc zero) lt = inr (omega arith)
last_or_not zero (suc (suc p)) lt = inl (omega arith)
last_or_not (suc t) (suc p) lt = elim (last_or_not t p (omega (arith, lt))) [ inl more ↦ inl (omega (arith, more)) | inr last ↦ inr (omega (arith, last)) ]

pub receives_ended : (v : ReceiverView) (e : RecvView) → EndedTurn v.end e → Receives v (record v { end = e })
receives_ended v e t = elim (last_or_not v.end.turns v.end.shape.period t.some) [
  | inl more ↦ subst (λ (w : RecvView). Receives v (record v { end = w })) (sym (t.within more)) (with_period v v.end.grant v.end.part (v.end.turns + 1))
  | inr last ↦ subst (λ (w : RecvView). Receives v (record v { end = w })) (sym (t.ends last)) (with_period v (next_grant v.end) 0 0)
]
