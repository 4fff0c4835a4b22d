-- What a sender keeps while it fills and pushes packets.
use Rattle.std.proofs.Common.{◌≡◌, ℕ, Bool, true, false, List, [], ◌∷◌, ◌++◌, refl, sym, ap, subst, ◌∙◌, arith, append_assoc, append-nil, Option, Some, None, IsTrue, IsFalse, IsNone}
use Rattle.std.specs.List.{AllByRecursion}
use Rattle.std.proofs.lemmas.List.Concat.{flat_map-append, flat_map-cons}
use base.Growing.{prefix_refl, prefix_trans}
use Rattle.jet_items.specs.Fits.{ItemFits}
use Rattle.jet_items.specs.declared.item.Item.{Item}
use Rattle.jet_spell.specs.Spelling.{spelling, spellings}
use Rattle.jet_link.specs.Packets.{packet_bytes, packed}
use Rattle.jet_link.specs.Sending.{Packs, Began, Written, Pushed, PutBack}
use Rattle.jet_link.specs.Views.{SendView}
use Rattle.jet_wire.specs.Noting.{items_in}
use Rattle.jet_wire.specs.Passing.{Taken}
use Rattle.jet_wire.specs.Sender.{SenderView, work_bytes, SenderKeeps}
use Rattle.jet_wire.specs.SenderSteps.{Sends}

-- ---- one after the other
pub packs_refl : (a : SendView) → Packs a a
packs_refl a = record {
  same = record { shape = refl; packets = refl; acks = refl };
  acks = refl;
  sent = prefix_refl a.packets.sent;
  reach = refl;
  buffers = refl;
  acked = refl;
  limit = refl;
  all_acked = refl;
  all_allowed = refl;
}

pub packs_trans : (a b d : SendView) → Packs a b → Packs b d → Packs a d
packs_trans a b d p q = record {
  same = record { shape = q.same.shape ∙ p.same.shape; packets = q.same.packets ∙ p.same.packets; acks = q.same.acks ∙ p.same.acks };
  acks = q.acks ∙ p.acks;
  sent = prefix_trans a.packets.sent b.packets.sent d.packets.sent p.sent q.sent;
  reach = q.reach ∙ p.reach;
  buffers = q.buffers ∙ p.buffers;
  acked = q.acked ∙ p.acked;
  limit = q.limit ∙ p.limit;
  all_acked = q.all_acked ∙ p.all_acked;
  all_allowed = q.all_allowed ∙ p.all_allowed;
}

pub sends_refl : (v : SenderView) → Sends v v
sends_refl v = record {
  queues = refl;
  lows = refl;
  packs = packs_refl v.end;
  fewer = omega arith;
  sends = λ came sent k. ([], subst (λ (s : List Item). SenderKeeps v came s) (sym (append-nil sent)) k);
  stays = λ e came sent k. k;
}

pub sends_trans : (a b d : SenderView) → Sends a b → Sends b d → Sends a d
sends_trans a b d p q = record {
  queues = q.queues ∙ p.queues;
  lows = q.lows ∙ p.lows;
  packs = packs_trans a.end b.end d.end p.packs q.packs;
  fewer = omega (arith, p.fewer, q.fewer);
  sends = λ came sent k.
      let one = p.sends came sent k in
      let two = q.sends came (sent ++ one.0) one.1 in
      (one.0 ++ two.0, subst (λ (s : List Item). SenderKeeps d came s) (append_assoc sent one.0 two.0) two.1);
  stays = λ e came sent k.
      let low = p.fewer in
      let less = q.fewer in
      q.stays (omega (arith, e, low, less)) came sent (p.stays (omega (arith, e, low, less)) came sent k);
}

-- ---- each call
module _ (v : SenderView) (e : SendView) (packs : Packs v.end e) where
  abbrev with_end : SenderView
  with_end = record v { end = e }

  keeps_end : e.packets ≡ v.end.packets → work_bytes e.work ≡ work_bytes v.end.work → (came : List Taken) (sent : List Item) → SenderKeeps v came sent → SenderKeeps with_end came sent
  keeps_end pe we came sent k = record {
    takes_in = k.takes_in;
    sends = record {
      packets = ap (λ t. packed t.sent) pe ∙ k.sends.packets;
      written = k.sends.written;
      work = we ∙ k.sends.work;
      fits = k.sends.fits;
      follows = k.sends.follows;
    };
  }

  -- nothing was written or pushed
  pub sends_still : e.packets ≡ v.end.packets → work_bytes e.work ≡ work_bytes v.end.work → Sends v with_end
  sends_still pe we = record {
    queues = refl;
    lows = refl;
    packs = packs;
    fewer = omega (arith, ap (λ t. t.free) pe);
    sends = λ came sent k. ([], subst (λ (s : List Item). SenderKeeps with_end came s) (sym (append-nil sent)) (keeps_end pe we came sent k));
    stays = λ same came sent k. keeps_end pe we came sent k;
  }

  -- the packet in work was pushed
  module _ (p : Pushed v.end e) where
    packet_sent : e.packets.sent ≡ v.end.packets.sent ++ p.packet ∷ []
    packet_sent = ap (λ (w : SendView). w.packets.sent) p.is

    no_work : e.work ≡ None
    no_work = ap (λ (w : SendView). w.work) p.is

    keeps_pushed : (came : List Taken) (sent : List Item) (k : SenderKeeps v came sent) → SenderKeeps with_end came (sent ++ k.sends.written)
    keeps_pushed came sent k =
        let bytes : p.packet.buf.bytes ≡ spellings k.sends.written = ap work_bytes (sym p.was) ∙ k.sends.work in
        let last : packed (p.packet ∷ []) ≡ p.packet.buf.bytes = flat_map-cons packet_bytes p.packet [] ∙ append-nil p.packet.buf.bytes in
        let one : packed e.packets.sent ≡ packed v.end.packets.sent ++ p.packet.buf.bytes =
        ap packed packet_sent ∙ (flat_map-append packet_bytes v.end.packets.sent (p.packet ∷ []) ∙ ap (λ (b : List ℕ). packed v.end.packets.sent ++ b) last) in
        let two : packed v.end.packets.sent ++ p.packet.buf.bytes ≡ spellings sent ++ spellings k.sends.written =
        ap (λ (b : List ℕ). b ++ p.packet.buf.bytes) k.sends.packets ∙ ap (λ (b : List ℕ). spellings sent ++ b) bytes in
        record {
          takes_in = k.takes_in;
          sends = record {
            packets = one ∙ (two ∙ sym (flat_map-append spelling sent k.sends.written));
            written = [];
            work = ap work_bytes no_work;
            fits = subst (λ (xs : List Item). AllByRecursion ItemFits xs) (sym (append-nil (sent ++ k.sends.written))) k.sends.fits;
            follows = ap (λ (xs : List Item). xs ++ items_in v.hand) (append-nil (sent ++ k.sends.written)) ∙ k.sends.follows;
          };
        }

    pub sends_pushed : Sends v with_end
    sends_pushed = record {
      queues = refl;
      lows = refl;
      packs = packs;
      fewer = omega (arith, p.slot);
      sends = λ came sent k. (k.sends.written, keeps_pushed came sent k);
      stays = λ same. absurd (omega (arith, p.slot, same));
    }

  -- the item in hand was written
  module _ (x : Item) (in_hand : v.hand ≡ Some x) (fits : ItemFits x) (w : Written v.end e x) where
    abbrev with_none : SenderView
    with_none = record v { end = e; hand = None }

    same_packets : e.packets ≡ v.end.packets
    same_packets = ap (λ (u : SendView). u.packets) w.is

    fit_all : (xs : List Item) → AllByRecursion ItemFits xs → AllByRecursion ItemFits (xs ++ x ∷ [])
    fit_all [] h = (fits, tt)
    fit_all (y ∷ ys) h = (h.0, fit_all ys h.1)

    keeps_written : (came : List Taken) (sent : List Item) → SenderKeeps v came sent → SenderKeeps with_none came sent
    keeps_written came sent k =
        let now : work_bytes e.work ≡ w.buf.bytes ++ spelling x = ap (λ (u : SendView). work_bytes u.work) w.is in
        let was : w.buf.bytes ≡ spellings k.sends.written = ap work_bytes (sym w.was) ∙ k.sends.work in
        let last : spellings (x ∷ []) ≡ spelling x = flat_map-cons spelling x [] ∙ append-nil (spelling x) in
        let group : sent ++ (k.sends.written ++ x ∷ []) ≡ (sent ++ k.sends.written) ++ x ∷ [] = sym (append_assoc sent k.sends.written (x ∷ [])) in
        record {
          takes_in = k.takes_in;
          sends = record {
            packets = ap (λ t. packed t.sent) same_packets ∙ k.sends.packets;
            written = k.sends.written ++ x ∷ [];
            work = now ∙ (ap (λ (b : List ℕ). b ++ spelling x) was ∙ (ap (λ (b : List ℕ). spellings k.sends.written ++ b) (sym last) ∙ sym (flat_map-append spelling k.sends.written (x ∷ []))));
            fits = subst (λ (xs : List Item). AllByRecursion ItemFits xs) (sym group) (fit_all (sent ++ k.sends.written) k.sends.fits);
            follows = append-nil (sent ++ (k.sends.written ++ x ∷ [])) ∙ (group ∙ (ap (λ (o : Option Item). (sent ++ k.sends.written) ++ items_in o) (sym in_hand) ∙ k.sends.follows));
          };
        }

    pub sends_written : Sends v with_none
    sends_written = record {
      queues = refl;
      lows = refl;
      packs = packs;
      fewer = omega (arith, ap (λ t. t.free) same_packets);
      sends = λ came sent k. ([], subst (λ (s : List Item). SenderKeeps with_none came s) (sym (append-nil sent)) (keeps_written came sent k));
      stays = λ same came sent k. keeps_written came sent k;
    }

  pub sends_begun : Began v.end e → v.end.work ≡ None → Sends v with_end
  sends_begun b none = sends_still (ap (λ (u : SendView). u.packets) b.is) (ap (λ (u : SendView). work_bytes u.work) b.is ∙ sym (ap work_bytes none))

  pub sends_put_back : PutBack v.end e → Sends v with_end
  sends_put_back b =
      sends_still (ap (λ (u : SendView). u.packets) b.is)
      (ap (λ (u : SendView). work_bytes u.work) b.is ∙ sym (ap work_bytes b.was.1 ∙ b.was.2))

  pub sends_same : e ≡ v.end → Sends v with_end
  sends_same is = sends_still (ap (λ (u : SendView). u.packets) is) (ap (λ (u : SendView). work_bytes u.work) is)

  -- by the answer of a call
  pub sends_begin : (r : Bool) {P : Type 0} → (IsTrue r → Began v.end e) → (IsFalse r → (e ≡ v.end) × P) → v.end.work ≡ None → Sends v with_end
  sends_begin true does not none = sends_begun (does refl) none
  sends_begin false does not none = sends_same (not refl).0

  pub sends_push : (r : Bool) {P : Type 0} → (IsTrue r → Pushed v.end e) → (IsFalse r → (e ≡ v.end) × P) → Sends v with_end
  sends_push true does not = sends_pushed (does refl)
  sends_push false does not = sends_same (not refl).0

  pub sends_back : (r : Bool) {P : Type 0} → (IsTrue r → PutBack v.end e) → (IsFalse r → (e ≡ v.end) × P) → Sends v with_end
  sends_back true does not = sends_put_back (does refl)
  sends_back false does not = sends_same (not refl).0

pub none_is : {X : Type 0} (o : Option X) → IsNone o → o ≡ None
none_is None h = refl
none_is (Some x) h = absurd (cc)
