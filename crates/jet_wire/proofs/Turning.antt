-- The turn of a sender as a whole.
use Rattle.std.proofs.Common.{◌≡◌, ℕ, ◌+◌, Bool, true, false, ◌||◌, List, [], ◌∷◌, ◌++◌, length, map, All, refl, sym, ap, subst, ◌∙◌, arith, append-nil, Option, Some, None, inl, inr, IsTrue, IsFalse}
use Rattle.std.specs.Prelude.{◌⊎◌}
use Rattle.std.proofs.lemmas.List.{length-append}
use Rattle.std.proofs.lemmas.List.Elements.{All-nil, All-cons, All-head, All-tail}
use mathlib.Core.List.{IsPrefix}
use Rattle.jet_pool.specs.Pool.{BufValue}
use Rattle.jet_ring.specs.Ring.{Ring, TxView, RxView}
use Rattle.jet_link.specs.declared.ack.Ack.{Ack}
use Rattle.jet_link.specs.declared.counts.Counts.{Counts}
use Rattle.jet_link.specs.declared.packet.Packet.{Packet}
use Rattle.jet_link.specs.Ends.{packet_view, count_of}
use Rattle.jet_link.specs.Link.{kept, all_bytes}
use Rattle.jet_link.specs.Packets.{packed}
use Rattle.jet_link.specs.Sending.{Packs, TookAcks, NoneToTake, HasBytes, IsBounded, PutBack}
use Rattle.jet_link.specs.Views.{SendView}
use Rattle.jet_wire.specs.Passing.{Taken}
use Rattle.jet_items.specs.declared.item.Item.{Item}
use Rattle.jet_wire.specs.Sender.{SenderView, work_bytes, SenderKeeps, IsLawful, Goes, Stays}
use Rattle.jet_wire.specs.SenderSteps.{Sends, Went, TookNone, Stuck, Empty, HasNothing}
use Rattle.jet_wire.proofs.Going.{goes_trans, lawful_goes, sends_went, went_trans}
use Rattle.jet_wire.specs.SenderTurn.{SenderIsStill, SenderRests, SenderIsFull, SentAll}

-- ---- the acknowledgements that were taken
pub acks_keep : (v : SenderView) (e : SendView) → TookAcks v.end e → Stays v (record v { end = e })
acks_keep v e t = record {
  stays = λ came sent k. record {
    takes_in = k.takes_in;
    sends = record {
      packets = ap (λ (x : TxView Packet). packed x.sent) t.packets ∙ k.sends.packets;
      written = k.sends.written;
      work = ap work_bytes t.work ∙ k.sends.work;
      fits = k.sends.fits;
      follows = k.sends.follows;
    };
  };
}

pub stays_goes : (a b : SenderView) → Stays a b → Goes a b
stays_goes a b s = record {
  goes = λ came sent k. ([], [], subst (λ (c : List Taken). SenderKeeps b c (sent ++ [])) (sym (append-nil came)) (subst (λ (x : List Item). SenderKeeps b came x) (sym (append-nil sent)) (s.stays came sent k)));
}

-- ---- what the answer says
-- none of three
pub none_of : (p q r : Bool) → ((p || q) || r) ≡ false → (p ≡ false) × (q ≡ false) × (r ≡ false)
none_of true q r e = absurd (cc)
none_of false true r e = absurd (cc)
none_of false false r e = (refl, refl, e)

-- ---- nothing was moved
prefix_all : {X : Type 0} (xs ys : List X) → IsPrefix xs ys → length ys ≡ length xs → ys ≡ xs
prefix_all {X} xs ys (rest, e) same = elim rest as (λ r. xs ++ r ≡ ys → ys ≡ xs) [
  | [] ↦ λ h. sym h ∙ append-nil xs
  | x ∷ r ↦ λ h. absurd (omega (arith, same, ap length h, length-append xs (x ∷ r)))
] e

abbrev tx : {T : Type 0} → Ring → List T → ℕ → TxView T
tx r s n = record { ring = r; sent = s; free = n }

end_same : {T : Type 0} (a b : TxView T) → b.ring ≡ a.ring → b.sent ≡ a.sent → b.free ≡ a.free → b ≡ a
end_same {T} a b r s f = ap (λ (x : Ring). tx x b.sent b.free) r ∙ (ap (λ (x : List T). tx a.ring x b.free) s ∙ ap (λ (x : ℕ). tx a.ring a.sent x) f)

abbrev counts : ℕ → ℕ → ℕ → Counts
counts s a l = record { sent = s; acked = a; limit = l }

counts_same : (a b : Counts) → b.sent ≡ a.sent → b.acked ≡ a.acked → b.limit ≡ a.limit → b ≡ a
counts_same a b s k l = ap (λ (x : ℕ). counts x b.acked b.limit) s ∙ (ap (λ (x : ℕ). counts a.sent x b.limit) k ∙ ap (λ (x : ℕ). counts a.sent a.acked x) l)

-- no packet was pushed
module _ (a b : SendView) (p : Packs a b) (free : b.packets.free ≡ a.packets.free) (ba : IsBounded a) (bb : IsBounded b) where
  same_sent : b.packets.sent ≡ a.packets.sent
  same_sent = prefix_all a.packets.sent b.packets.sent p.sent (omega (arith, p.reach, free))

  pub same_packets : b.packets ≡ a.packets
  same_packets = end_same a.packets b.packets p.same.packets same_sent free

  pub same_counts : b.counts ≡ a.counts
  same_counts =
      counts_same a.counts b.counts
      (bb.sent ∙ (ap (λ (ps : List Packet). kept (all_bytes (map packet_view ps))) same_sent ∙ sym ba.sent))
      p.acked p.limit

  pub same_buffers : b.inside + count_of b.work ≡ a.inside + count_of a.work
  same_buffers = omega (arith, p.buffers, ap (λ (ps : List Packet). length ps) same_sent)

  pub same_none : NoneToTake a → NoneToTake b
  same_none (inl le) = inl (omega (arith, le, ap (λ (ps : List Packet). length ps) same_sent, ap (λ (x : RxView Ack). length x.received) p.acks))
  same_none (inr none) = inr (ap (λ (x : RxView Ack). x.known) p.acks ∙ none)

-- ---- an empty packet is put back, and there is none where the sender is stuck or flushed
no_empty : (w : Option BufValue) (b : BufValue) → HasBytes w → w ≡ Some b → b.bytes ≡ [] → ⊥
no_empty None b h e z = h
no_empty (Some c) b h e z = let same : c ≡ b = cc in absurd (omega (arith, h, ap (λ (x : BufValue). length x.bytes) same, ap length z))

none_back : (w : Option BufValue) (b : BufValue) → w ≡ None → w ≡ Some b → ⊥
none_back w b n s = cc

full_back : (d : SenderView) (e : SendView) → SenderIsFull d → PutBack d.end e → ⊥
full_back d e f p = no_empty d.end.work p.was.0 f.work p.was.1 p.was.2

flushed_back : (d : SenderView) (e : SendView) → (d.end.work ≡ None) ⊎ SenderIsFull d → PutBack d.end e → ⊥
flushed_back d e (inl n) p = none_back d.end.work p.was.0 n p.was.1
flushed_back d e (inr f) p = full_back d e f p

took_back : (d : SenderView) (e : SendView) → TookNone d → PutBack d.end e → ⊥
took_back d e (Stuck (inl b)) p = none_back d.end.work p.was.0 b.work p.was.1
took_back d e (Stuck (inr f)) p = full_back d e f p
took_back d e (Empty h f) p = flushed_back d e f.work p

pub back_same : (d : SenderView) (e : SendView) (r : Bool) {P : Type 0} → TookNone d → (IsTrue r → PutBack d.end e) → (IsFalse r → (e ≡ d.end) × P) → e ≡ d.end
back_same d e true t does not = absurd (took_back d e t (does refl))
back_same d e false t does not = (not refl).0

-- ---- why there was nothing to do
abbrev IsDone : Bool → Type 0
IsDone b = b ≡ true

all_or_not : (bs : List Bool) → All IsDone bs ⊎ (All IsDone bs → ⊥)
all_or_not [] = inl (All-nil IsDone)
all_or_not (true ∷ bs) = elim (all_or_not bs) [ inl all ↦ inl (All-cons IsDone true bs refl all) | inr some ↦ inr (λ all. some (All-tail IsDone true bs all)) ]
all_or_not (false ∷ bs) = inr (λ all. let h : false ≡ true = All-head IsDone false bs all in cc)

flushed_rests : (d : SenderView) → NoneToTake d.end → (d.hand ≡ None) → HasNothing d.queues → (d.end.work ≡ None) ⊎ SenderIsFull d → SenderRests d
flushed_rests d n h k (inr f) = record { acks = n; cause = inr (inl f) }
flushed_rests d n h k (inl w) =
    let waits : (All (λ b. b ≡ true) d.queues.done → ⊥) ⊎ SentAll d = elim (all_or_not d.queues.done) [
      | inl all ↦ inr (record { done = all; hand = h; work = w })
      | inr some ↦ inl some
    ] in
    record { acks = n; cause = inr (inr (record { hand = h; work = w; none = k; waits = waits })) }

pub rests : (d : SenderView) → NoneToTake d.end → TookNone d → SenderRests d
rests d n (Stuck (inl b)) = record { acks = n; cause = inl b }
rests d n (Stuck (inr f)) = record { acks = n; cause = inr (inl f) }
rests d n (Empty h f) = flushed_rests d n f.hand h f.work

-- ---- a turn: acknowledgements were taken, then items, and at last an empty packet was put back
module _ (o : SenderView) (e1 : SendView) (d : SenderView) (e2 : SendView) where
  abbrev a : SenderView
  a = record o { end = e1 }

  abbrev f : SenderView
  f = record d { end = e2 }

  module _ (acks : TookAcks o.end e1) (went : Went a d) (back : Sends d f) where
    through : Went a f
    through = went_trans a d f went (sends_went d f back)

    pub turn_goes : Goes o f
    turn_goes = goes_trans o a f (stays_goes o a (acks_keep o e1 acks)) through.goes

    pub turn_lawful : IsLawful o → IsLawful f
    turn_lawful l = lawful_goes o f turn_goes l

    -- a turn in which nothing moved
    module _ (rest : Sends a d) (same : e1 ≡ o.end) (free : e2.packets.free ≡ e1.packets.free) (b1 : IsBounded e1) (b2 : IsBounded e2) where
      first_free : d.end.packets.free ≡ e1.packets.free
      first_free = omega (arith, rest.fewer, back.fewer, free)

      pub turn_stays : Stays o f
      turn_stays = record {
        stays = λ came sent k. back.stays (omega (arith, first_free, free)) came sent (rest.stays first_free came sent ((acks_keep o e1 acks).stays came sent k));
      }

      pub turn_still : SenderIsStill o f
      turn_still = record {
        queues = rest.queues;
        packets = same_packets e1 e2 through.packs free b1 b2 ∙ ap (λ (x : SendView). x.packets) same;
        acks = through.packs.acks ∙ ap (λ (x : SendView). x.acks) same;
        counts = same_counts e1 e2 through.packs free b1 b2 ∙ ap (λ (x : SendView). x.counts) same;
        buffers = same_buffers e1 e2 through.packs free b1 b2 ∙ ap (λ (x : SendView). x.inside + count_of x.work) same;
      }

      pub turn_rests : NoneToTake e1 → TookNone d → e2 ≡ d.end → SenderRests f
      turn_rests n t is =
          let here : NoneToTake e2 = same_none e1 e2 through.packs free b1 b2 n in
          subst (λ (x : SendView). SenderRests (record d { end = x })) (sym is) (rests d (subst NoneToTake is here) t)
