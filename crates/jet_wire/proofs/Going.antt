-- A sender that has gone on, step after step.
use Rattle.std.proofs.Common.{◌≡◌, ℕ, ◌+◌, ◌<◌, List, [], ◌∷◌, ◌++◌, length, get_or, set, refl, sym, ap, subst, ◌∙◌, arith, append_assoc, append-nil}
use Rattle.std.specs.Prelude.{sum_by}
use Rattle.std.proofs.lemmas.List.{length-append, get_or-set_same, get_or-set_other}
use Rattle.std.proofs.lemmas.List.Sums.{sum_by-set}
use Rattle.std.proofs.lemmas.Bool.Decides.{eqb_tells}
use Rattle.std.proofs.Common.{inl, inr}
use mathlib.Core.List.{IsPrefix}
use base.Growing.{prefix_refl, prefix_trans}
use Rattle.jet_items.specs.declared.item.Item.{Item}
use Rattle.jet_conveyor.specs.Conveyor as conveyor
use Rattle.jet_link.specs.Sending.{Packs}
use Rattle.jet_link.specs.Views.{SendView}
use Rattle.jet_wire.specs.Passing.{Taken}
use Rattle.jet_wire.specs.Sender.{SenderView, SenderKeeps, IsLawful, Goes}
use Rattle.jet_wire.specs.SenderTurn.{QueuesGo, received_count}
use Rattle.jet_wire.specs.SenderSteps.{Sends, Takes, Went}
use Rattle.jet_wire.proofs.Sending.{packs_refl, packs_trans}

pub queues_refl : (v : conveyor.View) → QueuesGo v v
queues_refl v = record {
  rings = refl;
  received = λ q. prefix_refl (conveyor.received_at v q);
  still_known = λ q. prefix_refl (conveyor.received_at v q ++ conveyor.known_at v q);
}

pub queues_trans : (a b d : conveyor.View) → QueuesGo a b → QueuesGo b d → QueuesGo a d
queues_trans a b d p q = record {
  rings = q.rings ∙ p.rings;
  received = λ k. prefix_trans (conveyor.received_at a k) (conveyor.received_at b k) (conveyor.received_at d k) (p.received k) (q.received k);
  still_known = λ k. prefix_trans (conveyor.received_at a k ++ conveyor.known_at a k) (conveyor.received_at b k ++ conveyor.known_at b k) (conveyor.received_at d k ++ conveyor.known_at d k) (p.still_known k) (q.still_known k);
}

queues_same : (a b : conveyor.View) → b ≡ a → QueuesGo a b
queues_same a b e = subst (λ (w : conveyor.View). QueuesGo a w) (sym e) (queues_refl a)

-- ---- what is kept
pub goes_refl : (v : SenderView) → Goes v v
goes_refl v = record { goes = λ came sent k. ([], [], subst (λ (c : List Taken). SenderKeeps v c (sent ++ [])) (sym (append-nil came)) (subst (λ (s : List Item). SenderKeeps v came s) (sym (append-nil sent)) k)) }

pub goes_trans : (a b d : SenderView) → Goes a b → Goes b d → Goes a d
goes_trans a b d p q = record {
  goes = λ came sent k.
      let one = p.goes came sent k in
      let two = q.goes (came ++ one.0) (sent ++ one.1) one.2 in (
        one.0 ++ two.0,
        one.1 ++ two.1,
        subst (λ (c : List Taken). SenderKeeps d c (sent ++ (one.1 ++ two.1))) (append_assoc came one.0 two.0)
            (subst (λ (s : List Item). SenderKeeps d ((came ++ one.0) ++ two.0) s) (append_assoc sent one.1 two.1) two.2),
      );
}

pub sends_goes : (a b : SenderView) → Sends a b → Goes a b
sends_goes a b s = record {
  goes = λ came sent k. let one = s.sends came sent k in ([], one.0, subst (λ (c : List Taken). SenderKeeps b c (sent ++ one.0)) (sym (append-nil came)) one.1);
}

takes_goes : (a b : SenderView) → Takes a b → Goes a b
takes_goes a b t = record {
  goes = λ came sent k. let one = t.takes came sent k in (one.0 ∷ [], [], subst (λ (s : List Item). SenderKeeps b (came ++ one.0 ∷ []) s) (sym (append-nil sent)) one.1);
}

pub lawful_goes : (a b : SenderView) → Goes a b → IsLawful a → IsLawful b
lawful_goes a b g l = let one = g.goes l.came l.sent l.keeps in record { came = l.came ++ one.0; sent = l.sent ++ one.1; keeps = one.2 }

-- ---- steps
pub went_refl : (v : SenderView) → Went v v
went_refl v = record { queues = queues_refl v.queues; packs = packs_refl v.end; fewer = omega arith; goes = goes_refl v }

pub went_trans : (a b d : SenderView) → Went a b → Went b d → Went a d
went_trans a b d p q = record {
  queues = queues_trans a.queues b.queues d.queues p.queues q.queues;
  packs = packs_trans a.end b.end d.end p.packs q.packs;
  fewer = omega (arith, p.fewer, q.fewer);
  goes = goes_trans a b d p.goes q.goes;
}

pub sends_went : (a b : SenderView) → Sends a b → Went a b
sends_went a b s = record { queues = queues_same a.queues b.queues s.queues; packs = s.packs; fewer = s.fewer; goes = sends_goes a b s }

pub takes_went : (a b : SenderView) → Takes a b → Went a b
takes_went a b t = record {
  queues = t.queues;
  packs = subst (λ (e : SendView). Packs a.end e) (sym t.end) (packs_refl a.end);
  fewer = omega (arith, ap (λ (e : SendView). e.packets.free) t.end);
  goes = takes_goes a b t;
}

-- ---- a poll that took
module _ (a b : conveyor.View) (q : ℕ) (x : Item) (inside : q < length a.received) (t : conveyor.TookFrom a b q x) where
  pub one_more : received_count b ≡ received_count a + 1
  one_more =
      let old : List Item = conveyor.received_at a q in
      let put = sum_by-set (λ (xs : List Item). length xs) a.received q (old ++ x ∷ []) [] inside in
      let now : received_count b ≡ sum_by (λ (xs : List Item). length xs) (set a.received q (old ++ x ∷ [])) = ap (λ (ls : List (List Item)). sum_by (λ (xs : List Item). length xs) ls) t.received in
      omega (arith, put, now, length-append old (x ∷ []))

  pub took_more : conveyor.SeesMore a b → QueuesGo a b
  took_more sees = record {
    rings = t.rings;
    received = λ k. elim (eqb_tells k q) [
      | inl e ↦
          subst (λ (j : ℕ). IsPrefix (conveyor.received_at a j) (conveyor.received_at b j)) (sym e.1)
          (x ∷ [], sym (ap (λ (ls : List (List Item)). get_or ls q []) t.received ∙ get_or-set_same a.received q (conveyor.received_at a q ++ x ∷ []) [] inside))
      | inr e ↦
          subst (λ (xs : List Item). IsPrefix (conveyor.received_at a k) xs) (sym (ap (λ (ls : List (List Item)). get_or ls k []) t.received ∙ get_or-set_other a.received q k (conveyor.received_at a q ++ x ∷ []) [] e.1))
          (prefix_refl (conveyor.received_at a k))
    ];
    still_known = sees;
  }
