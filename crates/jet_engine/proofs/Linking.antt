-- Links that meet one after another.
use Rattle.std.proofs.Common.{◌≡◌, ◌≢◌, ℕ, ◌+◌, ◌<◌, List, length, get_or, set, refl, sym, ap, ◌∙◌, subst, inl, inr, arith, below_more}
use Rattle.std.specs.Prelude.{slice_get, Some}
use Rattle.std.specs.List.{All, AllPairs}
use Rattle.std.proofs.lemmas.Bool.{cases_eq, cases_lt}
use Rattle.std.proofs.lemmas.List.{get_or_default}
use Rattle.std.proofs.lemmas.Option.{slice_get_within}
use Rattle.jet_wire.specs.Receiver.{receiver_view}
use Rattle.jet_wire.specs.Sender.{sender_view}
use Rattle.jet_tasklet.specs.declared.any.AnyTasklet.{AnyTasklet}
use Rattle.jet_tasklet.specs.declared.any.AnyTasklet.TheVariants as any
use Rattle.jet_tasklet.specs.Kinds.{OfKinds}
use Rattle.jet_tasklet.specs.Meeting.{AnyLinkMet, SendLinkMet, ReceiveLinkMet, HaveSameProcessor}
use Rattle.jet_tasklet.specs.Views.{step_of, waiting}
use Rattle.jet_crew.specs.Epoch.{Placewise}
use Rattle.jet_engine.specs.declared.places.LinkAt.{LinkAt}
use Rattle.jet_engine.specs.Links.{AreLinked, HaveLinkMet, LinkMet, AreLinksApart, HaveSameWork, LinkLooked}
use Rattle.jet_engine.proofs.Placewise.{set_there, set_elsewhere, placewise_same, placewise_set, placewise_trans}

module _ (ts us : List AnyTasklet) (l : LinkAt) (m : LinkMet ts us l) (apart : l.sender ≢ l.receiver) where
  abbrev mid : List AnyTasklet
  mid = set ts l.sender m.sender_now

  pub sender_there : slice_get us l.sender ≡ Some m.sender_now
  sender_there =
      ap (λ (vs : List AnyTasklet). slice_get vs l.sender) m.others
      ∙ set_elsewhere mid l.receiver l.sender m.receiver_now m.sender_now apart (set_there ts l.sender m.sender_now (slice_get_within ts l.sender m.sender m.at_sender))

  pub receiver_there : slice_get us l.receiver ≡ Some m.receiver_now
  receiver_there =
      ap (λ (vs : List AnyTasklet). slice_get vs l.receiver) m.others
      ∙ set_there mid l.receiver m.receiver_now (slice_get_within mid l.receiver m.receiver (set_elsewhere ts l.sender l.receiver m.sender_now m.receiver (λ e. apart (sym e)) m.at_receiver))

  -- any other tasklet is as it was
  pub elsewhere : (k : ℕ) (t : AnyTasklet) → k ≢ l.sender → k ≢ l.receiver → slice_get ts k ≡ Some t → slice_get us k ≡ Some t
  elsewhere k t from to at = ap (λ (vs : List AnyTasklet). slice_get vs k) m.others ∙ set_elsewhere mid l.receiver k m.receiver_now t to (set_elsewhere ts l.sender k m.sender_now t from at)

-- ---- what a meeting by a link leaves of a tasklet
work_same : (t : AnyTasklet) → HaveSameWork t t
work_same (any.Send s) = record { lows = refl; hand = refl }
work_same (any.Receive r) = record { at = refl; ended = refl }
work_same (any.Stamp t) = refl
work_same (any.Map t) = refl
work_same (any.Filter t) = refl
work_same (any.Flat t) = refl
work_same (any.Join t) = refl
work_same (any.Frame t) = refl
work_same (any.Combine t) = refl

pub work_trans : (t u v : AnyTasklet) → HaveSameWork t u → HaveSameWork u v → HaveSameWork t v
work_trans (any.Send t) (any.Send u) (any.Send v) p q = record { lows = q.lows ∙ p.lows; hand = q.hand ∙ p.hand }
work_trans (any.Receive t) (any.Receive u) (any.Receive v) p q = record { at = q.at ∙ p.at; ended = q.ended ∙ p.ended }
work_trans (any.Stamp t) (any.Stamp u) (any.Stamp v) p q = q ∙ p
work_trans (any.Map t) (any.Map u) (any.Map v) p q = q ∙ p
work_trans (any.Filter t) (any.Filter u) (any.Filter v) p q = q ∙ p
work_trans (any.Flat t) (any.Flat u) (any.Flat v) p q = q ∙ p
work_trans (any.Join t) (any.Join u) (any.Join v) p q = q ∙ p
work_trans (any.Frame t) (any.Frame u) (any.Frame v) p q = q ∙ p
work_trans (any.Combine t) (any.Combine u) (any.Combine v) p q = q ∙ p
work_trans (any.Send t) (any.Send u) v p q = absurd q
work_trans (any.Receive t) (any.Receive u) v p q = absurd q
work_trans (any.Stamp t) (any.Stamp u) v p q = absurd q
work_trans (any.Map t) (any.Map u) v p q = absurd q
work_trans (any.Filter t) (any.Filter u) v p q = absurd q
work_trans (any.Flat t) (any.Flat u) v p q = absurd q
work_trans (any.Join t) (any.Join u) v p q = absurd q
work_trans (any.Frame t) (any.Frame u) v p q = absurd q
work_trans (any.Combine t) (any.Combine u) v p q = absurd q
work_trans t u v p q = absurd p

-- the same processor does the same work
pub same_work : (t u : AnyTasklet) → HaveSameProcessor t u → HaveSameWork t u
same_work (any.Send t) (any.Send u) p = record { lows = p.lows; hand = p.hand }
same_work (any.Receive t) (any.Receive u) p = record { at = p.at; ended = p.ended }
same_work (any.Stamp t) (any.Stamp u) p = p
same_work (any.Map t) (any.Map u) p = p
same_work (any.Filter t) (any.Filter u) p = p
same_work (any.Flat t) (any.Flat u) p = p
same_work (any.Join t) (any.Join u) p = p
same_work (any.Frame t) (any.Frame u) p = p
same_work (any.Combine t) (any.Combine u) p = p
same_work t u p = absurd p

-- an end of a link does the same work, has no outbox, and has nothing pending
abbrev EndMet : AnyTasklet → AnyTasklet → Type 0
EndMet t u = OfKinds (λ P k a b. ⊥) (λ a b. SendLinkMet (sender_view a) (sender_view b)) (λ a b. ReceiveLinkMet (receiver_view a) (receiver_view b)) t u

link_work : (t u : AnyTasklet) → EndMet t u → HaveSameWork t u × (waiting u ≡ waiting t) × (step_of u ≡ step_of t)
link_work (any.Send t) (any.Send u) m = (record { lows = ap (λ v. v.lows) m.rest; hand = ap (λ v. v.hand) m.rest }, refl, refl)
link_work (any.Receive t) (any.Receive u) m = (record { at = ap (λ v. v.at) m.rest; ended = ap (λ v. v.ended) m.rest }, refl, refl)
link_work (any.Stamp t) (any.Stamp u) m = absurd m
link_work (any.Map t) (any.Map u) m = absurd m
link_work (any.Filter t) (any.Filter u) m = absurd m
link_work (any.Flat t) (any.Flat u) m = absurd m
link_work (any.Join t) (any.Join u) m = absurd m
link_work (any.Frame t) (any.Frame u) m = absurd m
link_work (any.Combine t) (any.Combine u) m = absurd m
link_work t u m = absurd m

pub linked_same : (t : AnyTasklet) → LinkLooked t t
linked_same t = record { keeps = λ came gave k. k; inputs = refl; outputs = refl; outbox = refl; step = refl; work = work_same t }

linked_trans : (t u v : AnyTasklet) → LinkLooked t u → LinkLooked u v → LinkLooked t v
linked_trans t u v p q =
    record {
      keeps = λ came gave k. q.keeps came gave (p.keeps came gave k);
      inputs = q.inputs ∙ p.inputs;
      outputs = q.outputs ∙ p.outputs;
      outbox = q.outbox ∙ p.outbox;
      step = q.step ∙ p.step;
      work = work_trans t u v p.work q.work;
    }

linked_met : (t u : AnyTasklet) → AnyLinkMet t u → LinkLooked t u
linked_met t u m = let w = link_work t u m.end in record { keeps = m.keeps; inputs = m.inputs; outputs = m.outputs; outbox = w.1; step = w.2; work = w.0 }

all_linked : (ts us : List AnyTasklet) (l : LinkAt) (m : LinkMet ts us l) → l.sender ≢ l.receiver → Placewise LinkLooked ts us
all_linked ts us l m apart =
    let mid = set ts l.sender m.sender_now in
    let last = set mid l.receiver m.receiver_now in
    let at = set_elsewhere ts l.sender l.receiver m.sender_now m.receiver (λ e. apart (sym e)) m.at_receiver in
    subst (λ (vs : List AnyTasklet). Placewise LinkLooked ts vs) (sym m.others)
    (placewise_trans LinkLooked linked_trans ts mid last
    (placewise_set LinkLooked linked_same ts l.sender m.sender m.sender_now m.at_sender (linked_met m.sender m.sender_now m.sender_met))
    (placewise_set LinkLooked linked_same mid l.receiver m.receiver m.receiver_now at (linked_met m.receiver m.receiver_now m.receiver_met)))

-- ---- links one after another
other_linked : (ts us : List AnyTasklet) (l k : LinkAt) (m : LinkMet ts us l) → l.sender ≢ l.receiver → k.sender ≢ l.sender → k.sender ≢ l.receiver → k.receiver ≢ l.sender → k.receiver ≢ l.receiver → AreLinked ts k → AreLinked us k
other_linked ts us l k m apart a b c d h =
    record {
      sender = h.sender;
      receiver = h.receiver;
      at_sender = elsewhere ts us l m apart k.sender h.sender a b h.at_sender;
      at_receiver = elsewhere ts us l m apart k.receiver h.receiver c d h.at_receiver;
      apart = h.apart;
      joined = h.joined;
    }

other_met : (ts us : List AnyTasklet) (l k : LinkAt) (m : LinkMet ts us l) → l.sender ≢ l.receiver → k.sender ≢ l.sender → k.sender ≢ l.receiver → k.receiver ≢ l.sender → k.receiver ≢ l.receiver → HaveLinkMet ts k → HaveLinkMet us k
other_met ts us l k m apart a b c d h =
    record {
      sender = h.sender;
      receiver = h.receiver;
      at_sender = elsewhere ts us l m apart k.sender h.sender a b h.at_sender;
      at_receiver = elsewhere ts us l m apart k.receiver h.receiver c d h.at_receiver;
      met = h.met;
    }

-- the first n links have met, and all are joined still
pub record LinksSwept (ls : List LinkAt) (ts us : List AnyTasklet) (n : ℕ) : Type 0 where
  pub met : (k : ℕ) (d : LinkAt) → k < n → HaveLinkMet us (get_or ls k d)
  pub joined : (k : ℕ) (d : LinkAt) → k < length ls → AreLinked us (get_or ls k d)
  pub looked : Placewise LinkLooked ts us

pub none_linked : (ls : List LinkAt) (ts : List AnyTasklet) → All (AreLinked ts) ls → LinksSwept ls ts ts 0
none_linked ls ts all = record { met = λ k d l. absurd (omega (arith, l)); joined = all; looked = placewise_same LinkLooked linked_same ts }

module _ (ls : List LinkAt) (ts us vs : List AnyTasklet) (n : ℕ) (d : LinkAt) (apart : AllPairs AreLinksApart ls) (inside : n < length ls) (s : LinksSwept ls ts us n) (joined : AreLinked vs (get_or ls n d)) (met : HaveLinkMet vs (get_or ls n d)) (m : LinkMet us vs (get_or ls n d)) where
  abbrev this : LinkAt
  this = get_or ls n d

  met_before : (k : ℕ) (e : LinkAt) → k < n → HaveLinkMet vs (get_or ls k e)
  met_before k e h =
      let two = apart k n d h inside in
      subst (λ (i : LinkAt). HaveLinkMet vs i) (get_or_default ls k d e (omega (arith, h, inside)))
      (other_met us vs this (get_or ls k d) m joined.apart two.senders two.from two.to two.receivers (s.met k d h))

  met_here : (e : LinkAt) → HaveLinkMet vs (get_or ls n e)
  met_here e = subst (λ (i : LinkAt). HaveLinkMet vs i) (get_or_default ls n d e inside) met

  -- those before and those behind it
  joined_before : (k : ℕ) (e : LinkAt) → k < n → AreLinked vs (get_or ls k e)
  joined_before k e h =
      let two = apart k n d h inside in
      subst (λ (i : LinkAt). AreLinked vs i) (get_or_default ls k d e (omega (arith, h, inside)))
      (other_linked us vs this (get_or ls k d) m joined.apart two.senders two.from two.to two.receivers (s.joined k d (omega (arith, h, inside))))

  joined_behind : (k : ℕ) (e : LinkAt) → n < k → k < length ls → AreLinked vs (get_or ls k e)
  joined_behind k e h l =
      let two = apart n k d h l in
      subst (λ (i : LinkAt). AreLinked vs i) (get_or_default ls k d e l)
      (other_linked us vs this (get_or ls k d) m joined.apart (λ x. two.senders (sym x)) (λ x. two.to (sym x)) (λ x. two.from (sym x)) (λ x. two.receivers (sym x)) (s.joined k d l))

  joined_here : (e : LinkAt) → AreLinked vs (get_or ls n e)
  joined_here e = subst (λ (i : LinkAt). AreLinked vs i) (get_or_default ls n d e inside) joined

  joined_all : (k : ℕ) (e : LinkAt) → k < length ls → AreLinked vs (get_or ls k e)
  joined_all k e l =
      elim (cases_eq k n) [
        | inl is ↦ subst (λ (i : ℕ). AreLinked vs (get_or ls i e)) (sym is) (joined_here e)
        | inr ne ↦
            elim (cases_lt k n) [
              | inl less ↦ joined_before k e less
              | inr more ↦ joined_behind k e (omega (arith, more, ne)) l
            ]
      ]

  pub one_linked : LinksSwept ls ts vs (n + 1)
  one_linked =
      record {
        met = λ k e h. below_more (λ i. HaveLinkMet vs (get_or ls i e)) n (λ i b. met_before i e b) (met_here e) k h;
        joined = joined_all;
        looked = placewise_trans LinkLooked linked_trans ts us vs s.looked (all_linked us vs this m joined.apart);
      }
