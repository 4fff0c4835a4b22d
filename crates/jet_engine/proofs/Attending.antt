-- The meetings of a job: first those of its links, and then those of its rings.
use Rattle.std.proofs.Common.{◌≡◌, ℕ, ◌<◌, List, [], length, get_or, refl, sym, ap, ◌∙◌, subst, arith}
use Rattle.std.specs.Prelude.{slice_get}
use Rattle.std.specs.List.{All, Contains}
use Rattle.jet_items.specs.declared.item.Item.{Item}
use Rattle.jet_ring.specs.Ring.{Ring, TxView, RxView}
use Rattle.jet_conveyor.specs.Conveyor as conveyor
use Rattle.jet_wire.specs.Receiver.{receiver_view}
use Rattle.jet_wire.specs.Sender.{sender_view}
use Rattle.jet_link.specs.Meeting.{BothMet, IsLink}
use Rattle.jet_link.specs.Views.{SendView, RecvView}
use Rattle.jet_tasklet.specs.declared.any.AnyTasklet.{AnyTasklet}
use Rattle.jet_tasklet.specs.declared.any.AnyTasklet.TheVariants as any
use Rattle.jet_tasklet.specs.Inputs.{InputView}
use Rattle.jet_tasklet.specs.Outputs.{OutputView}
use Rattle.jet_tasklet.specs.Meeting.{HasEnd, HasQueue, HaveSameProcessor}
use Rattle.jet_tasklet.specs.Kinds.{OfLink}
use Rattle.jet_tasklet.specs.Views.{ins, outs}
use Rattle.jet_crew.specs.Epoch.{Placewise}
use Rattle.jet_engine.specs.declared.places.DestAt.{DestAt}
use Rattle.jet_engine.specs.declared.places.QueueAt.{QueueAt}
use Rattle.jet_engine.specs.declared.places.Junction.{Junction}
use Rattle.jet_engine.specs.declared.places.LinkAt.{LinkAt}
use Rattle.jet_engine.specs.declared.wiring.Wiring.{Wiring}
use Rattle.jet_engine.specs.Ends.{HasDestAt, HasQueueAt, IsJoined, HasMet, IsFed, IsDrained}
use Rattle.jet_engine.specs.Links.{AreLinked, HaveLinkMet, LinkLooked}
use Rattle.jet_engine.specs.Looking.{SameInput, SameOutput, Looked, Met}
use Rattle.jet_engine.specs.Wiring.{AreFed, HaveFed, TxMet, HaveDrained, SinkMet, IsWired, HaveAllMet, Attended}
use Rattle.jet_engine.proofs.Placewise.{placewise_at, placewise_trans}
use Rattle.jet_engine.proofs.Looking.{looked_trans}
use Rattle.jet_engine.proofs.Linking.{same_work, work_trans}
use Rattle.jet_engine.proofs.Ends.{dest_looked, still_joined, still_fed, still_met, still_has_fed}
use Rattle.jet_engine.proofs.Feeding.{same_feed}
use Rattle.jet_engine.proofs.Sweeping.{givers_of, takers_of}

-- ---- rings, when links meet
module _ (ts us : List AnyTasklet) (l : Placewise LinkLooked ts us) where
  dest_linked : (p : DestAt) (tx : TxView Item) → HasDestAt ts p tx → HasDestAt us p tx
  dest_linked p tx h =
      let there = placewise_at LinkLooked ts us p.task h.tasklet l h.at in
      record { tasklet = there.0; at = there.1; end = subst (λ (os : List OutputView). HasEnd os p.output p.dest tx) (sym there.2.outputs) h.end }

  queue_linked : (p : QueueAt) (rx : RxView Item) → HasQueueAt ts p rx → HasQueueAt us p rx
  queue_linked p rx h =
      let there = placewise_at LinkLooked ts us p.task h.tasklet l h.at in
      record { tasklet = there.0; at = there.1; end = subst (λ (is : List InputView). HasQueue is p.input p.queue rx) (sym there.2.inputs) h.end }

  pub joined_linked : (j : Junction) → IsJoined ts j → IsJoined us j
  joined_linked j h = record { tx = h.tx; rx = h.rx; giver = dest_linked j.giver h.tx h.giver; taker = queue_linked j.taker h.rx h.taker; ring = h.ring; apart = h.apart }

-- ---- links, when rings meet
ends_kept : (C : SendView → RecvView → Type 0) (t v u w : AnyTasklet) → HaveSameProcessor t u → HaveSameProcessor v w → OfLink (λ s r. C (sender_view s).end (receiver_view r).end) t v → OfLink (λ s r. C (sender_view s).end (receiver_view r).end) u w
ends_kept C (any.Send t) (any.Receive v) (any.Send u) (any.Receive w) p q c =
    subst (λ (a : SendView). C a (receiver_view w).end) (sym p.end) (subst (λ (b : RecvView). C (sender_view t).end b) (sym q.end) c)
ends_kept C (any.Send t) (any.Receive v) (any.Send u) w p q c = absurd q
ends_kept C (any.Send t) (any.Receive v) u w p q c = absurd p
ends_kept C (any.Send t) v u w p q c = absurd c
ends_kept C t v u w p q c = absurd c

module _ (ts us : List AnyTasklet) (l : Placewise Looked ts us) where
  pub link_still_met : (k : LinkAt) → HaveLinkMet ts k → HaveLinkMet us k
  link_still_met k h =
      let sender = placewise_at Looked ts us k.sender h.sender l h.at_sender in
      let receiver = placewise_at Looked ts us k.receiver h.receiver l h.at_receiver in
      record {
        sender = sender.0;
        receiver = receiver.0;
        at_sender = sender.1;
        at_receiver = receiver.1;
        met = ends_kept BothMet h.sender h.receiver sender.0 receiver.0 sender.2.processor receiver.2.processor h.met;
      }

  pub still_linked : (k : LinkAt) → AreLinked ts k → AreLinked us k
  still_linked k h =
      let sender = placewise_at Looked ts us k.sender h.sender l h.at_sender in
      let receiver = placewise_at Looked ts us k.receiver h.receiver l h.at_receiver in
      record {
        sender = sender.0;
        receiver = receiver.0;
        at_sender = sender.1;
        at_receiver = receiver.1;
        apart = h.apart;
        joined = ends_kept IsLink h.sender h.receiver sender.0 receiver.0 sender.2.processor receiver.2.processor h.joined;
      }

-- ---- what belongs together, through all meetings
module _ (ts us vs : List AnyTasklet) (l : Placewise LinkLooked ts us) (m : Placewise Looked us vs) where
  pub joined_on : (j : Junction) → IsJoined ts j → IsJoined vs j
  joined_on j h = still_joined us vs j m (joined_linked ts us l j h)

  pub fed_on : (tx : TxView Item) (p : QueueAt) → IsFed ts tx p → IsFed vs tx p
  fed_on tx p h = still_fed us vs tx p m (record { rx = h.rx; taker = queue_linked ts us l p h.rx h.taker; ring = h.ring })

  pub drained_on : (v w : conveyor.View) (p : DestAt) (q : ℕ) → w.rings ≡ v.rings → IsDrained ts p v q → IsDrained vs p w q
  drained_on v w p q same h =
      let end = dest_looked us vs p h.tx m (dest_linked ts us l p h.tx h.giver) in
      record {
        tx = end.0;
        rx = record { ring = h.rx.ring; received = conveyor.received_at w q; known = conveyor.known_at w q };
        giver = end.1;
        taker = record { ring = ap (λ (rs : List Ring). slice_get rs q) same ∙ h.taker.ring; received = refl; known = refl };
        ring = h.ring ∙ sym end.2;
      }

  pub all_fed_on : (txs nows : List (TxView Item)) (feeds : List QueueAt) → Placewise TxMet txs nows → AreFed ts txs feeds → AreFed vs nows feeds
  all_fed_on txs nows feeds t h =
      record {
        count = t.count ∙ h.count;
        each = λ k d e l. same_feed vs (get_or txs k d) (get_or nows k d) (get_or feeds k e) (t.each k d (let c = h.count in omega (arith, c, l))).ring (fed_on (get_or txs k d) (get_or feeds k e) (h.each k d e l));
      }

  pub attended : Placewise Attended ts vs
  attended = placewise_two l.count m.count (λ k d h. attend (get_or ts k d) (get_or us k d) (get_or vs k d) (l.each k d h) (m.each k d (let c = l.count in omega (arith, c, h))))
    where
      attend : (a b c : AnyTasklet) → LinkLooked a b → Looked b c → Attended a c
      attend a b c p q =
          record {
            keeps = λ came gave k. q.keeps came gave (p.keeps came gave k);
            inputs = subst (λ (is : List InputView). Placewise SameInput is (ins c)) p.inputs q.inputs;
            outputs = subst (λ (os : List OutputView). Placewise SameOutput os (outs c)) p.outputs q.outputs;
            outbox = q.outbox ∙ p.outbox;
            step = q.step ∙ p.step;
            work = work_trans a b c p.work (same_work b c q.processor);
          }

      placewise_two : length us ≡ length ts → length vs ≡ length us → ((k : ℕ) (d : AnyTasklet) → k < length ts → Attended (get_or ts k d) (get_or vs k d)) → Placewise Attended ts vs
      placewise_two a b each = record { count = b ∙ a; each = each }

none_there : {X : Type 0} (x : X) → Contains {X = X} [] x → ⊥
none_there x (k, l, is) = absurd (omega (arith, l))

-- ---- all meetings
module _ (w : Wiring) (ts us vs xs ys : List AnyTasklet) (txs nows : List (TxView Item)) (before sink : conveyor.View) where
  module _ (wired : IsWired ts txs before w) (linked : Placewise LinkLooked ts us) (rings : Met us vs (givers_of w.junctions.items) (takers_of w.junctions.items)) (files : Met vs xs [] w.feeds.items) (drains : Met xs ys w.drains.items []) where
    abbrev looked : Placewise Looked us ys
    looked = placewise_trans Looked looked_trans us xs ys (placewise_trans Looked looked_trans us vs xs rings.looked files.looked) drains.looked

    pub still_wired : All (AreLinked us) w.links.items → Placewise TxMet txs nows → SinkMet before sink → IsWired ys nows sink w
    still_wired links fed met =
        record {
          links = λ k d l. still_linked us ys looked (get_or w.links.items k d) (links k d l);
          junctions = λ k d l. joined_on ts us ys linked looked (get_or w.junctions.items k d) (wired.junctions k d l);
          feeds = all_fed_on ts us ys linked looked txs nows w.feeds.items fed wired.feeds;
          drains = record { each = λ k e l. drained_on ts us ys linked looked before sink (get_or w.drains.items k e) k met.rings (wired.drains.each k e l) };
          links_apart = wired.links_apart;
          junctions_apart = wired.junctions_apart;
          feeds_apart = wired.feeds_apart;
          drains_apart = wired.drains_apart;
          not_fed = wired.not_fed;
          not_drained = wired.not_drained;
          few = wired.few;
        }

    pub all_met : All (HaveLinkMet us) w.links.items → All (HasMet vs) w.junctions.items → HaveFed xs nows w.feeds.items → HaveDrained ys w.drains.items sink → HaveAllMet ys nows sink w
    all_met links joined fed drained =
        record {
          links = λ k d l. link_still_met us ys looked (get_or w.links.items k d) (links k d l);
          junctions = λ k d l.
              let j = get_or w.junctions.items k d in
              still_met xs ys w.drains.items [] j drains (wired.not_drained k d l) (none_there j.taker)
              (still_met vs xs [] w.feeds.items j files (none_there j.giver) (wired.not_fed k d l) (joined k d l));
          feeds = record { each = λ k d e l. still_has_fed xs ys w.drains.items [] (get_or nows k d) (get_or w.feeds.items k e) drains (none_there (get_or w.feeds.items k e)) (fed.each k d e l) };
          drains = drained;
        }

    pub all_attended : Placewise Attended ts ys
    all_attended = attended ts us ys linked looked
