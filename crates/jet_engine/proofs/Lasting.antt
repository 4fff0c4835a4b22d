-- What turns leave of a wiring.
use Rattle.std.proofs.Common.{◌≡◌, ℕ, ◌<◌, List, [], ◌∷◌, map, length, get_or, refl, sym, ap, ◌∙◌, subst, arith}
use Rattle.std.specs.Prelude.{slice_get}
use Rattle.std.specs.List.{AllZip}
use Rattle.jet_items.specs.declared.item.Item.{Item}
use Rattle.jet_ring.specs.Ring.{Ring, TxView, RxView}
use Rattle.jet_conveyor.specs.Conveyor as conveyor
use Rattle.jet_router.specs.Router as router
use Rattle.jet_link.specs.Meeting.{IsLink}
use Rattle.jet_link.specs.Sending.{SameSend}
use Rattle.jet_link.specs.Receiving.{SameRecv}
use Rattle.jet_wire.specs.Receiver.{receiver_view}
use Rattle.jet_wire.specs.Sender.{sender_view}
use Rattle.jet_tasklet.specs.declared.any.AnyTasklet.{AnyTasklet}
use Rattle.jet_tasklet.specs.declared.any.AnyTasklet.TheVariants as any
use Rattle.jet_tasklet.specs.Any.{AnyTurned}
use Rattle.jet_tasklet.specs.Inputs.{InputView}
use Rattle.jet_tasklet.specs.Outputs.{OutputView}
use Rattle.jet_tasklet.specs.Turned.{InputGoes, OutputGoes}
use Rattle.jet_tasklet.specs.Meeting.{AreLinkEnds}
use Rattle.jet_tasklet.specs.Views.{ins, outs}
use Rattle.jet_crew.specs.Epoch.{Placewise}
use Rattle.jet_engine.specs.declared.places.DestAt.{DestAt}
use Rattle.jet_engine.specs.declared.places.QueueAt.{QueueAt}
use Rattle.jet_engine.specs.declared.places.Junction.{Junction}
use Rattle.jet_engine.specs.declared.places.LinkAt.{LinkAt}
use Rattle.jet_engine.specs.declared.wiring.Wiring.{Wiring}
use Rattle.jet_engine.specs.Ends.{HasDestAt, HasQueueAt, IsJoined, IsFed, IsDrained}
use Rattle.jet_engine.specs.Lasting.{KeepsRings, HaveSameLink, input_rings, output_rings}
use Rattle.jet_engine.specs.Links.{AreLinked}
use Rattle.jet_engine.specs.Wiring.{IsWired}
use Rattle.jet_engine.proofs.Placewise.{placewise_at}
use Rattle.jet_engine.proofs.Ends.{same_there}

-- ---- one tasklet
ins_kept : (xs ys : List InputView) → AllZip InputGoes xs ys → map (λ (i : InputView). i.queues.rings) ys ≡ map (λ (i : InputView). i.queues.rings) xs
ins_kept [] [] z = refl
ins_kept [] (y ∷ ys) z = absurd z
ins_kept (x ∷ xs) [] z = absurd z
ins_kept (x ∷ xs) (y ∷ ys) z = ap (λ (r : List Ring). r ∷ map (λ (i : InputView). i.queues.rings) ys) z.0.rings ∙ ap (λ (rs : List (List Ring)). x.queues.rings ∷ rs) (ins_kept xs ys z.1)

outs_kept : (xs ys : List OutputView) → AllZip OutputGoes xs ys → map (λ (o : OutputView). router.rings o.router) ys ≡ map (λ (o : OutputView). router.rings o.router) xs
outs_kept [] [] z = refl
outs_kept [] (y ∷ ys) z = absurd z
outs_kept (x ∷ xs) [] z = absurd z
outs_kept (x ∷ xs) (y ∷ ys) z = ap (λ (r : List Ring). r ∷ map (λ (o : OutputView). router.rings o.router) ys) z.0.same.rings_kept ∙ ap (λ (rs : List (List Ring)). router.rings x.router ∷ rs) (outs_kept xs ys z.1)

pub turns_keep : (t u : AnyTasklet) → AnyTurned t u → KeepsRings t u
turns_keep (any.Stamp t) (any.Stamp u) z = record { inputs = ins_kept (ins (any.Stamp t)) (ins (any.Stamp u)) z.inputs; outputs = outs_kept (outs (any.Stamp t)) (outs (any.Stamp u)) z.outputs; link = tt }
turns_keep (any.Map t) (any.Map u) z = record { inputs = ins_kept (ins (any.Map t)) (ins (any.Map u)) z.inputs; outputs = outs_kept (outs (any.Map t)) (outs (any.Map u)) z.outputs; link = tt }
turns_keep (any.Filter t) (any.Filter u) z = record { inputs = ins_kept (ins (any.Filter t)) (ins (any.Filter u)) z.inputs; outputs = outs_kept (outs (any.Filter t)) (outs (any.Filter u)) z.outputs; link = tt }
turns_keep (any.Flat t) (any.Flat u) z = record { inputs = ins_kept (ins (any.Flat t)) (ins (any.Flat u)) z.inputs; outputs = outs_kept (outs (any.Flat t)) (outs (any.Flat u)) z.outputs; link = tt }
turns_keep (any.Join t) (any.Join u) z = record { inputs = ins_kept (ins (any.Join t)) (ins (any.Join u)) z.inputs; outputs = outs_kept (outs (any.Join t)) (outs (any.Join u)) z.outputs; link = tt }
turns_keep (any.Frame t) (any.Frame u) z = record { inputs = ins_kept (ins (any.Frame t)) (ins (any.Frame u)) z.inputs; outputs = outs_kept (outs (any.Frame t)) (outs (any.Frame u)) z.outputs; link = tt }
turns_keep (any.Combine t) (any.Combine u) z = record { inputs = ins_kept (ins (any.Combine t)) (ins (any.Combine u)) z.inputs; outputs = outs_kept (outs (any.Combine t)) (outs (any.Combine u)) z.outputs; link = tt }
turns_keep (any.Send s) (any.Send t) z = record { inputs = ap (λ (r : List Ring). r ∷ []) z.queues.rings; outputs = refl; link = z.end.same }
turns_keep (any.Receive r) (any.Receive s) z = record { inputs = refl; outputs = ap (λ (x : List Ring). x ∷ []) z.router.same.rings_kept; link = z.end.same }
turns_keep t u z = absurd z

linked_kept : (t v u w : AnyTasklet) → HaveSameLink t u → HaveSameLink v w → AreLinkEnds t v → AreLinkEnds u w
linked_kept (any.Send t) (any.Receive v) (any.Send u) (any.Receive w) p q c =
    record {
      shape = p.shape ∙ (c.shape ∙ sym q.shape);
      packets = p.packets ∙ (c.packets ∙ sym q.packets);
      acks = q.acks ∙ (c.acks ∙ sym p.acks);
    }
linked_kept (any.Send t) (any.Receive v) (any.Send u) w p q c = absurd q
linked_kept (any.Send t) (any.Receive v) u w p q c = absurd p
linked_kept (any.Send t) v u w p q c = absurd c
linked_kept t v u w p q c = absurd c

-- ---- all tasklets
module _ (ts us : List AnyTasklet) (l : Placewise KeepsRings ts us) where
  dest_on : (p : DestAt) (tx : TxView Item) → HasDestAt ts p tx → (now : TxView Item) × HasDestAt us p now × (now.ring ≡ tx.ring)
  dest_on p tx h =
      let there = placewise_at KeepsRings ts us p.task h.tasklet l h.at in
      let out = same_there (λ (o : OutputView). router.rings o.router) (outs h.tasklet) (outs there.0) p.output h.end.output there.2.outputs h.end.at in
      let end = same_there (λ (t : TxView Item). t.ring) (router.txs h.end.output.router) (router.txs out.0.router) p.dest tx out.2 h.end.is in
      (end.0, record { tasklet = there.0; at = there.1; end = record { output = out.0; at = out.1; is = end.1 } }, end.2)

  queue_on : (p : QueueAt) (rx : RxView Item) → HasQueueAt ts p rx → (now : RxView Item) × HasQueueAt us p now × (now.ring ≡ rx.ring)
  queue_on p rx h =
      let there = placewise_at KeepsRings ts us p.task h.tasklet l h.at in
      let in_ = same_there (λ (i : InputView). i.queues.rings) (ins h.tasklet) (ins there.0) p.input h.end.input there.2.inputs h.end.at in
      let now : RxView Item = record { ring = rx.ring; received = conveyor.received_at in_.0.queues p.queue; known = conveyor.known_at in_.0.queues p.queue } in
      (now, record { tasklet = there.0; at = there.1; end = record { input = in_.0; at = in_.1; is = record { ring = ap (λ (rs : List Ring). slice_get rs p.queue) in_.2 ∙ h.end.is.ring; received = refl; known = refl } } }, refl)

  joined_still : (j : Junction) → IsJoined ts j → IsJoined us j
  joined_still j h =
      let end = dest_on j.giver h.tx h.giver in
      let queue = queue_on j.taker h.rx h.taker in
      record { tx = end.0; rx = queue.0; giver = end.1; taker = queue.1; ring = queue.2 ∙ (h.ring ∙ sym end.2); apart = h.apart }

  fed_still : (tx : TxView Item) (p : QueueAt) → IsFed ts tx p → IsFed us tx p
  fed_still tx p h = let queue = queue_on p h.rx h.taker in record { rx = queue.0; taker = queue.1; ring = queue.2 ∙ h.ring }

  drained_still : (v : conveyor.View) (p : DestAt) (q : ℕ) → IsDrained ts p v q → IsDrained us p v q
  drained_still v p q h = let end = dest_on p h.tx h.giver in record { tx = end.0; rx = h.rx; giver = end.1; taker = h.taker; ring = h.ring ∙ sym end.2 }

  linked_still : (k : LinkAt) → AreLinked ts k → AreLinked us k
  linked_still k h =
      let sender = placewise_at KeepsRings ts us k.sender h.sender l h.at_sender in
      let receiver = placewise_at KeepsRings ts us k.receiver h.receiver l h.at_receiver in
      record {
        sender = sender.0;
        receiver = receiver.0;
        at_sender = sender.1;
        at_receiver = receiver.1;
        apart = h.apart;
        joined = linked_kept h.sender h.receiver sender.0 receiver.0 sender.2.link receiver.2.link h.joined;
      }

pub wired_still : (ts us : List AnyTasklet) (txs : List (TxView Item)) (sink : conveyor.View) (w : Wiring) → Placewise KeepsRings ts us → IsWired ts txs sink w → IsWired us txs sink w
wired_still ts us txs sink w l h =
    record {
      links = λ k d lt. linked_still ts us l (get_or w.links.items k d) (h.links k d lt);
      junctions = λ k d lt. joined_still ts us l (get_or w.junctions.items k d) (h.junctions k d lt);
      feeds = record { count = h.feeds.count; each = λ k d e lt. fed_still ts us l (get_or txs k d) (get_or w.feeds.items k e) (h.feeds.each k d e lt) };
      drains = record { each = λ k e lt. drained_still ts us l sink (get_or w.drains.items k e) k (h.drains.each k e lt) };
      links_apart = h.links_apart;
      junctions_apart = h.junctions_apart;
      feeds_apart = h.feeds_apart;
      drains_apart = h.drains_apart;
      not_fed = h.not_fed;
      not_drained = h.not_drained;
      few = h.few;
    }

-- ---- the ends outside
fed_by : (ts : List AnyTasklet) (a b : TxView Item) (p : QueueAt) → b.ring ≡ a.ring → IsFed ts a p → IsFed ts b p
fed_by ts a b p same h = record { rx = h.rx; taker = h.taker; ring = h.ring ∙ sym same }

drained_by : (ts : List AnyTasklet) (v u : conveyor.View) (p : DestAt) (q : ℕ) → u.rings ≡ v.rings → IsDrained ts p v q → IsDrained ts p u q
drained_by ts v u p q same h =
    let now : RxView Item = record { ring = h.rx.ring; received = conveyor.received_at u q; known = conveyor.known_at u q } in
    record { tx = h.tx; rx = now; giver = h.giver; taker = record { ring = ap (λ (rs : List Ring). slice_get rs q) same ∙ h.taker.ring; received = refl; known = refl }; ring = h.ring }

pub wired_outside : (ts : List AnyTasklet) (txs tys : List (TxView Item)) (sink drained : conveyor.View) (w : Wiring) → Placewise (λ (a b : TxView Item). b.ring ≡ a.ring) txs tys → drained.rings ≡ sink.rings
    → IsWired ts txs sink w → IsWired ts tys drained w
wired_outside ts txs tys sink drained w same rings h =
    record {
      links = h.links;
      junctions = h.junctions;
      feeds = record { count = same.count ∙ h.feeds.count; each = λ k d e lt. fed_by ts (get_or txs k d) (get_or tys k d) (get_or w.feeds.items k e) (outside k d (subst (λ (n : ℕ). k < n) (sym h.feeds.count) lt)) (h.feeds.each k d e lt) };
      drains = record { each = λ k e lt. drained_by ts sink drained (get_or w.drains.items k e) k rings (h.drains.each k e lt) };
      links_apart = h.links_apart;
      junctions_apart = h.junctions_apart;
      feeds_apart = h.feeds_apart;
      drains_apart = h.drains_apart;
      not_fed = h.not_fed;
      not_drained = h.not_drained;
      few = h.few;
    }
  where
    outside : (k : ℕ) (d : TxView Item) → k < length txs → (get_or tys k d).ring ≡ (get_or txs k d).ring
    outside k d lt = same.each k d lt
