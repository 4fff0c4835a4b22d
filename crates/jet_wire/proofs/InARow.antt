-- Turns in a row of one sender, and of one receiver.
use Rattle.std.proofs.Common.{◌≡◌, ℕ, suc, ◌≤◌, List, [], ◌∷◌, ◌++◌, length, get_or, ◌∙◌, ap, subst, arith, append_assoc}
use Rattle.std.specs.Prelude.{sum_by}
use mathlib.Core.List.{IsPrefix}
use base.Growing.{prefix_trans}
use Rattle.jet_items.specs.declared.item.Item.{Item}
use Rattle.jet_router.proofs.Counting.{sum_first}
use Rattle.jet_router.specs.Router as router
use Rattle.jet_link.specs.Views.{SendView}
use Rattle.jet_wire.specs.declared.progress.Progress.{Progress}
use Rattle.jet_wire.specs.declared.progress.Progress.TheVariants as progress
use Rattle.jet_wire.specs.Receiver.{ReceiverView, ReceiverKeeps, ReceiverIsLawful, Gives}
use Rattle.jet_wire.specs.ReceiverTurn.{ReceiverTurned, ReceiverIsStill, moved_count}
use Rattle.jet_wire.specs.Sender.{SenderView, IsLawful}
use Rattle.jet_wire.specs.SenderTurn.{EndGoes, SenderTurned, SenderIsStill, received_count, move_count}
use Rattle.jet_wire.specs.Turns.{joined, Counts, SenderWent, SenderRested, SenderSaid, ReceiverWent, ReceiverRested, ReceiverSaid}
use Rattle.jet_wire.proofs.Counting.{count_sents}
use Rattle.jet_wire.proofs.Dealing.{router_trans}
use Rattle.jet_wire.proofs.Going.{goes_trans, lawful_goes, queues_trans}
use Rattle.jet_wire.proofs.Packets.{recv_trans}
use Rattle.jet_wire.proofs.ReceiverTurns.{front_size}

-- lists that have grown have no fewer items
sizes_up : (xs ys : List (List Item)) → ((k : ℕ) → IsPrefix (get_or xs k []) (get_or ys k [])) → sum_by (λ (s : List Item). length s) xs ≤ sum_by (λ (s : List Item). length s) ys
sizes_up [] ys h = omega arith
sizes_up (x ∷ xs) [] h = omega (arith, front_size x [] (h 0), sizes_up xs [] (λ k. h (suc k)), sum_first (λ (s : List Item). length s) x xs)
sizes_up (x ∷ xs) (y ∷ ys) h = omega (arith, front_size x y (h 0), sizes_up xs ys (λ k. h (suc k)), sum_first (λ (s : List Item). length s) x xs, sum_first (λ (s : List Item). length s) y ys)

-- ---- a sender
end_trans : (a b d : SendView) → EndGoes a b → EndGoes b d → EndGoes a d
end_trans a b d p q = record {
  same = record { shape = q.same.shape ∙ p.same.shape; packets = q.same.packets ∙ p.same.packets; acks = q.same.acks ∙ p.same.acks };
  sent = prefix_trans a.packets.sent b.packets.sent d.packets.sent p.sent q.sent;
  still_free = q.still_free ∙ p.still_free;
  taken = prefix_trans a.acks.received b.acks.received d.acks.received p.taken q.taken;
  still_known = prefix_trans (a.acks.received ++ a.acks.known) (b.acks.received ++ b.acks.known) (d.acks.received ++ d.acks.known) p.still_known q.still_known;
  acked = omega (arith, p.acked, q.acked);
  limit = omega (arith, p.limit, q.limit);
}

pub sender_lawful : (a b : SenderView) → IsLawful a → SenderWent a b → IsLawful b
sender_lawful a b l w = lawful_goes a b w.goes l

pub sender_trans : (a b d : SenderView) → SenderWent a b → SenderWent b d → SenderWent a d
sender_trans a b d p q = record {
  goes = goes_trans a b d p.goes q.goes;
  turned = record { queues = queues_trans a.queues b.queues d.queues p.turned.queues q.turned.queues; end = end_trans a.end b.end d.end p.turned.end q.turned.end };
}

rested_trans : (a b d : SenderView) → SenderRested a b → SenderRested b d → SenderRested a d
rested_trans a b d p q = record {
  still = record {
    queues = q.still.queues ∙ p.still.queues;
    packets = q.still.packets ∙ p.still.packets;
    acks = q.still.acks ∙ p.still.acks;
    counts = q.still.counts ∙ p.still.counts;
    buffers = q.still.buffers ∙ p.still.buffers;
  };
  stays = record { stays = λ came sent k. q.stays.stays came sent (p.stays.stays came sent k) };
}

still_count : (a b : SenderView) → SenderIsStill a b → move_count b ≡ move_count a
still_count a b s = omega (arith, ap received_count s.queues, ap (λ t. length t.sent) s.packets, ap (λ t. length t.received) s.acks)

count_up : (a b : SenderView) → SenderTurned a b → move_count a ≤ move_count b
count_up a b t = omega (arith, sizes_up a.queues.received b.queues.received t.queues.received, front_size a.end.packets.sent b.end.packets.sent t.end.sent, front_size a.end.acks.received b.end.acks.received t.end.taken)

rested_said : (q : Progress) (a b d : SenderView) → SenderRested a b → SenderSaid q b d → SenderSaid q a d
rested_said progress.Moved a b d r s = omega (arith, s, still_count a b r.still)
rested_said progress.Idle a b d r s = (rested_trans a b d r s.0, s.1)
rested_said progress.Done a b d r s = (rested_trans a b d r s.0, s.1)

pub sender_said : (p q : Progress) (a b d : SenderView) → SenderWent a b → SenderWent b d → SenderSaid p a b → SenderSaid q b d → SenderSaid (joined p q) a d
sender_said progress.Moved q a b d w v s t = omega (arith, s, count_up b d v.turned)
sender_said progress.Idle q a b d w v s t = rested_said q a b d s.0 t
sender_said progress.Done q a b d w v s t = rested_said q a b d s.0 t

pub sender_counts : (p : Progress) (a b : SenderView) → SenderSaid p a b → Counts p (move_count a) (move_count b)
sender_counts progress.Moved a b s = s
sender_counts progress.Idle a b s = still_count a b s.0.still
sender_counts progress.Done a b s = still_count a b s.0.still

-- ---- a receiver
gives_trans : (a b d : ReceiverView) → Gives a b → Gives b d → Gives a d
gives_trans a b d p q = record {
  gives = λ items k.
      let one = p.gives items k in
      let two = q.gives (items ++ one.0) one.1 in
      (one.0 ++ two.0, subst (λ (xs : List Item). ReceiverKeeps d xs) (append_assoc items one.0 two.0) two.1);
}

pub receiver_lawful : (a b : ReceiverView) → ReceiverIsLawful a → ReceiverWent a b → ReceiverIsLawful b
receiver_lawful a b l w = let more = w.gives.gives l.given l.keeps in record { given = l.given ++ more.0; keeps = more.1; paced = w.paced }

pub receiver_trans : (a b d : ReceiverView) → ReceiverWent a b → ReceiverWent b d → ReceiverWent a d
receiver_trans a b d p q = record {
  gives = gives_trans a b d p.gives q.gives;
  turned = record { end = recv_trans a.end b.end d.end p.turned.end q.turned.end; router = router_trans a.router b.router d.router p.turned.router q.turned.router };
  paced = q.paced;
}

receiver_rested : (a b d : ReceiverView) → ReceiverRested a b → ReceiverRested b d → ReceiverRested a d
receiver_rested a b d p q = record {
  still = record {
    sent = q.still.sent ∙ p.still.sent;
    packets = q.still.packets ∙ p.still.packets;
    acks = q.still.acks ∙ p.still.acks;
    held = q.still.held ∙ p.still.held;
    at = q.still.at ∙ p.still.at;
    ended = q.still.ended ∙ p.still.ended;
  };
  stays = record { stays = λ items k. q.stays.stays items (p.stays.stays items k) };
}

receiver_still : (a b : ReceiverView) → ReceiverIsStill a b → moved_count b ≡ moved_count a
receiver_still a b s = omega (arith, s.sent, ap (λ t. length t.received) s.packets, ap (λ t. length t.sent) s.acks)

receiver_up : (a b : ReceiverView) → ReceiverTurned a b → moved_count a ≤ moved_count b
receiver_up a b t =
    omega (arith, count_sents a.router, count_sents b.router, sizes_up (router.sents a.router) (router.sents b.router) t.router.sent, front_size a.end.packets.received b.end.packets.received t.end.received, front_size a.end.acks.sent b.end.acks.sent t.end.gave)

receiver_rested_said : (q : Progress) (a b d : ReceiverView) → ReceiverRested a b → ReceiverSaid q b d → ReceiverSaid q a d
receiver_rested_said progress.Moved a b d r s = omega (arith, s, receiver_still a b r.still)
receiver_rested_said progress.Idle a b d r s = (receiver_rested a b d r s.0, s.1)
receiver_rested_said progress.Done a b d r s = (receiver_rested a b d r s.0, s.1)

pub receiver_said : (p q : Progress) (a b d : ReceiverView) → ReceiverWent a b → ReceiverWent b d → ReceiverSaid p a b → ReceiverSaid q b d → ReceiverSaid (joined p q) a d
receiver_said progress.Moved q a b d w v s t = omega (arith, s, receiver_up b d v.turned)
receiver_said progress.Idle q a b d w v s t = receiver_rested_said q a b d s.0 t
receiver_said progress.Done q a b d w v s t = receiver_rested_said q a b d s.0 t

pub receiver_counts : (p : Progress) (a b : ReceiverView) → ReceiverSaid p a b → Counts p (moved_count a) (moved_count b)
receiver_counts progress.Moved a b s = s
receiver_counts progress.Idle a b s = receiver_still a b s.0.still
receiver_counts progress.Done a b s = receiver_still a b s.0.still
