-- Turns in a row of an end of a link, and what it keeps.
use Rattle.std.proofs.Common.{◌≡◌, ℕ, ◌⊎◌, Bool, true, false, List, [], ◌∷◌, ◌++◌, map, length, refl, sym, ◌∙◌, ap, subst, append_assoc, inl, inr, arith}
use Rattle.std.proofs.lemmas.List.{map-append}
use Rattle.jet_ring.proofs.Lists.{prefix_trans}
use Rattle.jet_items.specs.declared.item.Item.{Item}
use Rattle.jet_items.specs.declared.item.Item.TheVariants as item
use Rattle.jet_conveyor.specs.Conveyor as conveyor
use Rattle.jet_boxes.specs.declared.port.Port.TheVariants.{Stream}
use Rattle.jet_wire.specs.Passing.{Taken, passed}
use Rattle.jet_wire.specs.Receiver.{ReceiverView, ReceiverKeeps, IsNext, ReceiverIsLawful, ReceiverStays, Gives, IsPaced}
use Rattle.jet_wire.specs.ReceiverTurn.{RecvGoes, ReceiverTurned, moved_count, ReceiverIsStill, ReceiverIsStarved, ReceiverRests}
use Rattle.jet_wire.specs.Sender.{SenderView, SenderKeeps, IsLawful, Stays, Goes, queue_count}
use Rattle.jet_wire.specs.SenderTurn.{EndGoes, SenderTurned, received_count, move_count, SenderIsStill, SenderRests}
use Rattle.jet_link.specs.Views.{SendView, RecvView}
use Rattle.jet_tasklet.specs.declared.arrival.Arrival.{Arrival}
use Rattle.jet_tasklet.specs.Inputs.{InputView}
use Rattle.jet_tasklet.specs.Links.{taken_at, unpacked, SendKeeps, ReceiveKeeps, Law, LinkIsLawful, LinkStays, LinkGoes, SendIsBlocked, SendIsStarved, ReceiveIsBlocked, taken_of, passed_on, SendsSoFar, GivesOn}
use Rattle.jet_tasklet.specs.Outputs.{InGift, ready}
use Rattle.jet_tasklet.specs.Turned.{InputGoes, OutputGoes}
use Rattle.jet_tasklet.proofs.GenericLaws.{bool_cases}
use Rattle.jet_tasklet.proofs.Lasting.{input_trans, output_trans}

-- ---- whatever an end keeps
module _ {V : Type 0} (law : Law V) where
  pub link_next : (a b : V) → LinkIsLawful law a → LinkGoes law a b → LinkIsLawful law b
  link_next a b l f =
      let r = f.goes l.came l.gave l.keeps in
      record { came = l.came ++ r.0; gave = l.gave ++ r.1; keeps = r.2 }

  pub link_goes_on : (a b c : V) → LinkGoes law a b → LinkGoes law b c → LinkGoes law a c
  link_goes_on a b c f g = record {
    goes = λ came gave k.
        let one = f.goes came gave k in
        let two = g.goes (came ++ one.0) (gave ++ one.1) one.2 in (
          one.0 ++ two.0,
          one.1 ++ two.1,
          subst (λ (xs : List Arrival). law c xs (gave ++ (one.1 ++ two.1))) (append_assoc came one.0 two.0)
              (subst (λ (xs : List Item). law c ((came ++ one.0) ++ two.0) xs) (append_assoc gave one.1 two.1) two.2),
        );
  }

  pub link_stays_on : (a b c : V) → LinkStays law a b → LinkStays law b c → LinkStays law a c
  link_stays_on a b c f g = record { stays = λ came gave k. g.stays came gave (f.stays came gave k) }

-- ---- a sender
pub send_lawful : (v : SenderView) → LinkIsLawful SendKeeps v → IsLawful v
send_lawful v l = record { came = l.keeps.taken; sent = l.gave; keeps = l.keeps.keeps }

-- nothing came and nothing was sent
pub send_begins : (v : SenderView) → SenderKeeps v [] [] → LinkIsLawful SendKeeps v
send_begins v k = record { came = []; gave = []; keeps = record { taken = []; came_is = refl; keeps = k } }

pub send_stays : (a b : SenderView) → Stays a b → LinkStays SendKeeps a b
send_stays a b f = record { stays = λ came gave k. record { taken = k.taken; came_is = k.came_is; keeps = f.stays k.taken gave k.keeps } }

pub send_goes : (a b : SenderView) → Goes a b → LinkGoes SendKeeps a b
send_goes a b f = record {
  goes = λ came gave k.
      let r = f.goes k.taken gave k.keeps in (
        map taken_at r.0,
        r.1,
        record {
          taken = k.taken ++ r.0;
          came_is = ap (λ (xs : List Arrival). xs ++ map taken_at r.0) k.came_is ∙ sym (map-append taken_at k.taken r.0);
          keeps = r.2;
        },
      );
}

-- an arrival of a sender is the item that it took
pub taken_back : (ts : List Taken) → map taken_of (map taken_at ts) ≡ ts
taken_back [] = refl
taken_back (t ∷ ts) = ap (λ (xs : List Taken). t ∷ xs) (taken_back ts)

pub passed_is : (n : ℕ) (came : List Arrival) (ts : List Taken) → came ≡ map taken_at ts → passed n ts ≡ passed_on n came
passed_is n came ts e = ap (λ (xs : List Taken). passed n xs) (sym (ap (λ (xs : List Arrival). map taken_of xs) e ∙ taken_back ts))

-- what was sent, with the packet in work and the item in hand, is all that is passed on
pub send_so_far : (v : SenderView) (came : List Arrival) (gave : List Item) → SendKeeps v came gave → SendsSoFar v came gave
send_so_far v came gave k = record {
  sent = k.keeps.sends.packets;
  written = k.keeps.sends.written;
  work = k.keeps.sends.work;
  passes = k.keeps.sends.follows ∙ passed_is (queue_count v) came k.taken k.came_is;
}

-- why it has nothing to do
pub send_rests : (v : SenderView) → SenderRests v → SendIsBlocked v ⊎ SendIsStarved v
send_rests v r = elim r.cause [
  | inl barred ↦ inl (record { acks = r.acks; cause = inl barred })
  | inr (inl full) ↦ inl (record { acks = r.acks; cause = inr full })
  | inr (inr starved) ↦ inr (record { acks = r.acks; starved = starved })
]

-- the one input of a sender
abbrev pub input_with : conveyor.View → InputView
input_with v = record { port = Stream; queues = v }

abbrev end_goes_on : (a b c : SendView) → EndGoes a b → EndGoes b c → EndGoes a c
end_goes_on a b c f g = record {
  same = record { shape = g.same.shape ∙ f.same.shape; packets = g.same.packets ∙ f.same.packets; acks = g.same.acks ∙ f.same.acks };
  sent = prefix_trans a.packets.sent b.packets.sent c.packets.sent f.sent g.sent;
  still_free = g.still_free ∙ f.still_free;
  taken = prefix_trans a.acks.received b.acks.received c.acks.received f.taken g.taken;
  still_known = prefix_trans (a.acks.received ++ a.acks.known) (b.acks.received ++ b.acks.known) (c.acks.received ++ c.acks.known) f.still_known g.still_known;
  acked = let x = f.acked in let y = g.acked in omega (arith, x, y);
  limit = let x = f.limit in let y = g.limit in omega (arith, x, y);
}

pub sender_turned_on : (a b c : SenderView) → SenderTurned a b → SenderTurned b c → SenderTurned a c
sender_turned_on a b c f g =
    let one : InputGoes (input_with a.queues) (input_with b.queues) = record { port = refl; rings = f.queues.rings; received = f.queues.received; still_known = f.queues.still_known } in
    let two : InputGoes (input_with b.queues) (input_with c.queues) = record { port = refl; rings = g.queues.rings; received = g.queues.received; still_known = g.queues.still_known } in
    let both = input_trans (input_with a.queues) (input_with b.queues) (input_with c.queues) one two in
    record {
      queues = record { rings = both.rings; received = both.received; still_known = both.still_known };
      end = end_goes_on a.end b.end c.end f.end g.end;
    }

pub sender_still_on : (a b c : SenderView) → SenderIsStill a b → SenderIsStill b c → SenderIsStill a c
sender_still_on a b c f g = record { queues = g.queues ∙ f.queues; packets = g.packets ∙ f.packets; acks = g.acks ∙ f.acks; counts = g.counts ∙ f.counts; buffers = g.buffers ∙ f.buffers }

pub sender_still_count : (a b : SenderView) → SenderIsStill a b → move_count b ≡ move_count a
sender_still_count a b s =
    let queues = ap received_count s.queues in
    let packets = ap (λ p. length p.sent) s.packets in
    let acks = ap (λ p. length p.received) s.acks in
    omega (arith, queues, packets, acks)

-- ---- a receiver
pub receive_lawful : (v : ReceiverView) → LinkIsLawful ReceiveKeeps v → ReceiverIsLawful v
receive_lawful v l = record { given = l.gave; keeps = l.keeps.keeps; paced = l.keeps.paced }

pub receive_begins : (v : ReceiverView) → ReceiverKeeps v [] → IsPaced v → LinkIsLawful ReceiveKeeps v
receive_begins v k paced = record { came = []; gave = []; keeps = record { came_is = refl; keeps = k; paced = paced } }

pub receive_stays : (a b : ReceiverView) → ReceiverStays a b → IsPaced b → LinkStays ReceiveKeeps a b
receive_stays a b f paced = record { stays = λ came gave k. record { came_is = k.came_is; keeps = f.stays gave k.keeps; paced = paced } }

pub receive_goes : (a b : ReceiverView) → Gives a b → IsPaced b → LinkGoes ReceiveKeeps a b
receive_goes a b f paced = record {
  goes = λ came gave k.
      let r = f.gives gave k.keeps in (
        map unpacked r.0,
        r.0,
        record {
          came_is = ap (λ (xs : List Arrival). xs ++ map unpacked r.0) k.came_is ∙ sym (map-append unpacked gave r.0);
          keeps = r.1;
          paced = paced;
        },
      );
}

-- what is in hand at the router of a receiver is the next item
abbrev NextGift : ReceiverView → List Item → Type 0
NextGift v gave = (next : Item) × InGift gave next (ready v.router) × (v.router.busy ≡ true → IsNext v next)

never : {b : Bool} {P : Type 0} → b ≡ false → b ≡ true → P
never e f = absurd (cc)

pub next_gift : (v : ReceiverView) (gave : List Item) → ReceiverKeeps v gave → NextGift v gave
next_gift v gave k =
    elim (bool_cases v.router.busy) [
      | inl b ↦
          let held = k.hand b in (
            held.0,
            record { deals = k.deals; dealt = k.dealt; items = k.items; hand = λ busy. held.2; whole = λ had. never refl had },
            λ busy. held.1,
          )
      | inr f ↦ (
        item.Done,
        record { deals = k.deals; dealt = k.dealt; items = k.items; hand = λ busy. never f busy; whole = λ had. never refl had },
        λ busy. never f busy,
      )
    ]

pub receive_so_far : (v : ReceiverView) (came : List Arrival) (gave : List Item) → ReceiveKeeps v came gave → GivesOn v came gave
receive_so_far v came gave k =
    let held = next_gift v gave k.keeps in
    record { came_is = k.came_is; next = held.0; gift = held.1; is_next = held.2; bytes = k.keeps.bytes; done = k.keeps.done }

pub receive_rests : (v : ReceiverView) → ReceiverRests v → ReceiveIsBlocked v ⊎ ReceiverIsStarved v
receive_rests v r = elim r [
  | inl owed ↦ inl (inl owed)
  | inr (inl full) ↦ inl (inr full)
  | inr (inr starved) ↦ inr starved
]

abbrev recv_goes_on : (a b c : RecvView) → RecvGoes a b → RecvGoes b c → RecvGoes a c
recv_goes_on a b c f g = record {
  same = record { shape = g.same.shape ∙ f.same.shape; packets = g.same.packets ∙ f.same.packets; acks = g.same.acks ∙ f.same.acks };
  received = prefix_trans a.packets.received b.packets.received c.packets.received f.received g.received;
  still_known = prefix_trans (a.packets.received ++ a.packets.known) (b.packets.received ++ b.packets.known) (c.packets.received ++ c.packets.known) f.still_known g.still_known;
  gave = prefix_trans a.acks.sent b.acks.sent c.acks.sent f.gave g.gave;
  still_free = g.still_free ∙ f.still_free;
}

-- the one output of a receiver goes on as its router does
pub output_goes : (a b : ReceiverView) → ReceiverTurned a b → OutputGoes (ready a.router) (ready b.router)
output_goes a b f = record { same = f.router.same; sent = f.router.sent; still_free = f.router.still_free }

pub receiver_turned_on : (a b c : ReceiverView) → ReceiverTurned a b → ReceiverTurned b c → ReceiverTurned a c
receiver_turned_on a b c f g =
    let both = output_trans (ready a.router) (ready b.router) (ready c.router) (output_goes a b f) (output_goes b c g) in
    record {
      end = recv_goes_on a.end b.end c.end f.end g.end;
      router = record { same = both.same; sent = both.sent; still_free = both.still_free };
    }

pub receiver_still_on : (a b c : ReceiverView) → ReceiverIsStill a b → ReceiverIsStill b c → ReceiverIsStill a c
receiver_still_on a b c f g = record { sent = g.sent ∙ f.sent; packets = g.packets ∙ f.packets; acks = g.acks ∙ f.acks; held = g.held ∙ f.held; at = g.at ∙ f.at; ended = g.ended ∙ f.ended }

pub receiver_still_count : (a b : ReceiverView) → ReceiverIsStill a b → moved_count b ≡ moved_count a
receiver_still_count a b s =
    let sent = s.sent in
    let packets = ap (λ p. length p.received) s.packets in
    let acks = ap (λ p. length p.sent) s.acks in
    omega (arith, sent, packets, acks)
