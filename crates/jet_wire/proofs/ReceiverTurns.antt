-- The turn of a receiver as a whole: a packet was taken, items were given, and the packet was counted and acknowledged.
use Rattle.std.proofs.Common.{◌≡◌, ℕ, ◌+◌, ◌<◌, ◌≤◌, Bool, true, false, ◌||◌, nat_lt, List, [], ◌++◌, drop, length, refl, sym, ◌∙◌, ap, subst, arith, Option, inl, inr, None, Some, IsTrue, IsFalse, IsSome, ltb-true, ltb-false, length-append}
use Rattle.std.specs.Prelude.{◌⊎◌}
use mathlib.Core.List.{IsPrefix}
use Rattle.jet_link.specs.declared.packet.Packet.{Packet}
use Rattle.jet_link.specs.Receiving.{held_bytes}
use Rattle.jet_link.specs.Views.{RecvView}
use Rattle.jet_ring.specs.Ring.{RxView}
use Rattle.jet_spell.specs.Begins.{BeginsWith}
use Rattle.jet_router.specs.Deals.{IsFull}
use Rattle.jet_router.specs.Router as routers
use Rattle.jet_router.proofs.Counting.{sent_and_free}
use Rattle.jet_wire.specs.Receiver.{ReceiverView, bytes_left, ReceiverIsLawful, IsPaced, ReceiverStays, Gives}
use Rattle.jet_wire.specs.ReceiverSteps.{Deals, Receives, IsUnmoved, IsOwed}
use Rattle.jet_wire.specs.ReceiverTurn.{RecvGoes, RouterGoes, ReceiverTurned, moved_count, ReceiverIsStill, ReceiverIsBlocked, ReceiverIsFull, ReceiverIsStarved, IsUnloaded, ReceiverRests}
use Rattle.jet_wire.proofs.Packets.{recv_trans}

pub front_size : {X : Type 0} (xs ys : List X) → IsPrefix xs ys → length xs ≤ length ys
front_size xs ys (more, e) = omega (arith, ap length e, length-append xs more)

none_or_some : (held : Option Packet) → held ≡ None ⊎ IsSome held
none_or_some None = inl refl
none_or_some (Some p) = inr refl

module _ (o a d f : ReceiverView) (first : Receives o a) (deals : Deals a d) (last : Receives d f) where
  pub turn_gives : Gives o f
  turn_gives = record {
    gives = λ items k.
        let given = deals.gives items (first.stays.stays items k) in
        (given.0, last.stays.stays (items ++ given.0) given.1);
  }

  pub turn_lawful : ReceiverIsLawful o → IsPaced f → ReceiverIsLawful f
  turn_lawful l paced = let more = turn_gives.gives l.given l.keeps in record { given = l.given ++ more.0; keeps = more.1; paced = paced }

  abbrev through : RecvGoes o.end f.end
  through = recv_trans o.end d.end f.end (subst (λ (e : RecvView). RecvGoes o.end e) (sym deals.end) first.end) last.end

  pub turn_turned : ReceiverTurned o f
  turn_turned = record {
    end = through;
    router = subst (λ (r : routers.View). RouterGoes r f.router) first.router_same (subst (λ (r : routers.View). RouterGoes a.router r) (sym last.router_same) deals.router);
  }

  -- how many were received, acknowledged and sent, step by step
  received_oa : length o.end.packets.received ≤ length a.end.packets.received
  received_oa = front_size o.end.packets.received a.end.packets.received first.end.received

  received_ad : length d.end.packets.received ≡ length a.end.packets.received
  received_ad = ap (λ (w : RecvView). length w.packets.received) deals.end

  received_df : length d.end.packets.received ≤ length f.end.packets.received
  received_df = front_size d.end.packets.received f.end.packets.received last.end.received

  acked_oa : length o.end.acks.sent ≤ length a.end.acks.sent
  acked_oa = front_size o.end.acks.sent a.end.acks.sent first.end.gave

  acked_ad : length d.end.acks.sent ≡ length a.end.acks.sent
  acked_ad = ap (λ (w : RecvView). length w.acks.sent) deals.end

  acked_df : length d.end.acks.sent ≤ length f.end.acks.sent
  acked_df = front_size d.end.acks.sent f.end.acks.sent last.end.gave

  sent_oa : routers.sent_count a.router ≡ routers.sent_count o.router
  sent_oa = ap routers.sent_count first.router_same

  sent_df : routers.sent_count f.router ≡ routers.sent_count d.router
  sent_df = ap routers.sent_count last.router_same

  sums : routers.sent_count d.router + routers.free_count d.router ≡ routers.sent_count a.router + routers.free_count a.router
  sums = sent_and_free a.router d.router deals.router.still_free

  pub turn_moved : (received acked : Bool) (left free : ℕ) → left ≡ routers.free_count d.router → free ≡ routers.free_count a.router
      → (received ≡ true → length o.end.packets.received < length a.end.packets.received) → (acked ≡ true → length d.end.acks.sent < length f.end.acks.sent)
      → ((received || acked) || nat_lt left free) ≡ true → moved_count o < moved_count f
  turn_moved true acked left free le fe came gave e =
      omega (arith, came refl, received_ad, received_df, acked_oa, acked_ad, acked_df, sent_oa, deals.more, sent_df)
  turn_moved false true left free le fe came gave e =
      omega (arith, gave refl, received_oa, received_ad, received_df, acked_oa, acked_ad, sent_oa, deals.more, sent_df)
  turn_moved false false left free le fe came gave e =
      omega (arith, ltb-true left free e, le, fe, sums, received_oa, received_ad, received_df, acked_oa, acked_ad, acked_df, sent_oa, sent_df)

  -- a turn that acknowledged nothing
  module _ (rest : IsUnmoved d f) where
    same_left : bytes_left f ≡ bytes_left d
    same_left = ap (λ (n : ℕ). drop n (held_bytes f.end.held)) rest.at ∙ ap (λ (h : Option Packet). drop d.at (held_bytes h)) rest.held

    owed_still : IsSome d.end.held → IsOwed d → ReceiverIsBlocked f
    owed_still some w = record {
      held = subst (λ (h : Option Packet). IsSome h) (sym rest.held) some;
      next = w.0;
      is = (w.1.0, subst (λ (b : List ℕ). BeginsWith w.0 w.1.0 b) (sym same_left) w.1.1);
      full = subst (λ (r : routers.View). IsFull r w.0) (sym last.router_same) w.2;
    }

    starved_still : ReceiverIsStarved a → ReceiverIsStarved f
    starved_still s = record {
      held = rest.held ∙ (ap (λ (w : RecvView). w.held) deals.end ∙ s.held);
      none = ap (λ (x : RxView Packet). x.known) rest.packets ∙ (ap (λ (w : RecvView). w.packets.known) deals.end ∙ s.none);
    }

    held_rests : IsSome d.end.held → (bytes_left d ≡ []) ⊎ IsOwed d → (IsSome d.end.held → bytes_left d ≡ [] → ReceiverIsFull f) → ReceiverRests f
    held_rests some (inl nothing) full = inr (inl (full some nothing))
    held_rests some (inr owed) full = inl (owed_still some owed)

    pub turn_rests : IsSome a.end.held ⊎ ReceiverIsStarved a → (bytes_left d ≡ []) ⊎ IsOwed d → (IsSome d.end.held → bytes_left d ≡ [] → ReceiverIsFull f) → ReceiverRests f
    turn_rests (inl some) stuck full = held_rests (subst (λ (w : RecvView). IsSome w.held) (sym deals.end) some) stuck full
    turn_rests (inr starved) stuck full = inr (inr (starved_still starved))

    hand_unloaded : d.end.held ≡ None ⊎ IsSome d.end.held → (bytes_left d ≡ []) ⊎ IsOwed d → (IsSome d.end.held → bytes_left d ≡ [] → ReceiverIsFull f) → IsUnloaded f
    hand_unloaded (inl none) stuck full = inl (rest.held ∙ none)
    hand_unloaded (inr some) (inl nothing) full = inr (inr (full some nothing))
    hand_unloaded (inr some) (inr owed) full = inr (inl (owed_still some owed))

  pub turn_unloaded : (acked : Bool) → (IsTrue acked → f.end.held ≡ None) → (IsFalse acked → IsUnmoved d f) → (bytes_left d ≡ []) ⊎ IsOwed d → (IsFalse acked → IsSome d.end.held → bytes_left d ≡ [] → ReceiverIsFull f) → IsUnloaded f
  turn_unloaded true none rest stuck full = inl (none refl)
  turn_unloaded false none rest stuck full = hand_unloaded (rest refl) (none_or_some d.end.held) stuck (full refl)

  -- a turn in which nothing moved
  module _ (same : a ≡ o) (left free : ℕ) (le : left ≡ routers.free_count d.router) (fe : free ≡ routers.free_count a.router) (none : nat_lt left free ≡ false) (rest : IsUnmoved d f) where
    same_sent : routers.sent_count d.router ≡ routers.sent_count a.router
    same_sent = omega (arith, ltb-false left free none, le, fe, sums, deals.more)

    pub turn_stays : ReceiverStays o f
    turn_stays = record { stays = λ items k. last.stays.stays items ((deals.stays same_sent).stays items (first.stays.stays items k)) }

    pub turn_still : ReceiverIsStill o f
    turn_still = record {
      sent = sent_df ∙ (same_sent ∙ sent_oa);
      packets = rest.packets ∙ ap (λ (w : RecvView). w.packets) deals.end ∙ ap (λ (v : ReceiverView). v.end.packets) same;
      acks = rest.acks ∙ ap (λ (w : RecvView). w.acks) deals.end ∙ ap (λ (v : ReceiverView). v.end.acks) same;
      held = rest.held ∙ ap (λ (w : RecvView). w.held) deals.end ∙ ap (λ (v : ReceiverView). v.end.held) same;
      at = rest.at ∙ (deals.place same_sent).0 ∙ ap (λ (v : ReceiverView). v.at) same;
      ended = rest.ended ∙ (deals.place same_sent).1 ∙ ap (λ (v : ReceiverView). v.ended) same;
    }
