-- What a meeting of an end that was lent out leaves of what a sender and a receiver keep.
use Rattle.std.proofs.Common.{◌≡◌, ℕ, ◌<◌, Bool, true, false, List, [], ◌∷◌, map, length, get_or, refl, sym, ◌∙◌, ap, subst}
use Rattle.std.specs.List.{AllByRecursion}
use Rattle.std.proofs.lemmas.List.{length-map}
use Rattle.jet_items.specs.declared.item.Item.{Item}
use Rattle.jet_items.specs.Partition.{item_key}
use Rattle.jet_coalescer.specs.Low.{HasHeard}
use Rattle.jet_conveyor.specs.Conveyor as conveyor
use Rattle.jet_router.specs.Aim.{aim_of}
use Rattle.jet_router.specs.Deals.{Deal, FitsAim, Dealt}
use Rattle.jet_router.specs.Dest.{DestView, settled_by, HandIs}
use Rattle.jet_router.specs.Router as router
use Rattle.jet_router.specs.Router.{IsInHand, sents, hads}
use Rattle.jet_router.specs.declared.aim.Route.{Route}
use Rattle.jet_wire.specs.Passing.{InOrder, heard, passed}
use Rattle.jet_wire.specs.Receiver.{ReceiverView, SomeNotHad, ReceiverStays}
use Rattle.jet_wire.specs.Sender.{SenderView, Stays}

-- ---- the queues of a sender
pub queues_met : (v : SenderView) (w : conveyor.View) (q : ℕ) → conveyor.Refreshed v.queues w q → Stays v (record v { queues = w })
queues_met v w q r =
    let n : length w.rings ≡ length v.queues.rings = ap (λ rs. length rs) r.rings in
    record {
      stays = λ came sent k. record {
        takes_in = record {
          received_each = ap (λ xs. length xs) r.received ∙ (k.takes_in.received_each ∙ sym n);
          done_each = ap (λ xs. length xs) r.done ∙ (k.takes_in.done_each ∙ sym n);
          received_is = λ q lt. ap (λ xs. get_or xs q []) r.received ∙ k.takes_in.received_is q (subst (λ (m : ℕ). q < m) n lt);
          done_is = λ q lt. ap (λ xs. get_or xs q true) r.done ∙ k.takes_in.done_is q (subst (λ (m : ℕ). q < m) n lt);
          in_order = subst (λ (m : ℕ). InOrder m came) (sym n) k.takes_in.in_order;
          heard_is = subst (λ (m : ℕ). HasHeard v.lows (heard m came)) (sym n) k.takes_in.heard_is;
        };
        sends = record {
          packets = k.sends.packets;
          written = k.sends.written;
          work = k.sends.work;
          fits = k.sends.fits;
          follows = k.sends.follows ∙ ap (λ (m : ℕ). passed m came) (sym n);
        };
      };
    }

-- ---- the destinations of a router; for the proofs of tasklets too
settled_same : (ds es : List DestView) → map (λ (d : DestView). d.had) es ≡ map (λ (d : DestView). d.had) ds → map (λ t. t.sent) (map (λ (d : DestView). d.tx) es) ≡ map (λ t. t.sent) (map (λ (d : DestView). d.tx) ds) → map (λ (d : DestView). settled_by d.had d.tx.sent) es ≡ map (λ (d : DestView). settled_by d.had d.tx.sent) ds
settled_same [] [] h s = refl
settled_same [] (e ∷ es) h s = absurd (cc)
settled_same (d ∷ ds) [] h s = absurd (cc)
settled_same (d ∷ ds) (e ∷ es) h s =
    let had : e.had ≡ d.had = cc in
    let sent : e.tx.sent ≡ d.tx.sent = cc in
    let hads_rest : map (λ (d : DestView). d.had) es ≡ map (λ (d : DestView). d.had) ds = cc in
    let sents_rest : map (λ t. t.sent) (map (λ (d : DestView). d.tx) es) ≡ map (λ t. t.sent) (map (λ (d : DestView). d.tx) ds) = cc in
    let rest = settled_same ds es hads_rest sents_rest in
    ap (λ (b : Bool). settled_by b e.tx.sent ∷ map (λ (d : DestView). settled_by d.had d.tx.sent) es) had ∙ (ap (λ (xs : List Item). settled_by d.had xs ∷ map (λ (d : DestView). settled_by d.had d.tx.sent) es) sent ∙ ap (λ (xs : List (List Item)). settled_by d.had d.tx.sent ∷ xs) rest)

module _ (a b : router.View) (d : ℕ) (r : router.Refreshed a b d) where
  pub aim_same : (x : Item) → router.aim b x ≡ router.aim a x
  aim_same x = ap (λ (by : Route). aim_of by b.table (item_key x)) r.same.route ∙ ap (λ (t : List ℕ). aim_of a.route t (item_key x)) r.same.table

  pub dests_same : length b.dests ≡ length a.dests
  dests_same = sym (length-map b.dests (λ (e : DestView). e.had)) ∙ (ap (λ xs. length xs) r.had ∙ length-map a.dests (λ (e : DestView). e.had))

  settled_if_same : (u : Bool) → router.settled_if u b.dests ≡ router.settled_if u a.dests
  settled_if_same true = settled_same a.dests b.dests r.had r.sent
  settled_if_same false = r.sent

  settles : router.settled b ≡ router.settled a
  settles = ap (λ (u : Bool). router.settled_if u b.dests) r.busy ∙ settled_if_same a.busy

  fits_same : (deals : List Deal) → AllByRecursion (λ (e : Deal). FitsAim (length a.dests) (router.aim a e.item) e.to) deals → AllByRecursion (λ (e : Deal). FitsAim (length b.dests) (router.aim b e.item) e.to) deals
  fits_same [] h = tt
  fits_same (e ∷ deals) h = (
    subst (λ (n : ℕ). FitsAim n (router.aim b e.item) e.to) (sym dests_same) (subst (λ w. FitsAim (length a.dests) w e.to) (sym (aim_same e.item)) h.0),
    fits_same deals h.1,
  )

  pub dealt_same : (deals : List Deal) → Dealt a deals → Dealt b deals
  dealt_same deals h = record {
    by_route = fits_same deals h.by_route;
    sent_is = λ k lt. ap (λ (xs : List (List Item)). get_or xs k []) settles ∙ h.sent_is k (subst (λ (n : ℕ). k < n) dests_same lt);
  }

  pub in_hand_same : (x : Item) → IsInHand a x → IsInHand b x
  in_hand_same x h = (
    aim_same x ∙ h.0,
    subst (λ (hs : List Bool). HandIs x hs (sents b)) (sym r.had) (subst (λ (ss : List (List Item)). HandIs x (hads a) ss) (sym r.sent) h.1),
  )

  not_had_same : SomeNotHad a.dests → SomeNotHad b.dests
  not_had_same h = (h.0, subst (λ (n : ℕ). h.0 < n) (sym dests_same) h.1, ap (λ (hs : List Bool). get_or hs h.0 true) r.had ∙ h.2)

pub dests_met : (v : ReceiverView) (w : router.View) (d : ℕ) → router.Refreshed v.router w d → ReceiverStays v (record v { router = w })
dests_met v w d r = record {
  stays = λ items k. record {
    deals = k.deals;
    dealt = dealt_same v.router w d r k.deals k.dealt;
    items = k.items;
    fits = k.fits;
    bytes = k.bytes;
    inside = k.inside;
    spelled = k.spelled;
    hand = λ e.
        let h = k.hand (sym r.busy ∙ e) in
        (h.0, h.1, in_hand_same v.router w d r h.0 h.2);
    owed = λ e. not_had_same v.router w d r (k.owed (sym r.busy ∙ e));
    dests = subst (λ (n : ℕ). 0 < n) (sym (dests_same v.router w d r)) k.dests;
    whole = k.whole;
    done = k.done;
  };
}
