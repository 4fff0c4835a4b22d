-- Rings of files that meet one after another, and rings that lead to the sink.
use Rattle.std.proofs.Common.{◌≡◌, ◌≢◌, ℕ, ◌+◌, ◌<◌, List, [], ◌∷◌, ◌++◌, take, length, get_or, set, refl, sym, ap, ◌∙◌, subst, arith, below_more, append-nil}
use Rattle.std.specs.Prelude.{slice_get}
use Rattle.std.specs.List.{AllPairs}
use Rattle.std.proofs.lemmas.List.{get_or_default, get_or-set_same, get_or-set_other, take_more}
use Rattle.std.proofs.lemmas.Option.{slice_get-get_or}
use Rattle.jet_ring.proofs.Lists.{prefix_trans}
use Rattle.jet_items.specs.declared.item.Item.{Item}
use Rattle.jet_ring.specs.Ring.{Ring, TxView}
use Rattle.jet_conveyor.specs.Conveyor as conveyor
use Rattle.jet_tasklet.specs.declared.any.AnyTasklet.{AnyTasklet}
use Rattle.jet_tasklet.specs.Meeting.{IsQueue}
use Rattle.jet_crew.specs.Epoch.{Placewise}
use Rattle.jet_engine.specs.declared.places.DestAt.{DestAt}
use Rattle.jet_engine.specs.declared.places.QueueAt.{QueueAt}
use Rattle.jet_engine.specs.Ends.{IsFed, HasFed, IsDrained, HasDrained}
use Rattle.jet_engine.specs.Looking.{Met}
use Rattle.jet_engine.specs.Wiring.{AreFed, TxMet, AreDrained, SinkMet}
use Rattle.jet_engine.proofs.Placewise.{placewise_same, placewise_set, placewise_trans}
use Rattle.jet_engine.proofs.Ends.{met_none, met_trans, still_fed, still_has_fed, dest_looked, alone}

-- ---- files
pub tx_same : (a : TxView Item) → TxMet a a
tx_same a = record { ring = refl; sent = refl; reach = omega arith }

tx_trans : (a b c : TxView Item) → TxMet a b → TxMet b c → TxMet a c
tx_trans a b c p q = record { ring = q.ring ∙ p.ring; sent = q.sent ∙ p.sent; reach = (let l = p.reach in let m = q.reach in omega (arith, l, m)) }

-- a queue is fed by whatever end of its ring
pub same_feed : (ts : List AnyTasklet) (a b : TxView Item) (p : QueueAt) → b.ring ≡ a.ring → IsFed ts a p → IsFed ts b p
same_feed ts a b p same h = record { rx = h.rx; taker = h.taker; ring = h.ring ∙ sym same }

-- the rings of the first n files have met, and no other end of a tasklet has
pub record FedSoFar (feeds : List QueueAt) (ts us : List AnyTasklet) (vs ws : List (TxView Item)) (n : ℕ) : Type 0 where
  pub met : (k : ℕ) (d : TxView Item) (e : QueueAt) → k < n → HasFed us (get_or ws k d) (get_or feeds k e)
  pub txs : Placewise TxMet vs ws
  pub others : Met ts us [] (take n feeds)

pub none_fed : (feeds : List QueueAt) (ts : List AnyTasklet) (vs : List (TxView Item)) → FedSoFar feeds ts ts vs vs 0
none_fed feeds ts vs = record { met = λ k d e l. absurd (omega (arith, l)); txs = placewise_same TxMet tx_same vs; others = met_none ts }

pub fed_at : (feeds : List QueueAt) (ts us : List AnyTasklet) (vs ws : List (TxView Item)) (n : ℕ) (d : TxView Item) (e : QueueAt) → AreFed ts vs feeds → n < length feeds → FedSoFar feeds ts us vs ws n → IsFed us (get_or ws n d) (get_or feeds n e)
fed_at feeds ts us vs ws n d e fed l s =
    same_feed us (get_or vs n d) (get_or ws n d) (get_or feeds n e) (s.txs.each n d (let c = fed.count in omega (arith, c, l))).ring
    (still_fed ts us (get_or vs n d) (get_or feeds n e) s.others.looked (fed.each n d e l))

module _ (feeds : List QueueAt) (ts us xs : List AnyTasklet) (vs ws : List (TxView Item)) (n : ℕ) (d : TxView Item) (e : QueueAt) (now : TxView Item) where
  pub one_fed : AllPairs (λ p q. p ≢ q) feeds → n < length feeds → n < length ws → FedSoFar feeds ts us vs ws n → HasFed xs now (get_or feeds n e) → TxMet (get_or ws n d) now → Met us xs [] (get_or feeds n e ∷ []) → FedSoFar feeds ts xs vs (set ws n now) (n + 1)
  one_fed apart l m s met tx others =
      let p = get_or feeds n e in
      let before : (k : ℕ) (f : TxView Item) (g : QueueAt) → k < n → HasFed xs (get_or (set ws n now) k f) (get_or feeds k g) = λ k f g h.
      let other : get_or feeds k e ≢ p = apart k n e h l in
      let same = get_or_default feeds k e g (omega (arith, h, l)) in
      subst (λ (t : TxView Item). HasFed xs t (get_or feeds k g)) (sym (get_or-set_other ws n k now f (λ is. omega (arith, is, h))))
      (subst (λ (q : QueueAt). HasFed xs (get_or ws k f) q) same
      (still_has_fed us xs [] (p ∷ []) (get_or ws k f) (get_or feeds k e) others (alone p (get_or feeds k e) other) (s.met k f e h))) in
      let here : (f : TxView Item) (g : QueueAt) → HasFed xs (get_or (set ws n now) n f) (get_or feeds n g) = λ f g.
      subst (λ (t : TxView Item). HasFed xs t (get_or feeds n g)) (sym (get_or-set_same ws n now f m))
      (subst (λ (q : QueueAt). HasFed xs now q) (get_or_default feeds n e g l) met) in
      record {
        met = λ k f g h. below_more (λ i. HasFed xs (get_or (set ws n now) i f) (get_or feeds i g)) n (λ i b. before i f g b) (here f g) k h;
        txs = placewise_trans TxMet tx_trans vs ws (set ws n now) s.txs (placewise_set TxMet tx_same ws n (get_or ws n d) now (slice_get-get_or ws n d m) tx);
        others = subst (λ (qs : List QueueAt). Met ts xs [] qs) (sym (take_more feeds n e l)) (met_trans ts us xs [] [] (take n feeds) (p ∷ []) s.others others);
      }

-- ---- the sink
pub sink_same : (v : conveyor.View) → SinkMet v v
sink_same v = record { rings = refl; received = refl; done = refl; cursor = refl; seen = λ k. ([], append-nil (conveyor.received_at v k ++ conveyor.known_at v k)) }

sink_met : (v w x : conveyor.View) (q : ℕ) → SinkMet v w → conveyor.Refreshed w x q → conveyor.SeesMore w x → SinkMet v x
sink_met v w x q m n seen =
    record {
      rings = n.rings ∙ m.rings;
      received = n.received ∙ m.received;
      done = n.done ∙ m.done;
      cursor = n.cursor ∙ m.cursor;
      seen = λ k. prefix_trans (conveyor.received_at v k ++ conveyor.known_at v k) (conveyor.received_at w k ++ conveyor.known_at w k) (conveyor.received_at x k ++ conveyor.known_at x k) (m.seen k) (seen k);
    }

-- the rings that lead to the first n queues have met, and no other end of a tasklet has
pub record DrainedSoFar (drains : List DestAt) (ts us : List AnyTasklet) (v w : conveyor.View) (n : ℕ) : Type 0 where
  pub met : (k : ℕ) (e : DestAt) → k < n → HasDrained us (get_or drains k e) w k
  pub sink : SinkMet v w
  pub others : Met ts us (take n drains) []

pub none_drained : (drains : List DestAt) (ts : List AnyTasklet) (v : conveyor.View) → DrainedSoFar drains ts ts v v 0
none_drained drains ts v = record { met = λ k e l. absurd (omega (arith, l)); sink = sink_same v; others = met_none ts }

pub drained_at : (drains : List DestAt) (ts us : List AnyTasklet) (v w : conveyor.View) (n : ℕ) (e : DestAt) → AreDrained ts drains v → n < length drains → DrainedSoFar drains ts us v w n → IsDrained us (get_or drains n e) w n
drained_at drains ts us v w n e all l s =
    let h = all.each n e l in
    let end = dest_looked ts us (get_or drains n e) h.tx s.others.looked h.giver in
    record {
      tx = end.0;
      rx = record { ring = h.rx.ring; received = conveyor.received_at w n; known = conveyor.known_at w n };
      giver = end.1;
      taker = record { ring = ap (λ (rs : List Ring). slice_get rs n) s.sink.rings ∙ h.taker.ring; received = refl; known = refl };
      ring = h.ring ∙ sym end.2;
    }

module _ (drains : List DestAt) (ts us xs : List AnyTasklet) (v w x : conveyor.View) (n : ℕ) (e : DestAt) where
  pub one_drained : AllPairs (λ p q. p ≢ q) drains → n < length drains → DrainedSoFar drains ts us v w n → HasDrained xs (get_or drains n e) x n → conveyor.Refreshed w x n → conveyor.SeesMore w x → Met us xs (get_or drains n e ∷ []) [] → DrainedSoFar drains ts xs v x (n + 1)
  one_drained apart l s met fresh seen others =
      let p = get_or drains n e in
      let before : (k : ℕ) (g : DestAt) → k < n → HasDrained xs (get_or drains k g) x k = λ k g h.
      let q = get_or drains k e in
      let was = s.met k e h in
      let kept : IsQueue x k was.rx = record {
        ring = ap (λ (rs : List Ring). slice_get rs k) fresh.rings ∙ was.taker.ring;
        received = ap (λ (rs : List (List Item)). get_or rs k []) fresh.received ∙ was.taker.received;
        known = fresh.others k (λ is. omega (arith, is, h)) ∙ was.taker.known;
      } in
      subst (λ (r : DestAt). HasDrained xs r x k) (get_or_default drains k e g (omega (arith, h, l)))
      (record { tx = was.tx; rx = was.rx; giver = others.other_dests q was.tx (alone p q (apart k n e h l)) was.giver; taker = kept; met = was.met }) in
      let here : (g : DestAt) → HasDrained xs (get_or drains n g) x n = λ g. subst (λ (r : DestAt). HasDrained xs r x n) (get_or_default drains n e g l) met in
      record {
        met = λ k g h. below_more (λ i. HasDrained xs (get_or drains i g) x i) n (λ i b. before i g b) (here g) k h;
        sink = sink_met v w x n s.sink fresh seen;
        others = subst (λ (ds : List DestAt). Met ts xs ds []) (sym (take_more drains n e l)) (met_trans ts us xs (take n drains) (p ∷ []) [] [] s.others others);
      }
