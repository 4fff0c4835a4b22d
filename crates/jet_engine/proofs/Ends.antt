-- The ends of a tasklet, and those of all, when some of them meet.
use Rattle.std.proofs.Common.{◌≡◌, ◌≢◌, ℕ, zero, suc, ◌<◌, inl, inr, List, [], ◌∷◌, ◌++◌, map, length, ◌∙◌, refl, sym, ap, subst, get_or, set, arith}
use Rattle.std.specs.Prelude.{Some, slice_get}
use Rattle.std.specs.List.{Contains}
use Rattle.std.proofs.lemmas.Bool.{cases_eq}
use Rattle.std.proofs.lemmas.List.{get_or-map, length-map}
use Rattle.std.proofs.lemmas.List.Elements.{Contains-append_left, Contains-append_right}
use Rattle.std.proofs.lemmas.Option.{slice_get-get_or, get_or_from_slice_get, slice_get_within}
use Rattle.jet_items.specs.declared.item.Item.{Item}
use Rattle.jet_ring.specs.Ring.{Ring, TxView, RxView}
use Rattle.jet_conveyor.specs.Conveyor as conveyor
use Rattle.jet_router.specs.Router as router
use Rattle.jet_tasklet.specs.declared.any.AnyTasklet.{AnyTasklet}
use Rattle.jet_tasklet.specs.Inputs.{InputView}
use Rattle.jet_tasklet.specs.Outputs.{OutputView}
use Rattle.jet_tasklet.specs.Meeting.{HasEnd, IsQueue, HasQueue, OutputMet, InputMet, AnyGiverMet, AnyTakerMet}
use Rattle.jet_tasklet.specs.Views.{ins, outs}
use Rattle.jet_crew.specs.Epoch.{Placewise}
use Rattle.jet_engine.specs.declared.places.DestAt.{DestAt}
use Rattle.jet_engine.specs.declared.places.QueueAt.{QueueAt}
use Rattle.jet_engine.specs.declared.places.Junction.{Junction}
use Rattle.jet_engine.specs.Ends.{HasDestAt, HasQueueAt, IsJoined, HasMet, IsFed, HasFed}
use Rattle.jet_engine.specs.Looking.{SameInput, SameOutput, Looked, Met}
use Rattle.jet_engine.proofs.Placewise.{some_is, set_there, set_elsewhere, placewise_at, placewise_same, placewise_set, placewise_trans}
use Rattle.jet_engine.proofs.Looking.{looked_same, looked_trans, giver_looked, taker_looked}

-- two lists of which a function gives the same have in each place two of which it does
pub same_there : {X Y : Type 0} (f : X → Y) (xs ys : List X) (k : ℕ) (x : X) → map f ys ≡ map f xs → slice_get xs k ≡ Some x → (y : X) × (slice_get ys k ≡ Some y) × (f y ≡ f x)
same_there {X} {Y} f xs ys k x same at =
    let within : k < length xs = slice_get_within xs k x at in
    let inside : k < length ys = let n = ap length same in let m = length-map ys f in let l = length-map xs f in let w = within in omega (arith, n, m, l, w) in
    let gives : f (get_or ys k x) ≡ f x =
    sym (get_or-map f ys k x (f x) inside)
    ∙ (ap (λ (zs : List Y). get_or zs k (f x)) same
    ∙ (get_or-map f xs k x (f x) within ∙ ap f (get_or_from_slice_get xs k x x at))) in
    (get_or ys k x, slice_get-get_or ys k x inside, gives)

-- ---- the ends of a tasklet of which ends met
end_looked : (os ps : List OutputView) (o d : ℕ) (tx : TxView Item) → Placewise SameOutput os ps → HasEnd os o d tx → (now : TxView Item) × HasEnd ps o d now × (now.ring ≡ tx.ring)
end_looked os ps o d tx p end =
    let there = placewise_at SameOutput os ps o end.output p end.at in
    let same = same_there (λ (t : TxView Item). t.ring) (router.txs end.output.router) (router.txs there.0.router) d tx there.2.router.rings_kept end.is in
    (same.0, record { output = there.0; at = there.1; is = same.1 }, same.2)

queue_looked : (is ks : List InputView) (i q : ℕ) (rx : RxView Item) → Placewise SameInput is ks → HasQueue is i q rx → (now : RxView Item) × HasQueue ks i q now × (now.ring ≡ rx.ring)
queue_looked is ks i q rx p queue =
    let there = placewise_at SameInput is ks i queue.input p queue.at in
    let now : RxView Item = record { ring = rx.ring; received = conveyor.received_at there.0.queues q; known = conveyor.known_at there.0.queues q } in
    let same : IsQueue there.0.queues q now = record { ring = ap (λ (rs : List Ring). slice_get rs q) there.2.rings ∙ queue.is.ring; received = refl; known = refl } in
    (now, record { input = there.0; at = there.1; is = same }, refl)

-- ---- the ends at their places
pub dest_looked : (ts us : List AnyTasklet) (p : DestAt) (tx : TxView Item) → Placewise Looked ts us → HasDestAt ts p tx → (now : TxView Item) × HasDestAt us p now × (now.ring ≡ tx.ring)
dest_looked ts us p tx l h =
    let there = placewise_at Looked ts us p.task h.tasklet l h.at in
    let end = end_looked (outs h.tasklet) (outs there.0) p.output p.dest tx there.2.outputs h.end in
    (end.0, record { tasklet = there.0; at = there.1; end = end.1 }, end.2)

pub queue_at_looked : (ts us : List AnyTasklet) (p : QueueAt) (rx : RxView Item) → Placewise Looked ts us → HasQueueAt ts p rx → (now : RxView Item) × HasQueueAt us p now × (now.ring ≡ rx.ring)
queue_at_looked ts us p rx l h =
    let there = placewise_at Looked ts us p.task h.tasklet l h.at in
    let queue = queue_looked (ins h.tasklet) (ins there.0) p.input p.queue rx there.2.inputs h.end in
    (queue.0, record { tasklet = there.0; at = there.1; end = queue.1 }, queue.2)

-- what is joined stays joined
pub still_joined : (ts us : List AnyTasklet) (j : Junction) → Placewise Looked ts us → IsJoined ts j → IsJoined us j
still_joined ts us j l h =
    let end = dest_looked ts us j.giver h.tx l h.giver in
    let queue = queue_at_looked ts us j.taker h.rx l h.taker in
    record { tx = end.0; rx = queue.0; giver = end.1; taker = queue.1; ring = queue.2 ∙ (h.ring ∙ sym end.2); apart = h.apart }

pub still_fed : (ts us : List AnyTasklet) (tx : TxView Item) (p : QueueAt) → Placewise Looked ts us → IsFed ts tx p → IsFed us tx p
still_fed ts us tx p l h = let queue = queue_at_looked ts us p h.rx l h.taker in record { rx = queue.0; taker = queue.1; ring = queue.2 ∙ h.ring }

-- ---- what does not meet stays as it is
view_same : (a b : TxView Item) → a.ring ≡ b.ring → a.sent ≡ b.sent → a.free ≡ b.free → a ≡ b
view_same a b p q r =
    let one : a ≡ record { ring = b.ring; sent = a.sent; free = a.free } = ap (λ (x : Ring). record { ring = x; sent = a.sent; free = a.free }) p in
    let two : record { ring = b.ring; sent = a.sent; free = a.free } ≡ record { ring = b.ring; sent = b.sent; free = a.free } = ap (λ (x : List Item). record { ring = b.ring; sent = x; free = a.free }) q in
    let three : record { ring = b.ring; sent = b.sent; free = a.free } ≡ b = ap (λ (x : ℕ). record { ring = b.ring; sent = b.sent; free = x }) r in
    one ∙ (two ∙ three)

-- the end of a destination that did not meet
tx_kept : (a b : router.View) (d k : ℕ) (tx : TxView Item) → router.Refreshed a b d → k ≢ d → slice_get (router.txs a) k ≡ Some tx → slice_get (router.txs b) k ≡ Some tx
tx_kept a b d k tx met other at =
    let ring = same_there (λ (t : TxView Item). t.ring) (router.txs a) (router.txs b) k tx met.same.rings_kept at in
    let sent = same_there (λ (t : TxView Item). t.sent) (router.txs a) (router.txs b) k tx met.sent at in
    let now = ring.0 in
    let one : sent.0 ≡ now = some_is sent.0 now (sym sent.1 ∙ ring.1) in
    let free : now.free ≡ tx.free =
    ap (λ (t : TxView Item). t.free) (sym (get_or_from_slice_get (router.txs b) k now now ring.1))
    ∙ (sym (get_or-map (λ (t : TxView Item). t.free) (router.txs b) k now 0 (slice_get_within (router.txs b) k now ring.1))
    ∙ (met.others k other
    ∙ (get_or-map (λ (t : TxView Item). t.free) (router.txs a) k tx 0 (slice_get_within (router.txs a) k tx at)
    ∙ ap (λ (t : TxView Item). t.free) (get_or_from_slice_get (router.txs a) k tx tx at)))) in
    ring.1 ∙ ap (λ (t : TxView Item). Some t) (view_same now tx ring.2 (ap (λ (t : TxView Item). t.sent) (sym one) ∙ sent.2) free)

end_kept : (os ps : List OutputView) (o d a k : ℕ) (tx : TxView Item) → OutputMet os ps o d → (a ≡ o → k ≢ d) → HasEnd os a k tx → HasEnd ps a k tx
end_kept os ps o d a k tx m other end =
    elim (cases_eq a o) [
      | inl e ↦
          let was : end.output ≡ m.was = some_is end.output m.was (sym end.at ∙ (ap (λ (x : ℕ). slice_get os x) e ∙ m.at)) in
          let inside = slice_get_within os o m.was m.at in
          let here : slice_get ps a ≡ Some m.now = ap (λ (x : ℕ). slice_get ps x) e ∙ (ap (λ (qs : List OutputView). slice_get qs o) m.others ∙ set_there os o m.now inside) in
          let before : slice_get (router.txs m.was.router) k ≡ Some tx = ap (λ (v : OutputView). slice_get (router.txs v.router) k) (sym was) ∙ end.is in
          record { output = m.now; at = here; is = tx_kept m.was.router m.now.router d k tx m.met (other e) before }
      | inr ne ↦ record { output = end.output; at = ap (λ (qs : List OutputView). slice_get qs a) m.others ∙ set_elsewhere os o a m.now end.output ne end.at; is = end.is }
    ]

queue_kept : (is ks : List InputView) (i q a k : ℕ) (rx : RxView Item) → InputMet is ks i q → (a ≡ i → k ≢ q) → HasQueue is a k rx → HasQueue ks a k rx
queue_kept is ks i q a k rx m other queue =
    elim (cases_eq a i) [
      | inl e ↦
          let was : queue.input ≡ m.was = some_is queue.input m.was (sym queue.at ∙ (ap (λ (x : ℕ). slice_get is x) e ∙ m.at)) in
          let inside = slice_get_within is i m.was m.at in
          let here : slice_get ks a ≡ Some m.now = ap (λ (x : ℕ). slice_get ks x) e ∙ (ap (λ (qs : List InputView). slice_get qs i) m.others ∙ set_there is i m.now inside) in
          let before : IsQueue m.was.queues k rx = subst (λ (v : InputView). IsQueue v.queues k rx) was queue.is in
          record {
            input = m.now;
            at = here;
            is = record {
              ring = ap (λ (rs : List Ring). slice_get rs k) m.met.rings ∙ before.ring;
              received = ap (λ (rs : List (List Item)). get_or rs k []) m.met.received ∙ before.received;
              known = m.met.others k (other e) ∙ before.known;
            };
          }
      | inr ne ↦ record { input = queue.input; at = ap (λ (qs : List InputView). slice_get qs a) m.others ∙ set_elsewhere is i a m.now queue.input ne queue.at; is = queue.is }
    ]

-- ---- a place that is not the one that met
one_only : {X : Type 0} (x y : X) → Contains (x ∷ []) y → x ≡ y
one_only x y (zero, l, is) = is
one_only x y (suc k, l, is) = absurd (omega (arith, l))

other_than : {X : Type 0} (x y : X) → (Contains (x ∷ []) y → ⊥) → y ≢ x
other_than x y no_one e = no_one (0, omega arith, sym e)

dest_other : (p q : DestAt) → p ≢ q → p.task ≡ q.task → p.output ≡ q.output → p.dest ≢ q.dest
dest_other p q apart e f g =
    let one : p ≡ record { task = q.task; output = p.output; dest = p.dest } = ap (λ (x : ℕ). record { task = x; output = p.output; dest = p.dest }) e in
    let two : record { task = q.task; output = p.output; dest = p.dest } ≡ record { task = q.task; output = q.output; dest = p.dest } = ap (λ (x : ℕ). record { task = q.task; output = x; dest = p.dest }) f in
    let three : record { task = q.task; output = q.output; dest = p.dest } ≡ q = ap (λ (x : ℕ). record { task = q.task; output = q.output; dest = x }) g in
    apart (one ∙ (two ∙ three))

queue_other : (p q : QueueAt) → p ≢ q → p.task ≡ q.task → p.input ≡ q.input → p.queue ≢ q.queue
queue_other p q apart e f g =
    let one : p ≡ record { task = q.task; input = p.input; queue = p.queue } = ap (λ (x : ℕ). record { task = x; input = p.input; queue = p.queue }) e in
    let two : record { task = q.task; input = p.input; queue = p.queue } ≡ record { task = q.task; input = q.input; queue = p.queue } = ap (λ (x : ℕ). record { task = q.task; input = x; queue = p.queue }) f in
    let three : record { task = q.task; input = q.input; queue = p.queue } ≡ q = ap (λ (x : ℕ). record { task = q.task; input = q.input; queue = x }) g in
    apart (one ∙ (two ∙ three))

-- ---- one tasklet of the list that met
module _ (ts : List AnyTasklet) (k : ℕ) (t u : AnyTasklet) (at : slice_get ts k ≡ Some t) where
  abbrev inside : k < length ts
  inside = slice_get_within ts k t at

  pub now_there : slice_get (set ts k u) k ≡ Some u
  now_there = set_there ts k u inside

  -- an end stays that keeps in this tasklet, wherever it stands
  dest_stays : (p : DestAt) (tx : TxView Item) → (p.task ≡ k → HasEnd (outs t) p.output p.dest tx → HasEnd (outs u) p.output p.dest tx) → HasDestAt ts p tx → HasDestAt (set ts k u) p tx
  dest_stays p tx keeps h =
      elim (cases_eq p.task k) [
        | inl e ↦
            let is : h.tasklet ≡ t = some_is h.tasklet t (sym h.at ∙ (ap (λ (x : ℕ). slice_get ts x) e ∙ at)) in
            record { tasklet = u; at = ap (λ (x : ℕ). slice_get (set ts k u) x) e ∙ now_there; end = keeps e (subst (λ (v : AnyTasklet). HasEnd (outs v) p.output p.dest tx) is h.end) }
        | inr ne ↦ record { tasklet = h.tasklet; at = set_elsewhere ts k p.task u h.tasklet ne h.at; end = h.end }
      ]

  queue_stays : (p : QueueAt) (rx : RxView Item) → (p.task ≡ k → HasQueue (ins t) p.input p.queue rx → HasQueue (ins u) p.input p.queue rx) → HasQueueAt ts p rx → HasQueueAt (set ts k u) p rx
  queue_stays p rx keeps h =
      elim (cases_eq p.task k) [
        | inl e ↦
            let is : h.tasklet ≡ t = some_is h.tasklet t (sym h.at ∙ (ap (λ (x : ℕ). slice_get ts x) e ∙ at)) in
            record { tasklet = u; at = ap (λ (x : ℕ). slice_get (set ts k u) x) e ∙ now_there; end = keeps e (subst (λ (v : AnyTasklet). HasQueue (ins v) p.input p.queue rx) is h.end) }
        | inr ne ↦ record { tasklet = h.tasklet; at = set_elsewhere ts k p.task u h.tasklet ne h.at; end = h.end }
      ]

-- a destination met
pub giver_step : (ts : List AnyTasklet) (p : DestAt) (t u : AnyTasklet) → slice_get ts p.task ≡ Some t → AnyGiverMet t u p.output p.dest → Met ts (set ts p.task u) (p ∷ []) []
giver_step ts p t u at m =
    record {
      looked = placewise_set Looked looked_same ts p.task t u at (giver_looked t u p.output p.dest m);
      other_dests = λ q tx apart h. dest_stays ts p.task t u at q tx (λ e end. end_kept (outs t) (outs u) p.output p.dest q.output q.dest tx m.outputs (λ f. dest_other q p (other_than p q apart) e f) end) h;
      other_queues = λ q rx apart h. queue_stays ts p.task t u at q rx (λ e queue. subst (λ (is : List InputView). HasQueue is q.input q.queue rx) (sym m.inputs) queue) h;
    }

-- a queue met
pub taker_step : (ts : List AnyTasklet) (p : QueueAt) (t u : AnyTasklet) → slice_get ts p.task ≡ Some t → AnyTakerMet t u p.input p.queue → Met ts (set ts p.task u) [] (p ∷ [])
taker_step ts p t u at m =
    record {
      looked = placewise_set Looked looked_same ts p.task t u at (taker_looked t u p.input p.queue m);
      other_dests = λ q tx apart h. dest_stays ts p.task t u at q tx (λ e end. subst (λ (os : List OutputView). HasEnd os q.output q.dest tx) (sym m.outputs) end) h;
      other_queues = λ q rx apart h. queue_stays ts p.task t u at q rx (λ e queue. queue_kept (ins t) (ins u) p.input p.queue q.input q.queue rx m.inputs (λ f. queue_other q p (other_than p q apart) e f) queue) h;
    }

-- ---- meetings one after another
pub met_none : (ts : List AnyTasklet) → Met ts ts [] []
met_none ts = record { looked = placewise_same Looked looked_same ts; other_dests = λ p tx apart h. h; other_queues = λ p rx apart h. h }

pub met_trans : (ts us vs : List AnyTasklet) (ds es : List DestAt) (ps qs : List QueueAt) → Met ts us ds ps → Met us vs es qs → Met ts vs (ds ++ es) (ps ++ qs)
met_trans ts us vs ds es ps qs m n =
    record {
      looked = placewise_trans Looked looked_trans ts us vs m.looked n.looked;
      other_dests = λ p tx apart h. n.other_dests p tx (λ c. apart (Contains-append_right ds es p c)) (m.other_dests p tx (λ c. apart (Contains-append_left ds es p c)) h);
      other_queues = λ p rx apart h. n.other_queues p rx (λ c. apart (Contains-append_right ps qs p c)) (m.other_queues p rx (λ c. apart (Contains-append_left ps qs p c)) h);
    }

-- what has met before, and meets no more, has met still
pub still_met : (ts us : List AnyTasklet) (ds : List DestAt) (ps : List QueueAt) (j : Junction) → Met ts us ds ps → (Contains ds j.giver → ⊥) → (Contains ps j.taker → ⊥) → HasMet ts j → HasMet us j
still_met ts us ds ps j m givers takers h =
    record { tx = h.tx; rx = h.rx; giver = m.other_dests j.giver h.tx givers h.giver; taker = m.other_queues j.taker h.rx takers h.taker; met = h.met }

pub still_has_fed : (ts us : List AnyTasklet) (ds : List DestAt) (ps : List QueueAt) (tx : TxView Item) (p : QueueAt) → Met ts us ds ps → (Contains ps p → ⊥) → HasFed ts tx p → HasFed us tx p
still_has_fed ts us ds ps tx p m takers h = record { rx = h.rx; taker = m.other_queues p h.rx takers h.taker; met = h.met }

pub alone : {X : Type 0} (x y : X) → y ≢ x → Contains (x ∷ []) y → ⊥
alone x y apart c = apart (sym (one_only x y c))
