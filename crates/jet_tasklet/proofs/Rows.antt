-- Turns in a row, of one tasklet.
use Rattle.std.proofs.Common.{◌≡◌, ℕ, suc, ◌+◌, ◌<◌, ◌≤◌, List, [], ◌∷◌, ◌++◌, map, length, get_or, refl, sym, ◌∙◌, ap, inl, inr, arith, length-append, append_assoc, append-nil}
use Rattle.std.specs.Prelude.{sum_by}
use Rattle.std.specs.List.{AllZip}
use Rattle.std.proofs.lemmas.List.Sums.{sum_by-append}
use mathlib.Core.List.{IsPrefix}
use Rattle.jet_items.specs.declared.item.Item.{Item}
use Rattle.jet_ring.specs.Ring.{Ring, TxView}
use Rattle.jet_router.specs.Router as router
use Rattle.jet_boxes.specs.declared.port.Port.{Port}
use Rattle.jet_boxes.specs.Entry.{CallEntry}
use Rattle.jet_tasklet.specs.declared.arrival.Arrival.{Arrival}
use Rattle.jet_wire.specs.declared.progress.Progress.{Progress}
use Rattle.jet_wire.specs.declared.progress.Progress.TheVariants as progress
use Rattle.jet_tasklet.specs.declared.tasklet.Tasklet.{Tasklet}
use Rattle.jet_tasklet.specs.Inputs.{InputView, inputs_view, received_count}
use Rattle.jet_tasklet.specs.Outputs.{OutputView, outputs_view, sent_count}
use Rattle.jet_tasklet.specs.Turned.{InputGoes, OutputGoes, Turned}
use Rattle.jet_tasklet.specs.Turning.{Enters, Moves, IsStill}
use Rattle.jet_tasklet.specs.Turns.{Went, Rests, Said, joined, txs_of, SameEnds, move_count, Counts, Counted}
use Rattle.jet_tasklet.specs.Keeps.{Keeps, Stays, Goes, entered}
use Rattle.jet_tasklet.proofs.Fairness.{fair_trans}
use Rattle.jet_tasklet.proofs.Keeping.{goes_trans, stays_trans}
use Rattle.jet_tasklet.proofs.Lasting.{turned_trans}

sum_first : {X : Type 0} (f : X → ℕ) (x : X) (xs : List X) → sum_by f (x ∷ xs) ≡ f x + sum_by f xs
sum_first f x xs =
    let all : sum_by f (x ∷ xs) ≡ sum_by f (x ∷ []) + sum_by f xs = sum_by-append f (x ∷ []) xs in
    let one : sum_by f (x ∷ []) ≡ 0 + f x = refl in
    omega (arith, all, one)

-- ---- the ends of a router: what was sent grows, and where no more was sent all is as it was
abbrev sum_sent : List (TxView Item) → ℕ
sum_sent ts = sum_by (λ (t : TxView Item). length t.sent) ts

abbrev rings_in : List (TxView Item) → List Ring
rings_in ts = map (λ (t : TxView Item). t.ring) ts

abbrev sent_in : List (TxView Item) → List (List Item)
sent_in ts = map (λ (t : TxView Item). t.sent) ts

abbrev reach_in : List (TxView Item) → List ℕ
reach_in ts = map (λ (t : TxView Item). length t.sent + t.free) ts

prefix_length : (xs ys : List Item) → IsPrefix xs ys → length xs ≤ length ys
prefix_length xs ys p = let e = ap length p.1 in let l = length-append xs p.0 in omega (arith, e, l)

prefix_same : (xs ys : List Item) → IsPrefix xs ys → length ys ≤ length xs → ys ≡ xs
prefix_same xs ys p h = ends p.0 p.1
  where
    ends : (zs : List Item) → xs ++ zs ≡ ys → ys ≡ xs
    ends [] e = sym e ∙ append-nil xs
    ends (z ∷ zs) e = let k = ap length e in let l = length-append xs (z ∷ zs) in absurd (omega (arith, k, l, h))

sums_le : (ts us : List (TxView Item)) → rings_in us ≡ rings_in ts → ((k : ℕ) → IsPrefix (get_or (sent_in ts) k []) (get_or (sent_in us) k [])) → sum_sent ts ≤ sum_sent us
sums_le [] us e p = omega arith
sums_le (t ∷ ts) [] e p = absurd (cc)
sums_le (t ∷ ts) (u ∷ us) e p =
    let tail : rings_in us ≡ rings_in ts = cc in
    let rest = sums_le ts us tail (λ k. p (suc k)) in
    let first = prefix_length t.sent u.sent (p 0) in
    let a = sum_first (λ (x : TxView Item). length x.sent) t ts in
    let b = sum_first (λ (x : TxView Item). length x.sent) u us in
    omega (arith, rest, first, a, b)

abbrev as_view : Ring → List Item → ℕ → TxView Item
as_view r xs n = record { ring = r; sent = xs; free = n }

tx_is : (t u : TxView Item) → u.ring ≡ t.ring → u.sent ≡ t.sent → u.free ≡ t.free → u ≡ t
tx_is t u e f g =
    ap (λ (r : Ring). as_view r u.sent u.free) e ∙ (ap (λ (xs : List Item). as_view t.ring xs u.free) f ∙ ap (λ (n : ℕ). as_view t.ring t.sent n) g)

txs_same : (ts us : List (TxView Item)) → rings_in us ≡ rings_in ts → ((k : ℕ) → IsPrefix (get_or (sent_in ts) k []) (get_or (sent_in us) k [])) → reach_in us ≡ reach_in ts → sum_sent us ≤ sum_sent ts → us ≡ ts
txs_same [] [] e p r s = refl
txs_same [] (u ∷ us) e p r s = absurd (cc)
txs_same (t ∷ ts) [] e p r s = absurd (cc)
txs_same (t ∷ ts) (u ∷ us) e p r s =
    let tail : rings_in us ≡ rings_in ts = cc in
    let ring : u.ring ≡ t.ring = cc in
    let reach : length u.sent + u.free ≡ length t.sent + t.free = cc in
    let reaches : reach_in us ≡ reach_in ts = cc in
    let rest = sums_le ts us tail (λ k. p (suc k)) in
    let first = prefix_length t.sent u.sent (p 0) in
    let a = sum_first (λ (x : TxView Item). length x.sent) t ts in
    let b = sum_first (λ (x : TxView Item). length x.sent) u us in
    let sent : u.sent ≡ t.sent = prefix_same t.sent u.sent (p 0) (omega (arith, rest, first, a, b, s)) in
    let len = ap length sent in
    let here : u ≡ t = tx_is t u ring sent (omega (arith, reach, len)) in
    let there : us ≡ ts = txs_same ts us tail (λ k. p (suc k)) reaches (omega (arith, rest, first, a, b, s)) in
    ap (λ (x : TxView Item). x ∷ us) here ∙ ap (λ xs. t ∷ xs) there

outs_le : (os ps : List OutputView) → AllZip OutputGoes os ps → sent_count os ≤ sent_count ps
outs_le [] [] h = omega arith
outs_le [] (p ∷ ps) h = absurd h
outs_le (o ∷ os) [] h = absurd h
outs_le (o ∷ os) (p ∷ ps) h =
    let rest = outs_le os ps h.1 in
    let first = sums_le (router.txs o.router) (router.txs p.router) h.0.same.rings_kept h.0.sent in
    let a = sum_first (λ (x : OutputView). router.sent_count x.router) o os in
    let b = sum_first (λ (x : OutputView). router.sent_count x.router) p ps in
    omega (arith, rest, first, a, b)

pub outs_same : (os ps : List OutputView) → AllZip OutputGoes os ps → sent_count ps ≤ sent_count os → txs_of ps ≡ txs_of os
outs_same [] [] h s = refl
outs_same [] (p ∷ ps) h s = absurd h
outs_same (o ∷ os) [] h s = absurd h
outs_same (o ∷ os) (p ∷ ps) h s =
    let rest = outs_le os ps h.1 in
    let first = sums_le (router.txs o.router) (router.txs p.router) h.0.same.rings_kept h.0.sent in
    let a = sum_first (λ (x : OutputView). router.sent_count x.router) o os in
    let b = sum_first (λ (x : OutputView). router.sent_count x.router) p ps in
    let here : router.txs p.router ≡ router.txs o.router = txs_same (router.txs o.router) (router.txs p.router) h.0.same.rings_kept h.0.sent h.0.still_free (omega (arith, rest, first, a, b, s)) in
    let there : txs_of ps ≡ txs_of os = outs_same os ps h.1 (omega (arith, rest, first, a, b, s)) in
    ap (λ x. x ∷ txs_of ps) here ∙ ap (λ xs. router.txs o.router ∷ xs) there

-- ---- what was received grows
abbrev lengths : List (List Item) → ℕ
lengths xs = sum_by (λ (x : List Item). length x) xs

-- ---- moves of one tasklet
enters_on : (a b c : List Item) → Enters a b → Enters b c → Enters a c
enters_on a b c h k =
    record {
      put = h.put ++ k.put;
      some = let s = h.some in let l = length-append h.put k.put in omega (arith, s, l);
      is = k.is ∙ (ap (λ xs. xs ++ k.put) h.is ∙ append_assoc a h.put k.put);
    }

lists_le : (xs ys : List (List Item)) → ((k : ℕ) → IsPrefix (get_or xs k []) (get_or ys k [])) → lengths xs ≤ lengths ys
lists_le [] ys p = omega arith
lists_le (x ∷ xs) [] p =
    let rest = lists_le xs [] (λ k. p (suc k)) in
    let first = prefix_length x [] (p 0) in
    let a = sum_first (λ (y : List Item). length y) x xs in
    omega (arith, rest, first, a)
lists_le (x ∷ xs) (y ∷ ys) p =
    let rest = lists_le xs ys (λ k. p (suc k)) in
    let first = prefix_length x y (p 0) in
    let a = sum_first (λ (z : List Item). length z) x xs in
    let b = sum_first (λ (z : List Item). length z) y ys in
    omega (arith, rest, first, a, b)

ins_le : (vs ws : List InputView) → AllZip InputGoes vs ws → received_count vs ≤ received_count ws
ins_le [] [] h = omega arith
ins_le [] (w ∷ ws) h = absurd h
ins_le (v ∷ vs) [] h = absurd h
ins_le (v ∷ vs) (w ∷ ws) h =
    let rest = ins_le vs ws h.1 in
    let first = lists_le v.queues.received w.queues.received h.0.received in
    let a = sum_first (λ (x : InputView). lengths x.queues.received) v vs in
    let b = sum_first (λ (x : InputView). lengths x.queues.received) w ws in
    omega (arith, rest, first, a, b)

module _ {P : Type 0} (same : P → P → Type 0) where
  pub moved_moved : (a b c : Tasklet P) → Turned same a b → Turned same b c → Moves a b → Moves b c → Moves a c
  moved_moved a b c t u (inl s) m = let le = outs_le (outputs_view b.outputs.items) (outputs_view c.outputs.items) u.outputs in inl (omega (arith, s, le))
  moved_moved a b c t u (inr (inl r)) m = let le = ins_le (inputs_view b.inputs.items) (inputs_view c.inputs.items) u.inputs in inr (inl (omega (arith, r, le)))
  moved_moved a b c t u (inr (inr e)) (inl s) = let le = outs_le (outputs_view a.outputs.items) (outputs_view b.outputs.items) t.outputs in inl (omega (arith, s, le))
  moved_moved a b c t u (inr (inr e)) (inr (inl r)) = let le = ins_le (inputs_view a.inputs.items) (inputs_view b.inputs.items) t.inputs in inr (inl (omega (arith, r, le)))
  moved_moved a b c t u (inr (inr e)) (inr (inr f)) = inr (inr (enters_on a.outbox.items b.outbox.items c.outbox.items e f))

  pub moved_still : (a b c : Tasklet P) → Moves a b → IsStill b c → Moves a c
  moved_still a b c (inl s) k = let e = k.sent in inl (omega (arith, s, e))
  moved_still a b c (inr (inl r)) k = let e = ap received_count k.inputs in inr (inl (omega (arith, r, e)))
  moved_still a b c (inr (inr e)) k = inr (inr (record { put = e.put; some = e.some; is = k.outbox ∙ e.is }))

  pub still_moved : (a b c : Tasklet P) → IsStill a b → Moves b c → Moves a c
  still_moved a b c k (inl s) = let e = k.sent in inl (omega (arith, s, e))
  still_moved a b c k (inr (inl r)) = let e = ap received_count k.inputs in inr (inl (omega (arith, r, e)))
  still_moved a b c k (inr (inr e)) = inr (inr (record { put = e.put; some = e.some; is = e.is ∙ ap (λ xs. xs ++ e.put) k.outbox }))

  pub still_still : (a b c : Tasklet P) → IsStill a b → IsStill b c → IsStill a c
  still_still a b c k l = record { sent = l.sent ∙ k.sent; inputs = l.inputs ∙ k.inputs; outbox = l.outbox ∙ k.outbox }

  -- in turns in which nothing moved, what each end knows is what it knew at the meeting before
  pub exact : (a b : Tasklet P) → Turned same a b → IsStill a b → SameEnds (inputs_view a.inputs.items) (outputs_view a.outputs.items) a.outbox.items (inputs_view b.inputs.items) (outputs_view b.outputs.items) b.outbox.items
  exact a b t s = record { inputs_same = s.inputs; txs_same = outs_same (outputs_view a.outputs.items) (outputs_view b.outputs.items) t.outputs (let e = s.sent in omega (arith, e)); outbox_same = s.outbox }

-- ---- whatever the processor stands for
module _ {P : Type 0} (stands : P → List CallEntry → List Item → Type 0) (amid : P → List CallEntry → CallEntry → List Item → Type 0) (takes : P → Port → ℕ → Type 0) (same : P → P → Type 0) where
  -- turns in which nothing moved, one after the other
  rests_on : (a b c : Tasklet P) → Rests stands amid takes a b → Rests stands amid takes b c → Rests stands amid takes a c
  rests_on a b c f h = record { still = still_still same a b c f.still h.still; stays = stays_trans stands amid takes a b c f.stays h.stays }

  -- the answers of two turns, one after the other
  pub said_joined : (p q : Progress) (t u v : Tasklet P) → Went stands amid takes same t u → Went stands amid takes same u v → Said stands amid takes p t u → Said stands amid takes q u v → Said stands amid takes (joined p q) t v
  said_joined progress.Moved progress.Moved t u v g h a b = moved_moved same t u v g.turned h.turned a b
  said_joined progress.Moved progress.Idle t u v g h a b = moved_still same t u v a b.0.still
  said_joined progress.Moved progress.Done t u v g h a b = moved_still same t u v a b.0.still
  said_joined progress.Idle progress.Moved t u v g h a b = still_moved same t u v a.0.still b
  said_joined progress.Idle progress.Idle t u v g h a b = (rests_on t u v a.0 b.0, b.1)
  said_joined progress.Idle progress.Done t u v g h a b = (rests_on t u v a.0 b.0, b.1)
  said_joined progress.Done progress.Moved t u v g h a b = still_moved same t u v a.0.still b
  said_joined progress.Done progress.Idle t u v g h a b = (rests_on t u v a.0 b.0, b.1)
  said_joined progress.Done progress.Done t u v g h a b = (rests_on t u v a.0 b.0, b.1)

  -- ---- the count of moves
  abbrev count : Tasklet P → List Item → ℕ
  count t gave = move_count (inputs_view t.inputs.items) (outputs_view t.outputs.items) (entered gave t)

  rises : (a b : Tasklet P) (gave given : List Item) → Turned same a b → IsPrefix (entered gave a) (entered (gave ++ given) b) → Moves a b → count a gave < count b (gave ++ given)
  rises a b gave given t more m =
      let ins = ins_le (inputs_view a.inputs.items) (inputs_view b.inputs.items) t.inputs in
      let outs = outs_le (outputs_view a.outputs.items) (outputs_view b.outputs.items) t.outputs in
      let boxed = prefix_length (entered gave a) (entered (gave ++ given) b) more in
      elim m [
        | inl sent ↦ omega (arith, ins, boxed, sent)
        | inr (inl received) ↦ omega (arith, outs, boxed, received)
        | inr (inr enters) ↦ let put = entered_more a b gave given enters in omega (arith, ins, outs, put)
      ]
    where
      entered_more : (a b : Tasklet P) (gave given : List Item) → Enters a.outbox.items b.outbox.items → length (entered gave a) < length (entered (gave ++ given) b)
      entered_more a b gave given e =
          let some = e.some in
          let items = ap (λ (xs : List Item). length xs) e.is in
          let box = length-append a.outbox.items e.put in
          let before = length-append gave a.outbox.items in
          let after = length-append (gave ++ given) b.outbox.items in
          let all = length-append gave given in
          omega (arith, some, items, box, before, after, all)

  pub moved_counts : (a b : Tasklet P) (came : List Arrival) (gave : List Item) → Goes stands amid takes a b → Turned same a b → Moves a b → Keeps stands amid takes a came gave → Counted stands amid takes progress.Moved a b came gave
  moved_counts a b came gave w t m k =
      let r = w.goes came gave k in
      record { more = r.0; given = r.1; keeps = r.2; entered = r.3; counts = rises a b gave r.1 t r.3 m }

  pub went_trans : ((p q r : P) → same p q → same q r → same p r) → (t u v : Tasklet P) → Went stands amid takes same t u → Went stands amid takes same u v → Went stands amid takes same t v
  went_trans trans t u v h k = record { goes = goes_trans stands amid takes t u v h.goes k.goes; turned = turned_trans same trans t u v h.turned k.turned; fair = fair_trans t u v h.fair k.fair }

pub same_count : (says : Progress) → (says ≡ progress.Moved → ⊥) → (before after : ℕ) → after ≡ before → Counts says before after
same_count progress.Moved unmoved before after e = absurd (unmoved refl)
same_count progress.Idle unmoved before after e = e
same_count progress.Done unmoved before after e = e

module _ {P : Type 0} (stands : P → List CallEntry → List Item → Type 0) (amid : P → List CallEntry → CallEntry → List Item → Type 0) (takes : P → Port → ℕ → Type 0) where
  rests_enter : (a b : Tasklet P) (gave : List Item) → IsStill a b → entered (gave ++ []) b ≡ entered gave a
  rests_enter a b gave s = ap (λ (xs : List Item). xs ++ b.outbox.items) (append-nil gave) ∙ ap (λ (xs : List Item). gave ++ xs) s.outbox

  rests_count : (a b : Tasklet P) (gave : List Item) → IsStill a b → move_count (inputs_view b.inputs.items) (outputs_view b.outputs.items) (entered (gave ++ []) b) ≡ move_count (inputs_view a.inputs.items) (outputs_view a.outputs.items) (entered gave a)
  rests_count a b gave s =
      let inputs = ap received_count s.inputs in
      let outputs = s.sent in
      let boxed = ap (λ (xs : List Item). length xs) (rests_enter a b gave s) in
      omega (arith, inputs, outputs, boxed)

  pub rests_counts : (says : Progress) → (says ≡ progress.Moved → ⊥) → (a b : Tasklet P) (came : List Arrival) (gave : List Item) → IsStill a b → Stays stands amid takes a b → Keeps stands amid takes a came gave → Counted stands amid takes says a b came gave
  rests_counts says unmoved a b came gave s h k = record {
    more = [];
    given = [];
    keeps = rw (append-nil, append-nil) (h.stays came gave k);
    entered = ([], append-nil (entered gave a) ∙ sym (rests_enter a b gave s));
    counts = same_count says unmoved _ _ (rests_count a b gave s);
  }

  pub counts_moves : (same : P → P → Type 0) (says : Progress) (a b : Tasklet P) (came : List Arrival) (gave : List Item) → Went stands amid takes same a b → Said stands amid takes says a b → Keeps stands amid takes a came gave → Counted stands amid takes says a b came gave
  counts_moves same progress.Moved a b came gave w s k = moved_counts stands amid takes same a b came gave w.goes w.turned s k
  counts_moves same progress.Idle a b came gave w s k = rests_counts progress.Idle (λ e. absurd (cc)) a b came gave s.0.still s.0.stays k
  counts_moves same progress.Done a b came gave w s k = rests_counts progress.Done (λ e. absurd (cc)) a b came gave s.0.still s.0.stays k
