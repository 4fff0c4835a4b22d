-- Laws of a tasklet that are generic in a property of lists, which no clause of a contract can be: where the property
-- follows of what the processor gave, it holds of all that entered the outbox, and of what each destination was sent.
-- They stand here to be cited wherever such a property is needed, above this crate too.
use Rattle.std.proofs.Common.{◌≡◌, ℕ, zero, suc, ◌<◌, Bool, true, false, cond, List, [], ◌∷◌, ◌++◌, map, length, get_or, refl, sym, ◌∙◌, ap, subst, append-nil, append_assoc, inl, inr, arith}
use Rattle.std.specs.Prelude.{◌⊎◌, None}
use Rattle.std.proofs.lemmas.List.{map-append}
use Rattle.std.proofs.lemmas.List.Concat.{flat_map-append}
use Rattle.jet_items.specs.declared.item.Item.{Item}
use Rattle.jet_items.specs.declared.item.Item.TheVariants as item
use Rattle.jet_items.specs.Order.{Each, EachPair}
use Rattle.jet_items.proofs.Orders.{Each-more, Each-front, EachPair-front}
use Rattle.jet_boxes.specs.declared.port.Port.{Port}
use Rattle.jet_boxes.specs.declared.port.Port.TheVariants.{Stream}
use Rattle.jet_boxes.specs.Entry.{CallEntry}
use Rattle.jet_router.specs.Dest.{DestView, settled_by}
use Rattle.jet_router.specs.Router as router
use Rattle.jet_router.specs.Deals.{Deal, Dealt, reaches_dest, sent_by, items_dealt}
use Rattle.jet_tasklet.specs.declared.arrival.Arrival.{Arrival}
use Rattle.jet_tasklet.specs.declared.step.Step.{Step}
use Rattle.jet_tasklet.specs.declared.step.Step.TheVariants as step
use Rattle.jet_tasklet.specs.declared.tasklet.Tasklet.{Tasklet}
use Rattle.jet_tasklet.specs.Inputs.{inputs_view, queue_count}
use Rattle.jet_tasklet.specs.Outputs.{OutputView, outputs_view, InGift, Gave, Giving}
use Rattle.jet_tasklet.specs.Steps.{Working, entry_of, then_of}
use Rattle.jet_tasklet.specs.Keeps.{Keeps, told}
use Rattle.jet_tasklet.specs.Sending.{EachSent, EachFront}

-- ---- what is settled, and what was sent
settled_at : (ds : List DestView) (k : ℕ) → k < length ds → get_or (map (λ d. settled_by d.had d.tx.sent) ds) k [] ≡ settled_by (get_or (map (λ d. d.had) ds) k false) (get_or (map (λ t. t.sent) (map (λ d. d.tx) ds)) k [])
settled_at [] k lt = absurd (omega (arith, lt))
settled_at (d ∷ ds) zero lt = refl
settled_at (d ∷ ds) (suc k) lt = settled_at ds k (omega (arith, lt))

hand_or : (had : Bool) (sent : List Item) (x : Item) → (had ≡ true → sent ≡ settled_by true sent ++ x ∷ []) → (sent ≡ settled_by had sent) ⊎ (sent ≡ settled_by had sent ++ x ∷ [])
hand_or true sent x h = inr (h refl)
hand_or false sent x h = inl refl

pub bool_cases : (b : Bool) → (b ≡ true) ⊎ (b ≡ false)
bool_cases true = inl refl
bool_cases false = inr refl

pub free_sent : (v : router.View) (deals : List Deal) → Dealt v deals → v.busy ≡ false → (k : ℕ) → k < length v.dests → get_or (router.sents v) k [] ≡ sent_by k deals
free_sent v deals d free k lt = ap (λ (xs : List (List Item)). get_or xs k []) (sym (ap (λ (b : Bool). router.settled_if b v.dests) free)) ∙ d.sent_is k lt

-- a destination has what was settled, or the item in hand too
sent_or : (v : router.View) (deals : List Deal) (x : Item) → Dealt v deals → (v.busy ≡ true → router.IsInHand v x) → (k : ℕ) → k < length v.dests → (get_or (router.sents v) k [] ≡ sent_by k deals) ⊎ ((v.busy ≡ true) × (get_or (router.sents v) k [] ≡ sent_by k deals ++ x ∷ []))
sent_or v deals x d hand k lt =
    elim (bool_cases v.busy) [
      | inl b ↦
          let settles : settled_by (get_or (router.hads v) k false) (get_or (router.sents v) k []) ≡ sent_by k deals =
          sym (settled_at v.dests k lt) ∙ (ap (λ (xs : List (List Item)). get_or xs k []) (sym (ap (λ (u : Bool). router.settled_if u v.dests) b)) ∙ d.sent_is k lt) in
          elim (hand_or (get_or (router.hads v) k false) (get_or (router.sents v) k []) x ((hand b).1 k)) [
            | inl e ↦ inl (e ∙ settles)
            | inr e ↦ inr (b, e ∙ ap (λ (xs : List Item). xs ++ x ∷ []) settles)
          ]
      | inr b ↦ inl (free_sent v deals d b k lt)
    ]

-- what holds of a list holds of its fronts, and of the part that a destination was sent
pub record Passing (Q : List Item → Type 0) : Type 0 where
  pub part : (k : ℕ) (deals : List Deal) → Q (items_dealt deals) → Q (sent_by k deals)
  pub front : (xs ys : List Item) → Q (xs ++ ys) → Q xs

hand_sent : (k : ℕ) (deals : List Deal) (x : Item) → sent_by k (deals ++ record { item = x; to = None } ∷ []) ≡ sent_by k deals ++ x ∷ []
hand_sent k deals x = flat_map-append (λ (d : Deal). cond (reaches_dest k d.to) (d.item ∷ []) []) deals (record { item = x; to = None } ∷ [])

had_items : (b : Bool) (gave : List Item) (x : Item) (Q : List Item → Type 0) → ((xs ys : List Item) → Q (xs ++ ys) → Q xs) → Q (gave ++ x ∷ []) → Q (cond b (gave ++ x ∷ []) gave)
had_items true gave x Q front q = q
had_items false gave x Q front q = front gave (x ∷ []) q

gift_sent : (Q : List Item → Type 0) → Passing Q → (gave : List Item) (x : Item) (o : OutputView) → InGift gave x o → Q (gave ++ x ∷ []) → (k : ℕ) → k < length o.router.dests → Q (get_or (router.sents o.router) k [])
gift_sent Q p gave x o g q k lt =
    elim (sent_or o.router g.deals x g.dealt g.hand k lt) [
      | inl e ↦ subst Q (sym e) (p.part k g.deals (subst Q (sym g.items) (had_items o.had gave x Q p.front q)))
      | inr e ↦
          let not_had : o.had ≡ false = elim (bool_cases o.had) [ inl h ↦ absurd (let f : o.router.busy ≡ false = g.whole h in let b : o.router.busy ≡ true = e.0 in cc) | inr h ↦ h ] in
          let items : items_dealt (g.deals ++ record { item = x; to = None } ∷ []) ≡ gave ++ x ∷ [] = map-append (λ (d : Deal). d.item) g.deals (record { item = x; to = None } ∷ []) ∙ ap (λ (xs : List Item). xs ++ x ∷ []) (g.items ∙ ap (λ (b : Bool). cond b (gave ++ x ∷ []) gave) not_had) in
          subst Q (sym (e.1 ∙ sym (hand_sent k g.deals x))) (p.part k (g.deals ++ record { item = x; to = None } ∷ []) (subst Q (sym items) q))
    ]

gave_sent : (Q : List Item → Type 0) → Passing Q → (gave : List Item) (o : OutputView) → Gave gave o → Q gave → (k : ℕ) → k < length o.router.dests → Q (get_or (router.sents o.router) k [])
gave_sent Q p gave o g q k lt = subst Q (sym (free_sent o.router g.deals g.dealt g.free k lt)) (p.part k g.deals (subst Q (sym g.items) q))

-- what holds of all that the processor gave holds of what each destination was sent
pub sends : (Q : List Item → Type 0) → Passing Q → (gave items : List Item) (os : List OutputView) → Giving gave items os → Q (gave ++ items) → EachSent Q os
sends Q p gave [] os g q = Each-more (Gave gave) (λ (o : OutputView). (k : ℕ) → k < length o.router.dests → Q (get_or (router.sents o.router) k [])) (λ o h. gave_sent Q p gave o h (p.front gave [] q)) os g
sends Q p gave (x ∷ xs) os g q =
    let first : Q (gave ++ x ∷ []) = p.front (gave ++ x ∷ []) xs (subst Q (sym (append_assoc gave (x ∷ []) xs)) q) in
    Each-more (InGift gave x) (λ (o : OutputView). (k : ℕ) → k < length o.router.dests → Q (get_or (router.sents o.router) k [])) (λ o h. gift_sent Q p gave x o h first) os g

-- ---- what the processor gave
pub working_law : {P : Type 0} (stands : P → List CallEntry → List Item → Type 0) (amid : P → List CallEntry → CallEntry → List Item → Type 0) (takes : P → Port → ℕ → Type 0) (C : List CallEntry → Type 0) (Q : List Item → Type 0) (p : P) → ((taken : List CallEntry) (given : List Item) → stands p taken given → C taken → Q given) → ((taken : List CallEntry) (e : CallEntry) (given : List Item) → amid p taken e given → C (taken ++ e ∷ []) → Q given) → ((taken : List CallEntry) (given : List Item) → stands p taken given → C taken → Q given → Q (given ++ item.Done ∷ [])) → (s : Step) (es : List CallEntry) (given : List Item) → Working stands amid takes p s es given → EachFront C es → Q given
working_law stands amid takes C Q p law law_amid ends step.Poll es given w c = law es given w (c es [] (sym (append-nil es)))
working_law stands amid takes C Q p law law_amid ends (step.Make m) es given w c = law_amid w.0 (entry_of m) given w.2 (c (w.0 ++ entry_of m ∷ []) (then_of m) (w.1 ∙ sym (append_assoc w.0 (entry_of m ∷ []) (then_of m))))
working_law stands amid takes C Q p law law_amid ends step.End es given w c = law es given w (c es [] (sym (append-nil es)))
working_law stands amid takes C Q p law law_amid ends step.Ended es given w c = subst Q (sym w.1) (ends es w.0 w.2 (c es [] (sym (append-nil es))) (law es w.0 w.2 (c es [] (sym (append-nil es)))))

-- what holds of each item passes
each_if : (P : Item → Type 0) (b : Bool) (x : Item) (xs : List Item) → P x → Each P xs → Each P (cond b (x ∷ []) [] ++ xs)
each_if P true x xs h k = (h, k)
each_if P false x xs h k = k

pub each_part : (P : Item → Type 0) (k : ℕ) (deals : List Deal) → Each P (items_dealt deals) → Each P (sent_by k deals)
each_part P k [] h = tt
each_part P k (d ∷ deals) h = each_if P (reaches_dest k d.to) d.item (sent_by k deals) h.0 (each_part P k deals h.1)

pub each_passing : (P : Item → Type 0) → Passing (Each P)
each_passing P = record { part = λ k deals h. each_part P k deals h; front = λ xs ys h. Each-front P xs ys h }

-- and so does what holds of each item and each later one
pair_if : (R : Item → Item → Type 0) (b : Bool) (x : Item) (xs : List Item) → Each (R x) xs → EachPair R xs → EachPair R (cond b (x ∷ []) [] ++ xs)
pair_if R true x xs h k = (h, k)
pair_if R false x xs h k = k

pub pair_part : (R : Item → Item → Type 0) (k : ℕ) (deals : List Deal) → EachPair R (items_dealt deals) → EachPair R (sent_by k deals)
pair_part R k [] h = tt
pair_part R k (d ∷ deals) h = pair_if R (reaches_dest k d.to) d.item (sent_by k deals) (each_part (R d.item) k deals h.0) (pair_part R k deals h.1)

pub pair_passing : (R : Item → Item → Type 0) → Passing (EachPair R)
pair_passing R = record { part = λ k deals h. pair_part R k deals h; front = λ xs ys h. EachPair-front R xs ys h }

-- ---- a tasklet
module _ {P : Type 0} (stands : P → List CallEntry → List Item → Type 0) (amid : P → List CallEntry → CallEntry → List Item → Type 0) (takes : P → Port → ℕ → Type 0) (t : Tasklet P) (came : List Arrival) (gave : List Item) (k : Keeps stands amid takes t came gave) where
  abbrev now_told : List CallEntry
  now_told = told t.step (queue_count Stream (inputs_view t.inputs.items)) came

  -- what holds of what the processor gave, whatever it took of what it is told, and with Done behind it, holds of all that ever entered the outbox
  pub all_entered : (Q : List Item → Type 0)
      → ((taken more : List CallEntry) (given : List Item) → stands t.processor taken given → now_told ≡ taken ++ more → Q given)
      → ((taken : List CallEntry) (e : CallEntry) (more : List CallEntry) (given : List Item) → amid t.processor taken e given → now_told ≡ (taken ++ e ∷ []) ++ more → Q given)
      → ((taken more : List CallEntry) (given : List Item) → stands t.processor taken given → now_told ≡ taken ++ more → Q given → Q (given ++ item.Done ∷ []))
      → Q (gave ++ t.outbox.items)
  all_entered Q law law_amid done =
      working_law stands amid takes (λ taken. (more : List CallEntry) × (now_told ≡ taken ++ more)) Q t.processor
      (λ taken given s front. law taken front.0 given s front.1)
      (λ taken e given a front. law_amid taken e front.0 given a front.1)
      (λ taken given s front q. done taken front.0 given s front.1 q)
      t.step now_told (gave ++ t.outbox.items) k.works (λ taken more is. (more, is))

  -- and of what each destination was sent
  pub all_sent : (Q : List Item → Type 0) → Passing Q → Q (gave ++ t.outbox.items) → EachSent Q (outputs_view t.outputs.items)
  all_sent Q passing q = sends Q passing gave t.outbox.items (outputs_view t.outputs.items) k.gives_out q
