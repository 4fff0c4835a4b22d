-- Done stands last in what each destination was sent, and only where it was put.
use Rattle.std.proofs.Common.{◌≡◌, ℕ, ◌<◌, ◌||◌, Bool, true, false, cond, List, [], ◌∷◌, ◌++◌, length, get_or, refl, sym, ◌∙◌, ap, subst, append-nil, append_assoc, inl, inr}
use Rattle.std.specs.Prelude.{◌⊎◌, Option}
use Rattle.std.specs.List.{AllByRecursion}
use Rattle.std.proofs.lemmas.List.Elements.{All-nil, All-cons}
use Rattle.std.proofs.lemmas.List.Folds.{list_any-append}
use Rattle.jet_items.specs.declared.item.Item.{Item}
use Rattle.jet_items.specs.declared.item.Item.TheVariants as item
use Rattle.jet_items.specs.Done.{is_done}
use Rattle.jet_items.specs.Order.{Each, EachPair}
use Rattle.jet_items.proofs.Orders.{Each-front, Each-more, EachPair-append, EachPair-front}
use Rattle.jet_boxes.specs.declared.port.Port.{Port}
use Rattle.jet_boxes.specs.declared.port.Port.TheVariants.{Stream}
use Rattle.jet_boxes.specs.Entry.{CallEntry, items_of, NotDone}
use Rattle.jet_conveyor.specs.Conveyor.{EndsIn}
use Rattle.jet_router.specs.Router as router
use Rattle.jet_router.specs.Deals.{Deal, FitsAim, reaches_dest, sent_by, items_dealt}
use Rattle.jet_tasklet.specs.declared.arrival.Arrival.{Arrival}
use Rattle.jet_tasklet.specs.declared.step.Step.{Step}
use Rattle.jet_tasklet.specs.declared.step.Step.TheVariants as step
use Rattle.jet_tasklet.specs.declared.tasklet.Tasklet.{Tasklet}
use Rattle.jet_tasklet.specs.DoneLast.{DoneLast}
use Rattle.jet_tasklet.specs.Inputs.{InputView, inputs_view, queue_count, all_done}
use Rattle.jet_tasklet.specs.Outputs.{OutputView, outputs_view, Gave, Giving}
use Rattle.jet_tasklet.specs.Keeps.{Keeps, IsOver, told}
use Rattle.jet_tasklet.specs.Sending.{EachSent, EachFront}
use Rattle.jet_tasklet.specs.Steps.{Working, entry_of, then_of}
use Rattle.jet_tasklet.specs.Trace.{has_ended}
use Rattle.jet_tasklet.specs.Turning.{HasEnded}
use Rattle.jet_tasklet.proofs.GenericLaws.{Passing, each_part, pair_part, free_sent, sends}
use Rattle.jet_tasklet.proofs.Sending.{told_open}

not_done : (x : Item) → NotDone x → is_done x ≡ false
not_done (item.Event e) h = refl
not_done (item.Side s) h = refl
not_done (item.Frame f) h = refl
not_done (item.Row r) h = refl
not_done (item.Late l) h = refl
not_done item.Idle h = refl
not_done (item.Mark m) h = refl
not_done item.Done h = absurd h

-- ---- what the processor gave
-- Done was put behind all else at the end, and not before
abbrev PutsDone : Step → List Item → Type 0
PutsDone step.Poll given = Each NotDone given
PutsDone (step.Make c) given = Each NotDone given
PutsDone step.End given = Each NotDone given
PutsDone step.Ended given = (front : List Item) × (given ≡ front ++ item.Done ∷ []) × Each NotDone front

puts_done : {P : Type 0} (stands : P → List CallEntry → List Item → Type 0) (amid : P → List CallEntry → CallEntry → List Item → Type 0) (takes : P → Port → ℕ → Type 0) (p : P)
    → ((taken : List CallEntry) (given : List Item) → stands p taken given → Each NotDone (items_of taken) → Each NotDone given)
    → ((taken : List CallEntry) (entry : CallEntry) (given : List Item) → amid p taken entry given → Each NotDone (items_of (taken ++ entry ∷ [])) → Each NotDone given)
    → (s : Step) (es : List CallEntry) (given : List Item) → Working stands amid takes p s es given → EachFront (λ taken. Each NotDone (items_of taken)) es → PutsDone s given
puts_done stands amid takes p law law_amid step.Poll es given w c = law es given w (c es [] (sym (append-nil es)))
puts_done stands amid takes p law law_amid (step.Make m) es given w c = law_amid w.0 (entry_of m) given w.2 (c (w.0 ++ entry_of m ∷ []) (then_of m) (w.1 ∙ sym (append_assoc w.0 (entry_of m ∷ []) (then_of m))))
puts_done stands amid takes p law law_amid step.End es given w c = law es given w (c es [] (sym (append-nil es)))
puts_done stands amid takes p law law_amid step.Ended es given w c = (w.0, w.1, law es w.0 w.2 (c es [] (sym (append-nil es))))

-- ---- nothing stands behind Done
abbrev StandsBefore : Item → Item → Type 0
StandsBefore x y = is_done x ≡ false

any_each : (P : Type 0) (ys : List Item) → P → Each (λ y. P) ys
any_each P [] h = tt
any_each P (y ∷ ys) h = (h, any_each P ys h)

open_pairs : (xs : List Item) → Each NotDone xs → EachPair StandsBefore xs
open_pairs [] h = tt
open_pairs (x ∷ xs) h = (any_each (is_done x ≡ false) xs (not_done x h.0), open_pairs xs h.1)

last_pairs : (s : Step) (given : List Item) → PutsDone s given → EachPair StandsBefore given
last_pairs step.Poll given h = open_pairs given h
last_pairs (step.Make c) given h = open_pairs given h
last_pairs step.End given h = open_pairs given h
last_pairs step.Ended given h =
    subst (EachPair StandsBefore) (sym h.1)
    (EachPair-append StandsBefore h.0 (item.Done ∷ []) (open_pairs h.0 h.2) (tt, tt) (Each-more NotDone (λ (x : Item). Each (StandsBefore x) (item.Done ∷ [])) (λ x n. (not_done x n, tt)) h.0 h.2))

ends_cons : (b : Bool) (x : Item) (xs : List Item) → is_done x ≡ false → EndsIn b xs → EndsIn b (x ∷ xs)
ends_cons false x xs e h = All-cons (λ (y : Item). is_done y ≡ false) x xs e h
ends_cons true x xs e h = (x ∷ h.0, h.1, ap (λ (ys : List Item). x ∷ ys) h.2, h.3, All-cons (λ (y : Item). is_done y ≡ false) x h.0 e h.4)

ends_one : (x : Item) (b : Bool) → is_done x ≡ b → EndsIn (b || false) (x ∷ [])
ends_one x true e = ([], x, refl, e, All-nil (λ (y : Item). is_done y ≡ false))
ends_one x false e = All-cons (λ (y : Item). is_done y ≡ false) x [] e (All-nil (λ (y : Item). is_done y ≡ false))

ends_in : (xs : List Item) → EachPair StandsBefore xs → EndsIn (has_ended xs) xs
ends_in [] h = All-nil (λ (y : Item). is_done y ≡ false)
ends_in (x ∷ []) h = ends_one x (is_done x) refl
ends_in (x ∷ y ∷ ys) h =
    subst (λ (b : Bool). EndsIn (b || has_ended (y ∷ ys)) (x ∷ y ∷ ys)) (sym h.0.0) (ends_cons (has_ended (y ∷ ys)) x (y ∷ ys) h.0.0 (ends_in (y ∷ ys) h.1))

-- ---- Done is there only where it was put
abbrev PutOr : Type 0 → List Item → Type 0
PutOr put xs = put ⊎ Each NotDone xs

put_or : (s : Step) (given : List Item) → PutsDone s given → PutOr (s ≡ step.Ended) given
put_or step.Poll given h = inr h
put_or (step.Make c) given h = inr h
put_or step.End given h = inr h
put_or step.Ended given h = inl refl

none_ended : (xs : List Item) → Each NotDone xs → has_ended xs ≡ false
none_ended [] h = refl
none_ended (x ∷ xs) h = ap (λ (b : Bool). b || has_ended xs) (not_done x h.0) ∙ none_ended xs h.1

was_put : (put : Type 0) (xs : List Item) → PutOr put xs → has_ended xs ≡ true → put
was_put put xs h e = elim h [ inl p ↦ p | inr n ↦ absurd (let f : has_ended xs ≡ false = none_ended xs n in cc) ]

abbrev LastOrNone : Type 0 → List Item → Type 0
LastOrNone put xs = EachPair StandsBefore xs × PutOr put xs

put_part : (put : Type 0) (k : ℕ) (deals : List Deal) → PutOr put (items_dealt deals) → PutOr put (sent_by k deals)
put_part put k deals h = elim h [ inl p ↦ inl p | inr n ↦ inr (each_part NotDone k deals n) ]

put_front : (put : Type 0) (xs ys : List Item) → PutOr put (xs ++ ys) → PutOr put xs
put_front put xs ys h = elim h [ inl p ↦ inl p | inr n ↦ inr (Each-front NotDone xs ys n) ]

last_passing : (put : Type 0) → Passing (LastOrNone put)
last_passing put = record {
  part = λ k deals h. (pair_part StandsBefore k deals h.0, put_part put k deals h.1);
  front = λ xs ys h. (EachPair-front StandsBefore xs ys h.0, put_front put xs ys h.1);
}

-- ---- Done goes to each destination
or_true : (b : Bool) → (b || true) ≡ true
or_true true = refl
or_true false = refl

or_left : (a b c : Bool) → (a || b) ≡ true → (b ≡ true → c ≡ true) → (a || c) ≡ true
or_left true b c h k = refl
or_left false b c h k = k h

skip : (b : Bool) (x : Item) (xs : List Item) → has_ended xs ≡ true → has_ended (cond b (x ∷ []) [] ++ xs) ≡ true
skip true x xs h = ap (λ (c : Bool). is_done x || c) h ∙ or_true (is_done x)
skip false x xs h = h

module _ (v : router.View) (n k : ℕ) where
  one_sent : (x : Item) (to : Option ℕ) (xs : List Item) → FitsAim n (router.aim v x) to → (has_ended xs ≡ true) ⊎ (is_done x ≡ true) → has_ended (cond (reaches_dest k to) (x ∷ []) [] ++ xs) ≡ true
  one_sent (item.Event e) to xs f h = elim h [ inl r ↦ skip (reaches_dest k to) (item.Event e) xs r | inr d ↦ absurd (cc) ]
  one_sent (item.Side s) to xs f h = elim h [ inl r ↦ skip (reaches_dest k to) (item.Side s) xs r | inr d ↦ absurd (cc) ]
  one_sent (item.Frame g) to xs f h = elim h [ inl r ↦ skip (reaches_dest k to) (item.Frame g) xs r | inr d ↦ absurd (cc) ]
  one_sent (item.Row r) to xs f h = elim h [ inl r' ↦ skip (reaches_dest k to) (item.Row r) xs r' | inr d ↦ absurd (cc) ]
  one_sent (item.Late l) to xs f h = elim h [ inl r ↦ skip (reaches_dest k to) (item.Late l) xs r | inr d ↦ absurd (cc) ]
  one_sent item.Idle to xs f h = elim h [ inl r ↦ skip (reaches_dest k to) item.Idle xs r | inr d ↦ absurd (cc) ]
  one_sent (item.Mark m) to xs f h = elim h [ inl r ↦ skip (reaches_dest k to) (item.Mark m) xs r | inr d ↦ absurd (cc) ]
  one_sent item.Done to xs f h = subst (λ (o : Option ℕ). has_ended (cond (reaches_dest k o) (item.Done ∷ []) [] ++ xs) ≡ true) (sym f) refl

  either : (a b : Bool) → (a || b) ≡ true → (b ≡ true) ⊎ (a ≡ true)
  either true b h = inr refl
  either false b h = inl h

  done_sent : (deals : List Deal) → AllByRecursion (λ (d : Deal). FitsAim n (router.aim v d.item) d.to) deals → has_ended (items_dealt deals) ≡ true → has_ended (sent_by k deals) ≡ true
  done_sent [] f h = h
  done_sent (d ∷ deals) f h =
      one_sent d.item d.to (sent_by k deals) f.0 (elim (either (is_done d.item) (has_ended (items_dealt deals)) h) [ inl r ↦ inl (done_sent deals f.1 r) | inr e ↦ inr e ])

gave_done : (gave : List Item) (o : OutputView) → Gave gave o → has_ended gave ≡ true → (k : ℕ) → k < length o.router.dests → has_ended (get_or (router.sents o.router) k []) ≡ true
gave_done gave o g e k lt =
    let whole : has_ended (items_dealt g.deals) ≡ true = ap has_ended g.items ∙ e in
    ap has_ended (free_sent o.router g.deals g.dealt g.free k lt) ∙ done_sent o.router (length o.router.dests) k g.deals (let d = g.dealt in d.by_route) whole

ended_last : (front : List Item) → has_ended (front ++ item.Done ∷ []) ≡ true
ended_last front = list_any-append is_done front (item.Done ∷ []) ∙ or_true (has_ended front)

ended_given : (s : Step) (given : List Item) → s ≡ step.Ended → PutsDone s given → has_ended given ≡ true
ended_given s given is h =
    let w : PutsDone step.Ended given = subst (λ (u : Step). PutsDone u given) is h in
    ap has_ended w.1 ∙ ended_last w.0

-- ---- all of it
module _ (put ended : Type 0) (vs : List InputView) (over : put → (port : Port) → all_done port vs ≡ true) where
  each_list : (os : List OutputView) → EachSent (LastOrNone put) os → (ended → EachSent (λ xs. has_ended xs ≡ true) os) → EachSent (DoneLast put ended vs) os
  each_list [] h g = tt
  each_list (o ∷ os) h g = (
    λ k lt.
        let xs : List Item = get_or (router.sents o.router) k [] in
        let l : LastOrNone put xs = h.0 k lt in
        record { last = ends_in xs l.0; put = was_put put xs l.1; over = λ e. over (was_put put xs l.1 e); given = λ e. (g e).0 k lt },
    each_list os h.1 (λ e. (g e).1),
  )

pub done_last : {P : Type 0} (stands : P → List CallEntry → List Item → Type 0) (amid : P → List CallEntry → CallEntry → List Item → Type 0) (takes : P → Port → ℕ → Type 0) (t : Tasklet P) (came : List Arrival) (gave : List Item)
    → ((taken : List CallEntry) (given : List Item) → stands t.processor taken given → Each NotDone (items_of taken) → Each NotDone given)
    → ((taken : List CallEntry) (entry : CallEntry) (given : List Item) → amid t.processor taken entry given → Each NotDone (items_of (taken ++ entry ∷ [])) → Each NotDone given)
    → Keeps stands amid takes t came gave → EachSent (DoneLast (t.step ≡ step.Ended) (HasEnded t) (inputs_view t.inputs.items)) (outputs_view t.outputs.items)
done_last {P} stands amid takes t came gave law law_amid k =
    let n : ℕ = queue_count Stream (inputs_view t.inputs.items) in
    let os : List OutputView = outputs_view t.outputs.items in
    let puts : PutsDone t.step (gave ++ t.outbox.items) = puts_done stands amid takes t.processor law law_amid t.step (told t.step n came) (gave ++ t.outbox.items) k.works (told_open t.step n came) in
    each_list (t.step ≡ step.Ended) (HasEnded t) (inputs_view t.inputs.items) (λ e. subst (λ (s : Step). IsOver s (inputs_view t.inputs.items)) e k.over) os
    (sends (LastOrNone (t.step ≡ step.Ended)) (last_passing (t.step ≡ step.Ended)) gave t.outbox.items os k.gives_out (last_pairs t.step (gave ++ t.outbox.items) puts, put_or t.step (gave ++ t.outbox.items) puts))
    (λ e.
    let none : gave ++ t.outbox.items ≡ gave = ap (λ (xs : List Item). gave ++ xs) e.1 ∙ append-nil gave in
    let has : has_ended gave ≡ true = ap has_ended (sym none) ∙ ended_given t.step (gave ++ t.outbox.items) e.0 puts in
    Each-more (Gave gave) (λ (o : OutputView). (k : ℕ) → k < length o.router.dests → has_ended (get_or (router.sents o.router) k []) ≡ true) (λ o g. gave_done gave o g has) os
    (subst (λ (xs : List Item). Giving gave xs os) e.1 k.gives_out))
