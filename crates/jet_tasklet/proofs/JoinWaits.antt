-- A join gives nothing while it takes its side rows.
use Rattle.std.proofs.Common.{◌≡◌, ℕ, zero, suc, ◌<◌, Bool, true, false, cond, List, [], ◌∷◌, ◌++◌, take, length, get_or, refl, sym, ◌∙◌, ap, subst, append-nil}
use Rattle.jet_items.specs.declared.item.Item.{Item}
use Rattle.jet_items.specs.declared.item.Item.TheVariants as item
use Rattle.jet_items.specs.Joins.{Joining}
use Rattle.jet_items.specs.Kinds.{sides_of}
use Rattle.jet_items.specs.Order.{Each}
use Rattle.jet_items.specs.Values.{SideValue}
use Rattle.jet_items.proofs.Orders.{Each-append, Each-front, Each-back, Each-more}
use Rattle.jet_boxes.specs.declared.port.Port.{Port}
use Rattle.jet_boxes.specs.declared.port.Port.TheVariants.{Stream, Build}
use Rattle.jet_boxes.specs.Entry.{CallEntry, Given, MarkTold, QueueClosed, Finish}
use Rattle.jet_boxes.specs.Ports.{build_items, build_rows}
use Rattle.jet_join.specs.declared.join.JoinP.{JoinP}
use Rattle.jet_join.specs.Stands.{gives, all_given}
use Rattle.jet_router.specs.Router as router
use Rattle.jet_tasklet.specs.declared.arrival.Arrival.{Arrival}
use Rattle.jet_tasklet.specs.declared.step.Step.{Step}
use Rattle.jet_tasklet.specs.declared.step.Step.TheVariants as step
use Rattle.jet_tasklet.specs.declared.step.Pending.TheVariants as call
use Rattle.jet_tasklet.specs.declared.tasklet.Tasklet.{Tasklet}
use Rattle.jet_tasklet.specs.Inputs.{InputView, inputs_view, received, queue_count, all_done}
use Rattle.jet_tasklet.specs.JoinWaits.{IsOfSide}
use Rattle.jet_tasklet.specs.Keeps.{Keeps, IsBuild, IsOver, told}
use Rattle.jet_tasklet.specs.Kinds.{joins}
use Rattle.jet_tasklet.specs.Outputs.{OutputView, Giving}
use Rattle.jet_tasklet.specs.Sending.{EachSent}
use Rattle.jet_tasklet.specs.Steps.{Working, entry_of, then_of}
use Rattle.jet_tasklet.specs.Trace.{of_queue, is_from, called, asks, entries}
use Rattle.jet_tasklet.proofs.GenericLaws.{each_passing, sends}
use Rattle.jet_tasklet.proofs.Pushing.{by_pushing, entries-push}
use Rattle.jet_tasklet.proofs.Tracing.{build_heard, from_own}
use Rattle.jet_tasklet.proofs.Heard.{asks_same}

-- a join gives nothing for it
abbrev IsQuiet : CallEntry → Type 0
IsQuiet (Given Stream q x) = ⊥
IsQuiet (Given Build q (item.Event e)) = ⊥
IsQuiet (Given Build q (item.Side s)) = Unit {0}
IsQuiet (Given Build q (item.Frame f)) = ⊥
IsQuiet (Given Build q (item.Row r)) = ⊥
IsQuiet (Given Build q (item.Late l)) = ⊥
IsQuiet (Given Build q item.Idle) = ⊥
IsQuiet (Given Build q (item.Mark m)) = ⊥
IsQuiet (Given Build q item.Done) = ⊥
IsQuiet (MarkTold t) = ⊥
IsQuiet (QueueClosed port q) = Unit {0}
IsQuiet Finish = ⊥

none_given : (j : Joining) (rows : List SideValue) (e : CallEntry) → IsQuiet e → gives j rows e ≡ []
none_given j rows (Given Stream q x) h = absurd h
none_given j rows (Given Build q (item.Event e)) h = absurd h
none_given j rows (Given Build q (item.Side s)) h = refl
none_given j rows (Given Build q (item.Frame f)) h = absurd h
none_given j rows (Given Build q (item.Row r)) h = absurd h
none_given j rows (Given Build q (item.Late l)) h = absurd h
none_given j rows (Given Build q item.Idle) h = absurd h
none_given j rows (Given Build q (item.Mark m)) h = absurd h
none_given j rows (Given Build q item.Done) h = absurd h
none_given j rows (MarkTold t) h = absurd h
none_given j rows (QueueClosed port q) h = refl
none_given j rows Finish h = absurd h

none_of_all : (j : Joining) (rows : List SideValue) (taken : List CallEntry) → Each IsQuiet taken → all_given j rows taken ≡ []
none_of_all j rows [] h = refl
none_of_all j rows (e ∷ es) h = ap (λ (xs : List Item). xs ++ all_given j (rows ++ sides_of (build_items e)) es) (none_given j rows e h.0) ∙ none_of_all j (rows ++ sides_of (build_items e)) es h.1

-- ---- what the join is told
abbrev OfSide : Arrival → Type 0
OfSide a = (a.port ≡ Build) × IsOfSide a.item

called_quiet : (q : ℕ) (x : Item) → IsOfSide x → Each IsQuiet (called Build q x)
called_quiet q (item.Event e) h = absurd h
called_quiet q (item.Side s) h = (tt, tt)
called_quiet q (item.Frame f) h = absurd h
called_quiet q (item.Row r) h = absurd h
called_quiet q (item.Late l) h = absurd h
called_quiet q item.Idle h = absurd h
called_quiet q (item.Mark m) h = absurd h
called_quiet q item.Done h = (tt, tt)

asks_quiet : (n : ℕ) (came : List Arrival) (a : Arrival) → OfSide a → Each IsQuiet (asks n came a)
asks_quiet n came a h =
    subst (Each IsQuiet) (sym (asks_same n came a (build_heard n came a h.0)))
    (subst (λ (port : Port). Each IsQuiet (called port a.queue a.item)) (sym h.0) (called_quiet a.queue a.item h.1))

entries_quiet : (n : ℕ) (came : List Arrival) → Each OfSide came → Each IsQuiet (entries n came)
entries_quiet n came =
    by_pushing (λ xs. Each OfSide xs → Each IsQuiet (entries n xs)) (λ h. tt) (λ xs a ih h.
    subst (Each IsQuiet) (sym (entries-push n xs a))
    (Each-append IsQuiet (entries n xs) (asks n xs a) (ih (Each-front OfSide xs (a ∷ []) h)) (asks_quiet n xs a (Each-back OfSide xs (a ∷ []) h).0))) came

of_side : (count : ℕ) (came : List Arrival) → Each IsBuild came → ((q : ℕ) → q < count → Each IsOfSide (of_queue Build q came)) → Each (λ a. a.port ≡ Build → a.queue < count) came → Each OfSide came
of_side count [] builds all inside = tt
of_side count (a ∷ came) builds all inside =
    let from : is_from Build a.queue a ≡ true = subst (λ (port : Port). is_from port a.queue a ≡ true) builds.0 (from_own a) in
    let own : Each IsOfSide (cond true (a.item ∷ []) [] ++ of_queue Build a.queue came) = subst (λ (b : Bool). Each IsOfSide (cond b (a.item ∷ []) [] ++ of_queue Build a.queue came)) from (all a.queue (inside.0 builds.0)) in
    ((builds.0, own.0), of_side count came builds.1 (λ q lt. Each-back IsOfSide (cond (is_from Build q a) (a.item ∷ []) []) (of_queue Build q came) (all q lt)) inside.1)

-- ---- what it gave
taken_front : (taken more whole : List CallEntry) → whole ≡ taken ++ more → Each IsQuiet whole → Each IsQuiet taken × Each IsQuiet more
taken_front taken more whole is h = let all : Each IsQuiet (taken ++ more) = subst (Each IsQuiet) is h in (Each-front IsQuiet taken more all, Each-back IsQuiet taken more all)

take_nil : (m : ℕ) → take {A = Item} m [] ≡ []
take_nil zero = refl
take_nil (suc m) = refl

take_none : (m : ℕ) (xs : List Item) → xs ≡ [] → take m xs ≡ []
take_none m xs h = ap (λ (ys : List Item). take m ys) h ∙ take_nil m

module _ (t : Tasklet JoinP) (came : List Arrival) (gave : List Item) (vs : List InputView) (waits : all_done Build vs ≡ false) where
  abbrev n : ℕ
  n = queue_count Stream vs

  over_not : ((port : Port) → all_done port vs ≡ true) → ⊥
  over_not h = let d : all_done Build vs ≡ true = h Build in cc

  amid_none : (e : CallEntry) (rest : List CallEntry) (given : List Item) → (taken : List CallEntry) → entries n came ++ [] ≡ taken ++ e ∷ rest → joins.amid t.processor taken e given → Each IsQuiet (entries n came) → given ≡ []
  amid_none e rest given taken is a h =
      let parts = taken_front taken (e ∷ rest) (entries n came) (sym (append-nil (entries n came)) ∙ is) h in
      a.gave ∙ (ap (λ (xs : List Item). xs ++ take t.processor.next (gives t.processor.setting (build_rows taken) e)) (none_of_all t.processor.setting [] taken parts.0)
      ∙ take_none t.processor.next (gives t.processor.setting (build_rows taken) e) (none_given t.processor.setting (build_rows taken) e parts.1.0))

  working_none : (s : Step) (given : List Item) → Working joins.stands joins.amid joins.takes t.processor s (told s n came) given → IsOver s vs → Each IsQuiet (entries n came) → given ≡ []
  working_none step.Poll given w o h = w.gave ∙ (ap (all_given t.processor.setting []) (append-nil (entries n came)) ∙ none_of_all t.processor.setting [] (entries n came) h)
  working_none (step.Make (call.Accept a)) given w o h = amid_none (entry_of (call.Accept a)) (then_of (call.Accept a)) given w.0 w.1 w.2 h
  working_none (step.Make (call.Close port q then)) given w o h = amid_none (entry_of (call.Close port q then)) (then_of (call.Close port q then)) given w.0 w.1 w.2 h
  working_none (step.Make (call.Tell m)) given w o h = amid_none (entry_of (call.Tell m)) (then_of (call.Tell m)) given w.0 w.1 w.2 h
  working_none (step.Make call.Finish) given w o h = absurd (over_not o)
  working_none step.End given w o h = absurd (over_not o)
  working_none step.Ended given w o h = absurd (over_not o)

both_none : (xs ys : List Item) → xs ++ ys ≡ [] → (xs ≡ []) × (ys ≡ [])
both_none [] ys h = (refl, h)
both_none (x ∷ xs) ys h = absurd (cc)

none_of : (xs : List Item) → Each (λ x. ⊥) xs → xs ≡ []
none_of [] h = refl
none_of (x ∷ xs) h = absurd h.0

-- while a build queue is open
pub join_waits : (t : Tasklet JoinP) (came : List Arrival) (gave : List Item) → Keeps joins.stands joins.amid joins.takes t came gave → all_done Build (inputs_view t.inputs.items) ≡ false
    → ((q : ℕ) → q < queue_count Build (inputs_view t.inputs.items) → Each IsOfSide (get_or (received Build (inputs_view t.inputs.items)) q []))
    → (gave ≡ []) × (t.outbox.items ≡ [])
join_waits t came gave k waits sides =
    let vs : List InputView = inputs_view t.inputs.items in
    let inside : Each (λ (a : Arrival). a.port ≡ Build → a.queue < queue_count Build vs) came =
    Each-more (λ (a : Arrival). a.queue < queue_count a.port vs) (λ (a : Arrival). a.port ≡ Build → a.queue < queue_count Build vs) (λ a lt is. subst (λ (port : Port). a.queue < queue_count port vs) is lt) came k.takes_in.in_order.inside in
    let all : Each OfSide came = of_side (queue_count Build vs) came (k.takes_in.builds waits) (λ q lt. subst (Each IsOfSide) (k.takes_in.received_is Build q lt) (sides q lt)) inside in
    both_none gave t.outbox.items (working_none t came gave vs waits t.step (gave ++ t.outbox.items) k.works k.over (entries_quiet (queue_count Stream vs) came all))

-- nothing was sent by a tasklet that gave nothing
pub none_sent : (gave items : List Item) (os : List OutputView) → Giving gave items os → gave ≡ [] → items ≡ [] → EachSent (λ xs. xs ≡ []) os
none_sent gave items os g none empty =
    Each-more (λ (o : OutputView). (k : ℕ) → k < length o.router.dests → Each (λ (x : Item). ⊥) (get_or (router.sents o.router) k [])) (λ (o : OutputView). (k : ℕ) → k < length o.router.dests → get_or (router.sents o.router) k [] ≡ [])
    (λ o h k lt. none_of (get_or (router.sents o.router) k []) (h k lt)) os
    (sends (Each (λ (x : Item). ⊥)) (each_passing (λ (x : Item). ⊥)) gave items os g (subst (Each (λ (x : Item). ⊥)) (sym (ap (λ (xs : List Item). xs ++ items) none ∙ empty)) tt))
