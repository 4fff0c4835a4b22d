-- The marks that a tasklet gives.
use Rattle.std.proofs.Common.{◌≡◌, ℕ, zero, suc, ◌<◌, Bool, true, false, not, cond, ℤ, ◌≤ℤ◌, List, [], ◌∷◌, ◌++◌, map, filter, length, get_or, refl, sym, ◌∙◌, ap, subst, append-nil, append_assoc, arith}
use Rattle.std.specs.Prelude.{Option, Some, None, fold, is_some, if◌then◌else◌}
use Rattle.std.specs.List.{Contains, AllByRecursion, last_or, reduce, filter_map, list_all}
use Rattle.std.specs.Option.{IsSomeAnd}
use Rattle.std.specs.Int.{int_min, int_max}
use Rattle.std.proofs.lemmas.Int.{ints, by_lt_z, clamps}
use Rattle.std.proofs.lemmas.List.Concat.{flat_map-append}
use Rattle.std.proofs.lemmas.List.Elements.{Contains-append_right}
use Rattle.jet_items.specs.declared.item.Item.{Item}
use Rattle.jet_items.specs.declared.item.Item.TheVariants as item
use Rattle.jet_items.specs.Kinds.{as_mark, marks_of}
use Rattle.jet_items.specs.Order.{Each}
use Rattle.jet_items.proofs.Orders.{Each-append, Each-front, Each-more}
use Rattle.jet_boxes.specs.declared.port.Port.{Port}
use Rattle.jet_boxes.specs.declared.port.Port.TheVariants.{Stream}
use Rattle.jet_boxes.specs.Entry.{CallEntry, Given, MarkTold, QueueClosed, Finish, IsData, items_of}
use Rattle.jet_coalescer.specs.Low.{History, low, least, risen, has_risen}
use Rattle.jet_router.specs.Router as router
use Rattle.jet_router.specs.Deals.{Deal, FitsAim, reaches_dest, sent_by, items_dealt}
use Rattle.jet_tasklet.specs.declared.arrival.Arrival.{Arrival}
use Rattle.jet_tasklet.specs.declared.step.Step.{Step}
use Rattle.jet_tasklet.specs.declared.step.Step.TheVariants as step
use Rattle.jet_tasklet.specs.declared.tasklet.Tasklet.{Tasklet}
use Rattle.jet_tasklet.specs.Inputs.{InputView, inputs_view, received, dones, queue_count}
use Rattle.jet_tasklet.specs.Keeps.{Keeps, told}
use Rattle.jet_tasklet.specs.MarksGiven.{PassMarks, IsReceived, IsAtRest, HasOpen, AllReached, last_mark, greatest_mark, of_open, low_received}
use Rattle.jet_tasklet.specs.Merging.{told_or, last_told}
use Rattle.jet_tasklet.specs.Outputs.{OutputView, outputs_view, Gave, Giving}
use Rattle.jet_tasklet.specs.Sending.{EachSent, EachFront}
use Rattle.jet_tasklet.specs.Steps.{Working}
use Rattle.jet_tasklet.specs.Trace.{is_from, of_queue, has_ended, history, histories, heard, watermark, called, tells, asks, entries}
use Rattle.jet_tasklet.proofs.GenericLaws.{all_entered, all_sent, each_passing, free_sent}
use Rattle.jet_tasklet.proofs.Pushing.{by_pushing, of_queue-push, entries-push, items_of-append}
use Rattle.jet_tasklet.proofs.Sending.{told_items, told_fronts}
use Rattle.jet_tasklet.proofs.Tracing.{Holds, entries_hold}
use Rattle.jet_tasklet.proofs.Heard.{histories_alike}
use Rattle.jet_tasklet.proofs.Latest.{last_is_low}
use Rattle.jet_tasklet.proofs.Lowest.{Bounds, has_mark, low_above, low_none}

-- ---- the marks of a list
abbrev pub MarkHas : (ℤ → Type 0) → Item → Type 0
MarkHas P x = Each P (as_mark x)

pub marks_each : (P : ℤ → Type 0) (xs : List Item) → Each (MarkHas P) xs → Each P (marks_of xs)
marks_each P [] h = tt
marks_each P (x ∷ xs) h = Each-append P (as_mark x) (marks_of xs) h.0 (marks_each P xs h.1)

each_back : (P : ℤ → Type 0) (xs ys : List ℤ) → Each P (xs ++ ys) → Each P ys
each_back P [] ys h = h
each_back P (x ∷ xs) ys h = each_back P xs ys h.1

pub each_marks : (P : ℤ → Type 0) (xs : List Item) → Each P (marks_of xs) → Each (MarkHas P) xs
each_marks P [] h = tt
each_marks P (x ∷ xs) h = (Each-front P (as_mark x) (marks_of xs) h, each_marks P xs (each_back P (as_mark x) (marks_of xs) h))

contains_from : (xs ys : List ℤ) → Each (λ w. Contains (xs ++ ys) w) ys
contains_from xs [] = tt
contains_from xs (y ∷ ys) = (
  Contains-append_right xs (y ∷ ys) y (0, omega arith, refl),
  subst (λ (zs : List ℤ). Each (λ w. Contains zs w) ys) (append_assoc xs (y ∷ []) ys) (contains_from (xs ++ y ∷ []) ys),
)

-- ---- the least and the greatest of a list stand in it
abbrev Picks : (ℤ → ℤ → ℤ) → Type 1
Picks op = (P : ℤ → Type 0) (a b : ℤ) → P a → P b → P (op a b)

min_picks : Picks int_min
min_picks P a b pa pb = by_lt_z a b (λ lt. let is : int_min a b ≡ a = omega (arith, ints, clamps) in subst P (sym is) pa) (λ le. let is : int_min a b ≡ b = omega (arith, ints, clamps) in subst P (sym is) pb)

max_picks : Picks int_max
max_picks P a b pa pb = by_lt_z a b (λ lt. let is : int_max a b ≡ b = omega (arith, ints, clamps) in subst P (sym is) pb) (λ le. let is : int_max a b ≡ a = omega (arith, ints, clamps) in subst P (sym is) pa)

fold_picks : (op : ℤ → ℤ → ℤ) → Picks op → (P : ℤ → Type 0) (a : ℤ) (xs : List ℤ) → P a → Each P xs → P (fold op a xs)
fold_picks op picks P a [] pa all = pa
fold_picks op picks P a (x ∷ xs) pa all = fold_picks op picks P (op a x) xs (picks P a x pa all.0) all.1

reduce_picks : (op : ℤ → ℤ → ℤ) → Picks op → (P : ℤ → Type 0) (xs : List ℤ) (t : ℤ) → Each P xs → reduce op xs ≡ Some t → P t
reduce_picks op picks P [] t all h = absurd (cc)
reduce_picks op picks P (x ∷ xs) t all h = let is : fold op x xs ≡ t = cc in subst P is (fold_picks op picks P x xs all.0 all.1)

abbrev IfMark : (ℤ → Type 0) → Option ℤ → Type 0
IfMark P None = Unit {0}
IfMark P (Some t) = P t

some_marks : (P : ℤ → Type 0) (ms : List (Option ℤ)) → Each (IfMark P) ms → Each P (filter_map (λ m. m) ms)
some_marks P [] h = tt
some_marks P (None ∷ ms) h = some_marks P ms h.1
some_marks P (Some t ∷ ms) h = (h.0, some_marks P ms h.1)

least_if : (P : ℤ → Type 0) (ms : List (Option ℤ)) (t : ℤ) (b : Bool) → Each (IfMark P) ms → cond b (reduce int_min (filter_map (λ m. m) ms)) None ≡ Some t → P t
least_if P ms t true all h = reduce_picks int_min min_picks P (filter_map (λ m. m) ms) t (some_marks P ms all) h
least_if P ms t false all h = absurd (cc)

max_of : (P : ℤ → Type 0) (xs : List ℤ) → Each P xs → IfMark P (reduce int_max xs)
max_of P [] all = tt
max_of P (x ∷ xs) all = fold_picks int_max max_picks P x xs all.0 all.1

keep_if : (P : ℤ → Type 0) (h : History) (rest : List History) (b : Bool) → Each P h.marks → Each (IfMark P) (map (λ h. reduce int_max h.marks) rest) → Each (IfMark P) (map (λ h. reduce int_max h.marks) (cond b (h ∷ rest) rest))
keep_if P h rest true here all = (max_of P h.marks here, all)
keep_if P h rest false here all = all

open_marks : (P : ℤ → Type 0) (hs : List History) → Each (λ h. Each P h.marks) hs → Each (IfMark P) (map (λ h. reduce int_max h.marks) (filter (λ h. not h.done) hs))
open_marks P [] all = tt
open_marks P (h ∷ hs) all = keep_if P h (filter (λ h. not h.done) hs) (not h.done) all.0 (open_marks P hs all.1)

by_low : (P : ℤ → Type 0) (hs : List History) → Each (λ h. Each P h.marks) hs → (o : Option ℤ) → low hs ≡ o → IfMark P o
by_low P hs all None is = tt
by_low P hs all (Some t) is = least_if P (map (λ h. reduce int_max h.marks) (filter (λ h. not h.done) hs)) t (list_all is_some (map (λ h. reduce int_max h.marks) (filter (λ h. not h.done) hs))) (open_marks P hs all) is

-- ---- what a processor is told
heard_marks : (P : ℤ → Type 0) (n : ℕ) (lists : ℕ → List Item) → ((q : ℕ) → q < n → Each P (marks_of (lists q))) → Each (λ h. Each P h.marks) (histories n lists)
heard_marks P zero lists h = tt
heard_marks P (suc n) lists h = (h 0 (omega arith), heard_marks P n (λ q. lists (suc q)) (λ q lt. h (suc q) (omega (arith, lt))))

risen_mark : (P : ℤ → Type 0) (before after : Option ℤ) → IfMark P after → Each P (marks_of (items_of (tells (risen before after))))
risen_mark P before None h = tt
risen_mark P before (Some t) h = by_rise (has_risen before t)
  where
    by_rise : (b : Bool) → Each P (marks_of (items_of (tells (if b then Some t else None))))
    by_rise true = (h, tt)
    by_rise false = tt

called_marks : (port : Port) (q : ℕ) (x : Item) → marks_of (items_of (called port q x)) ≡ []
called_marks port q (item.Event e) = refl
called_marks port q (item.Side s) = refl
called_marks port q (item.Frame f) = refl
called_marks port q (item.Row r) = refl
called_marks port q (item.Late l) = refl
called_marks port q item.Idle = refl
called_marks port q (item.Mark m) = refl
called_marks port q item.Done = refl

marks_append : (es fs : List CallEntry) → marks_of (items_of (es ++ fs)) ≡ marks_of (items_of es) ++ marks_of (items_of fs)
marks_append es fs = ap marks_of (items_of-append es fs) ∙ flat_map-append as_mark (items_of es) (items_of fs)

entries_marks : (P : ℤ → Type 0) (n : ℕ) (came : List Arrival) → ((q : ℕ) → q < n → Each P (marks_of (of_queue Stream q came))) → Each P (marks_of (items_of (entries n came)))
entries_marks P n came =
    by_pushing (λ xs. ((q : ℕ) → q < n → Each P (marks_of (of_queue Stream q xs))) → Each P (marks_of (items_of (entries n xs)))) (λ h. tt) (λ xs a ih h.
    let ts : List CallEntry = tells (risen (watermark n xs) (watermark n (xs ++ a ∷ []))) in
    let was : (q : ℕ) → q < n → Each P (marks_of (of_queue Stream q xs)) = λ q lt.
    let more : List Item = cond (is_from Stream q a) (a.item ∷ []) [] in
    Each-front P (marks_of (of_queue Stream q xs)) (marks_of more) (subst (Each P) (ap marks_of (of_queue-push Stream q xs a) ∙ flat_map-append as_mark (of_queue Stream q xs) more) (h q lt)) in
    let low_has : IfMark P (watermark n (xs ++ a ∷ [])) = by_low P (heard n (xs ++ a ∷ [])) (heard_marks P n (λ q. of_queue Stream q (xs ++ a ∷ [])) h) (watermark n (xs ++ a ∷ [])) refl in
    let asked : marks_of (items_of (asks n xs a)) ≡ marks_of (items_of ts) = marks_append (called a.port a.queue a.item) ts ∙ ap (λ (ms : List ℤ). ms ++ marks_of (items_of ts)) (called_marks a.port a.queue a.item) in
    subst (Each P) (sym (ap (λ (es : List CallEntry). marks_of (items_of es)) (entries-push n xs a) ∙ marks_append (entries n xs) (asks n xs a)))
    (Each-append P (marks_of (items_of (entries n xs))) (marks_of (items_of (asks n xs a))) (ih was)
    (subst (Each P) (sym asked) (risen_mark P (watermark n xs) (watermark n (xs ++ a ∷ [])) low_has)))) came

-- ---- marks go to each destination
marks_if : (b : Bool) (x : Item) → as_mark x ≡ [] → marks_of (cond b (x ∷ []) []) ≡ as_mark x
marks_if true x h = append-nil (as_mark x)
marks_if false x h = sym h

module _ (v : router.View) (n k : ℕ) where
  mark_dealt : (x : Item) (to : Option ℕ) → FitsAim n (router.aim v x) to → marks_of (cond (reaches_dest k to) (x ∷ []) []) ≡ as_mark x
  mark_dealt (item.Event e) to f = marks_if (reaches_dest k to) (item.Event e) refl
  mark_dealt (item.Side s) to f = marks_if (reaches_dest k to) (item.Side s) refl
  mark_dealt (item.Frame g) to f = marks_if (reaches_dest k to) (item.Frame g) refl
  mark_dealt (item.Row r) to f = marks_if (reaches_dest k to) (item.Row r) refl
  mark_dealt (item.Late l) to f = marks_if (reaches_dest k to) (item.Late l) refl
  mark_dealt item.Idle to f = marks_if (reaches_dest k to) item.Idle refl
  mark_dealt (item.Mark m) to f = subst (λ (o : Option ℕ). marks_of (cond (reaches_dest k o) (item.Mark m ∷ []) []) ≡ m ∷ []) (sym f) refl
  mark_dealt item.Done to f = marks_if (reaches_dest k to) item.Done refl

  marks_dealt : (deals : List Deal) → AllByRecursion (λ (d : Deal). FitsAim n (router.aim v d.item) d.to) deals → marks_of (sent_by k deals) ≡ marks_of (items_dealt deals)
  marks_dealt [] f = refl
  marks_dealt (d ∷ deals) f =
      let here : List Item = cond (reaches_dest k d.to) (d.item ∷ []) [] in
      flat_map-append as_mark here (sent_by k deals)
      ∙ (ap (λ (ms : List ℤ). ms ++ marks_of (sent_by k deals)) (mark_dealt d.item d.to f.0) ∙ ap (λ (ms : List ℤ). as_mark d.item ++ ms) (marks_dealt deals f.1))

gave_marks : (gave : List Item) (o : OutputView) → Gave gave o → (k : ℕ) → k < length o.router.dests → marks_of (get_or (router.sents o.router) k []) ≡ marks_of gave
gave_marks gave o g k lt =
    ap marks_of (free_sent o.router g.deals g.dealt g.free k lt) ∙ (marks_dealt o.router (length o.router.dests) k g.deals (let d = g.dealt in d.by_route) ∙ ap marks_of g.items)

-- where the outbox is empty
pub sent_marks : (gave items : List Item) (os : List OutputView) → Giving gave items os → items ≡ [] → EachSent (λ xs. marks_of xs ≡ marks_of gave) os
sent_marks gave items os g empty =
    Each-more (Gave gave) (λ (o : OutputView). (k : ℕ) → k < length o.router.dests → marks_of (get_or (router.sents o.router) k []) ≡ marks_of gave) (λ o h. gave_marks gave o h) os
    (subst (λ (xs : List Item). Giving gave xs os) empty g)

-- ---- the last mark
data_marks : (x : Item) → IsData x → as_mark x ≡ []
data_marks (item.Event e) h = refl
data_marks (item.Side s) h = refl
data_marks (item.Frame f) h = refl
data_marks (item.Row r) h = refl
data_marks (item.Late l) h = refl
data_marks item.Idle h = refl
data_marks (item.Mark m) h = absurd h
data_marks item.Done h = absurd h

-- an item that was handed on is no mark
abbrev HandsData : CallEntry → Type 0
HandsData (Given port q x) = IsData x
HandsData (MarkTold t) = Unit {0}
HandsData (QueueClosed port q) = Unit {0}
HandsData Finish = Unit {0}

last_is_told : (o : Option ℤ) (es : List CallEntry) → Each HandsData es → last_or o (marks_of (items_of es)) ≡ fold told_or o es
last_is_told o [] h = refl
last_is_told o (Given port q x ∷ es) h = ap (λ (ms : List ℤ). last_or o (ms ++ marks_of (items_of es))) (data_marks x h.0) ∙ last_is_told o es h.1
last_is_told o (MarkTold t ∷ es) h = last_is_told (Some t) es h.1
last_is_told o (QueueClosed port q ∷ es) h = last_is_told o es h.1
last_is_told o (Finish ∷ es) h = last_is_told o es h.1

hands_data : (n : ℕ) (came : List Arrival) (e : CallEntry) → Holds n came e → HandsData e
hands_data n came (Given port q x) h = h
hands_data n came (MarkTold t) h = tt
hands_data n came (QueueClosed port q) h = tt
hands_data n came Finish h = tt

-- ---- the least of the greatest marks of the open queues
open_one : (b : Bool) (x : Option ℤ) (h : History) (rest : List History) (more : List (Option ℤ)) → map (λ g. reduce int_max g.marks) rest ≡ more → reduce int_max h.marks ≡ x → map (λ g. reduce int_max g.marks) (cond (not b) (h ∷ rest) rest) ≡ (if b then more else x ∷ more)
open_one true x h rest more e m = e
open_one false x h rest more e m = cc

open_all : (n : ℕ) (lists : ℕ → List Item) (done : ℕ → Bool) → ((q : ℕ) → q < n → done q ≡ has_ended (lists q)) → map (λ g. reduce int_max g.marks) (filter (λ g. not g.done) (histories n lists)) ≡ of_open n done (λ q. greatest_mark (lists q))
open_all zero lists done d = refl
open_all (suc n) lists done d =
    subst (λ (b : Bool). map (λ g. reduce int_max g.marks) (cond (not (has_ended (lists 0))) (history (lists 0) ∷ filter (λ g. not g.done) (histories n (λ q. lists (suc q)))) (filter (λ g. not g.done) (histories n (λ q. lists (suc q))))) ≡ (if b then of_open n (λ q. done (suc q)) (λ q. greatest_mark (lists (suc q))) else greatest_mark (lists 0) ∷ of_open n (λ q. done (suc q)) (λ q. greatest_mark (lists (suc q)))))
    (sym (d 0 (omega arith)))
    (open_one (has_ended (lists 0)) (greatest_mark (lists 0)) (history (lists 0)) (filter (λ g. not g.done) (histories n (λ q. lists (suc q)))) (of_open n (λ q. done (suc q)) (λ q. greatest_mark (lists (suc q)))) (open_all n (λ q. lists (suc q)) (λ q. done (suc q)) (λ q lt. d (suc q) (omega (arith, lt)))) refl)

-- ---- a tasklet whose processor passes marks on
module _ {P : Type 0} (marks : P → List CallEntry → List Item → Type 0) (amid : P → List CallEntry → CallEntry → List Item → Type 0) (takes : P → Port → ℕ → Type 0) (t : Tasklet P) (came : List Arrival) (gave : List Item) (k : Keeps marks amid takes t came gave) where
  abbrev vs : List InputView
  vs = inputs_view t.inputs.items

  abbrev n : ℕ
  n = queue_count Stream vs

  abbrev list_at : ℕ → List Item
  list_at q = get_or (received Stream vs) q []

  queue_has : (q : ℕ) → q < n → Each (IsReceived vs) (marks_of (of_queue Stream q came))
  queue_has q lt =
      subst (λ (xs : List Item). Each (IsReceived vs) (marks_of xs)) (k.takes_in.received_is Stream q lt)
      (Each-more (λ w. Contains (marks_of (list_at q)) w) (IsReceived vs) (λ w c. record { queue = q; exists = lt; stands = c }) (marks_of (list_at q)) (contains_from [] (marks_of (list_at q))))

  told_has : EachFront (λ taken. Each (IsReceived vs) (marks_of (items_of taken))) (told t.step n came)
  told_has = told_fronts (λ xs. Each (IsReceived vs) (marks_of xs)) (λ xs ys h. Each-front (IsReceived vs) (marks_of xs) (marks_of ys) (subst (Each (IsReceived vs)) (flat_map-append as_mark xs ys) h)) t.step n came (entries_marks (IsReceived vs) n came queue_has)

  entered_each : PassMarks (marks t.processor) → ((entry : CallEntry) → PassMarks (λ taken given. amid t.processor taken entry given)) → Each (MarkHas (IsReceived vs)) (gave ++ t.outbox.items)
  entered_each law law_amid =
      all_entered marks amid takes t came gave k (Each (MarkHas (IsReceived vs)))
      (λ taken more given m is. each_marks (IsReceived vs) given (subst (Each (IsReceived vs)) (sym (law taken given m)) (told_has taken more is)))
      (λ taken e more given m is. each_marks (IsReceived vs) given (subst (Each (IsReceived vs)) (sym (law_amid e taken given m)) (told_has taken (e ∷ more) (is ∙ append_assoc taken (e ∷ []) more))))
      (λ taken more given m is q. Each-append (MarkHas (IsReceived vs)) given (item.Done ∷ []) q (tt, tt))

  -- each mark that ever entered the outbox was received, and so was each that was sent
  pub marks_entered : PassMarks (marks t.processor) → ((entry : CallEntry) → PassMarks (λ taken given. amid t.processor taken entry given)) → Each (IsReceived vs) (marks_of (gave ++ t.outbox.items))
  marks_entered law law_amid = marks_each (IsReceived vs) (gave ++ t.outbox.items) (entered_each law law_amid)

  pub sent_each : (Q : ℤ → Type 0) → Each (MarkHas Q) (gave ++ t.outbox.items) → EachSent (λ xs. Each Q (marks_of xs)) (outputs_view t.outputs.items)
  sent_each Q h =
      Each-more (λ (o : OutputView). (k : ℕ) → k < length o.router.dests → Each (MarkHas Q) (get_or (router.sents o.router) k [])) (λ (o : OutputView). (k : ℕ) → k < length o.router.dests → Each Q (marks_of (get_or (router.sents o.router) k [])))
      (λ o h k lt. marks_each Q (get_or (router.sents o.router) k []) (h k lt)) (outputs_view t.outputs.items)
      (all_sent marks amid takes t came gave k (Each (MarkHas Q)) (each_passing (MarkHas Q)) h)

  pub marks_sent : PassMarks (marks t.processor) → ((entry : CallEntry) → PassMarks (λ taken given. amid t.processor taken entry given)) → EachSent (λ xs. Each (IsReceived vs) (marks_of xs)) (outputs_view t.outputs.items)
  marks_sent law law_amid = sent_each (IsReceived vs) (entered_each law law_amid)

  last_gave : PassMarks (marks t.processor) → IsAtRest t → last_mark gave ≡ last_told (told step.Poll n came)
  last_gave law r =
      let stood : marks t.processor (told step.Poll n came) (gave ++ t.outbox.items) = subst (λ (s : Step). Working marks amid takes t.processor s (told s n came) (gave ++ t.outbox.items)) r.free k.works in
      let whole : gave ++ t.outbox.items ≡ gave = ap (λ (xs : List Item). gave ++ xs) r.sent ∙ append-nil gave in
      let hands : Each HandsData (entries n came) = Each-more (Holds n came) HandsData (hands_data n came) (entries n came) (entries_hold n came) in
      let same : marks_of gave ≡ marks_of (items_of (entries n came)) = ap marks_of (sym whole) ∙ (law (told step.Poll n came) (gave ++ t.outbox.items) stood ∙ ap marks_of (told_items step.Poll n came)) in
      ap (λ (ms : List ℤ). last_or None ms) same ∙ (last_is_told None (entries n came) hands ∙ ap last_told (sym (append-nil (entries n came))))

  still_open : (q : ℕ) → q < n → get_or (dones Stream vs) q true ≡ has_ended (list_at q)
  still_open q lt = k.takes_in.done_is Stream q lt ∙ ap has_ended (sym (k.takes_in.received_is Stream q lt))

  lows : low (histories n list_at) ≡ low_received vs
  lows = ap least (open_all n list_at (λ q. get_or (dones Stream vs) q true) (λ q lt. still_open q lt))

  low_is : watermark n came ≡ low_received vs
  low_is =
      let heard_is : heard n came ≡ histories n list_at = histories_alike n (λ q. of_queue Stream q came) list_at (λ q lt. ap history (sym (k.takes_in.received_is Stream q lt))) in
      ap low heard_is ∙ lows

  low_reached : HasOpen vs → (s : ℤ) → AllReached vs s → IsSomeAnd (low_received vs) (λ m. s ≤ℤ m)
  low_reached o s all = subst (λ (m : Option ℤ). IsSomeAnd m (λ m. s ≤ℤ m)) lows (by_value (low (histories n list_at)) refl)
    where
      bounds : Bounds n s list_at
      bounds q lt is = has_mark s (list_at q) (all q lt (still_open q lt ∙ is))

      by_value : (m : Option ℤ) → low (histories n list_at) ≡ m → IsSomeAnd m (λ m. s ≤ℤ m)
      by_value (Some m) is = low_above n s m list_at bounds is
      by_value None is = absurd (let ended : has_ended (list_at o.queue) ≡ true = low_none n s list_at bounds is o.queue o.exists in let open_is : has_ended (list_at o.queue) ≡ false = sym (still_open o.queue o.exists) ∙ o.still in cc)

  -- at rest the last mark that each destination was sent is the least that the open queues have reached
  pub marks_rest : PassMarks (marks t.processor) → IsAtRest t → HasOpen vs → EachSent (λ xs. last_mark xs ≡ low_received vs) (outputs_view t.outputs.items)
  marks_rest law r o =
      let still : has_ended (of_queue Stream o.queue came) ≡ false = sym (k.takes_in.done_is Stream o.queue o.exists) ∙ o.still in
      let last_is : last_mark gave ≡ low_received vs = last_gave law r ∙ (last_is_low step.Poll n came o.queue o.exists still ∙ low_is) in
      Each-more (λ (v : OutputView). (k : ℕ) → k < length v.router.dests → marks_of (get_or (router.sents v.router) k []) ≡ marks_of gave) (λ (v : OutputView). (k : ℕ) → k < length v.router.dests → last_mark (get_or (router.sents v.router) k []) ≡ low_received vs)
      (λ v h k lt. ap (λ (ms : List ℤ). last_or None ms) (h k lt) ∙ last_is) (outputs_view t.outputs.items)
      (sent_marks gave t.outbox.items (outputs_view t.outputs.items) k.gives_out r.sent)

  -- where each of those queues has reached s, so has the last mark sent
  pub marks_pass : PassMarks (marks t.processor) → IsAtRest t → HasOpen vs → (s : ℤ) → AllReached vs s → EachSent (λ xs. IsSomeAnd (last_mark xs) (λ m. s ≤ℤ m)) (outputs_view t.outputs.items)
  marks_pass law r o s all =
      let low : IsSomeAnd (low_received vs) (λ m. s ≤ℤ m) = low_reached o s all in
      Each-more (λ (v : OutputView). (k : ℕ) → k < length v.router.dests → last_mark (get_or (router.sents v.router) k []) ≡ low_received vs) (λ (v : OutputView). (k : ℕ) → k < length v.router.dests → IsSomeAnd (last_mark (get_or (router.sents v.router) k [])) (λ m. s ≤ℤ m))
      (λ v h k lt. subst (λ (m : Option ℤ). IsSomeAnd m (λ m. s ≤ℤ m)) (sym (h k lt)) low) (outputs_view t.outputs.items)
      (marks_rest law r o)
