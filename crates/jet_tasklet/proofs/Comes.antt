-- Each entry that a processor is told may come after those before it.
use Rattle.std.proofs.Common.{◌≡◌, ℕ, ◌||◌, Bool, true, false, cond, ℤ, List, [], ◌∷◌, ◌++◌, refl, sym, ◌∙◌, ap, subst, append-nil, append_assoc}
use Rattle.std.specs.Prelude.{Option, Some, None}
use Rattle.jet_items.specs.declared.item.Item.{Item}
use Rattle.jet_items.specs.declared.item.Item.TheVariants as item
use Rattle.jet_items.specs.Done.{is_done}
use Rattle.jet_items.specs.Order.{Each}
use Rattle.jet_items.proofs.Orders.{Each-append}
use Rattle.jet_boxes.specs.declared.port.Port.{Port}
use Rattle.jet_boxes.specs.Entry.{CallEntry, NotFinish, NotClosed, MayCome, MayAll}
use Rattle.jet_coalescer.specs.Low.{risen}
use Rattle.jet_tasklet.specs.declared.arrival.Arrival.{Arrival}
use Rattle.jet_tasklet.specs.declared.step.Step.{Step}
use Rattle.jet_tasklet.specs.declared.step.Step.TheVariants as step
use Rattle.jet_tasklet.specs.declared.step.Pending.TheVariants as call
use Rattle.jet_tasklet.specs.InOrder.{InOrder, MayFollow}
use Rattle.jet_tasklet.specs.Keeps.{told}
use Rattle.jet_tasklet.specs.Steps.{finale}
use Rattle.jet_tasklet.specs.Trace.{is_from, of_queue, has_ended, watermark, called, tells, asks, entries}
use Rattle.jet_tasklet.proofs.Pushing.{by_pushing, entries-push, InOrder-front, last_follows}
use Rattle.jet_tasklet.proofs.Telling.{unfinished, called_unfinished, unclosed}

-- by recursion
abbrev Comes : (Port → ℕ → Type 0) → List CallEntry → List CallEntry → Type 0
Comes takes before [] = Unit {0}
Comes takes before (e ∷ es) = MayCome takes before e × Comes takes (before ++ e ∷ []) es

comes_append : (takes : Port → ℕ → Type 0) (before xs ys : List CallEntry) → Comes takes before xs → Comes takes (before ++ xs) ys → Comes takes before (xs ++ ys)
comes_append takes before [] ys h k = subst (λ (es : List CallEntry). Comes takes es ys) (append-nil before) k
comes_append takes before (x ∷ xs) ys h k = (h.0, comes_append takes (before ++ x ∷ []) xs ys h.1 (subst (λ (es : List CallEntry). Comes takes es ys) (sym (append_assoc before (x ∷ []) xs)) k))

comes_at : (takes : Port → ℕ → Type 0) (before es front : List CallEntry) (entry : CallEntry) (rest : List CallEntry) → Comes takes before es → es ≡ front ++ entry ∷ rest → MayCome takes (before ++ front) entry
comes_at takes before [] [] entry rest h is = absurd (cc)
comes_at takes before [] (f ∷ front) entry rest h is = absurd (cc)
comes_at takes before (e ∷ es) [] entry rest h is =
    let same : e ≡ entry = cc in subst (λ (bs : List CallEntry). MayCome takes bs entry) (sym (append-nil before)) (subst (MayCome takes before) same h.0)
comes_at takes before (e ∷ es) (f ∷ front) entry rest h is =
    let same : e ≡ f = cc in
    let more : es ≡ front ++ entry ∷ rest = cc in
    subst (λ (bs : List CallEntry). MayCome takes bs entry) (append_assoc before (f ∷ []) front)
    (subst (λ (g : CallEntry). MayCome takes ((before ++ g ∷ []) ++ front) entry) same (comes_at takes (before ++ e ∷ []) es front entry rest h.1 more))

called_comes : (takes : Port → ℕ → Type 0) (taken : List CallEntry) (port : Port) (q : ℕ) (x : Item) → takes port q → Each NotFinish taken → Each (NotClosed port q) taken → Comes takes taken (called port q x)
called_comes takes taken port q (item.Event e) may going still = ((going, may, tt, still), tt)
called_comes takes taken port q (item.Side s) may going still = ((going, may, tt, still), tt)
called_comes takes taken port q (item.Frame f) may going still = ((going, may, tt, still), tt)
called_comes takes taken port q (item.Row r) may going still = ((going, may, tt, still), tt)
called_comes takes taken port q (item.Late l) may going still = ((going, may, tt, still), tt)
called_comes takes taken port q item.Idle may going still = ((going, may, tt, still), tt)
called_comes takes taken port q (item.Mark m) may going still = tt
called_comes takes taken port q item.Done may going still = ((going, may, still), tt)

tells_comes : (takes : Port → ℕ → Type 0) (taken : List CallEntry) (o : Option ℤ) → Each NotFinish taken → Comes takes taken (tells o)
tells_comes takes taken None going = tt
tells_comes takes taken (Some t) going = (going, tt)

-- nothing that came ended a queue of which more came
clash : (c : Bool) → c ≡ true → c ≡ false → ⊥
clash true i j = cc
clash false i j = cc

neither_true : (d e : Bool) → (d ≡ true → ⊥) → e ≡ false → (d || e) ≡ false
neither_true true e never rest = absurd (never refl)
neither_true false e never rest = rest

one_open : (b : Arrival) (more : List Item) (f c : Bool) → f ≡ c → (is_done b.item ≡ true → f ≡ false) → has_ended more ≡ false → has_ended (cond c (b.item ∷ []) [] ++ more) ≡ false
one_open b more f true is never rest = neither_true (is_done b.item) (has_ended more) (λ done. clash f is (never done)) rest
one_open b more f false is never rest = rest

still_open : (a : Arrival) (came : List Arrival) → Each (λ b. MayFollow b a) came → has_ended (of_queue a.port a.queue came) ≡ false
still_open a [] h = refl
still_open a (b ∷ came) h = one_open b (of_queue a.port a.queue came) (is_from a.port a.queue b) (is_from a.port a.queue b) refl h.0.0 (still_open a came h.1)

entries_come : (takes : Port → ℕ → Type 0) (queues : Port → ℕ) (n : ℕ) (came : List Arrival) → ((port : Port) (q : ℕ) → takes port q) → InOrder queues came → Comes takes [] (entries n came)
entries_come takes queues n came may =
    by_pushing (λ (xs : List Arrival). InOrder queues xs → Comes takes [] (entries n xs)) (λ o. tt) (λ xs a ih o.
    let still : has_ended (of_queue a.port a.queue xs) ≡ false = still_open a xs (last_follows queues xs a o) in
    let going : Each NotFinish (entries n xs) = unfinished n xs in
    let rose : Option ℤ = risen (watermark n xs) (watermark n (xs ++ a ∷ [])) in
    subst (Comes takes []) (sym (entries-push n xs a))
    (comes_append takes [] (entries n xs) (asks n xs a) (ih (InOrder-front queues xs (a ∷ []) o))
    (comes_append takes (entries n xs) (called a.port a.queue a.item) (tells rose)
    (called_comes takes (entries n xs) a.port a.queue a.item (may a.port a.queue) going (unclosed n a.port a.queue xs still))
    (tells_comes takes (entries n xs ++ called a.port a.queue a.item) rose (Each-append NotFinish (entries n xs) (called a.port a.queue a.item) going (called_unfinished a.port a.queue a.item)))))) came

finale_comes : (takes : Port → ℕ → Type 0) (s : Step) (es : List CallEntry) → Each NotFinish es → Comes takes es (finale s)
finale_comes takes step.Poll es going = tt
finale_comes takes (step.Make (call.Accept a)) es going = tt
finale_comes takes (step.Make (call.Close port q then)) es going = tt
finale_comes takes (step.Make (call.Tell t)) es going = tt
finale_comes takes (step.Make call.Finish) es going = (going, tt)
finale_comes takes step.End es going = (going, tt)
finale_comes takes step.Ended es going = (going, tt)

-- all that is told may come, the finish too
pub told_comes : (takes : Port → ℕ → Type 0) (queues : Port → ℕ) (s : Step) (n : ℕ) (came : List Arrival) → ((port : Port) (q : ℕ) → takes port q) → InOrder queues came → MayAll takes (told s n came)
told_comes takes queues s n came may o front entry rest is =
    comes_at takes [] (told s n came) front entry rest
    (comes_append takes [] (entries n came) (finale s) (entries_come takes queues n came may o) (finale_comes takes s (entries n came) (unfinished n came))) is
