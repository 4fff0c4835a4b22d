-- What may come of what was asked.
use Rattle.std.proofs.Common.{◌≡◌, ℕ, ◌||◌, Bool, true, false, cond, ℤ, List, [], ◌∷◌, ◌++◌, refl, sym, ◌∙◌, ap, subst}
use Rattle.std.specs.Prelude.{Option, Some, None}
use Rattle.jet_items.specs.declared.item.Item.{Item}
use Rattle.jet_items.specs.declared.item.Item.TheVariants as item
use Rattle.jet_items.specs.Done.{is_done}
use Rattle.jet_items.specs.Order.{Each}
use Rattle.jet_items.proofs.Orders.{Each-append}
use Rattle.jet_boxes.specs.declared.port.Port.{Port}
use Rattle.jet_boxes.specs.Entry.{CallEntry, Given, MarkTold, QueueClosed, NotFinish, NotClosed, MayCome}
use Rattle.jet_coalescer.specs.Low.{risen}
use Rattle.jet_tasklet.specs.declared.arrival.Arrival.{Arrival}
use Rattle.jet_tasklet.specs.Trace.{is_from, of_queue, has_ended, watermark, called, tells, asks, entries}
use Rattle.jet_tasklet.proofs.Pushing.{by_pushing, of_queue-push, entries-push}
use Rattle.jet_tasklet.proofs.Tracing.{open_front, own_queue}
use Rattle.jet_tasklet.proofs.Heard.{ended_push}

each_asks : (P : CallEntry → Type 0) → ((t : ℤ) → P (MarkTold t)) → (n : ℕ) (came : List Arrival) (a : Arrival) → Each P (called a.port a.queue a.item) → Each P (asks n came a)
each_asks P marks n came a h = Each-append P (called a.port a.queue a.item) (tells (risen (watermark n came) (watermark n (came ++ a ∷ [])))) h (go (risen (watermark n came) (watermark n (came ++ a ∷ []))))
  where
    go : (o : Option ℤ) → Each P (tells o)
    go None = tt
    go (Some t) = (marks t, tt)

pub called_unfinished : (port : Port) (q : ℕ) (x : Item) → Each NotFinish (called port q x)
called_unfinished port q (item.Event e) = (tt, tt)
called_unfinished port q (item.Side s) = (tt, tt)
called_unfinished port q (item.Frame f) = (tt, tt)
called_unfinished port q (item.Row r) = (tt, tt)
called_unfinished port q (item.Late l) = (tt, tt)
called_unfinished port q item.Idle = (tt, tt)
called_unfinished port q (item.Mark m) = tt
called_unfinished port q item.Done = (tt, tt)

pub unfinished : (n : ℕ) (came : List Arrival) → Each NotFinish (entries n came)
unfinished n came =
    by_pushing (λ (xs : List Arrival). Each NotFinish (entries n xs)) tt (λ xs a h.
    subst (Each NotFinish) (sym (entries-push n xs a)) (Each-append NotFinish (entries n xs) (asks n xs a) h (each_asks NotFinish (λ t. tt) n xs a (called_unfinished a.port a.queue a.item)))) came

called_unclosed : (port : Port) (q : ℕ) (p : Port) (r : ℕ) (x : Item) → (x ≡ item.Done → p ≡ port → r ≡ q → ⊥) → Each (NotClosed port q) (called p r x)
called_unclosed port q p r (item.Event e) h = (tt, tt)
called_unclosed port q p r (item.Side s) h = (tt, tt)
called_unclosed port q p r (item.Frame f) h = (tt, tt)
called_unclosed port q p r (item.Row w) h = (tt, tt)
called_unclosed port q p r (item.Late l) h = (tt, tt)
called_unclosed port q p r item.Idle h = (tt, tt)
called_unclosed port q p r (item.Mark m) h = tt
called_unclosed port q p r item.Done h = (h refl, tt)

or_true : (b : Bool) → (b || true) ≡ true
or_true true = refl
or_true false = refl

-- a queue that is not done was not closed
pub unclosed : (n : ℕ) (port : Port) (q : ℕ) (came : List Arrival) → has_ended (of_queue port q came) ≡ false → Each (NotClosed port q) (entries n came)
unclosed n port q came =
    by_pushing (λ (xs : List Arrival). has_ended (of_queue port q xs) ≡ false → Each (NotClosed port q) (entries n xs)) (λ e. tt) (λ xs a ih e.
    let more : List Item = cond (is_from port q a) (a.item ∷ []) [] in
    let before : has_ended (of_queue port q xs) ≡ false = open_front (of_queue port q xs) more (subst (λ (ys : List Item). has_ended ys ≡ false) (of_queue-push port q xs a) e) in
    let never : a.item ≡ item.Done → a.port ≡ port → a.queue ≡ q → ⊥ = λ done p r.
    let own : of_queue port q (xs ++ a ∷ []) ≡ of_queue port q xs ++ a.item ∷ [] = subst (λ (k : ℕ). of_queue port k (xs ++ a ∷ []) ≡ of_queue port k xs ++ a.item ∷ []) r (subst (λ (w : Port). of_queue w a.queue (xs ++ a ∷ []) ≡ of_queue w a.queue xs ++ a.item ∷ []) p (own_queue xs a)) in
    let ends : has_ended (of_queue port q (xs ++ a ∷ [])) ≡ true = ap has_ended own ∙ (ended_push (of_queue port q xs) a.item ∙ (ap (λ (x : Item). has_ended (of_queue port q xs) || is_done x) done ∙ or_true (has_ended (of_queue port q xs)))) in
    cc in
    subst (Each (NotClosed port q)) (sym (entries-push n xs a)) (Each-append (NotClosed port q) (entries n xs) (asks n xs a) (ih before) (each_asks (NotClosed port q) (λ t. tt) n xs a (called_unclosed port q a.port a.queue a.item never)))) came

-- the first of what an item asks may come
head_of : (takes : Port → ℕ → Type 0) (taken : List CallEntry) (port : Port) (q : ℕ) (x : Item) (o : Option ℤ) (e : CallEntry) (rest : List CallEntry) → takes port q → Each NotFinish taken → Each (NotClosed port q) taken → e ∷ rest ≡ called port q x ++ tells o → MayCome takes taken e
head_of takes taken port q (item.Event d) o e rest may going still is = let h : e ≡ Given port q (item.Event d) = cc in subst (MayCome takes taken) (sym h) (going, may, tt, still)
head_of takes taken port q (item.Side d) o e rest may going still is = let h : e ≡ Given port q (item.Side d) = cc in subst (MayCome takes taken) (sym h) (going, may, tt, still)
head_of takes taken port q (item.Frame d) o e rest may going still is = let h : e ≡ Given port q (item.Frame d) = cc in subst (MayCome takes taken) (sym h) (going, may, tt, still)
head_of takes taken port q (item.Row d) o e rest may going still is = let h : e ≡ Given port q (item.Row d) = cc in subst (MayCome takes taken) (sym h) (going, may, tt, still)
head_of takes taken port q (item.Late d) o e rest may going still is = let h : e ≡ Given port q (item.Late d) = cc in subst (MayCome takes taken) (sym h) (going, may, tt, still)
head_of takes taken port q item.Idle o e rest may going still is = let h : e ≡ Given port q item.Idle = cc in subst (MayCome takes taken) (sym h) (going, may, tt, still)
head_of takes taken port q (item.Mark m) None e rest may going still is = absurd (cc)
head_of takes taken port q (item.Mark m) (Some t) e rest may going still is = let h : e ≡ MarkTold t = cc in subst (MayCome takes taken) (sym h) going
head_of takes taken port q item.Done o e rest may going still is = let h : e ≡ QueueClosed port q = cc in subst (MayCome takes taken) (sym h) (going, may, still)

pub head_may : (takes : Port → ℕ → Type 0) (n : ℕ) (came : List Arrival) (a : Arrival) (e : CallEntry) (rest : List CallEntry) → takes a.port a.queue → has_ended (of_queue a.port a.queue came) ≡ false → e ∷ rest ≡ asks n came a → MayCome takes (entries n came) e
head_may takes n came a e rest may still is =
    head_of takes (entries n came) a.port a.queue a.item (risen (watermark n came) (watermark n (came ++ a ∷ []))) e rest may (unfinished n came) (unclosed n a.port a.queue came still) is
