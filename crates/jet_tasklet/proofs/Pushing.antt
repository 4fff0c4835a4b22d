-- One item more at the end of those that came.
use Rattle.std.proofs.Common.{◌≡◌, ℕ, ◌<◌, cond, List, [], ◌∷◌, ◌++◌, sym, ◌∙◌, ap, subst, append-nil, append_assoc}
use Rattle.std.proofs.lemmas.List.Concat.{flat_map-append}
use Rattle.jet_items.specs.declared.item.Item.{Item}
use Rattle.jet_items.specs.Order.{Each}
use Rattle.jet_items.proofs.Orders.{Each-append, Each-front, Each-back, Each-more, EachPair-front, EachPair-across}
use Rattle.jet_boxes.specs.declared.port.Port.{Port}
use Rattle.jet_boxes.specs.Entry.{CallEntry, entry_items, items_of}
use Rattle.jet_tasklet.specs.declared.arrival.Arrival.{Arrival}
use Rattle.jet_tasklet.specs.Trace.{is_from, of_queue, asks, entries_after, entries}
use Rattle.jet_tasklet.specs.InOrder.{InOrder, MayFollow}

push_from : {X : Type 0} (P : List X → Type 0) → ((xs : List X) (x : X) → P xs → P (xs ++ x ∷ [])) → (front back : List X) → P front → P (front ++ back)
push_from P step front [] h = subst P (sym (append-nil front)) h
push_from P step front (x ∷ back) h = subst P (append_assoc front (x ∷ []) back) (push_from P step (front ++ x ∷ []) back (step front x h))

-- what holds of no item, and of one more wherever it holds, holds of every list
pub by_pushing : {X : Type 0} (P : List X → Type 0) → P [] → ((xs : List X) (x : X) → P xs → P (xs ++ x ∷ [])) → (xs : List X) → P xs
by_pushing P none step xs = push_from P step [] xs none

pub of_queue-push : (port : Port) (q : ℕ) (came : List Arrival) (a : Arrival) → of_queue port q (came ++ a ∷ []) ≡ of_queue port q came ++ cond (is_from port q a) (a.item ∷ []) []
of_queue-push port q came a =
    let f : Arrival → List Item = λ (b : Arrival). cond (is_from port q b) (b.item ∷ []) [] in
    flat_map-append f came (a ∷ []) ∙ ap (λ (xs : List Item). of_queue port q came ++ xs) (append-nil (f a))

entries_after-push : (n : ℕ) (before came : List Arrival) (a : Arrival) → entries_after n before (came ++ a ∷ []) ≡ entries_after n before came ++ asks n (before ++ came) a
entries_after-push n before [] a = append-nil (asks n before a) ∙ ap (λ (b : List Arrival). asks n b a) (sym (append-nil before))
entries_after-push n before (c ∷ came) a =
    let rest : List CallEntry = entries_after n (before ++ c ∷ []) came in
    ap (λ (es : List CallEntry). asks n before c ++ es) (entries_after-push n (before ++ c ∷ []) came a ∙ ap (λ (b : List Arrival). rest ++ asks n b a) (append_assoc before (c ∷ []) came))
    ∙ sym (append_assoc (asks n before c) rest (asks n (before ++ c ∷ came) a))

pub entries-push : (n : ℕ) (came : List Arrival) (a : Arrival) → entries n (came ++ a ∷ []) ≡ entries n came ++ asks n came a
entries-push n came a = entries_after-push n [] came a

pub items_of-append : (es fs : List CallEntry) → items_of (es ++ fs) ≡ items_of es ++ items_of fs
items_of-append es fs = flat_map-append entry_items es fs

-- what holds of the items of each entry
pub each_item : (P : Item → Type 0) (es : List CallEntry) → Each (λ e. Each P (entry_items e)) es → Each P (items_of es)
each_item P [] h = tt
each_item P (e ∷ es) h = Each-append P (entry_items e) (items_of es) h.0 (each_item P es h.1)

pub InOrder-front : (queues : Port → ℕ) (came more : List Arrival) → InOrder queues (came ++ more) → InOrder queues came
InOrder-front queues came more h = record {
  inside = Each-front (λ (a : Arrival). a.queue < queues a.port) came more h.inside;
  follows = EachPair-front MayFollow came more h.follows;
}

pub last_inside : (queues : Port → ℕ) (came : List Arrival) (a : Arrival) → InOrder queues (came ++ a ∷ []) → a.queue < queues a.port
last_inside queues came a h = let last = Each-back (λ (b : Arrival). b.queue < queues b.port) came (a ∷ []) h.inside in last.0

-- the last item may follow each one before it
pub last_follows : (queues : Port → ℕ) (came : List Arrival) (a : Arrival) → InOrder queues (came ++ a ∷ []) → Each (λ b. MayFollow b a) came
last_follows queues came a h =
    Each-more (λ (b : Arrival). Each (MayFollow b) (a ∷ [])) (λ (b : Arrival). MayFollow b a) (λ b k. k.0) came (EachPair-across MayFollow came (a ∷ []) h.follows)
