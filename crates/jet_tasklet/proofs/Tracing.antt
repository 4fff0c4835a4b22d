-- The order of what a processor is told, from the order of what came from each queue.
use Rattle.std.proofs.Common.{◌≡◌, ℕ, zero, suc, ◌<◌, ◌==◌, ◌&&◌, ◌||◌, Bool, true, false, cond, ℤ, ◌≤ℤ◌, ◌<ℤ◌, List, [], ◌∷◌, ◌++◌, refl, sym, ◌∙◌, ap, subst, append-nil, inl, inr, arith}
use Rattle.std.specs.Prelude.{Option, Some, None, ◌⊎◌, int_lt}
use Rattle.std.proofs.lemmas.Int.{ints}
use Rattle.std.proofs.lemmas.List.Folds.{list_any-append}
use Rattle.std.proofs.lemmas.Bool.{eq-eqb}
use Rattle.jet_items.specs.declared.item.Item.{Item}
use Rattle.jet_items.specs.declared.item.Item.TheVariants as item
use Rattle.jet_items.specs.Done.{is_done}
use Rattle.jet_items.specs.Order.{Each, EachPair}
use Rattle.jet_items.proofs.Orders.{Each-append, Each-front, Each-back, Each-more, EachPair-append, EachPair-front, EachPair-across}
use Rattle.jet_boxes.specs.declared.port.Port.{Port}
use Rattle.jet_boxes.specs.declared.port.Port.TheVariants.{Stream, Build}
use Rattle.jet_boxes.specs.Entry.{CallEntry, Given, MarkTold, QueueClosed, Finish, entry_items, items_of, IsData}
use Rattle.jet_coalescer.specs.Low.{low, risen, has_risen}
use Rattle.jet_tasklet.specs.declared.arrival.Arrival.{Arrival}
use Rattle.jet_tasklet.specs.Trace.{same_port, is_from, of_queue, has_ended, histories, heard, watermark, called, tells, asks, entries}
use Rattle.jet_tasklet.specs.InOrder.{InOrder, MayFollow}
use Rattle.jet_tasklet.proofs.Pushing.{by_pushing, of_queue-push, entries-push, items_of-append, each_item, InOrder-front, last_inside, last_follows}
use Rattle.jet_tasklet.proofs.Lowest.{AtLeast, HasMark, Bounds, AllEnded, low_bounds, low_above, low_none, ended_low}

-- ---- the lists of queues grow
HasMark-front : (t : ℤ) (xs ys : List Item) → HasMark t xs → HasMark t (xs ++ ys)
HasMark-front t [] ys h = absurd h
HasMark-front t (x ∷ xs) ys h = elim h [ inl k ↦ inl k | inr k ↦ inr (HasMark-front t xs ys k) ]

open_before : (b c : Bool) → (b || c) ≡ false → b ≡ false
open_before true c h = cc
open_before false c h = refl

ended_or : (b c : Bool) → b ≡ true → (b || c) ≡ true
ended_or true c h = refl
ended_or false c h = absurd (cc)

pub open_front : (xs ys : List Item) → has_ended (xs ++ ys) ≡ false → has_ended xs ≡ false
open_front xs ys h = open_before (has_ended xs) (has_ended ys) (sym (list_any-append is_done xs ys) ∙ h)

ended_front : (xs ys : List Item) → has_ended xs ≡ true → has_ended (xs ++ ys) ≡ true
ended_front xs ys h = list_any-append is_done xs ys ∙ ended_or (has_ended xs) (has_ended ys) h

abbrev pub lists_of : List Arrival → ℕ → List Item
lists_of came q = of_queue Stream q came

pub bounds_push : (n : ℕ) (t : ℤ) (came : List Arrival) (a : Arrival) → Bounds n t (lists_of came) → Bounds n t (lists_of (came ++ a ∷ []))
bounds_push n t came a b q lt is =
    let more : List Item = cond (is_from Stream q a) (a.item ∷ []) [] in
    let grown : of_queue Stream q (came ++ a ∷ []) ≡ of_queue Stream q came ++ more = of_queue-push Stream q came a in
    let was : has_ended (of_queue Stream q came) ≡ false = open_front (of_queue Stream q came) more (subst (λ (xs : List Item). has_ended xs ≡ false) grown is) in
    subst (HasMark t) (sym grown) (HasMark-front t (of_queue Stream q came) more (b q lt was))

pub ended_push : (n : ℕ) (came : List Arrival) (a : Arrival) → AllEnded n (lists_of came) → AllEnded n (lists_of (came ++ a ∷ []))
ended_push n came a h q lt =
    let more : List Item = cond (is_from Stream q a) (a.item ∷ []) [] in
    ap has_ended (of_queue-push Stream q came a) ∙ ended_front (of_queue Stream q came) more (h q lt)

-- ---- a watermark that rose
risen_if : (b : Bool) (t u : ℤ) → cond {A = Option ℤ} b (Some t) None ≡ Some u → (b ≡ true) × (t ≡ u)
risen_if true t u h = (refl, cc)
risen_if false t u h = absurd (cc)

risen_is : (before after : Option ℤ) (u : ℤ) → risen before after ≡ Some u → (after ≡ Some u) × (has_risen before u ≡ true)
risen_is before None u h = absurd (cc)
risen_is before (Some t) u h =
    let r = risen_if (has_risen before t) t u h in
    (ap Some r.1, subst (λ (s : ℤ). has_risen before s ≡ true) r.1 r.0)

int_lt_lt : (s t : ℤ) → int_lt s t ≡ true → s <ℤ t
int_lt_lt s t h = grind (arith, ints)

-- a mark that is told is above each mark that bounds the queues already
above_when : (n : ℕ) (t u : ℤ) (came : List Arrival) (a : Arrival) (before : Option ℤ) → watermark n came ≡ before → Bounds n t (lists_of came) → watermark n (came ++ a ∷ []) ≡ Some u → has_risen before u ≡ true → t <ℤ u
above_when n t u came a (Some s) is b after rose =
    let low : t ≤ℤ s = low_above n t s (lists_of came) b is in
    let up : s <ℤ u = int_lt_lt s u rose in
    omega (arith, ints, low, up)
above_when n t u came a None is b after rose =
    let none : watermark n (came ++ a ∷ []) ≡ None = ended_low n (lists_of (came ++ a ∷ [])) (ended_push n came a (low_none n t (lists_of came) b is)) in
    absurd (cc)

-- ---- what is known of each entry
abbrev IsBuild : Arrival → Type 0
IsBuild a = a.port ≡ Build

-- data stands with a port, and a mark that was told bounds the stream queues, of which one had given something
abbrev pub Holds : ℕ → List Arrival → CallEntry → Type 0
Holds n came (Given port q x) = IsData x
Holds n came (MarkTold t) = Bounds n t (lists_of came) × (Each IsBuild came → ⊥)
Holds n came (QueueClosed port q) = Unit {0}
Holds n came Finish = Unit {0}

holds_push : (n : ℕ) (came : List Arrival) (a : Arrival) (e : CallEntry) → Holds n came e → Holds n (came ++ a ∷ []) e
holds_push n came a (Given port q x) h = h
holds_push n came a (MarkTold t) h = (bounds_push n t came a h.0, λ all. h.1 (Each-front IsBuild came (a ∷ []) all))
holds_push n came a (QueueClosed port q) h = h
holds_push n came a Finish h = h

called_holds : (n : ℕ) (came : List Arrival) (port : Port) (q : ℕ) (x : Item) → Each (Holds n came) (called port q x)
called_holds n came port q (item.Event e) = (tt, tt)
called_holds n came port q (item.Side s) = (tt, tt)
called_holds n came port q (item.Frame f) = (tt, tt)
called_holds n came port q (item.Row r) = (tt, tt)
called_holds n came port q (item.Late l) = (tt, tt)
called_holds n came port q item.Idle = (tt, tt)
called_holds n came port q (item.Mark m) = tt
called_holds n came port q item.Done = (tt, tt)

tells_holds : (n : ℕ) (came : List Arrival) (o : Option ℤ) → ((t : ℤ) → o ≡ Some t → Holds n came (MarkTold t)) → Each (Holds n came) (tells o)
tells_holds n came None h = tt
tells_holds n came (Some t) h = (h t refl, tt)

-- ---- an item of a build queue leaves the watermark
histories-same : (n : ℕ) (f g : ℕ → List Item) → ((q : ℕ) → f q ≡ g q) → histories n f ≡ histories n g
histories-same zero f g h = refl
histories-same (suc n) f g h = ap2 (h 0) (histories-same n (λ q. f (suc q)) (λ q. g (suc q)) (λ q. h (suc q)))
  where
    ap2 : f 0 ≡ g 0 → histories n (λ q. f (suc q)) ≡ histories n (λ q. g (suc q)) → histories (suc n) f ≡ histories (suc n) g
    ap2 e r = cc

not_from : (q : ℕ) (port : Port) (a : Arrival) → a.port ≡ port → same_port port Stream ≡ false → is_from Stream q a ≡ false
not_from q port a is other = ap (λ (p : Port). same_port p Stream && (a.queue == q)) is ∙ ap (λ (b : Bool). b && (a.queue == q)) other

pub build_heard : (n : ℕ) (came : List Arrival) (a : Arrival) → a.port ≡ Build → heard n (came ++ a ∷ []) ≡ heard n came
build_heard n came a is =
    histories-same n (lists_of (came ++ a ∷ [])) (lists_of came) (λ q.
    of_queue-push Stream q came a ∙ (ap (λ (b : Bool). of_queue Stream q came ++ cond b (a.item ∷ []) []) (not_from q Build a is refl) ∙ append-nil (of_queue Stream q came)))

not_less : (t : ℤ) → int_lt t t ≡ false
not_less t = grind (arith, ints)

pub risen_same : (o : Option ℤ) → risen o o ≡ None
risen_same None = refl
risen_same (Some t) = ap (λ (b : Bool). cond {A = Option ℤ} b (Some t) None) (not_less t)

port_cases : (p : Port) → (p ≡ Stream) ⊎ (p ≡ Build)
port_cases Stream = inl refl
port_cases Build = inr refl

stream_not_build : Stream ≡ Build → ⊥
stream_not_build e = cc

-- the watermark rises only where an item of the stream came
rises_by_stream : (n : ℕ) (came : List Arrival) (a : Arrival) (t : ℤ) → risen (watermark n came) (watermark n (came ++ a ∷ [])) ≡ Some t → a.port ≡ Stream
rises_by_stream n came a t h =
    elim (port_cases a.port) [
      | inl is ↦ is
      | inr is ↦
          let same : watermark n (came ++ a ∷ []) ≡ watermark n came = ap low (build_heard n came a is) in
          let none : risen (watermark n came) (watermark n (came ++ a ∷ [])) ≡ None = ap (λ (o : Option ℤ). risen (watermark n came) o) same ∙ risen_same (watermark n came) in
          absurd (cc)
    ]

told_holds : (n : ℕ) (came : List Arrival) (a : Arrival) (t : ℤ) → risen (watermark n came) (watermark n (came ++ a ∷ [])) ≡ Some t → Holds n (came ++ a ∷ []) (MarkTold t)
told_holds n came a t h = (
  low_bounds n t (lists_of (came ++ a ∷ [])) (risen_is (watermark n came) (watermark n (came ++ a ∷ [])) t h).0,
  λ all. let last = Each-back IsBuild came (a ∷ []) all in stream_not_build (sym (rises_by_stream n came a t h) ∙ last.0),
)

-- of each entry that follows from what came
pub entries_hold : (n : ℕ) (came : List Arrival) → Each (Holds n came) (entries n came)
entries_hold n came =
    by_pushing (λ (xs : List Arrival). Each (Holds n xs) (entries n xs)) tt (λ xs a h.
    subst (Each (Holds n (xs ++ a ∷ []))) (sym (entries-push n xs a))
    (Each-append (Holds n (xs ++ a ∷ [])) (entries n xs) (asks n xs a)
    (Each-more (Holds n xs) (Holds n (xs ++ a ∷ [])) (λ e k. holds_push n xs a e k) (entries n xs) h)
    (Each-append (Holds n (xs ++ a ∷ [])) (called a.port a.queue a.item) (tells (risen (watermark n xs) (watermark n (xs ++ a ∷ []))))
    (called_holds n (xs ++ a ∷ []) a.port a.queue a.item)
    (tells_holds n (xs ++ a ∷ []) (risen (watermark n xs) (watermark n (xs ++ a ∷ []))) (λ t e. told_holds n xs a t e))))) came

-- ---- the order of items
-- of an order of items: data asks nothing of what follows, a mark asks less than a greater one, and marks that rise are in order
pub record Ordering (R : Item → Item → Type 0) : Type 0 where
  pub free : (x y : Item) → IsData x → R x y
  pub less : (t m : ℤ) (y : Item) → t ≤ℤ m → R (item.Mark m) y → R (item.Mark t) y
  pub rise : (t u : ℤ) → t <ℤ u → R (item.Mark t) (item.Mark u)

mark_pair : (R : Item → Item → Type 0) → Ordering R → (t : ℤ) (x y : Item) → AtLeast t x → R x y → R (item.Mark t) y
mark_pair R o t (item.Event e) y h k = absurd h
mark_pair R o t (item.Side s) y h k = absurd h
mark_pair R o t (item.Frame f) y h k = absurd h
mark_pair R o t (item.Row r) y h k = absurd h
mark_pair R o t (item.Late l) y h k = absurd h
mark_pair R o t item.Idle y h k = absurd h
mark_pair R o t (item.Mark m) y h k = o.less t m y h k
mark_pair R o t item.Done y h k = absurd h

mark_before : (R : Item → Item → Type 0) → Ordering R → (t : ℤ) (xs : List Item) (y : Item) → HasMark t xs → Each (λ x. R x y) xs → R (item.Mark t) y
mark_before R o t [] y h k = absurd h
mark_before R o t (x ∷ xs) y h k = elim h [ inl d ↦ mark_pair R o t x y d k.0 | inr d ↦ mark_before R o t xs y d k.1 ]

-- no Done came before from the queue of an item that may follow
open_if : (b c : Bool) → (c ≡ true → b ≡ false) → (xs : List Item) → has_ended xs ≡ false → (x : Item) → is_done x ≡ c → has_ended (cond b (x ∷ []) [] ++ xs) ≡ false
open_if true true h xs rest x is = absurd (let no : true ≡ false = h refl in cc)
open_if true false h xs rest x is = rw is rest
open_if false c h xs rest x is = rest

pub still_open : (came : List Arrival) (a : Arrival) → Each (λ b. MayFollow b a) came → has_ended (of_queue a.port a.queue came) ≡ false
still_open [] a h = refl
still_open (b ∷ came) a h = open_if (is_from a.port a.queue b) (is_done b.item) h.0.0 (of_queue a.port a.queue came) (still_open came a h.1) b.item refl

port_same : (p : Port) → same_port p p ≡ true
port_same Stream = refl
port_same Build = refl

pub from_own : (a : Arrival) → is_from a.port a.queue a ≡ true
from_own a =
    let e : (a.queue == a.queue) ≡ true = eq-eqb a.queue a.queue refl in
    ap (λ (b : Bool). b && (a.queue == a.queue)) (port_same a.port) ∙ e

pub own_queue : (came : List Arrival) (a : Arrival) → of_queue a.port a.queue (came ++ a ∷ []) ≡ of_queue a.port a.queue came ++ a.item ∷ []
own_queue came a = of_queue-push a.port a.queue came a ∙ ap (λ (b : Bool). of_queue a.port a.queue came ++ cond b (a.item ∷ []) []) (from_own a)

-- where no item may come after one of the stream, only build items came
all_build : (came : List Arrival) (a : Arrival) → a.port ≡ Build → Each (λ b. MayFollow b a) came → Each IsBuild came
all_build [] a is h = tt
all_build (b ∷ came) a is h = (elim (port_cases b.port) [ inl k ↦ absurd (h.0.1 k is) | inr k ↦ k ], all_build came a is h.1)

-- a mark that was told is in order with an item that comes after
after_mark : (R : Item → Item → Type 0) → Ordering R → (queues : Port → ℕ) (came : List Arrival) (a : Arrival) (t : ℤ) → InOrder queues (came ++ a ∷ []) → EachPair R (of_queue Stream a.queue (came ++ a ∷ [])) → Holds (queues Stream) came (MarkTold t) → R (item.Mark t) a.item
after_mark R o queues came a t ord pairs h =
    elim (port_cases a.port) [
      | inl is ↦
          let own : of_queue Stream a.queue (came ++ a ∷ []) ≡ of_queue Stream a.queue came ++ a.item ∷ [] = subst (λ (p : Port). of_queue p a.queue (came ++ a ∷ []) ≡ of_queue p a.queue came ++ a.item ∷ []) is (own_queue came a) in
          let still : has_ended (of_queue Stream a.queue came) ≡ false = subst (λ (p : Port). has_ended (of_queue p a.queue came) ≡ false) is (still_open came a (last_follows queues came a ord)) in
          let within : a.queue < queues Stream = subst (λ (p : Port). a.queue < queues p) is (last_inside queues came a ord) in
          let before : Each (λ x. Each (R x) (a.item ∷ [])) (of_queue Stream a.queue came) = EachPair-across R (of_queue Stream a.queue came) (a.item ∷ []) (subst (EachPair R) own pairs) in
          mark_before R o t (of_queue Stream a.queue came) a.item (h.0 a.queue within still) (Each-more (λ (x : Item). Each (R x) (a.item ∷ [])) (λ (x : Item). R x a.item) (λ x k. k.0) (of_queue Stream a.queue came) before)
      | inr is ↦ absurd (h.1 (all_build came a is (last_follows queues came a ord)))
    ]

called_each : (P : Item → Type 0) (port : Port) (q : ℕ) (x : Item) → P x → Each P (items_of (called port q x))
called_each P port q (item.Event e) h = (h, tt)
called_each P port q (item.Side s) h = (h, tt)
called_each P port q (item.Frame f) h = (h, tt)
called_each P port q (item.Row r) h = (h, tt)
called_each P port q (item.Late l) h = (h, tt)
called_each P port q item.Idle h = (h, tt)
called_each P port q (item.Mark m) h = tt
called_each P port q item.Done h = tt

tells_each : (P : Item → Type 0) (o : Option ℤ) → ((t : ℤ) → o ≡ Some t → P (item.Mark t)) → Each P (items_of (tells o))
tells_each P None h = tt
tells_each P (Some t) h = (h t refl, tt)

pub asks_each : (P : Item → Type 0) (n : ℕ) (came : List Arrival) (a : Arrival) → P a.item → ((t : ℤ) → risen (watermark n came) (watermark n (came ++ a ∷ [])) ≡ Some t → P (item.Mark t)) → Each P (items_of (asks n came a))
asks_each P n came a h k =
    let o : Option ℤ = risen (watermark n came) (watermark n (came ++ a ∷ [])) in
    subst (Each P) (sym (items_of-append (called a.port a.queue a.item) (tells o)))
    (Each-append P (items_of (called a.port a.queue a.item)) (items_of (tells o)) (called_each P a.port a.queue a.item h) (tells_each P o k))

every : (R : Item → Item → Type 0) → Ordering R → (x : Item) → IsData x → (ys : List Item) → Each (R x) ys
every R o x d [] = tt
every R o x d (y ∷ ys) = (o.free x y d, every R o x d ys)

-- data before the marks that it raises
called_pairs : (R : Item → Item → Type 0) → Ordering R → (port : Port) (q : ℕ) (x : Item) (ys : List Item) → EachPair R ys → EachPair R (items_of (called port q x) ++ ys)
called_pairs R o port q (item.Event e) ys h = (every R o (item.Event e) tt ys, h)
called_pairs R o port q (item.Side s) ys h = (every R o (item.Side s) tt ys, h)
called_pairs R o port q (item.Frame f) ys h = (every R o (item.Frame f) tt ys, h)
called_pairs R o port q (item.Row r) ys h = (every R o (item.Row r) tt ys, h)
called_pairs R o port q (item.Late l) ys h = (every R o (item.Late l) tt ys, h)
called_pairs R o port q item.Idle ys h = (every R o item.Idle tt ys, h)
called_pairs R o port q (item.Mark m) ys h = h
called_pairs R o port q item.Done ys h = h

tells_pairs : (R : Item → Item → Type 0) (o : Option ℤ) → EachPair R (items_of (tells o))
tells_pairs R None = tt
tells_pairs R (Some t) = (tt, tt)

asks_pairs : (R : Item → Item → Type 0) → Ordering R → (n : ℕ) (came : List Arrival) (a : Arrival) → EachPair R (items_of (asks n came a))
asks_pairs R o n came a =
    let u : Option ℤ = risen (watermark n came) (watermark n (came ++ a ∷ [])) in
    subst (EachPair R) (sym (items_of-append (called a.port a.queue a.item) (tells u))) (called_pairs R o a.port a.queue a.item (items_of (tells u)) (tells_pairs R u))

-- an entry before is in order with what an item asks
across_asks : (R : Item → Item → Type 0) → Ordering R → (queues : Port → ℕ) (came : List Arrival) (a : Arrival) → InOrder queues (came ++ a ∷ []) → EachPair R (of_queue Stream a.queue (came ++ a ∷ [])) → (e : CallEntry) → Holds (queues Stream) came e → Each (λ x. Each (R x) (items_of (asks (queues Stream) came a))) (entry_items e)
across_asks R o queues came a ord pairs (Given port q x) h = (every R o x h (items_of (asks (queues Stream) came a)), tt)
across_asks R o queues came a ord pairs (MarkTold t) h = (
  asks_each (R (item.Mark t)) (queues Stream) came a (after_mark R o queues came a t ord pairs h) (λ u e.
      let r = risen_is (watermark (queues Stream) came) (watermark (queues Stream) (came ++ a ∷ [])) u e in
      o.rise t u (above_when (queues Stream) t u came a (watermark (queues Stream) came) refl h.0 r.0 r.1)),
  tt,
)
across_asks R o queues came a ord pairs (QueueClosed port q) h = tt
across_asks R o queues came a ord pairs Finish h = tt

abbrev Told_in_order : (Item → Item → Type 0) → (Port → ℕ) → List Arrival → Type 0
Told_in_order R queues came = InOrder queues came → ((q : ℕ) → EachPair R (of_queue Stream q came)) → EachPair R (items_of (entries (queues Stream) came))

pairs_push : (R : Item → Item → Type 0) → Ordering R → (queues : Port → ℕ) (came : List Arrival) (a : Arrival) → Told_in_order R queues came → Told_in_order R queues (came ++ a ∷ [])
pairs_push R o queues came a ih ord pairs =
    let n : ℕ = queues Stream in
    let before : (q : ℕ) → EachPair R (of_queue Stream q came) = λ q. EachPair-front R (of_queue Stream q came) (cond (is_from Stream q a) (a.item ∷ []) []) (subst (EachPair R) (of_queue-push Stream q came a) (pairs q)) in
    let first : EachPair R (items_of (entries n came)) = ih (InOrder-front queues came (a ∷ []) ord) before in
    let across : Each (λ x. Each (R x) (items_of (asks n came a))) (items_of (entries n came)) = each_item (λ (x : Item). Each (R x) (items_of (asks n came a))) (entries n came) (Each-more (Holds n came) (λ (e : CallEntry). Each (λ x. Each (R x) (items_of (asks n came a))) (entry_items e)) (λ e h. across_asks R o queues came a ord (pairs a.queue) e h) (entries n came) (entries_hold n came)) in
    let all : EachPair R (items_of (entries n came) ++ items_of (asks n came a)) = EachPair-append R (items_of (entries n came)) (items_of (asks n came a)) first (asks_pairs R o n came a) across in
    subst (EachPair R) (sym (ap items_of (entries-push n came a) ∙ items_of-append (entries n came) (asks n came a))) all

-- where what came from each stream queue is in order, so is what the processor is told
pub told_in_order : (R : Item → Item → Type 0) → Ordering R → (queues : Port → ℕ) (came : List Arrival) → InOrder queues came → ((q : ℕ) → EachPair R (of_queue Stream q came)) → EachPair R (items_of (entries (queues Stream) came))
told_in_order R o queues came = by_pushing (Told_in_order R queues) (λ ord pairs. tt) (λ xs a ih. pairs_push R o queues xs a ih) came
