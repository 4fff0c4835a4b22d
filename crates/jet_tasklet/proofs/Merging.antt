-- Whatever the order in which items came, they are those of the queues together.
use Rattle.std.proofs.Common.{◌≡◌, ℕ, zero, suc, ◌+◌, ◌<◌, ◌≤◌, ◌==◌, ◌&&◌, Bool, true, false, cond, ℤ, List, [], ◌∷◌, ◌++◌, sum_by, refl, sym, ◌∙◌, ap, subst, append-nil, zero-add, inl, inr, arith}
use Rattle.std.specs.Prelude.{Option, Some, None, ◌⊎◌}
use Rattle.std.specs.List.{flat_map}
use Rattle.std.proofs.lemmas.List.Sums.{sum_by-append}
use Rattle.std.proofs.lemmas.List.Concat.{flat_map-append}
use Rattle.std.proofs.lemmas.Bool.Decides.{eqb_tells}
use Rattle.jet_items.specs.declared.item.Item.{Item}
use Rattle.jet_items.specs.declared.item.Item.TheVariants as item
use Rattle.jet_items.specs.Order.{Each}
use Rattle.jet_items.specs.Bag.{SameBag, all_of}
use Rattle.jet_boxes.specs.declared.port.Port.{Port}
use Rattle.jet_boxes.specs.declared.port.Port.TheVariants.{Stream, Build}
use Rattle.jet_boxes.specs.Entry.{CallEntry, items_of}
use Rattle.jet_coalescer.specs.Low.{risen}
use Rattle.jet_tasklet.specs.declared.arrival.Arrival.{Arrival}
use Rattle.jet_tasklet.specs.Trace.{same_port, is_from, of_queue, watermark, called, tells, asks, entries}
use Rattle.jet_items.specs.Kinds.{as_data, data_of}
use Rattle.jet_tasklet.proofs.Pushing.{by_pushing, entries-push, items_of-append}

pub data_append : (xs ys : List Item) → data_of (xs ++ ys) ≡ data_of xs ++ data_of ys
data_append xs ys = flat_map-append as_data xs ys

-- ---- of the entries
called_data : (port : Port) (q : ℕ) (x : Item) → data_of (items_of (called port q x)) ≡ as_data x
called_data port q (item.Event e) = refl
called_data port q (item.Side s) = refl
called_data port q (item.Frame f) = refl
called_data port q (item.Row r) = refl
called_data port q (item.Late l) = refl
called_data port q item.Idle = refl
called_data port q (item.Mark m) = refl
called_data port q item.Done = refl

tells_data : (o : Option ℤ) → data_of (items_of (tells o)) ≡ []
tells_data None = refl
tells_data (Some t) = refl

asks_data : (n : ℕ) (came : List Arrival) (a : Arrival) → data_of (items_of (asks n came a)) ≡ as_data a.item
asks_data n came a =
    let o : Option ℤ = risen (watermark n came) (watermark n (came ++ a ∷ [])) in
    ap data_of (items_of-append (called a.port a.queue a.item) (tells o)) ∙ (data_append (items_of (called a.port a.queue a.item)) (items_of (tells o))
    ∙ (ap (λ (xs : List Item). data_of (items_of (called a.port a.queue a.item)) ++ xs) (tells_data o) ∙ (append-nil (data_of (items_of (called a.port a.queue a.item))) ∙ called_data a.port a.queue a.item)))

-- the data that came, in the order in which it came
abbrev data_came : List Arrival → List Item
data_came came = flat_map (λ a. as_data a.item) came

entries_data : (n : ℕ) (came : List Arrival) → data_of (items_of (entries n came)) ≡ data_came came
entries_data n came =
    by_pushing (λ (xs : List Arrival). data_of (items_of (entries n xs)) ≡ data_came xs) refl (λ xs a ih.
    ap (λ (es : List CallEntry). data_of (items_of es)) (entries-push n xs a) ∙ (ap data_of (items_of-append (entries n xs) (asks n xs a)) ∙ (data_append (items_of (entries n xs)) (items_of (asks n xs a))
    ∙ (ap (λ (ys : List Item). data_of (items_of (entries n xs)) ++ ys) (asks_data n xs a) ∙ (ap (λ (ys : List Item). ys ++ as_data a.item) ih
    ∙ sym (flat_map-append (λ (b : Arrival). as_data b.item) xs (a ∷ []) ∙ ap (λ (ys : List Item). data_came xs ++ ys) (append-nil (as_data a.item)))))))) came

-- ---- sums over queues
abbrev pub sums : ℕ → (ℕ → ℕ) → ℕ
sums zero f = 0
sums (suc n) f = sums n f + f n

sums_none : (k c n : ℕ) → n ≤ k → sums n (λ q. cond (k == q) c 0) ≡ 0
sums_none k c zero h = refl
sums_none k c (suc n) h =
    let e : (k == n) ≡ false = elim (eqb_tells k n) [ inl d ↦ absurd (omega (arith, d.1, h)) | inr d ↦ d.0 ] in
    let ih : sums n (λ q. cond (k == q) c 0) ≡ 0 = sums_none k c n (omega arith) in
    rw e (omega (arith, ih))

sums_one : (k c n : ℕ) → k < n → sums n (λ q. cond (k == q) c 0) ≡ c
sums_one k c zero h = absurd (omega (arith, h))
sums_one k c (suc n) h =
    elim (eqb_tells k n) [
      | inl d ↦ let none : sums n (λ q. cond (k == q) c 0) ≡ 0 = sums_none k c n (omega (arith, d.1)) in rw d.0 (omega (arith, none))
      | inr d ↦ let ih : sums n (λ q. cond (k == q) c 0) ≡ c = sums_one k c n (omega (arith, d.1, h)) in rw d.0 (omega (arith, ih))
    ]

sums_add : (n : ℕ) (f g : ℕ → ℕ) → sums n (λ q. f q + g q) ≡ sums n f + sums n g
sums_add zero f g = refl
sums_add (suc n) f g = omega (arith, sums_add n f g)

pub sums_same : (n : ℕ) (f g : ℕ → ℕ) → ((q : ℕ) → f q ≡ g q) → sums n f ≡ sums n g
sums_same zero f g h = refl
sums_same (suc n) f g h = omega (arith, sums_same n f g h, h n)

pub sums_zero : (n : ℕ) → sums n (λ q. 0) ≡ 0
sums_zero zero = refl
sums_zero (suc n) = omega (arith, sums_zero n)

pub sum_by-all_of : {X : Type 0} (v : X → ℕ) (n : ℕ) (f : ℕ → List X) → sum_by v (all_of n f) ≡ sums n (λ q. sum_by v (f q))
sum_by-all_of v zero f = refl
sum_by-all_of v (suc n) f = sum_by-append v (all_of n f) (f n) ∙ ap (λ m. m + sum_by v (f n)) (sum_by-all_of v n f)

abbrev pub weight : (Item → ℕ) → List Item → ℕ
weight v xs = sum_by v (data_of xs)

weight_at : (v : Item → ℕ) (b : Bool) (x : Item) (rest : List Item) → weight v (cond b (x ∷ []) [] ++ rest) ≡ cond b (sum_by v (as_data x)) 0 + weight v rest
weight_at v true x rest = sum_by-append v (as_data x) (data_of rest)
weight_at v false x rest = sym (zero-add (weight v rest))

abbrev pub total : (Item → ℕ) → Port → ℕ → List Arrival → ℕ
total v port n came = sums n (λ q. weight v (of_queue port q came))

-- one item more counts for its own port alone
pub total_next : (v : Item → ℕ) (port : Port) (n : ℕ) (a : Arrival) (came : List Arrival) → total v port n (a ∷ came) ≡ sums n (λ q. cond (is_from port q a) (sum_by v (as_data a.item)) 0) + total v port n came
total_next v port n a came =
    let c : ℕ = sum_by v (as_data a.item) in
    sums_same n (λ q. weight v (of_queue port q (a ∷ came))) (λ q. cond (is_from port q a) c 0 + weight v (of_queue port q came)) (λ q. weight_at v (is_from port q a) a.item (of_queue port q came))
    ∙ sums_add n (λ q. cond (is_from port q a) c 0) (λ q. weight v (of_queue port q came))

pub own_total : (port : Port) (n c : ℕ) (a : Arrival) → same_port a.port port ≡ true → a.queue < n → sums n (λ q. cond (is_from port q a) c 0) ≡ c
own_total port n c a is lt =
    sums_same n (λ q. cond (is_from port q a) c 0) (λ q. cond (a.queue == q) c 0) (λ q. ap (λ (b : Bool). cond (b && (a.queue == q)) c 0) is) ∙ sums_one a.queue c n lt

pub other_total : (port : Port) (n c : ℕ) (a : Arrival) → same_port a.port port ≡ false → sums n (λ q. cond (is_from port q a) c 0) ≡ 0
other_total port n c a is =
    sums_same n (λ q. cond (is_from port q a) c 0) (λ q. 0) (λ q. ap (λ (b : Bool). cond (b && (a.queue == q)) c 0) is) ∙ sums_zero n

port_cases : (p : Port) → (p ≡ Stream) ⊎ (p ≡ Build)
port_cases Stream = inl refl
port_cases Build = inr refl

merge_weight : (v : Item → ℕ) (queues : Port → ℕ) (came : List Arrival) → Each (λ a. a.queue < queues a.port) came → sum_by v (data_came came) ≡ total v Stream (queues Stream) came + total v Build (queues Build) came
merge_weight v queues [] h = omega (arith, sums_zero (queues Stream), sums_zero (queues Build))
merge_weight v queues (a ∷ came) h =
    let c : ℕ = sum_by v (as_data a.item) in
    let ih : sum_by v (data_came came) ≡ total v Stream (queues Stream) came + total v Build (queues Build) came = merge_weight v queues came h.1 in
    let front : sum_by v (data_came (a ∷ came)) ≡ c + sum_by v (data_came came) = sum_by-append v (as_data a.item) (data_came came) in
    let s = total_next v Stream (queues Stream) a came in
    let b = total_next v Build (queues Build) a came in
    elim (port_cases a.port) [
      | inl is ↦
          let own : sums (queues Stream) (λ q. cond (is_from Stream q a) c 0) ≡ c = own_total Stream (queues Stream) c a (ap (λ (p : Port). same_port p Stream) is) (subst (λ (p : Port). a.queue < queues p) is h.0) in
          let other : sums (queues Build) (λ q. cond (is_from Build q a) c 0) ≡ 0 = other_total Build (queues Build) c a (ap (λ (p : Port). same_port p Build) is) in
          omega (arith, ih, front, s, b, own, other)
      | inr is ↦
          let own : sums (queues Build) (λ q. cond (is_from Build q a) c 0) ≡ c = own_total Build (queues Build) c a (ap (λ (p : Port). same_port p Build) is) (subst (λ (p : Port). a.queue < queues p) is h.0) in
          let other : sums (queues Stream) (λ q. cond (is_from Stream q a) c 0) ≡ 0 = other_total Stream (queues Stream) c a (ap (λ (p : Port). same_port p Stream) is) in
          omega (arith, ih, front, s, b, own, other)
    ]

-- the data that the processor was told is that of all queues
pub merge_bag : (queues : Port → ℕ) (n : ℕ) (came : List Arrival) → Each (λ a. a.queue < queues a.port) came → SameBag (data_of (items_of (entries n came))) (all_of (queues Stream) (λ q. data_of (of_queue Stream q came)) ++ all_of (queues Build) (λ q. data_of (of_queue Build q came)))
merge_bag queues n came h = record {
  weighs = λ v.
      ap (sum_by v) (entries_data n came) ∙ (merge_weight v queues came h ∙ sym (sum_by-append v (all_of (queues Stream) (λ q. data_of (of_queue Stream q came))) (all_of (queues Build) (λ q. data_of (of_queue Build q came)))
      ∙ (ap (λ m. m + sum_by v (all_of (queues Build) (λ q. data_of (of_queue Build q came)))) (sum_by-all_of v (queues Stream) (λ q. data_of (of_queue Stream q came)))
      ∙ ap (λ m. total v Stream (queues Stream) came + m) (sum_by-all_of v (queues Build) (λ q. data_of (of_queue Build q came))))));
}
