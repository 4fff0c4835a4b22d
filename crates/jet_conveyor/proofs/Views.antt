-- Views of a conveyor.
use Rattle.std.proofs.Common.{◌≡◌, ◌≢◌, ℕ, zero, suc, ◌<◌, ◌≤◌, List, [], ◌∷◌, ◌++◌, map, get_or, length, Bool, true, false, All, refl, sym, ◌∙◌, ap, subst, inl, inr, arith, append_assoc}
use Rattle.std.specs.Prelude.{Option, Some, None, IfSome, IfNone}
use Rattle.std.proofs.lemmas.Bool.{cases_eq}
use Rattle.std.proofs.lemmas.List.{get_or-set_same, get_or-set_other, get_or-replicate, length-map, append-nil}
use Rattle.std.proofs.lemmas.List.Elements.{All-append, All-cons, All-nil, All-head, All-tail}
use mathlib.Core.List.{IsPrefix}
use Rattle.jet_items.specs.declared.item.Item.{Item}
use Rattle.jet_items.specs.Done.{is_done}
use Rattle.jet_ring.specs.Ring as ring
use Rattle.jet_ring.proofs.Lists.{prefix_trans}
use Rattle.jet_ring.specs.declared.ends.Rx.{Rx}
use Rattle.jet_conveyor.specs.declared.conveyor.Conveyor.{Conveyor}
use Rattle.jet_conveyor.specs.Conveyor.{View, view, TookFrom, IsNew, HasItem, Found, Refreshed, NoneKnown, SeesMore, IsClosed, EndsIn, received_at, known_at, is_done_at}

-- views with the same parts are the same
pub same_view : {a b : View} → b.rings ≡ a.rings → b.received ≡ a.received → b.known ≡ a.known → b.done ≡ a.done → b.cursor ≡ a.cursor → b ≡ a
same_view {a} {b} r v k d c =
    ap (λ x. record { rings = x; received = b.received; known = b.known; done = b.done; cursor = b.cursor }) r
    ∙ ap (λ x. record { rings = a.rings; received = x; known = b.known; done = b.done; cursor = b.cursor }) v
    ∙ ap (λ x. record { rings = a.rings; received = a.received; known = x; done = b.done; cursor = b.cursor }) k
    ∙ ap (λ x. record { rings = a.rings; received = a.received; known = a.known; done = x; cursor = b.cursor }) d
    ∙ ap (λ x. record { rings = a.rings; received = a.received; known = a.known; done = a.done; cursor = x }) c

-- where nothing changed, nothing is forgotten
pub sees_same : (a b : View) → b ≡ a → SeesMore a b
sees_same a b e = let P : View → Type 0 = λ v. SeesMore v b in subst P e (λ k. ([], append-nil (received_at b k ++ known_at b k)))

-- a list, of which the front moved by one
front_moved : (r known rest : List Item) (x : Item) → IsPrefix known (x ∷ rest) → IsPrefix (r ++ known) ((r ++ x ∷ []) ++ rest)
front_moved r known rest x p =
    (p.0, append_assoc r known p.0 ∙ ap (λ w. r ++ w) p.1 ∙ sym (append_assoc r (x ∷ []) rest))

-- a queue that stayed as it was
kept_there : (a b : View) (k : ℕ) → received_at b k ≡ received_at a k → known_at b k ≡ known_at a k
    → IsPrefix (received_at a k ++ known_at a k) (received_at b k ++ known_at b k)
kept_there a b k r h =
    ([], append-nil (received_at a k ++ known_at a k) ∙ ap (λ w. w ++ known_at a k) (sym r) ∙ ap (λ w. received_at b k ++ w) (sym h))

-- after a meeting of the queue q
pub sees_refreshed : (a b : View) (q : ℕ) → Refreshed a b q → IsPrefix (received_at a q ++ known_at a q) (received_at b q ++ known_at b q) → SeesMore a b
sees_refreshed a b q r p k = elim (cases_eq k q) as (λ _. IsPrefix (received_at a k ++ known_at a k) (received_at b k ++ known_at b k)) [
  | inl e ↦ let P : ℕ → Type 0 = λ i. IsPrefix (received_at a i ++ known_at a i) (received_at b i ++ known_at b i) in subst P (sym e) p
  | inr ne ↦ kept_there a b k (ap (λ l. get_or l k []) r.received) (r.others k ne)
]

-- after a look
pub sees_found : (a b : View) (q : ℕ) → Found a b q → SeesMore a b
sees_found a b q f =
    let r : received_at b q ≡ received_at a q = ap (λ l. get_or l q []) f.same.received in
    sees_refreshed a b q f.same
    (f.known.0, append_assoc (received_at a q) (known_at a q) f.known.0 ∙ (ap (λ w. received_at a q ++ w) f.known.1 ∙ ap (λ w. w ++ known_at b q) (sym r)))

pub sees_trans : (a b c : View) → SeesMore a b → SeesMore b c → SeesMore a c
sees_trans a b c f g k = prefix_trans (received_at a k ++ known_at a k) (received_at b k ++ known_at b k) (received_at c k ++ known_at c k) (f k) (g k)

-- items without a Done, and one more
ends_more : (b : Bool) (r : List Item) (x : Item) → is_done x ≡ b → All (λ y. is_done y ≡ false) r → EndsIn b (r ++ x ∷ [])
ends_more false r x e none =
    All-append (λ (y : Item). is_done y ≡ false) r (x ∷ []) none
    (All-cons (λ (y : Item). is_done y ≡ false) x [] e (All-nil (λ (y : Item). is_done y ≡ false)))
ends_more true r x e none = (r, x, refl, e, none)

module _ (a b : View) (q : ℕ) (x : Item) (t : TookFrom a b q x) (lt : q < length a.received) where
  received_here : received_at b q ≡ received_at a q ++ x ∷ []
  received_here = ap (λ l. get_or l q []) t.received ∙ get_or-set_same a.received q (received_at a q ++ x ∷ []) [] lt

  received_there : (k : ℕ) → k ≢ q → received_at b k ≡ received_at a k
  received_there k ne = ap (λ l. get_or l k []) t.received ∙ get_or-set_other a.received q k (received_at a q ++ x ∷ []) [] ne

  pub sees_took : SeesMore a b
  sees_took k = elim (cases_eq k q) as (λ _. IsPrefix (received_at a k ++ known_at a k) (received_at b k ++ known_at b k)) [
    | inl e ↦
        let P : ℕ → Type 0 = λ i. IsPrefix (received_at a i ++ known_at a i) (received_at b i ++ known_at b i) in
        let Q : List Item → Type 0 = λ w. IsPrefix (received_at a q ++ known_at a q) (w ++ known_at b q) in
        subst P (sym e) (subst Q (sym received_here) (front_moved (received_at a q) (known_at a q) (known_at b q) x t.known))
    | inr ne ↦ kept_there a b k (received_there k ne) (t.others k ne)
  ]

  pub closed_took : q < length a.done → IsClosed a → IsClosed b
  closed_took ld h k within =
      let here : k < length a.rings = subst (λ (l : List ring.Ring). k < length l) t.rings within in
      elim (cases_eq k q) as (λ _. EndsIn (is_done_at b k) (received_at b k)) [
        | inl e ↦
            let P : ℕ → Type 0 = λ i. EndsIn (is_done_at b i) (received_at b i) in
            let none : All (λ (y : Item). is_done y ≡ false) (received_at a q) =
            subst (λ d. EndsIn d (received_at a q)) t.was_open (h q (subst (λ (i : ℕ). i < length a.rings) e here)) in
            let done : is_done_at b q ≡ is_done x = ap (λ l. get_or l q true) t.done ∙ get_or-set_same a.done q (is_done x) true ld in
            subst P (sym e)
            (subst (λ d. EndsIn d (received_at b q)) (sym done)
            (subst (λ w. EndsIn (is_done x) w) (sym received_here) (ends_more (is_done x) (received_at a q) x refl none)))
        | inr ne ↦
            let done : is_done_at b k ≡ is_done_at a k = ap (λ l. get_or l k true) t.done ∙ get_or-set_other a.done q k (is_done x) true ne in
            subst (λ d. EndsIn d (received_at b k)) (sym done) (subst (λ w. EndsIn (is_done_at a k) w) (sym (received_there k ne)) (h k here))
      ]

nothing : (queues : List (Rx Item)) (k : ℕ) → All (λ rx. ring.received rx ≡ []) queues → get_or (map (ring.received {T = Item}) queues) k [] ≡ []
nothing [] k h = refl
nothing (c ∷ cs) zero h = All-head (λ (rx : Rx Item). ring.received rx ≡ []) c cs h
nothing (c ∷ cs) (suc k) h = nothing cs k (All-tail (λ (rx : Rx Item). ring.received rx ≡ []) c cs h)

-- over ends that have received nothing
pub closed_new : (v : View) (queues : List (Rx Item)) → IsNew v queues → All (λ rx. ring.received rx ≡ []) queues → IsClosed v
closed_new v queues n none k within =
    let rings : k < length (map (ring.rx_ring {T = Item}) queues) = subst (λ (l : List ring.Ring). k < length l) n.rings within in
    let count = length-map queues (ring.rx_ring {T = Item}) in
    let lt : k < length queues = omega (arith, count, rings) in
    let done : is_done_at v k ≡ false = ap (λ l. get_or l k true) n.done ∙ get_or-replicate (length queues) k false true lt in
    let empty : received_at v k ≡ [] = ap (λ l. get_or l k []) n.received ∙ nothing queues k none in
    subst (λ d. EndsIn d (received_at v k)) (sym done) (subst (λ w. EndsIn false w) (sym empty) (All-nil (λ (y : Item). is_done y ≡ false)))

-- the parts of a conveyor's view are as long as the list of its rings
pub inside_received : (c : Conveyor) (q : ℕ) → q < length (view c).rings → q < length (view c).received
inside_received c q lt =
    let r = length-map c.queues.items (ring.rx_ring {T = Item}) in
    let s = length-map c.queues.items (ring.received {T = Item}) in
    omega (arith, r, s, lt)

pub inside_done : (c : Conveyor) (q : ℕ) → q < length (view c).rings → q < length (view c).done
inside_done c q lt = let r = length-map c.queues.items (ring.rx_ring {T = Item}) in omega (arith, r, lt, c.one_each)

within_at : (xs : List (List Item)) (q : ℕ) → 0 < length (get_or xs q []) → q < length xs
within_at [] q h = absurd (omega (arith, h))
within_at (x ∷ xs) zero h = omega arith
within_at (x ∷ xs) (suc q) h = let rest = within_at xs q h in omega (arith, rest)

-- a queue of which an item is known is one of the queues
pub has_queue : (c : Conveyor) (q : ℕ) → HasItem (view c) q → q < length (view c).rings
has_queue c q h =
    let some = within_at (view c).known q h.some in
    let r = length-map c.queues.items (ring.rx_ring {T = Item}) in
    let k = length-map c.queues.items (ring.known_items {T = Item}) in
    omega (arith, some, r, k)

-- the default of a read within the list does not count
pub open_at : (ds : List Bool) (q : ℕ) (d : Bool) → q < length ds → d ≡ get_or ds q d → d ≡ false → get_or ds q true ≡ false
open_at [] q d lt is off = absurd (omega (arith, lt))
open_at (e ∷ ds) zero d lt is off = sym is ∙ off
open_at (e ∷ ds) (suc q) d lt is off = open_at ds q d (omega (arith, lt)) is off

-- after a look at a span of queues, whatever it gave
pub sees_span : (r : Option ℕ) (a b c : View) (from to : ℕ) → b ≡ a → IfSome r (λ q. (from ≤ q) × (q < to) × Found b c q × NoneKnown b from q) → IfNone r ((c ≡ b) × NoneKnown b from to) → SeesMore a c
sees_span (Some q) a b c from to e f n = subst (λ v. SeesMore v c) e (sees_found b c q f.2)
sees_span None a b c from to e f n = sees_same a c (n.0 ∙ e)

-- two first items are the same
pub same_head : (x y : Item) (xs : List Item) → IsPrefix (x ∷ []) xs → IsPrefix (y ∷ []) xs → x ≡ y
same_head x y xs f g = cc (f.1, g.1)
