-- Items that are taken of the queues of a conveyor.
use Rattle.std.proofs.Common.{◌≡◌, ◌≢◌, ◌<◌, ℕ, ℤ, zero, suc, eqb, Bool, true, false, cond, List, [], ◌∷◌, ◌++◌, length, map, set, get_or, replicate, refl, sym, ◌∙◌, ap, subst, append-nil, append_assoc}
use Rattle.std.specs.Prelude.{slice_index_or}
use Rattle.std.proofs.lemmas.Bool.{eqb-true, eq-eqb}
use Rattle.std.proofs.lemmas.List.{length-map, length-set, length-replicate, get_or-set_same, get_or-set_other, get_or-map, set-get_or, map-set}
use Rattle.std.proofs.lemmas.List.Concat.{flat_map-append}
use mathlib.Core.List.{IsPrefix}
use Rattle.jet_coalescer.specs.Queues.{unknown, is_done_at, marked, ended, with_queue_mark, with_queue_done}
use Rattle.jet_coalescer.specs.View as coalescer
use Rattle.jet_coalescer.specs.declared.queue.Queue.{Queue}
use Rattle.jet_conveyor.specs.Conveyor as conveyor
use Rattle.jet_items.specs.Done.{is_done}
use Rattle.jet_items.specs.declared.item.Item.{Item}
use Rattle.jet_items.specs.declared.item.Item.TheVariants as item
use Rattle.jet_ring.specs.Ring as ring
use Rattle.jet_ring.specs.declared.ends.Rx.{Rx}
use Rattle.jet_sink.specs.Alike.{AreAlike}
use Rattle.jet_sink.specs.Taken.{TakenItem, item_from, items_from, HasTaken}
use Rattle.jet_sink.proofs.Noting.{one}

prefix_refl : (xs : List Item) → IsPrefix xs xs
prefix_refl xs = ([], append-nil xs)

prefix_trans : (xs ys zs : List Item) → IsPrefix xs ys → IsPrefix ys zs → IsPrefix xs zs
prefix_trans xs ys zs p q = (p.0 ++ q.0, sym (append_assoc xs p.0 q.0) ∙ (ap (λ (w : List Item). w ++ q.0) p.1 ∙ q.1))

pub none_taken : (v : conveyor.View) → HasTaken [] v v
none_taken v = record {
  rings = refl;
  received = λ q. sym (append-nil (conveyor.received_at v q));
  seen = λ q. prefix_refl (conveyor.received_at v q ++ conveyor.known_at v q);
}

pub taken_trans : (t u : List TakenItem) (a b c : conveyor.View) → HasTaken t a b → HasTaken u b c → HasTaken (t ++ u) a c
taken_trans t u a b c h k = record {
  rings = k.rings ∙ h.rings;
  received = λ q. k.received q
      ∙ (ap (λ (xs : List Item). xs ++ items_from q u) (h.received q)
      ∙ (append_assoc (conveyor.received_at a q) (items_from q t) (items_from q u) ∙ ap (λ (xs : List Item). conveyor.received_at a q ++ xs) (sym (flat_map-append (item_from q) t u))));
  seen = λ q. prefix_trans (conveyor.received_at a q ++ conveyor.known_at a q) (conveyor.received_at b q ++ conveyor.known_at b q) (conveyor.received_at c q ++ conveyor.known_at c q) (h.seen q) (k.seen q);
}

-- ---- one item

abbrev from_if : Bool → Item → List Item
from_if b x = cond b (x ∷ []) []

differs : (k q : ℕ) → eqb q k ≡ false → k ≢ q
differs k q h e = let same : eqb q k ≡ true = eq-eqb q k (sym e) in absurd (cc (same, h))

received_if : (a b : conveyor.View) (q k : ℕ) (x : Item) (same : Bool) → eqb q k ≡ same → q < length a.received → b.received ≡ set a.received q (conveyor.received_at a q ++ x ∷ [])
    → conveyor.received_at b k ≡ conveyor.received_at a k ++ from_if same x
received_if a b q k x true is inside h =
    let e : q ≡ k = eqb-true q k is in
    subst (λ (i : ℕ). conveyor.received_at b i ≡ conveyor.received_at a i ++ x ∷ []) e
    (ap (λ (rs : List (List Item)). get_or rs q []) h ∙ get_or-set_same a.received q (conveyor.received_at a q ++ x ∷ []) [] inside)
received_if a b q k x false is inside h =
    ap (λ (rs : List (List Item)). get_or rs k []) h ∙ (get_or-set_other a.received q k (conveyor.received_at a q ++ x ∷ []) [] (differs k q is) ∙ sym (append-nil (conveyor.received_at a k)))

pub one_taken : (qs : List Queue) (a b : conveyor.View) (q : ℕ) (x : Item) → AreAlike qs a → q < length a.rings → conveyor.TookFrom a b q x → conveyor.SeesMore a b → HasTaken (one q x) a b
one_taken qs a b q x alike inside took seen =
    let within : q < length a.received = subst (λ (n : ℕ). q < n) (sym alike.lists) inside in
    record {
      rings = took.rings;
      received = λ k. received_if a b q k x (eqb q k) refl within took.received ∙ ap (λ (xs : List Item). conveyor.received_at a k ++ xs) (sym (append-nil (from_if (eqb q k) x)));
      seen = seen;
    }

-- ---- the sink's queues and the conveyor's

abbrev pub done_of : Queue → Bool
done_of queue = queue.done

pub alike_inside : (qs : List Queue) (a : conveyor.View) (q : ℕ) → AreAlike qs a → q < length a.rings → q < length qs
alike_inside qs a q alike inside = subst (λ (n : ℕ). q < n) (sym alike.count) inside

pub alike_open : (c : coalescer.View) (a : conveyor.View) (q : ℕ) → AreAlike c.queues a → q < length a.rings → conveyor.is_done_at a q ≡ false → is_done_at c q ≡ false
alike_open c a q alike inside is_open =
    sym (get_or-map done_of c.queues q unknown true (alike_inside c.queues a q alike inside)) ∙ (ap (λ (ds : List Bool). get_or ds q true) alike.done ∙ is_open)

pub alike_took : (qs ps : List Queue) (a b : conveyor.View) (q : ℕ) (x : Item) → AreAlike qs a → conveyor.TookFrom a b q x → map done_of ps ≡ set (map done_of qs) q (is_done x) → AreAlike ps b
alike_took qs ps a b q x alike took done = record {
  count = sym (length-map ps done_of) ∙ (ap length done ∙ (length-set (map done_of qs) q (is_done x) ∙ (length-map qs done_of ∙ (alike.count ∙ ap length (sym took.rings)))));
  lists = ap length took.received ∙ (length-set a.received q (conveyor.received_at a q ++ x ∷ []) ∙ (alike.lists ∙ ap length (sym took.rings)));
  done = done ∙ (ap (λ (ds : List Bool). set ds q (is_done x)) alike.done ∙ sym took.done);
}

-- which queues are done, after an item that ends none, a mark, and an end
pub done_same : (qs : List Queue) (q : ℕ) (x : Item) → q < length qs → done_of (slice_index_or qs q unknown) ≡ false → is_done x ≡ false → map done_of qs ≡ set (map done_of qs) q (is_done x)
done_same qs q x inside is_open none =
    let at : get_or (map done_of qs) q true ≡ false = get_or-map done_of qs q unknown true inside ∙ is_open in
    sym (ap (λ (d : Bool). set (map done_of qs) q d) (none ∙ sym at) ∙ set-get_or (map done_of qs) q true)

pub done_marked : (qs ps : List Queue) (q : ℕ) (t : ℤ) (x : Item) → ps ≡ marked qs q t → done_of (slice_index_or qs q unknown) ≡ false → is_done x ≡ false → map done_of ps ≡ set (map done_of qs) q (is_done x)
done_marked qs ps q t x is is_open none =
    ap (map done_of) is ∙ (map-set done_of qs q (with_queue_mark t (slice_index_or qs q unknown)) ∙ ap (λ (d : Bool). set (map done_of qs) q d) (is_open ∙ sym none))

pub done_ended : (qs ps : List Queue) (q : ℕ) (x : Item) → ps ≡ ended qs q → is_done x ≡ true → map done_of ps ≡ set (map done_of qs) q (is_done x)
done_ended qs ps q x is last =
    ap (map done_of) is ∙ (map-set done_of qs q (with_queue_done (slice_index_or qs q unknown)) ∙ ap (λ (d : Bool). set (map done_of qs) q d) (sym last))

pub not_done : (x : Item) → (x ≡ item.Done → ⊥) → is_done x ≡ false
not_done (item.Event e) h = refl
not_done (item.Side s) h = refl
not_done (item.Frame f) h = refl
not_done (item.Row r) h = refl
not_done (item.Late l) h = refl
not_done item.Idle h = refl
not_done (item.Mark m) h = refl
not_done item.Done h = absurd (h refl)

map_replicate : {X Y : Type 0} (f : X → Y) (n : ℕ) (x : X) → map f (replicate n x) ≡ replicate n (f x)
map_replicate f zero x = refl
map_replicate f (suc n) x = ap (λ ys. f x ∷ ys) (map_replicate f n x)

pub alike_new : (n : ℕ) (v : conveyor.View) (rings : List (Rx Item)) → conveyor.IsNew v rings → length rings ≡ n → AreAlike (replicate n unknown) v
alike_new n v rings new is =
    let count : length v.rings ≡ n = ap length new.rings ∙ (length-map rings ring.rx_ring ∙ is) in record {
      count = length-replicate n unknown ∙ sym count;
      lists = ap length new.received ∙ (length-map rings ring.received ∙ (is ∙ sym count));
      done = map_replicate done_of n unknown ∙ (ap (λ (k : ℕ). replicate k false) (sym is) ∙ sym new.done);
    }

-- ---- one poll that gave an item

pub polled_one : (qs : List Queue) (a b : conveyor.View) (q : ℕ) (x : Item) → AreAlike qs a → (q < length a.rings) × conveyor.TookFrom a b q x → conveyor.SeesMore a b → HasTaken (one q x) a b
polled_one qs a b q x alike (inside, took) seen = one_taken qs a b q x alike inside took seen
