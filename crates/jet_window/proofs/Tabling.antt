-- What a table brings after an accumulator was joined in.
use Rattle.std.proofs.Common.{◌≡◌, ℕ, ◌+◌, ◌≤◌, length, Bool, true, false, cond, ℤ, ◌<ℤ◌, List, [], ◌∷◌, refl, sym, ◌∙◌, ap, arith, Option, Some, None}
use Rattle.std.specs.Prelude.{int_lt}
use Rattle.std.specs.Map.{lookup}
use Rattle.std.specs.BTreeMap.{insert_entry, is_at}
use Rattle.std.specs.Cmp.{IsTotalOrder}
use Rattle.std.specs.Cmp.Lexicographic.{slice_cmp}
use Rattle.std.specs.Cmp.Lexicographic.{nat_list_cmp_total}
use Rattle.std.specs.declared.cmp.Ordering.{Ordering}
use Rattle.std.specs.declared.cmp.Ordering.TheVariants.{Less, Equal, Greater}
use Rattle.std.specs.Ordering.{is_eq, match_ordering, ordering_reverse, ordering_then, int_cmp, nat_cmp}
use Rattle.std.proofs.lemmas.Cmp.{then_total, on_total, int_cmp_total}
use Rattle.std.proofs.lemmas.Slice.Eq.{bytes_eq-Decides}
use Rattle.std.proofs.lemmas.Map.Text.{is_eq-slice_cmp}
use Rattle.jet_items.specs.Values.{AccValue}
use Rattle.jet_items.specs.Totals.{joined, both, total}
use Rattle.jet_items.specs.Frames.{only}
use Rattle.jet_items.specs.Order.{Each, EachPair}
use Rattle.jet_items.proofs.Orders.{Each-more}
use Rattle.jet_items.proofs.Totaling.{joined_comm, both_swap, both_assoc}
use Rattle.std.proofs.lemmas.Int.{ints, by_lt_z}
use Rattle.jet_items.proofs.Covering.{Decides-int_lt, not_so}
use Rattle.jet_window.specs.Tables.{Place, place_cmp}
use Rattle.jet_window.specs.FrameTables.{Table, Ordered, with_acc, joined_in}

-- keys rise
abbrev pub OrderedBy : {K : Type 0} → (K → K → Ordering) → List (K × AccValue) → Type 0
OrderedBy {K} cmp table = EachPair (λ (f g : K × AccValue). cmp f.0 g.0 ≡ Less) table

pub place_total : IsTotalOrder place_cmp
place_total = then_total (on_total (λ (p : Place). p.0) int_cmp_total) (on_total (λ (p : Place). p.1) nat_list_cmp_total)

then_equal : (a b : Ordering) → ordering_then a b ≡ Equal → (a ≡ Equal) × (b ≡ Equal)
then_equal Less b h = absurd (cc)
then_equal Equal b h = (refl, h)
then_equal Greater b h = absurd (cc)

int_equal_if : (x y : ℤ) (lt gt : Bool) → int_lt x y ≡ lt → int_lt y x ≡ gt → cond lt Less (cond gt Greater Equal) ≡ Equal → x ≡ y
int_equal_if x y true gt e f h = absurd (cc)
int_equal_if x y false true e f h = absurd (cc)
int_equal_if x y false false e f h =
    let a : (x <ℤ y) → ⊥ = not_so (int_lt x y) (Decides-int_lt x y) e in
    let b : (y <ℤ x) → ⊥ = not_so (int_lt y x) (Decides-int_lt y x) f in
    by_lt_z x y (λ lt. absurd (a lt)) (λ le. by_lt_z y x (λ gt. absurd (b gt)) (λ ge. omega (arith, ints)))

pub int_cmp_equal : (x y : ℤ) → int_cmp x y ≡ Equal → x ≡ y
int_cmp_equal x y h = int_equal_if x y (int_lt x y) (int_lt y x) refl refl h

pub place_equal : (x y : Place) → place_cmp x y ≡ Equal → x ≡ y
place_equal x y h =
    let p = then_equal (int_cmp x.0 y.0) (slice_cmp nat_cmp x.1 y.1) h in
    let a : x.0 ≡ y.0 = int_cmp_equal x.0 y.0 p.0 in
    let b : x.1 ≡ y.1 = (bytes_eq-Decides x.1 y.1).0 (sym (is_eq-slice_cmp x.1 y.1) ∙ ap is_eq p.1) in
    ap (λ (z : ℤ). (z, x.1)) a ∙ ap (λ (k : List ℕ). (y.0, k)) b

-- one entry more at most
length_insert_if : {K : Type 0} (o : Ordering) (k : K) (v : AccValue) (e : K × AccValue) (es more : List (K × AccValue)) → length more ≤ length es + 1
    → length (match_ordering o ((k, v) ∷ e ∷ es) ((e.0, v) ∷ es) (e ∷ more)) ≤ length (e ∷ es) + 1
length_insert_if Less k v e es more h = omega arith
length_insert_if Equal k v e es more h = omega arith
length_insert_if Greater k v e es more h = omega (arith, h)

pub length_insert : {K : Type 0} (cmp : K → K → Ordering) (k : K) (v : AccValue) (es : List (K × AccValue)) → length (insert_entry cmp es k v) ≤ length es + 1
length_insert cmp k v [] = omega arith
length_insert cmp k v (e ∷ es) = length_insert_if (cmp k e.0) k v e es (insert_entry cmp es k v) (length_insert cmp k v es)

module _ {K : Type 0} (cmp : K → K → Ordering) (total_order : IsTotalOrder cmp) (equal : (x y : K) → cmp x y ≡ Equal → x ≡ y) where
  pub none_found : (k : K) (es : List (K × AccValue)) → Each (λ (f : K × AccValue). cmp k f.0 ≡ Less) es → lookup (is_at (cmp k)) es ≡ None
  none_found k [] h = refl
  none_found k (e ∷ es) h = let here : cmp k e.0 ≡ Less = h.0 in rw here (none_found k es h.1)

  -- the elements of a table bring by their place
  abbrev by_place : (K → Bool) → K × AccValue → Option AccValue
  by_place p f = only (p f.0) f.1

  equal_share : (b : Bool) (c a : AccValue) (t : Option AccValue) → both (only b (joined c a)) t ≡ both (only b a) (both (only b c) t)
  equal_share true c a t = ap (λ x. both (Some x) t) (joined_comm c a) ∙ both_assoc (Some a) (Some c) t
  equal_share false c a t = refl

  insert_if : (p : K → Bool) (k : K) (a : AccValue) (e : K × AccValue) (es : List (K × AccValue)) (o : Ordering) → cmp k e.0 ≡ o → OrderedBy cmp (e ∷ es)
      → total (by_place p) (insert_entry cmp es k (with_acc (lookup (is_at (cmp k)) es) a)) ≡ both (only (p k) a) (total (by_place p) es)
      → let acc : AccValue = with_acc (cond (is_eq o) (Some e.1) (lookup (is_at (cmp k)) es)) a in
      total (by_place p) (match_ordering o ((k, acc) ∷ e ∷ es) ((e.0, acc) ∷ es) (e ∷ insert_entry cmp es k acc)) ≡ both (only (p k) a) (total (by_place p) (e ∷ es))
  insert_if p k a e es Less is h ih =
      let none : lookup (is_at (cmp k)) es ≡ None = none_found k es (Each-more (λ (f : K × AccValue). cmp e.0 f.0 ≡ Less) (λ (f : K × AccValue). cmp k f.0 ≡ Less) (λ f m. total_order.trans k e.0 f.0 is m) es h.0) in
      rw none refl
  insert_if p k a e es Equal is h ih =
      let same : p e.0 ≡ p k = ap p (sym (equal k e.0 is)) in
      rw same (equal_share (p k) e.1 a (total (by_place p) es))
  insert_if p k a e es Greater is h ih = ap (both (only (p e.0) e.1)) ih ∙ both_swap (only (p e.0) e.1) (only (p k) a) (total (by_place p) es)

  -- a table brings what it brought, and what was joined in
  pub total-insert : (p : K → Bool) (k : K) (a : AccValue) (es : List (K × AccValue)) → OrderedBy cmp es → total (λ (f : K × AccValue). only (p f.0) f.1) (insert_entry cmp es k (with_acc (lookup (is_at (cmp k)) es) a)) ≡ both (only (p k) a) (total (λ (f : K × AccValue). only (p f.0) f.1) es)
  total-insert p k a [] h = refl
  total-insert p k a (e ∷ es) h = insert_if p k a e es (cmp k e.0) refl h (total-insert p k a es h.1)

  each_insert_if : (P : K → Type 0) (k : K) (v : AccValue) (e : K × AccValue) (es rest : List (K × AccValue)) (o : Ordering) → Each (λ f. P f.0) (e ∷ es) → P k → Each (λ f. P f.0) rest → Each (λ f. P f.0) (match_ordering o ((k, v) ∷ e ∷ es) ((e.0, v) ∷ es) (e ∷ rest))
  each_insert_if P k v e es rest Less h p r = (p, h)
  each_insert_if P k v e es rest Equal h p r = (h.0, h.1)
  each_insert_if P k v e es rest Greater h p r = (h.0, r)

  pub each_insert : (P : K → Type 0) (k : K) (v : AccValue) (es : List (K × AccValue)) → Each (λ f. P f.0) es → P k → Each (λ f. P f.0) (insert_entry cmp es k v)
  each_insert P k v [] h p = (p, tt)
  each_insert P k v (e ∷ es) h p = each_insert_if P k v e es (insert_entry cmp es k v) (cmp k e.0) h p (each_insert P k v es h.1 p)

  ordered_insert_if : (k : K) (v : AccValue) (e : K × AccValue) (es rest : List (K × AccValue)) (o : Ordering) → cmp k e.0 ≡ o → OrderedBy cmp (e ∷ es) → OrderedBy cmp rest → (cmp e.0 k ≡ Less → Each (λ (f : K × AccValue). cmp e.0 f.0 ≡ Less) rest) → OrderedBy cmp (match_ordering o ((k, v) ∷ e ∷ es) ((e.0, v) ∷ es) (e ∷ rest))
  ordered_insert_if k v e es rest Less is h r c = ((is, Each-more (λ (f : K × AccValue). cmp e.0 f.0 ≡ Less) (λ (f : K × AccValue). cmp k f.0 ≡ Less) (λ f m. total_order.trans k e.0 f.0 is m) es h.0), h)
  ordered_insert_if k v e es rest Equal is h r c = h
  ordered_insert_if k v e es rest Greater is h r c = (c (total_order.antisymm e.0 k ∙ ap ordering_reverse is), r)

  pub order_insert : (k : K) (v : AccValue) (es : List (K × AccValue)) → OrderedBy cmp es → OrderedBy cmp (insert_entry cmp es k v)
  order_insert k v [] h = (tt, tt)
  order_insert k v (e ∷ es) h =
      ordered_insert_if k v e es (insert_entry cmp es k v) (cmp k e.0) refl h (order_insert k v es h.1) (λ m. each_insert (λ (z : K). cmp e.0 z ≡ Less) k v es h.0 m)

pub total-joined_in : (p : Place → Bool) (k : Place) (a : AccValue) (es : Table) → Ordered es → total (λ (f : Place × AccValue). only (p f.0) f.1) (joined_in es k a) ≡ both (only (p k) a) (total (λ (f : Place × AccValue). only (p f.0) f.1) es)
total-joined_in = total-insert place_cmp place_total place_equal

pub ordered_insert : (k : Place) (v : AccValue) (es : Table) → Ordered es → Ordered (insert_entry place_cmp es k v)
ordered_insert = order_insert place_cmp place_total place_equal
