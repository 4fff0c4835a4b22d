-- Rows that are held by place: they stand in order, one more is held, and the first is taken out.
use Rattle.std.proofs.Common.{◌≡◌, ℕ, ◌<◌, Bool, true, false, cond, ℤ, List, [], ◌∷◌, ◌++◌, map, reverse, refl, sym, ◌∙◌, ap, subst, arith, Option, Some, None, Result, Ok, Err, OnErr}
use Rattle.std.specs.Prelude.{◌||◌, ◌<ℤ◌, ◌≤ℤ◌, int_le, slice_get, All, IfSome}
use Rattle.std.proofs.lemmas.Int.{ints}
use Rattle.std.specs.List.{AllByRecursion}
use Rattle.std.specs.List.Sorted.{IsPermutation, IsStrictlySortedBy}
use Rattle.std.proofs.lemmas.List.{reverse-append}
use Rattle.std.proofs.lemmas.List.Elements.{All-nil, All-cons}
use Rattle.std.proofs.lemmas.List.Sorted.{IsPermutation-refl, IsPermutation-sym, IsPermutation-trans, IsPermutation-append_left, IsPermutation-append_right, IsPermutation-middle}
use Rattle.std.specs.Map.{lookup, keys_of, values_of, remove_entry}
use Rattle.std.proofs.lemmas.Map.{lookup-none}
use Rattle.std.proofs.lemmas.Map.Keys.{sorted_head, sorted_tail}
use Rattle.std.proofs.lemmas.Map.Entries.{none_below_head}
use Rattle.std.specs.BTreeMap.{insert_entry, is_at}
use Rattle.std.specs.Option.{option_map_or}
use Rattle.std.specs.Cmp.{IsTotalOrder}
use Rattle.std.specs.Cmp.Lexicographic.{nat_list_cmp_total}
use Rattle.std.specs.declared.cmp.Ordering.{Ordering}
use Rattle.std.specs.declared.cmp.Ordering.TheVariants.{Less, Equal, Greater}
use Rattle.std.specs.Cmp.Lexicographic.{slice_cmp}
use Rattle.std.specs.Ordering.{MatchOrdering, is_eq, is_gt, int_cmp, nat_cmp, match_ordering, ordering_then}
use Rattle.std.proofs.lemmas.Cmp.{then_total, on_total, int_cmp_total, nat_cmp_total, tied_itself, ranked, int_ranked}
use Rattle.std.proofs.lemmas.Map.Text.{is_eq-slice_cmp}
use Rattle.std.proofs.lemmas.Slice.Eq.{bytes_eq-Decides}
use Rattle.jet_items.specs.Order.{Each}
use Rattle.jet_items.specs.Ranges.{IsWithin, most_row_end}
use Rattle.jet_items.specs.Rows.{row_cmp}
use Rattle.jet_items.specs.Values.{AccValue, RowValue}
use Rattle.jet_window.proofs.Tabling.{int_cmp_equal}
use Rattle.jet_window.specs.InOrder.{IsInOrder}
use Rattle.jet_window.specs.Places.{RowPlace, row_place_cmp, placed, rows_at_place, rows_in, IsHeldInOrder, HoldsMore, HoldsSame, ComesFirst}
use Rattle.jet_window.specs.declared.ordered.Alike.{Alike}

pub row_place_total : IsTotalOrder row_place_cmp
row_place_total = then_total (then_total (on_total (λ (p : RowPlace). p.0) int_cmp_total) (on_total (λ (p : RowPlace). p.1) nat_cmp_total)) (on_total (λ (p : RowPlace). p.2) nat_list_cmp_total)

-- places that tie are one
then_equal : (a b : Ordering) → ordering_then a b ≡ Equal → (a ≡ Equal) × (b ≡ Equal)
then_equal Less b h = absurd (cc)
then_equal Equal b h = (refl, h)
then_equal Greater b h = absurd (cc)

row_place_equal : (x y : RowPlace) → row_place_cmp x y ≡ Equal → x ≡ y
row_place_equal x y h =
    let p = then_equal (ordering_then (int_cmp x.0 y.0) (nat_cmp x.1 y.1)) (slice_cmp nat_cmp x.2 y.2) h in
    let q = then_equal (int_cmp x.0 y.0) (nat_cmp x.1 y.1) p.0 in
    let a : x.0 ≡ y.0 = int_cmp_equal x.0 y.0 q.0 in
    let b : x.1 ≡ y.1 = nat_equal x.1 y.1 q.1 in
    let c : x.2 ≡ y.2 = (bytes_eq-Decides x.2 y.2).0 (sym (is_eq-slice_cmp x.2 y.2) ∙ ap is_eq p.1) in
    ap (λ (z : ℤ). (z, x.1, x.2)) a ∙ (ap (λ (n : ℕ). (y.0, n, x.2)) b ∙ ap (λ (k : List ℕ). (y.0, y.1, k)) c)
  where
    nat_equal : (m n : ℕ) → nat_cmp m n ≡ Equal → m ≡ n
    nat_equal m n h = subst (λ (o : Ordering). MatchOrdering o (m < n) (m ≡ n) (n < m)) h (ranked m n (nat_cmp m n) refl)

-- ---- the order of rows is that of their places
then_assoc : (a b c : Ordering) → ordering_then a (ordering_then b c) ≡ ordering_then (ordering_then a b) c
then_assoc Less b c = refl
then_assoc Equal b c = refl
then_assoc Greater b c = refl

abbrev NotAbove : RowValue → RowValue → Type 0
NotAbove row later = is_gt (row_cmp row later) ≡ false

not_above : (p q : RowPlace) (a b : AccValue) (o : Ordering) → row_place_cmp p q ≡ o → is_gt o ≡ false → NotAbove (placed p a) (placed q b)
not_above p q a b o is h = ap is_gt (then_assoc (int_cmp p.0 q.0) (nat_cmp p.1 q.1) (slice_cmp nat_cmp p.2 q.2) ∙ is) ∙ h

all_append : {X : Type 0} (P : X → Type 0) (xs ys : List X) → AllByRecursion P xs → AllByRecursion P ys → AllByRecursion P (xs ++ ys)
all_append P [] ys h k = k
all_append P (x ∷ xs) ys h k = (h.0, all_append P xs ys h.1 k)

all_placed : (p q : RowPlace) (a : AccValue) (o : Ordering) → row_place_cmp p q ≡ o → is_gt o ≡ false → (accs : List AccValue) → AllByRecursion (NotAbove (placed p a)) (map (placed q) accs)
all_placed p q a o is h [] = tt
all_placed p q a o is h (b ∷ accs) = (not_above p q a b o is h, all_placed p q a o is h accs)

all_later : (p : RowPlace) (a : AccValue) (entries : List (RowPlace × Alike)) → AllByRecursion (λ q. row_place_cmp p q ≡ Less) (keys_of entries) → AllByRecursion (NotAbove (placed p a)) (rows_in entries)
all_later p a [] h = tt
all_later p a (e ∷ es) h =
    all_append (NotAbove (placed p a)) (rows_at_place e) (rows_in es) (all_placed p e.0 a Less h.0 refl (reverse e.1.more.items ++ e.1.first ∷ [])) (all_later p a es h.1)

place_in_order : (p : RowPlace) (accs : List AccValue) (entries : List (RowPlace × Alike)) → AllByRecursion (λ q. row_place_cmp p q ≡ Less) (keys_of entries) → IsInOrder (rows_in entries) → IsInOrder (map (placed p) accs ++ rows_in entries)
place_in_order p [] entries h k = k
place_in_order p (a ∷ accs) entries h k =
    (all_append (NotAbove (placed p a)) (map (placed p) accs) (rows_in entries) (all_placed p p a Equal (tied_itself row_place_total p) refl accs) (all_later p a entries h), place_in_order p accs entries h k)

pub rows_in_order : (entries : List (RowPlace × Alike)) → IsStrictlySortedBy row_place_cmp (keys_of entries) → IsInOrder (rows_in entries)
rows_in_order [] h = tt
rows_in_order (e ∷ es) h =
    place_in_order e.0 (reverse e.1.more.items ++ e.1.first ∷ []) es (sorted_head row_place_cmp e.0 (keys_of es) h) (rows_in_order es (sorted_tail row_place_cmp e.0 (keys_of es) h))

-- ---- one more row
-- the rows of a place, where there are any
abbrev rows_there : RowPlace → Option Alike → List RowValue
rows_there k o = option_map_or (λ v. rows_at_place (k, v)) o []

abbrev Adds : RowValue → List RowValue → List RowValue → Type 0
Adds row old new = IsPermutation (row ∷ old) new

add_none : (row : RowValue) (k : RowPlace) (w : Alike) (es : List (RowPlace × Alike)) → Adds row [] (rows_at_place (k, w)) → Adds row (rows_in es) (rows_at_place (k, w) ++ rows_in es)
add_none row k w es h = IsPermutation-append_left (rows_in es) (row ∷ []) (rows_at_place (k, w)) h

absent : (k : RowPlace) (e : RowPlace × Alike) (es : List (RowPlace × Alike)) → row_place_cmp k e.0 ≡ Less → IsStrictlySortedBy row_place_cmp (keys_of (e ∷ es)) → lookup (is_at (row_place_cmp k)) es ≡ None
absent k e es is rising = lookup-none (is_at (row_place_cmp k)) es (none_below_head row_place_total k e es rising is).1

add_if : (row : RowValue) (k : RowPlace) (w : Alike) (e : RowPlace × Alike) (es : List (RowPlace × Alike)) (o : Ordering) → row_place_cmp k e.0 ≡ o → IsStrictlySortedBy row_place_cmp (keys_of (e ∷ es))
    → Adds row (rows_there k (cond (is_eq o) (Some e.1) (lookup (is_at (row_place_cmp k)) es))) (rows_at_place (k, w))
    → (Adds row (rows_there k (lookup (is_at (row_place_cmp k)) es)) (rows_at_place (k, w)) → Adds row (rows_in es) (rows_in (insert_entry row_place_cmp es k w)))
    → Adds row (rows_in (e ∷ es)) (rows_in (match_ordering o ((k, w) ∷ e ∷ es) ((e.0, w) ∷ es) (e ∷ insert_entry row_place_cmp es k w)))
add_if row k w e es Less is rising h more =
    let none : lookup (is_at (row_place_cmp k)) es ≡ None = absent k e es is rising in
    add_none row k w (e ∷ es) (subst (λ (o : Option Alike). Adds row (rows_there k o) (rows_at_place (k, w))) none h)
add_if row k w e es Equal is rising h more =
    let same : k ≡ e.0 = row_place_equal k e.0 is in
    IsPermutation-append_left (rows_in es) (row ∷ rows_at_place e) (rows_at_place (e.0, w)) (subst (λ (q : RowPlace). Adds row (rows_at_place (q, e.1)) (rows_at_place (q, w))) same h)
add_if row k w e es Greater is rising h more =
    let front : List RowValue = rows_at_place e in
    let back : List RowValue = rows_in (insert_entry row_place_cmp es k w) in
    IsPermutation-trans (row ∷ front ++ rows_in es) (front ++ row ∷ rows_in es) (front ++ back)
    (IsPermutation-sym (front ++ row ∷ rows_in es) (row ∷ (front ++ rows_in es)) (IsPermutation-middle front row (rows_in es)))
    (IsPermutation-append_right front (row ∷ rows_in es) back (more h))

-- where the rows of a place are one more, all are
pub adds_row : (row : RowValue) (k : RowPlace) (w : Alike) (es : List (RowPlace × Alike)) → IsStrictlySortedBy row_place_cmp (keys_of es)
    → Adds row (rows_there k (lookup (is_at (row_place_cmp k)) es)) (rows_at_place (k, w)) → Adds row (rows_in es) (rows_in (insert_entry row_place_cmp es k w))
adds_row row k w [] rising h = add_none row k w [] h
adds_row row k w (e ∷ es) rising h = add_if row k w e es (row_place_cmp k e.0) refl rising h (adds_row row k w es (sorted_tail row_place_cmp e.0 (keys_of es) rising))

-- what holds of each place still does
each_if : (P : RowPlace → Type 0) (k : RowPlace) (w : Alike) (e : RowPlace × Alike) (es rest : List (RowPlace × Alike)) (o : Ordering) → P k → Each (λ f. P f.0) (e ∷ es) → Each (λ f. P f.0) rest
    → Each (λ f. P f.0) (match_ordering o ((k, w) ∷ e ∷ es) ((e.0, w) ∷ es) (e ∷ rest))
each_if P k w e es rest Less p h r = (p, h)
each_if P k w e es rest Equal p h r = h
each_if P k w e es rest Greater p h r = (h.0, r)

pub each_place : (P : RowPlace → Type 0) (k : RowPlace) (w : Alike) (es : List (RowPlace × Alike)) → P k → Each (λ f. P f.0) es → Each (λ f. P f.0) (insert_entry row_place_cmp es k w)
each_place P k w [] p h = (p, tt)
each_place P k w (e ∷ es) p h = each_if P k w e es (insert_entry row_place_cmp es k w) (row_place_cmp k e.0) p h (each_place P k w es p h.1)

-- where a place has the rows that it had and one more, the rows are those that were there and the one
pub added : (row : RowValue) (k : RowPlace) (w : Alike) (old new with : List (RowPlace × Alike)) → IsHeldInOrder old → with ≡ insert_entry row_place_cmp old k w → new ≡ with
    → Adds row (rows_there k (lookup (is_at (row_place_cmp k)) old)) (rows_at_place (k, w)) → HoldsMore row old new
added row k w old new with held with_is is adds = rw (is, with_is) (record { rows = adds_row row k w old held.rising adds })

pub still_held : (k : RowPlace) (w : Alike) (old new with : List (RowPlace × Alike)) → IsHeldInOrder old → new ≡ with → with ≡ insert_entry row_place_cmp old k w
    → IsStrictlySortedBy row_place_cmp (keys_of with) → IsWithin most_row_end k.0 → IsHeldInOrder new
still_held k w old new with held is with_is rising range = rw is (record { rising = rising; ends = rw with_is (each_place (λ (p : RowPlace). IsWithin most_row_end p.0) k w old range held.ends) })

-- a row that came first and one that came later
pub adds_first : (row : RowValue) (k : RowPlace) (acc : AccValue) (w : Alike) (o : Option Alike) → row ≡ placed k acc → w.first ≡ acc → w.more.items ≡ [] → o ≡ None → Adds row (rows_there k o) (rows_at_place (k, w))
adds_first row k acc w o is first more none =
    rw (none, more, first, is) (IsPermutation-refl (placed k acc ∷ []))

pub adds_later : (row : RowValue) (k : RowPlace) (acc : AccValue) (v w : Alike) (o : Option Alike) → row ≡ placed k acc → w.first ≡ v.first → w.more.items ≡ v.more.items ++ acc ∷ [] → o ≡ Some v
    → Adds row (rows_there k o) (rows_at_place (k, w))
adds_later row k acc v w o is first more there =
    rw (there, more, first, reverse-append v.more.items (acc ∷ []), is) (IsPermutation-refl (placed k acc ∷ rows_at_place (k, v)))

-- where a place has the rows that it had, so have all
same_if : (k : RowPlace) (v w : Alike) (e : RowPlace × Alike) (es : List (RowPlace × Alike)) (o : Ordering) → row_place_cmp k e.0 ≡ o → IsStrictlySortedBy row_place_cmp (keys_of (e ∷ es))
    → rows_at_place (k, w) ≡ rows_at_place (k, v) → cond (is_eq o) (Some e.1) (lookup (is_at (row_place_cmp k)) es) ≡ Some v
    → (lookup (is_at (row_place_cmp k)) es ≡ Some v → rows_in (insert_entry row_place_cmp es k w) ≡ rows_in es)
    → rows_in (match_ordering o ((k, w) ∷ e ∷ es) ((e.0, w) ∷ es) (e ∷ insert_entry row_place_cmp es k w)) ≡ rows_in (e ∷ es)
same_if k v w e es Less is rising same there more = absurd (none_there (sym (absent k e es is rising) ∙ there))
  where
    none_there : (let none : Option Alike = None in none ≡ Some v) → ⊥
    none_there h = absurd (cc)
same_if k v w e es Equal is rising same there more =
    let here : e.1 ≡ v = inside e.1 v there in
    ap (λ (rows : List RowValue). rows ++ rows_in es) (subst (λ (q : RowPlace). rows_at_place (q, w) ≡ rows_at_place (q, e.1)) (row_place_equal k e.0 is) (same ∙ ap (λ (x : Alike). rows_at_place (k, x)) (sym here)))
  where
    inside : (x y : Alike) → Some x ≡ Some y → x ≡ y
    inside x y h = cc
same_if k v w e es Greater is rising same there more = ap (λ (rows : List RowValue). rows_at_place e ++ rows) (more there)

same_rows : (k : RowPlace) (v w : Alike) (es : List (RowPlace × Alike)) → IsStrictlySortedBy row_place_cmp (keys_of es) → rows_at_place (k, w) ≡ rows_at_place (k, v) → lookup (is_at (row_place_cmp k)) es ≡ Some v
    → rows_in (insert_entry row_place_cmp es k w) ≡ rows_in es
same_rows k v w [] rising same there = absurd (cc)
same_rows k v w (e ∷ es) rising same there =
    same_if k v w e es (row_place_cmp k e.0) refl rising same there (same_rows k v w es (sorted_tail row_place_cmp e.0 (keys_of es) rising) same)

pub unchanged : (k : RowPlace) (v w : Alike) (old new with : List (RowPlace × Alike)) → IsHeldInOrder old → with ≡ insert_entry row_place_cmp old k w → new ≡ with
    → lookup (is_at (row_place_cmp k)) old ≡ Some v → w.first ≡ v.first → w.more.items ≡ v.more.items → HoldsSame old new
unchanged k v w old new with held with_is is there first more = rw (is, with_is) (record { rows = same_rows k v w old held.rising (rw (first, more) refl) there })

pub on_err : {A E P : Type 0} (r : Result A E) → P → OnErr r P
on_err (Ok a) p = tt
on_err (Err e) p = p

-- ---- the first row
-- the first entry is the one of the first key and the first value
pub first_entry_is : (k : RowPlace) (v : Alike) (es : List (RowPlace × Alike)) → slice_get (keys_of es) 0 ≡ Some k → Some v ≡ slice_get (values_of es) 0 → (rest : List (RowPlace × Alike)) × (es ≡ (k, v) ∷ rest)
first_entry_is k v [] h i = absurd (cc)
first_entry_is k v (e ∷ es) h i =
    let key : e.0 ≡ k = inside e.0 k h in
    let value : v ≡ e.1 = inside v e.1 i in
    (es, ap (λ (q : RowPlace). (q, e.1) ∷ es) key ∙ ap (λ (x : Alike). (k, x) ∷ es) (sym value))
  where
    inside : {X : Type 0} (x y : X) → Some x ≡ Some y → x ≡ y
    inside x y h = cc

put_first : (k : RowPlace) (v w : Alike) (rest : List (RowPlace × Alike)) → insert_entry row_place_cmp ((k, v) ∷ rest) k w ≡ (k, w) ∷ rest
put_first k v w rest = let same : row_place_cmp k k ≡ Equal = tied_itself row_place_total k in rw same refl

removed_first : (k : RowPlace) (v : Alike) (rest : List (RowPlace × Alike)) → remove_entry (is_at (row_place_cmp k)) ((k, v) ∷ rest) ≡ rest
removed_first k v rest = let same : row_place_cmp k k ≡ Equal = tied_itself row_place_total k in rw same refl

-- a later row of the first place was taken
later_rows : (k : RowPlace) (v w : Alike) (acc : AccValue) (rest : List (RowPlace × Alike)) → w.first ≡ v.first → v.more.items ≡ w.more.items ++ acc ∷ [] → rows_in ((k, v) ∷ rest) ≡ placed k acc ∷ rows_in ((k, w) ∷ rest)
later_rows k v w acc rest first more = rw (first, more, reverse-append w.more.items (acc ∷ [])) refl

later_from : (k : RowPlace) (v w : Alike) (acc : AccValue) (old new with rest : List (RowPlace × Alike)) → old ≡ (k, v) ∷ rest → with ≡ insert_entry row_place_cmp old k w → new ≡ with
    → w.first ≡ v.first → v.more.items ≡ w.more.items ++ acc ∷ [] → ComesFirst (placed k acc) old new
later_from k v w acc old new with rest old_is with_is is first more = rw (is, with_is, old_is, put_first k v w rest) (record { rows = later_rows k v w acc rest first more })

pub later_taken : (k : RowPlace) (v w : Alike) (acc : AccValue) (old new with : List (RowPlace × Alike)) → slice_get (keys_of old) 0 ≡ Some k → Some v ≡ slice_get (values_of old) 0
    → with ≡ insert_entry row_place_cmp old k w → new ≡ with → w.first ≡ v.first → v.more.items ≡ w.more.items ++ acc ∷ [] → ComesFirst (placed k acc) old new
later_taken k v w acc old new with key value with_is is first more =
    let f = first_entry_is k v old key value in
    later_from k v w acc old new with f.0 f.1 with_is is first more

-- the only row of the first place was taken
only_rows : (k : RowPlace) (v w : Alike) (rest : List (RowPlace × Alike)) → w.first ≡ v.first → v.more.items ≡ [] → rows_in ((k, v) ∷ rest) ≡ placed k w.first ∷ rows_in rest
only_rows k v w rest first more = rw (first, more) refl

only_from : (k : RowPlace) (v w : Alike) (old new with rest : List (RowPlace × Alike)) → old ≡ (k, v) ∷ rest → with ≡ remove_entry (is_at (row_place_cmp k)) old → new ≡ with
    → w.first ≡ v.first → v.more.items ≡ [] → ComesFirst (placed k w.first) old new
only_from k v w old new with rest old_is with_is is first more = rw (is, with_is, old_is, removed_first k v rest) (record { rows = only_rows k v w rest first more })

pub only_taken : (k : RowPlace) (v w : Alike) (old new with : List (RowPlace × Alike)) → slice_get (keys_of old) 0 ≡ Some k → Some v ≡ slice_get (values_of old) 0
    → with ≡ remove_entry (is_at (row_place_cmp k)) old → new ≡ with → w.first ≡ v.first → v.more.items ≡ [] → ComesFirst (placed k w.first) old new
only_taken k v w old new with key value with_is is first more =
    let f = first_entry_is k v old key value in
    only_from k v w old new with f.0 f.1 with_is is first more

-- the first row has the place of the first entry, and what is left is held
pub first_range : (k : RowPlace) (v : Alike) (old : List (RowPlace × Alike)) → slice_get (keys_of old) 0 ≡ Some k → Some v ≡ slice_get (values_of old) 0 → IsHeldInOrder old → IsWithin most_row_end k.0
first_range k v old key value held =
    let f = first_entry_is k v old key value in
    let ends = subst (Each (λ (e : RowPlace × Alike). IsWithin most_row_end e.0.0)) f.1 held.ends in ends.0

pub held_after : (k : RowPlace) (v w : Alike) (old new with : List (RowPlace × Alike)) → slice_get (keys_of old) 0 ≡ Some k → Some v ≡ slice_get (values_of old) 0 → IsHeldInOrder old
    → with ≡ insert_entry row_place_cmp old k w → new ≡ with → IsHeldInOrder new
held_after k v w old new with key value held with_is is =
    let f = first_entry_is k v old key value in
    let h : IsHeldInOrder ((k, v) ∷ f.0) = subst IsHeldInOrder f.1 held in
    rw (is, with_is, f.1, put_first k v w f.0) (record { rising = h.rising; ends = h.ends })

pub held_without : (k : RowPlace) (v : Alike) (old new with : List (RowPlace × Alike)) → slice_get (keys_of old) 0 ≡ Some k → Some v ≡ slice_get (values_of old) 0 → IsHeldInOrder old
    → with ≡ remove_entry (is_at (row_place_cmp k)) old → new ≡ with → IsHeldInOrder new
held_without k v old new with key value held with_is is =
    let f = first_entry_is k v old key value in
    let h : IsHeldInOrder ((k, v) ∷ f.0) = subst IsHeldInOrder f.1 held in
    rw (is, with_is, f.1, removed_first k v f.0) (record { rising = sorted_tail row_place_cmp k (keys_of f.0) h.rising; ends = h.ends.1 })

-- ---- what was let out
-- rows that end here were let out, as a vertex that keeps the last mark and the end tells
abbrev OutAt : Bool → Option ℤ → Bool → ℤ → Type 0
OutAt closed passed b end = (closed || option_map_or (λ t. int_le end t) passed false) ≡ b

later_in : (closed : Bool) (passed : Option ℤ) (x y : ℤ) → x ≤ℤ y → OutAt closed passed false x → OutAt closed passed false y
later_in true passed x y le h = absurd (cc)
later_in false None x y le h = refl
later_in false (Some t) x y le h = grind (arith, ints)

place_end : (x y : ℤ) (o rest : Ordering) → int_cmp x y ≡ o → ordering_then o rest ≡ Less → x ≤ℤ y
place_end x y Less rest is h = from_ranked (subst (λ (o : Ordering). MatchOrdering o (x <ℤ y) (x ≡ y) (y <ℤ x)) is (int_ranked x y (int_cmp x y) refl))
  where
    from_ranked : x <ℤ y → x ≤ℤ y
    from_ranked lt = omega (arith, ints)
place_end x y Equal rest is h = let same : x ≡ y = int_cmp_equal x y is in omega (arith, ints)
place_end x y Greater rest is h = absurd (cc)

places_in : (closed : Bool) (passed : Option ℤ) (k : RowPlace) (accs : List AccValue) → OutAt closed passed false k.0 → AllByRecursion (λ (r : RowValue). OutAt closed passed false r.end) (map (placed k) accs)
places_in closed passed k [] h = tt
places_in closed passed k (a ∷ accs) h = (h, places_in closed passed k accs h)

all_in : (closed : Bool) (passed : Option ℤ) (entries : List (RowPlace × Alike)) → AllByRecursion (λ q. OutAt closed passed false q.0) (keys_of entries) → AllByRecursion (λ (r : RowValue). OutAt closed passed false r.end) (rows_in entries)
all_in closed passed [] h = tt
all_in closed passed (e ∷ es) h =
    all_append (λ (r : RowValue). OutAt closed passed false r.end) (rows_at_place e) (rows_in es) (places_in closed passed e.0 (reverse e.1.more.items ++ e.1.first ∷ []) h.0) (all_in closed passed es h.1)

keys_in : (closed : Bool) (passed : Option ℤ) (k : RowPlace) (keys : List RowPlace) → OutAt closed passed false k.0 → AllByRecursion (λ q. row_place_cmp k q ≡ Less) keys → AllByRecursion (λ q. OutAt closed passed false q.0) keys
keys_in closed passed k [] h less = tt
keys_in closed passed k (q ∷ keys) h less =
    let first : ordering_then (int_cmp k.0 q.0) (ordering_then (nat_cmp k.1 q.1) (slice_cmp nat_cmp k.2 q.2)) ≡ Less = then_assoc (int_cmp k.0 q.0) (nat_cmp k.1 q.1) (slice_cmp nat_cmp k.2 q.2) ∙ less.0 in
    (later_in closed passed k.0 q.0 (place_end k.0 q.0 (int_cmp k.0 q.0) (ordering_then (nat_cmp k.1 q.1) (slice_cmp nat_cmp k.2 q.2)) refl first) h, keys_in closed passed k keys h less.1)

all_of : {X : Type 0} (P : X → Type 0) (xs : List X) → AllByRecursion P xs → All P xs
all_of P [] h = All-nil P
all_of P (x ∷ xs) h = All-cons P x xs h.0 (all_of P xs h.1)

-- where the first entry was not let out, no row was
pub none_out : (closed : Bool) (passed : Option ℤ) (k : RowPlace) (v : Alike) (entries : List (RowPlace × Alike)) → slice_get entries 0 ≡ Some (k, v) → IsHeldInOrder entries → OutAt closed passed false k.0
    → All (λ (r : RowValue). OutAt closed passed false r.end) (rows_in entries)
none_out closed passed k v [] h held out = absurd (cc)
none_out closed passed k v (e ∷ es) h held out =
    let is : e ≡ (k, v) = inside e (k, v) h in
    let here : OutAt closed passed false e.0.0 = subst (λ (f : RowPlace × Alike). OutAt closed passed false f.0.0) (sym is) out in
    all_of (λ (r : RowValue). OutAt closed passed false r.end) (rows_in (e ∷ es)) (all_in closed passed (e ∷ es) (here, keys_in closed passed e.0 (keys_of es) here (sorted_head row_place_cmp e.0 (keys_of es) held.rising)))
  where
    inside : (x y : RowPlace × Alike) → Some x ≡ Some y → x ≡ y
    inside x y h = cc

first_end : (k : RowPlace) (accs : List AccValue) (a : AccValue) (rest more : List RowValue) (row : RowValue) → map (placed k) (accs ++ a ∷ []) ++ rest ≡ row ∷ more → k.0 ≡ row.end
first_end k [] a rest more row h = ap (λ (r : RowValue). r.end) (head_of h)
  where
    head_of : placed k a ∷ rest ≡ row ∷ more → placed k a ≡ row
    head_of h = cc
first_end k (b ∷ accs) a rest more row h = ap (λ (r : RowValue). r.end) (head_of h)
  where
    head_of : placed k b ∷ (map (placed k) (accs ++ a ∷ []) ++ rest) ≡ row ∷ more → placed k b ≡ row
    head_of h = cc

-- where it was, so was the first row
pub first_out : (closed : Bool) (passed : Option ℤ) (k : RowPlace) (v : Alike) (entries new : List (RowPlace × Alike)) (row : RowValue) → slice_get entries 0 ≡ Some (k, v) → OutAt closed passed true k.0
    → ComesFirst row entries new → OutAt closed passed true row.end
first_out closed passed k v [] new row h out first = absurd (cc)
first_out closed passed k v (e ∷ es) new row h out first =
    let is : e ≡ (k, v) = inside e (k, v) h in
    let here : OutAt closed passed true e.0.0 = subst (λ (f : RowPlace × Alike). OutAt closed passed true f.0.0) (sym is) out in
    subst (OutAt closed passed true) (first_end e.0 (reverse e.1.more.items) e.1.first (rows_in es) (rows_in new) row first.rows) here
  where
    inside : (x y : RowPlace × Alike) → Some x ≡ Some y → x ≡ y
    inside x y h = cc

-- the first row is the least
pub first_least : (row : RowValue) (entries new : List (RowPlace × Alike)) → IsHeldInOrder entries → ComesFirst row entries new → All (NotAbove row) (rows_in new)
first_least row entries new held first =
    let order : IsInOrder (row ∷ rows_in new) = subst IsInOrder first.rows (rows_in_order entries held.rising) in
    all_of (NotAbove row) (rows_in new) order.0

pub if_more : {X : Type 0} (P Q : X → Type 0) (o : Option X) → ((x : X) → P x → Q x) → IfSome o P → IfSome o Q
if_more P Q None f h = tt
if_more P Q (Some x) f h = f x h
