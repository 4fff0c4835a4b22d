-- Windows have rows: a row for each end of a window that holds an event, each put in its place.
use Rattle.std.proofs.Common.{◌≡◌, ℕ, zero, suc, Bool, true, false, true≢false, ◌&&◌, List, [], ◌∷◌, map, refl, sym, ◌∙◌, ap, subst, arith, ℤ, pos, negsuc, ◌+ℤ◌, ◌-ℤ◌, ◌≤ℤ◌, ◌<ℤ◌}
use Rattle.std.specs.Prelude.{All, bytes_eq, int_le, int_lt}
use Rattle.std.specs.Cmp.Lexicographic.{bytes_decides, slice_cmp}
use Rattle.std.specs.List.{AllByRecursion}
use Rattle.std.specs.List.Sorted.{IsStrictlySortedBy}
use Rattle.std.specs.Ordering.{ordering_then, nat_cmp, int_cmp, int_eq}
use Rattle.std.specs.declared.cmp.Ordering.{Ordering}
use Rattle.std.specs.declared.cmp.Ordering.TheVariants.{Less, Equal, Greater}
use Rattle.std.proofs.lemmas.Bool.{and_from}
use Rattle.std.proofs.lemmas.Bool.Decides.{Decides-int_eq}
use Rattle.std.proofs.lemmas.Cmp.{ranked, int_ranked}
use Rattle.std.proofs.lemmas.Int.{ints, by_lt_z}
use Rattle.std.proofs.lemmas.List.Elements.{All-nil, All-cons, All-weaker, All-contains, All-from_recursion}
use Rattle.jet_items.specs.Grid.{IsMultiple, IsFloor, floor_to, in_window}
use Rattle.jet_items.specs.Rows.{Window, Inflow, IsAccOf, IsRowOf, HasRow, members, first_value, row_cmp}
use Rattle.jet_items.specs.Values.{AccValue, EventValue, RowValue}
use Rattle.jet_items.proofs.GridLemmas.{floor_is}
use Rattle.jet_laws.specs.RowLaws.{RowsExist}
use Rattle.jet_laws.proofs.Accumulated.{totaled}
use Rattle.jet_laws.proofs.Listed.{Stands, stands_at, stands-Contains, stands-Any, put, all_put, sorted_put, kept_put, found_put, filter_some}
use Rattle.jet_laws.proofs.OneTable.{row_cmp_total, IsRowAmong, HasEnds}
use mathlib.Core.Logic.{inl, inr}

-- ---- rows that rank alike are of the same window, end and key
then_equal : (a b : Ordering) → ordering_then a b ≡ Equal → (a ≡ Equal) × (b ≡ Equal)
then_equal Less b h = absurd (cc)
then_equal Equal b h = (refl, h)
then_equal Greater b h = absurd (cc)

keys_equal : (xs ys : List ℕ) → slice_cmp nat_cmp xs ys ≡ Equal → xs ≡ ys
keys_equal [] [] h = refl
keys_equal [] (y ∷ ys) h = absurd (cc)
keys_equal (x ∷ xs) [] h = absurd (cc)
keys_equal (x ∷ xs) (y ∷ ys) h =
    let p = then_equal (nat_cmp x y) (slice_cmp nat_cmp xs ys) h in
    ap (λ (z : ℕ). z ∷ xs) (ranked x y Equal (sym p.0)) ∙ ap (λ (zs : List ℕ). y ∷ zs) (keys_equal xs ys p.1)

alike : (r s : RowValue) → row_cmp r s ≡ Equal → (s.vertex ≡ r.vertex) × (s.end ≡ r.end) × (s.key ≡ r.key)
alike r s h =
    let p = then_equal (int_cmp r.end s.end) (ordering_then (nat_cmp r.vertex s.vertex) (slice_cmp nat_cmp r.key s.key)) h in
    let q = then_equal (nat_cmp r.vertex s.vertex) (slice_cmp nat_cmp r.key s.key) p.1 in
    (sym (ranked r.vertex s.vertex Equal (sym q.0)), sym (int_ranked r.end s.end Equal (sym p.0)), sym (keys_equal r.key s.key q.1))

-- ---- an event's row
yes_below : (a b : ℤ) → a <ℤ b → int_lt a b ≡ true
yes_below a b h = grind (arith, ints)

yes_upto : (a b : ℤ) → a ≤ℤ b → int_le a b ≡ true
yes_upto a b h = grind (arith, ints)

acc_of_some : (values : List EventValue) (v : EventValue) (vs : List EventValue) → values ≡ v ∷ vs → (acc : AccValue) × IsAccOf (map first_value values) acc
acc_of_some values v vs is =
    let t = totaled (first_value v) (map first_value vs) in
    (t.acc, subst (λ (xs : List EventValue). IsAccOf (map first_value xs) t.acc) (sym is) t.law)

acc_of_event : (w : Window) (events : List EventValue) (x : EventValue) (e : ℤ) → Stands x events → x.ts <ℤ e → e ≤ℤ (x.ts +ℤ w.size) → (acc : AccValue) × IsAccOf (map first_value (members w.size e x.key events)) acc
acc_of_event w events x e here above within =
    let start : (e -ℤ w.size) ≤ℤ x.ts = omega (arith, ints, within) in
    let some = filter_some (λ y. bytes_eq y.key x.key && in_window w.size e y.ts) events x here
    (and_from (bytes_eq x.key x.key) (in_window w.size e x.ts) ((bytes_decides x.key x.key).1 refl)
    (and_from (int_le (e -ℤ w.size) x.ts) (int_lt x.ts e) (yes_upto (e -ℤ w.size) x.ts start) (yes_below x.ts e above))) in
    acc_of_some (members w.size e x.key events) some.0 some.1 some.2

-- a multiple is its own floor
its_floor : (slide e : ℤ) → pos 1 ≤ℤ slide → IsMultiple slide e → floor_to slide e ≡ e
its_floor slide e low is =
    let floor : IsFloor slide e (floor_to slide e) = floor_is slide e low in
    let le : e ≤ℤ floor_to slide e = floor.greatest e is (omega (arith, ints)) in
    omega (arith, ints, floor.at_most, le)

-- ---- the rows so far
record Table (entered : List Inflow) : Type 0 where
  rows : List RowValue
  each : AllByRecursion (IsRowAmong entered) rows
  rising : IsStrictlySortedBy row_cmp rows

-- the row is of this window, end and key
abbrev IsRowAt : Window → ℤ → List ℕ → RowValue → Type 0
IsRowAt w end key r = (r.vertex ≡ w.vertex) × (r.end ≡ end) × (r.key ≡ key)

abbrev Keeps : List RowValue → List RowValue → Type 0
Keeps rows more = (r : RowValue) → Stands r rows → Stands r more

has_still : (rows more : List RowValue) (w : Window) (end : ℤ) (key : List ℕ) → Keeps rows more → HasRow rows w end key → HasRow more w end key
has_still rows more w end key keeps (k, r, low, is, parts) = stands-Any (IsRowAt w end key) more r (keeps r (stands_at rows k r low is)) parts

ends_still : (rows more : List RowValue) (w : Window) (x : EventValue) → Keeps rows more → HasEnds rows w x → HasEnds more w x
ends_still rows more w x keeps has end is = has_still rows more w end x.key keeps (has end is)

-- the rows of a window's events are there
abbrev IsMet : List RowValue → Inflow → Type 0
IsMet rows p = All (HasEnds rows p.window) p.events

met_still : (rows more : List RowValue) (p : Inflow) → Keeps rows more → IsMet rows p → IsMet more p
met_still rows more p keeps = All-weaker (HasEnds rows p.window) (HasEnds more p.window) (λ x. ends_still rows more p.window x keeps) p.events

module _ (entered : List Inflow) where
  -- a table that keeps the rows of this one, and meets the goal
  abbrev Grown : Table entered → (List RowValue → Type 0) → Type 0
  Grown t Goal = (u : Table entered) × Keeps t.rows u.rows × Goal u.rows

  add_row : (t : Table entered) (w : Window) (r : RowValue) → IsRowAmong entered r → r.vertex ≡ w.vertex → Grown t (λ rows. HasRow rows w r.end r.key)
  add_row t w r among vertex =
      let at = found_put row_cmp_total r t.rows in
      let same = alike r at.0 at.2 in (
        record {
          rows = put row_cmp_total r t.rows;
          each = all_put row_cmp_total (IsRowAmong entered) r t.rows among t.each;
          rising = sorted_put row_cmp_total r t.rows t.rising;
        },
        λ s h. kept_put row_cmp_total r s t.rows h,
        stands-Any (IsRowAt w r.end r.key) (put row_cmp_total r t.rows) at.0 at.1 (same.0 ∙ vertex, same.1, same.2),
      )

  module _ (p : Inflow) (here : Stands p entered) (low : pos 1 ≤ℤ p.window.slide) where
    module _ (x : EventValue) (stands : Stands x p.events) where
      abbrev HasEnd : ℤ → List RowValue → Type 0
      HasEnd e rows = IsMultiple p.window.slide e → HasRow rows p.window e x.key

      add_end : (e : ℤ) → x.ts <ℤ e → e ≤ℤ (x.ts +ℤ p.window.size) → (t : Table entered) → Grown t (HasEnd e)
      add_end e above within t = by (int_eq (floor_to p.window.slide e) e) refl
        where
          by : (b : Bool) → int_eq (floor_to p.window.slide e) e ≡ b → Grown t (HasEnd e)
          by true is =
              let multiple : IsMultiple p.window.slide e = subst (IsMultiple p.window.slide) ((Decides-int_eq (floor_to p.window.slide e) e).0 is) ((floor_is p.window.slide e low).multiple) in
              let acc = acc_of_event p.window p.events x e stands above within in
              let r : RowValue = record { vertex = p.window.vertex; end = e; key = x.key; acc = acc.0 } in
              let u = add_row t p.window r (stands-Any (λ (q : Inflow). IsRowOf q.window q.events r) entered p here (record { vertex = refl; multiple = multiple; acc = acc.1 })) refl in
              (u.0, u.1, λ _. u.2)
          by false is = (t, λ r h. h, λ multiple. absurd (true≢false (sym ((Decides-int_eq (floor_to p.window.slide e) e).1 (its_floor p.window.slide e low multiple)) ∙ is)))

      abbrev HasEndsUpto : ℤ → List RowValue → Type 0
      HasEndsUpto n rows = (e : ℤ) → IsMultiple p.window.slide e → x.ts <ℤ e → e ≤ℤ (x.ts +ℤ n) → HasRow rows p.window e x.key

      add_ends : (n : ℕ) → pos n ≤ℤ p.window.size → (t : Table entered) → Grown t (HasEndsUpto (pos n))
      add_ends zero fits t = (t, λ r h. h, λ e multiple above within. absurd (omega (arith, ints, above, within)))
      add_ends (suc n) fits t =
          let u = add_ends n (omega (arith, ints, fits)) t in
          let v = add_end (x.ts +ℤ pos (suc n)) (omega (arith, ints)) (omega (arith, ints, fits)) u.0 in (
            v.0,
            λ r h. v.1 r (u.1 r h),
            λ e multiple above within. by_lt_z (x.ts +ℤ pos n) e
                (λ lt. let last : x.ts +ℤ pos (suc n) ≡ e = omega (arith, ints, lt, within) in
                subst (λ (z : ℤ). HasRow v.0.rows p.window z x.key) last (v.2 (subst (IsMultiple p.window.slide) (sym last) multiple)))
                (λ le. has_still u.0.rows v.0.rows p.window e x.key v.1 (u.2 e multiple above le)),
          )

      add_event : (t : Table entered) → Grown t (λ rows. HasEnds rows p.window x)
      add_event t = by p.window.size refl
        where
          by : (n : ℤ) → n ≡ p.window.size → Grown t (λ rows. HasEnds rows p.window x)
          by (pos n) is =
              let u = add_ends n (omega (arith, ints, is)) t in
              (u.0, u.1, λ e end. u.2 e end.multiple end.above (omega (arith, ints, is, end.within)))
          by (negsuc n) is = (t, λ r h. h, λ e end. absurd (omega (arith, ints, is, end.above, end.within)))

    add_events : (xs : List EventValue) → ((x : EventValue) → Stands x xs → Stands x p.events) → (t : Table entered) → Grown t (λ rows. All (HasEnds rows p.window) xs)
    add_events [] in_events t = (t, λ r h. h, All-nil (HasEnds t.rows p.window))
    add_events (x ∷ xs) in_events t =
        let u = add_event x (in_events x (inl refl)) t in
        let v = add_events xs (λ y h. in_events y (inr h)) u.0 in
        (v.0, λ r h. v.1 r (u.1 r h), All-cons (HasEnds v.0.rows p.window) x xs (ends_still u.0.rows v.0.rows p.window x v.1 u.2) v.2)

  add_inflows : (ps : List Inflow) → ((p : Inflow) → Stands p ps → Stands p entered) → All (λ p. pos 1 ≤ℤ p.window.slide) entered → (t : Table entered) → Grown t (λ rows. All (IsMet rows) ps)
  add_inflows [] in_entered slides t = (t, λ r h. h, All-nil (IsMet t.rows))
  add_inflows (p ∷ ps) in_entered slides t =
      let here : Stands p entered = in_entered p (inl refl) in
      let low : pos 1 ≤ℤ p.window.slide = All-contains (λ (q : Inflow). pos 1 ≤ℤ q.window.slide) entered p slides (stands-Contains entered p here) in
      let u = add_events p here low p.events (λ x h. h) t in
      let v = add_inflows ps (λ q h. in_entered q (inr h)) slides u.0 in
      (v.0, λ r h. v.1 r (u.1 r h), All-cons (IsMet v.0.rows) p ps (met_still u.0.rows v.0.rows p v.1 u.2) v.2)

  none_yet : Table entered
  unfolding IsStrictlySortedBy
  none_yet = record { rows = []; each = tt; rising = tt }

pub rows_exist : RowsExist
rows_exist entered slides =
    let t = add_inflows entered entered (λ p h. h) slides (none_yet entered) in (
      t.0.rows,
      record {
        each = All-from_recursion (IsRowAmong entered) t.0.rows t.0.each;
        complete = t.2;
        rising = t.0.rising;
      },
    )
