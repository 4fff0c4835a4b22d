-- The rows of windows are one list, whatever the order of the events.
use Rattle.std.proofs.Common.{◌≡◌, ℕ, ◌<◌, Bool, true, false, cond, ◌&&◌, List, [], ◌∷◌, map, length, refl, sym, ◌∙◌, ap, subst, arith, ℤ, ◌+ℤ◌, ◌-ℤ◌, ◌≤ℤ◌, ◌<ℤ◌}
use Rattle.std.specs.Prelude.{All, Any, Contains, bytes_eq, int_le, int_lt, slice_index_or}
use Rattle.std.specs.Cmp.Lexicographic.{bytes_decides}
use Rattle.std.specs.List.{AllZip}
use Rattle.std.specs.Cmp.{IsTotalOrder}
use Rattle.std.proofs.lemmas.Bool.{and_parts, cases_order}
use Rattle.std.proofs.lemmas.Cmp.{on_total, then_total, int_cmp_total, nat_cmp_total, nat_list_cmp_total}
use Rattle.std.proofs.lemmas.Int.{ints}
use Rattle.std.proofs.lemmas.List.Elements.{AllZip-get_or, length_all_zip}
use Rattle.std.proofs.lemmas.List.Sorted.{All-permutation}
use Rattle.jet_items.specs.Grid.{IsMultiple, IsEndFor, in_window}
use Rattle.jet_items.specs.Rows.{Window, Inflow, IsAccOf, IsRowOf, HasRow, AreRows, members, first_value, row_cmp}
use Rattle.jet_items.specs.Values.{AccValue, EventValue, RowValue}
use Rattle.jet_items.proofs.Bags.{SameBag-from_permutation, SameBag-filter, SameBag-map}
use Rattle.jet_laws.specs.RowLaws.{AreApart, RowsAreOne, IsReordered, RowsStayByOrder}
use Rattle.jet_laws.proofs.Accumulated.{acc_is_one, acc-SameBag, some_value}
use Rattle.jet_laws.proofs.Listed.{Stands, stands_at, stands-Contains, any_default, same_sorted}
use mathlib.Core.Logic.{inl, inr}

pub row_cmp_total : IsTotalOrder row_cmp
row_cmp_total =
    then_total (on_total (λ (r : RowValue). r.end) int_cmp_total) (then_total (on_total (λ (r : RowValue). r.vertex) nat_cmp_total) (on_total (λ (r : RowValue). r.key) nat_list_cmp_total))

-- an event of a row: its key is the row's, and the row's window holds it
record Member (w : Window) (events : List EventValue) (end : ℤ) (key : List ℕ) : Type 0 where
  event : EventValue
  stands : Stands event events
  keyed : event.key ≡ key
  above : event.ts <ℤ end
  within : end ≤ℤ (event.ts +ℤ w.size)

taken : (w : Window) (x : EventValue) (xs : List EventValue) (end : ℤ) (key : List ℕ) → (bytes_eq x.key key && in_window w.size end x.ts) ≡ true → Member w (x ∷ xs) end key
taken w x xs end key h =
    let p = and_parts (bytes_eq x.key key) (in_window w.size end x.ts) h in
    let q = and_parts (int_le (end -ℤ w.size) x.ts) (int_lt x.ts end) p.1 in
    record {
      event = x;
      stands = inl refl;
      keyed = (bytes_decides x.key key).0 p.0;
      above = is_below x.ts end q.1;
      within = from_start w.size end x.ts q.0;
    }
  where
    is_below : (a b : ℤ) → int_lt a b ≡ true → a <ℤ b
    is_below a b h = grind (arith, ints)

    from_start : (size e ts : ℤ) → int_le (e -ℤ size) ts ≡ true → e ≤ℤ (ts +ℤ size)
    from_start size e ts h = let le : (e -ℤ size) ≤ℤ ts = start size e ts h in omega (arith, ints)
      where
        start : (size e ts : ℤ) → int_le (e -ℤ size) ts ≡ true → (e -ℤ size) ≤ℤ ts
        start size e ts h = grind (arith, ints)

passed_by : (w : Window) (x : EventValue) (xs : List EventValue) (end : ℤ) (key : List ℕ) → Member w xs end key → Member w (x ∷ xs) end key
passed_by w x xs end key m = record { event = m.event; stands = inr m.stands; keyed = m.keyed; above = m.above; within = m.within }

member_if : (w : Window) (x : EventValue) (xs : List EventValue) (end : ℤ) (key : List ℕ) (acc : AccValue) (b : Bool) → (bytes_eq x.key key && in_window w.size end x.ts) ≡ b → (IsAccOf (map first_value (members w.size end key xs)) acc → Member w xs end key)
    → IsAccOf (map first_value (cond b (x ∷ members w.size end key xs) (members w.size end key xs))) acc → Member w (x ∷ xs) end key
member_if w x xs end key acc true e later h = taken w x xs end key e
member_if w x xs end key acc false e later h = passed_by w x xs end key (later h)

-- a row has an event
member : (w : Window) (events : List EventValue) (end : ℤ) (key : List ℕ) (acc : AccValue) → IsAccOf (map first_value (members w.size end key events)) acc → Member w events end key
member w [] end key acc h = some_value acc h
member w (x ∷ xs) end key acc h = member_if w x xs end key acc (bytes_eq x.key key && in_window w.size end x.ts) refl (member w xs end key acc) h

-- windows of the same number are one
apart_at : (entered : List Inflow) (i j : ℕ) (p q : Inflow) {P : Type 0} → AreApart entered → i < j → j < length entered → slice_index_or entered i p ≡ p → slice_index_or entered j q ≡ q → p.window.vertex ≡ q.window.vertex → P
apart_at entered i j p q apart lt j_low p_is q_is same =
    absurd (apart i j p lt j_low (ap (λ (w : Inflow). w.window.vertex) p_is ∙ (same ∙ ap (λ (w : Inflow). w.window.vertex) (sym q_is ∙ any_default entered j q p j_low))))

one_window : (entered : List Inflow) (i j : ℕ) (p q : Inflow) → AreApart entered → i < length entered → j < length entered → slice_index_or entered i p ≡ p → slice_index_or entered j q ≡ q → p.window.vertex ≡ q.window.vertex → p ≡ q
one_window entered i j p q apart i_low j_low p_is q_is same = elim (cases_order i j) [
  | inl at ↦ sym p_is ∙ (any_default entered i p q i_low ∙ (ap (λ (k : ℕ). slice_index_or entered k q) at ∙ q_is))
  | inr far ↦ elim far [
    | inl lt ↦ apart_at entered i j p q apart lt j_low p_is q_is same
    | inr gt ↦ apart_at entered j i q p apart gt i_low q_is p_is (sym same)
  ]
]

same_parts : (v u : ℕ) (e f : ℤ) (k l : List ℕ) (a b : AccValue) → v ≡ u → e ≡ f → k ≡ l → a ≡ b → let r : RowValue = record { vertex = v; end = e; key = k; acc = a } in r ≡ record { vertex = u; end = f; key = l; acc = b }
same_parts v u e f k l a b p q r s = cc

same_row : (r s : RowValue) → r.vertex ≡ s.vertex → r.end ≡ s.end → r.key ≡ s.key → r.acc ≡ s.acc → r ≡ s
same_row r s = same_parts r.vertex s.vertex r.end s.end r.key s.key r.acc s.acc

abbrev pub IsRowAmong : List Inflow → RowValue → Type 0
IsRowAmong entered r = Any (λ (p : Inflow). IsRowOf p.window p.events r) entered

abbrev pub HasEnds : List RowValue → Window → EventValue → Type 0
HasEnds rows w x = (end : ℤ) → IsEndFor w.size w.slide x.ts end → HasRow rows w end x.key

-- a row of one list is in the other
found : (entered : List Inflow) (other : List RowValue) → AreApart entered → AreRows entered other → (r : RowValue) → IsRowAmong entered r → Stands r other
found entered other apart are r (i, p, i_low, p_is, row) =
    let m : Member p.window p.events r.end r.key = member p.window p.events r.end r.key r.acc row.acc in
    let at : Contains p.events m.event = stands-Contains p.events m.event m.stands in
    let ends : All (HasEnds other p.window) p.events = subst (λ (q : Inflow). All (HasEnds other q.window) q.events) p_is (are.complete i p i_low) in
    let has : HasRow other p.window r.end m.event.key =
    subst (HasEnds other p.window) at.2 (ends at.0 m.event at.1) r.end (record { multiple = row.multiple; above = m.above; within = m.within }) in
    twin (has.0) (has.1) (has.2) (has.3) (has.4.0) (has.4.1) (has.4.2 ∙ m.keyed)
  where
    again : (p : Inflow) (row : IsRowOf p.window p.events r) (q : Inflow) (s : RowValue) → IsRowOf q.window q.events s → p ≡ q → s.end ≡ r.end → s.key ≡ r.key → r.acc ≡ s.acc
    again p row q s row' same end key =
        acc_is_one (map first_value (members p.window.size r.end r.key p.events)) r.acc s.acc row.acc
        (subst (λ (k : List ℕ). IsAccOf (map first_value (members p.window.size r.end k p.events)) s.acc) key
        (subst (λ (e : ℤ). IsAccOf (map first_value (members p.window.size e s.key p.events)) s.acc) end
        (subst (λ (w : Inflow). IsAccOf (map first_value (members w.window.size s.end s.key w.events)) s.acc) (sym same) row'.acc)))

    twin : (j : ℕ) (s : RowValue) → j < length other → slice_index_or other j s ≡ s → s.vertex ≡ p.window.vertex → s.end ≡ r.end → s.key ≡ r.key → Stands r other
    twin j s j_low s_is vertex end key =
        let among : IsRowAmong entered s = subst (IsRowAmong entered) s_is (are.each j s j_low) in
        let same : p ≡ among.1 = one_window entered i among.0 p among.1 apart i_low among.2 p_is among.3 (sym vertex ∙ among.4.vertex) in
        subst (λ (t : RowValue). Stands t other) (sym (same_row r s (row.vertex ∙ sym vertex) (sym end) (sym key) (again p row among.1 s among.4 same end key))) (stands_at other j s j_low s_is)

stands_too : (entered : List Inflow) (rows other : List RowValue) → AreApart entered → AreRows entered rows → AreRows entered other → (r : RowValue) → Stands r rows → Stands r other
stands_too entered rows other apart are are' r here =
    let at : Contains rows r = stands-Contains rows r here in
    found entered other apart are' r (subst (IsRowAmong entered) at.2 (are.each at.0 r at.1))

pub rows_are_one : RowsAreOne
rows_are_one entered rows other apart are are' =
    same_sorted row_cmp_total rows other are.rising are'.rising (stands_too entered rows other apart are are') (stands_too entered other rows apart are' are)

-- ---- another order of the events
row_again : (p q : Inflow) (r : RowValue) → IsReordered p q → IsRowOf p.window p.events r → IsRowOf q.window q.events r
row_again p q r same row = record {
  vertex = row.vertex ∙ ap (λ (w : Window). w.vertex) same.0;
  multiple = subst (λ (w : Window). IsMultiple w.slide r.end) same.0 row.multiple;
  acc = acc-SameBag _ _ r.acc (SameBag-map first_value (SameBag-filter (λ x. bytes_eq x.key r.key && in_window q.window.size r.end x.ts) (SameBag-from_permutation same.1)))
      (subst (λ (w : Window). IsAccOf (map first_value (members w.size r.end r.key p.events)) r.acc) same.0 row.acc);
}

row_among : (entered other : List Inflow) → AllZip IsReordered entered other → (r : RowValue) → IsRowAmong entered r → IsRowAmong other r
row_among entered other same r (i, p, i_low, p_is, row) =
    let q : Inflow = slice_index_or other i p in
    let low : i < length other = omega (arith, i_low, length_all_zip IsReordered entered other same) in
    let pair : IsReordered p q = subst (λ (w : Inflow). IsReordered w q) p_is (AllZip-get_or IsReordered entered other i p p same i_low) in
    (i, q, low, any_default other i q p low, row_again p q r pair row)

ends_again : (p q : Inflow) (rows : List RowValue) → IsReordered p q → All (HasEnds rows p.window) p.events → All (HasEnds rows q.window) q.events
ends_again p q rows same ends =
    All-permutation (HasEnds rows q.window) p.events q.events same.1 (subst (λ (w : Window). All (HasEnds rows w) p.events) same.0 ends)

pub rows_stay_by_order : RowsStayByOrder
rows_stay_by_order entered other rows same are = record {
  each = λ k d low. row_among entered other same (slice_index_or rows k d) (are.each k d low);
  complete = λ i d low. let low' : i < length entered = omega (arith, low, length_all_zip IsReordered entered other same) in
      ends_again (slice_index_or entered i d) (slice_index_or other i d) rows (AllZip-get_or IsReordered entered other i d d same low') (are.complete i d low');
  rising = are.rising;
}
