-- The rows of a table are those of the windows between two marks.
use Rattle.std.proofs.Common.{◌≡◌, ℕ, ◌+◌, ◌<◌, Bool, true, false, ◌&&◌, List, [], ◌∷◌, ◌++◌, length, get_or, take, map, refl, sym, ◌∙◌, ap, subst, arith, ℤ, ◌+ℤ◌, ◌-ℤ◌, ◌≤ℤ◌, ◌<ℤ◌, Option, Some, None, Result, Ok, Err}
use Rattle.std.specs.Prelude.{IfSome, IfOk, bytes_eq, slice_get}
use Rattle.std.specs.Bool.{Decides}
use Rattle.std.specs.BTreeMap.{BTreeMap, get, values, IsOrdered, is_at}
use Rattle.std.specs.List.{AllByRecursion}
use Rattle.std.specs.List.Sorted.{IsStrictlySortedBy}
use Rattle.std.specs.Map.{keys_of, values_of}
use Rattle.std.specs.Option.{option_map}
use Rattle.std.specs.Ordering.{int_cmp, nat_cmp, ordering_then}
use Rattle.std.specs.Cmp.Lexicographic.{slice_cmp}
use Rattle.std.specs.declared.cmp.Ordering.{Ordering}
use Rattle.std.specs.declared.cmp.Ordering.TheVariants.{Less, Equal}
use Rattle.std.proofs.lemmas.Bool.Decides.{Decides-and}
use Rattle.std.proofs.lemmas.Cmp.{tied_itself, nat_cmp_total}
use Rattle.std.proofs.lemmas.Int.{ints}
use Rattle.std.proofs.lemmas.List.Elements.{All-map, recursion_from_All}
use Rattle.std.proofs.lemmas.Map.Entries.{btree_map_get_place, place_from_lookup}
use Rattle.std.proofs.lemmas.Option.{slice_get-get_or, slice_get-map, slice_get_within, get_or_from_slice_get}
use Rattle.std.proofs.lemmas.Slice.Eq.{bytes_eq-Decides}
use Rattle.std.proofs.lemmas.List.{take_more}
use Rattle.jet_items.specs.Grid.{IsMultiple, IsEndFor, floor_to, in_window}
use Rattle.jet_items.specs.Rows.{IsRowOf, HasRow, first_value, members, row_cmp}
use Rattle.jet_items.specs.Totals.{one, both, total}
use Rattle.jet_items.specs.Values.{EventValue, AccValue, RowValue}
use Rattle.jet_items.proofs.GridLemmas.{floor_is}
use Rattle.jet_items.proofs.Totaling.{total-none, total-same}
use Rattle.jet_policy.specs.Policy.{IsPolicy}
use Rattle.jet_window.specs.Plain.{PlainValue, HasTaken, RowsBetween, is_open, is_between, window_named}
use Rattle.jet_window.specs.Tables.{Place, place_cmp, row_of, IsTable, is_multiple, brings}
use Rattle.jet_items.specs.Frames.{only, event_in}
use Rattle.jet_items.proofs.Covering.{Decides-int_lt, Decides-in_window, IsTotalOf, false_from, members_total}
use Rattle.jet_window.proofs.Between.{Decides-is_between}
use Rattle.jet_window.proofs.Members.{total_brings, total_kept}
use Rattle.jet_window.proofs.Stepping.{place_total, Decides-multiple, total_push, contra}

-- both answers
pub both_ok : {X E : Type 0} (r : Result X E) (P Q R : X → Type 0) → ((x : X) → P x → Q x → R x) → IfOk r P → IfOk r Q → IfOk r R
both_ok (Ok x) P Q R f p q = f x p q
both_ok (Err e) P Q R f p q = tt

pub total_take : {X : Type 0} (f : X → Option AccValue) (xs : List X) (i : ℕ) (x : X) → i < length xs → x ≡ get_or xs i x → both (total f (take i xs)) (f x) ≡ total f (take (i + 1) xs)
total_take {X} f xs i x lt is =
    let more : take (i + 1) xs ≡ take i xs ++ (get_or xs i x ∷ []) = take_more xs i x lt in
    total_push f (take i xs) x ∙ sym (ap (total f) more ∙ ap (λ (y : X). total f (take i xs ++ (y ∷ []))) (sym is))

module _ (p : PlainValue) (upto : Option ℤ) (all : List EventValue) (policy : IsPolicy p.size p.slide) (taken : HasTaken p all) where
  abbrev known : ℤ → List ℕ → Option AccValue
  known e key = total (brings p.size p.slide p.closed upto e key) p.events

  -- an event whose windows are closed brings nothing to a later end
  closed_none : (e : ℤ) (key : List ℕ) (closed : Option ℤ) (x : EventValue) → is_open p.size p.slide closed x.ts ≡ false → brings p.size p.slide closed upto e key x ≡ None
  closed_none e key None x h = contra h
  closed_none e key (Some mark) x h =
      let test : Bool = bytes_eq x.key key && (in_window p.size e x.ts && (is_multiple p.slide e && is_between (Some mark) upto e)) in
      let decides : Decides test ((x.key ≡ key) × ((((e -ℤ p.size) ≤ℤ x.ts) × (x.ts <ℤ e)) × (IsMultiple p.slide e × ((mark <ℤ e) × (IfSome upto (λ m. e ≤ℤ m)))))) =
      Decides-and (bytes_eq x.key key) (in_window p.size e x.ts && (is_multiple p.slide e && is_between (Some mark) upto e)) (bytes_eq-Decides x.key key)
      (Decides-and (in_window p.size e x.ts) (is_multiple p.slide e && is_between (Some mark) upto e) (Decides-in_window p.size e x.ts)
      (Decides-and (is_multiple p.slide e) (is_between (Some mark) upto e) (Decides-multiple p.slide e policy.slide_low) (Decides-is_between (Some mark) upto e))) in
      ap (λ (b : Bool). only b (one (first_value x))) (false_from test decides (λ d.
      let low : (e -ℤ p.size) ≤ℤ x.ts = d.1.0.0 in
      let above : mark <ℤ e = d.1.1.1.0 in
      let le : e ≤ℤ floor_to p.slide (x.ts +ℤ p.size) = (floor_is p.slide (x.ts +ℤ p.size) policy.slide_low).greatest e d.1.1.0 (omega (arith, ints)) in
      contra (sym ((Decides-int_lt mark (floor_to p.slide (x.ts +ℤ p.size))).1 (omega (arith, ints))) ∙ h)))

  and_true : (a b : Bool) → b ≡ true → (a && b) ≡ a
  and_true true b h = h
  and_true false b h = refl

  both_true : (a b : Bool) → a ≡ true → b ≡ true → (a && b) ≡ true
  both_true a b h k = rw (h, k) refl

  -- what is known of a due end is what all events bring to its window
  known_all : (e : ℤ) (key : List ℕ) → is_multiple p.slide e ≡ true → is_between p.closed upto e ≡ true → known e key ≡ total (event_in p.size e key) all
  known_all e key m d =
      let due : (is_multiple p.slide e && is_between p.closed upto e) ≡ true = both_true (is_multiple p.slide e) (is_between p.closed upto e) m d in
      ap (total (brings p.size p.slide p.closed upto e key)) taken
      ∙ (total_kept (brings p.size p.slide p.closed upto e key) (λ x. is_open p.size p.slide p.closed x.ts) (λ x h. closed_none e key p.closed x h) all
      ∙ total-same (brings p.size p.slide p.closed upto e key) (event_in p.size e key)
      (λ x. ap (λ (b : Bool). only (bytes_eq x.key key && b) (one (first_value x))) (and_true (in_window p.size e x.ts) (is_multiple p.slide e && is_between p.closed upto e) due)) all)

  and_no : (a b : Bool) → (a && (b && false)) ≡ false
  and_no true true = refl
  and_no true false = refl
  and_no false b = refl

  due_if : (e : ℤ) (key : List ℕ) (acc : AccValue) (b : Bool) → (is_multiple p.slide e && is_between p.closed upto e) ≡ b → known e key ≡ Some acc → b ≡ true
  due_if e key acc true is h = refl
  due_if e key acc false is h =
      let none : known e key ≡ None = total-none (brings p.size p.slide p.closed upto e key)
      (λ x. ap (λ (b : Bool). only (bytes_eq x.key key && (in_window p.size e x.ts && b)) (one (first_value x))) is
      ∙ ap (λ (b : Bool). only b (one (first_value x))) (and_no (bytes_eq x.key key) (in_window p.size e x.ts))) p.events in
      absurd (apart acc (sym none ∙ h))
    where
      apart : (acc : AccValue) → (let n : Option AccValue = None in n ≡ Some acc) → ⊥
      apart acc h = cc

  parts : (a b : Bool) → (a && b) ≡ true → (a ≡ true) × (b ≡ true)
  parts true b h = (refl, h)
  parts false b h = contra (sym h)

  -- a row that is found is the row of its end and key
  row_found : (e : ℤ) (key : List ℕ) (row : RowValue) (o : Option AccValue) → row_of p.vertex e key o ≡ Some row → (o ≡ Some row.acc) × (row ≡ record { vertex = p.vertex; end = e; key = key; acc = row.acc })
  row_found e key row None h = absurd (cc)
  row_found e key row (Some acc) h =
      let is : (let r : RowValue = record { vertex = p.vertex; end = e; key = key; acc = acc } in r) ≡ row = some_is h in
      (ap Some (ap (λ (r : RowValue). r.acc) is), sym is ∙ ap (λ (a : AccValue). let r : RowValue = record { vertex = p.vertex; end = e; key = key; acc = a } in r) (ap (λ (r : RowValue). r.acc) is))
    where
      some_is : {r s : RowValue} → Some r ≡ Some s → r ≡ s
      some_is h = cc

  abbrev IsRowAt : Place × RowValue → Type 0
  IsRowAt f = (known f.0.0 f.0.1 ≡ Some f.1.acc) × (f.1 ≡ record { vertex = p.vertex; end = f.0.0; key = f.0.1; acc = f.1.acc })

  row_is : (name : List ℕ) (f : Place × RowValue) → IsRowAt f → IsRowOf (window_named p name) all f.1 × (is_between p.closed upto f.1.end ≡ true)
  row_is name f at =
      let due = parts (is_multiple p.slide f.0.0) (is_between p.closed upto f.0.0) (due_if f.0.0 f.0.1 f.1.acc (is_multiple p.slide f.0.0 && is_between p.closed upto f.0.0) refl at.0) in
      let sum : IsTotalOf (map first_value (members p.size f.0.0 f.0.1 all)) (Some f.1.acc) = subst (IsTotalOf (map first_value (members p.size f.0.0 f.0.1 all))) (sym (known_all f.0.0 f.0.1 due.0 due.1) ∙ at.0) (members_total p.size f.0.0 f.0.1 all) in
      let whole : IsRowOf (window_named p name) all (record { vertex = p.vertex; end = f.0.0; key = f.0.1; acc = f.1.acc }) × (is_between p.closed upto f.0.0 ≡ true) =
      (record { vertex = refl; multiple = (Decides-multiple p.slide f.0.0 policy.slide_low).0 due.0; acc = sum }, due.1) in
      subst (λ (r : RowValue). IsRowOf (window_named p name) all r × (is_between p.closed upto r.end ≡ true)) (sym at.1) whole

  less_rest : (a b c : Ordering) → b ≡ Equal → ordering_then a c ≡ Less → ordering_then a (ordering_then b c) ≡ Less
  less_rest a b c h k = rw h k

  row_less : (f g : Place × RowValue) → IsRowAt f → IsRowAt g → place_cmp f.0 g.0 ≡ Less → row_cmp f.1 g.1 ≡ Less
  row_less f g a b lt =
      let whole : row_cmp (record { vertex = p.vertex; end = f.0.0; key = f.0.1; acc = f.1.acc }) (record { vertex = p.vertex; end = g.0.0; key = g.0.1; acc = g.1.acc }) ≡ Less =
      less_rest (int_cmp f.0.0 g.0.0) (nat_cmp p.vertex p.vertex) (slice_cmp nat_cmp f.0.1 g.0.1) (tied_itself nat_cmp_total p.vertex) lt in
      subst (λ (r : RowValue). row_cmp r g.1 ≡ Less) (sym a.1) (subst (λ (s : RowValue). row_cmp (record { vertex = p.vertex; end = f.0.0; key = f.0.1; acc = f.1.acc }) s ≡ Less) (sym b.1) whole)

  less_all : (f : Place × RowValue) (es : List (Place × RowValue)) → IsRowAt f → AllByRecursion IsRowAt es → AllByRecursion (λ q. place_cmp f.0 q ≡ Less) (keys_of es) → AllByRecursion (λ r. row_cmp f.1 r ≡ Less) (values_of es)
  less_all f [] a h k = tt
  less_all f (g ∷ es) a h k = (row_less f g a h.0 k.0, less_all f es a h.1 k.1)

  rising_values : (es : List (Place × RowValue)) → AllByRecursion IsRowAt es → IsStrictlySortedBy place_cmp (keys_of es) → IsStrictlySortedBy row_cmp (values_of es)
  unfolding IsStrictlySortedBy
  rising_values [] h s = tt
  rising_values (f ∷ es) h s = (less_all f es h.0 h.1 s.0, rising_values es h.1 s.1)

  some_total : (e : ℤ) (k : ℕ) (d : EventValue) → k < length all → IsEndFor p.size p.slide (get_or all k d).ts e → total (event_in p.size e (get_or all k d).key) all ≡ None → ⊥
  some_total e k d lt is none =
      let x : EventValue = get_or all k d in
      let above : x.ts <ℤ e = is.above in
      let within : e ≤ℤ (x.ts +ℤ p.size) = is.within in
      let test : (bytes_eq x.key x.key && in_window p.size e x.ts) ≡ true = both_true (bytes_eq x.key x.key) (in_window p.size e x.ts) ((bytes_eq-Decides x.key x.key).1 refl) ((Decides-in_window p.size e x.ts).1 (omega (arith, ints), above)) in
      let some : event_in p.size e x.key x ≡ Some (one (first_value x)) = ap (λ (b : Bool). only b (one (first_value x))) test in
      apart (one (first_value x)) (sym (total_brings (event_in p.size e x.key) all none k d lt) ∙ some)
    where
      apart : (acc : AccValue) → (let n : Option AccValue = None in n ≡ Some acc) → ⊥
      apart acc h = cc

  module _ (name : List ℕ) (table : BTreeMap Place RowValue) (is : IsTable p.vertex known table) (ordered : IsOrdered place_cmp table) where
    entry_is : (k : ℕ) (d : Place × RowValue) → k < length table.entries → IsRowAt (get_or table.entries k d)
    entry_is k d lt =
        let f : Place × RowValue = get_or table.entries k d in
        let found : get place_cmp table f.0 ≡ Some f.1 = btree_map_get_place place_total table k f.0 f.1 ordered (slice_get-get_or table.entries k d lt) in
        row_found f.0.0 f.0.1 f.1 (known f.0.0 f.0.1) (sym (is.at f.0.0 f.0.1) ∙ found)

    has_row : (e : ℤ) (key : List ℕ) (o : Option AccValue) → known e key ≡ o → (o ≡ None → ⊥) → HasRow (values table) (window_named p name) e key
    has_row e key None h some = absurd (some refl)
    has_row e key (Some acc) h some =
        let row : RowValue = record { vertex = p.vertex; end = e; key = key; acc = acc } in
        let found : get place_cmp table (e, key) ≡ Some row = is.at e key ∙ ap (λ (o : Option AccValue). row_of p.vertex e key o) h in
        let at = place_from_lookup (is_at (place_cmp (e, key))) table.entries row found in
        let there : slice_get (values table) at.0 ≡ Some row = slice_get-map (λ (f : Place × RowValue). f.1) table.entries at.0 ∙ ap (option_map (λ (f : Place × RowValue). f.1)) at.2 in
        (at.0, row, slice_get_within (values table) at.0 row there, get_or_from_slice_get (values table) at.0 row row there, (refl, refl, refl))

    pub rows_between : RowsBetween (window_named p name) p.closed upto all (values table)
    rows_between = record {
      each = All-map (λ row. IsRowOf (window_named p name) all row × (is_between p.closed upto row.end ≡ true)) (λ (f : Place × RowValue). f.1) table.entries (λ k d lt. row_is name (get_or table.entries k d) (entry_is k d lt));
      complete = λ k d lt e end between.
          let m : is_multiple p.slide e ≡ true = (Decides-multiple p.slide e policy.slide_low).1 end.multiple in
          has_row e (get_or all k d).key (known e (get_or all k d).key) refl (λ none. some_total e k d lt end (sym (known_all e (get_or all k d).key m between) ∙ none));
      rising = rising_values table.entries (recursion_from_All IsRowAt table.entries entry_is) ordered;
    }
