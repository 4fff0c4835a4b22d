-- Rows between marks, put together.
use Rattle.std.proofs.Common.{◌≡◌, Bool, true, false, cond, ◌&&◌, List, [], ◌∷◌, ◌++◌, filter, get_or, map, refl, sym, ap, subst, arith, ℤ, ◌≤ℤ◌, ◌<ℤ◌, Option, Some, None}
use Rattle.std.specs.Prelude.{IfSome, int_le, int_lt, bytes_eq, All, Any}
use Rattle.std.specs.Bool.{Decides}
use Rattle.std.specs.List.{AllByRecursion}
use Rattle.std.specs.Option.{option_map_or}
use Rattle.std.specs.List.Sorted.{IsStrictlySortedBy}
use Rattle.std.specs.Ordering.{int_cmp, ordering_then}
use Rattle.std.specs.declared.cmp.Ordering.{Ordering}
use Rattle.std.specs.declared.cmp.Ordering.TheVariants.{Less}
use Rattle.std.proofs.lemmas.Bool.Decides.{Decides-and}
use Rattle.std.proofs.lemmas.Int.{ints, by_lt_z}
use Rattle.std.proofs.lemmas.List.Elements.{All-weaker, All-push, All-append, All-cons, All-nil, recursion_from_All, Contains-append_left, Contains-append_right}
use Rattle.jet_items.specs.Grid.{IsEndFor, in_window}
use Rattle.jet_items.specs.Rows.{Window, Inflow, IsRowOf, IsAccOf, HasRow, AreRows, first_value, members, row_cmp}
use Rattle.jet_items.specs.Values.{EventValue, RowValue}
use Rattle.jet_items.proofs.Covering.{Decides-int_lt, Decides-int_le, Decides-in_window, false_from}
use Rattle.jet_window.specs.Plain.{RowsBetween, RowsUpTo, is_between}
use Rattle.jet_window.specs.PlainLaws.{ClosedRowsStay, RowsFollow, RowsEnd}

-- ---- tests on whole numbers
after_decides : (after : Option ℤ) (e : ℤ) → Decides (option_map_or (λ m. int_lt m e) after true) (IfSome after (λ m. m <ℤ e))
after_decides None e = (λ h. tt, λ h. refl)
after_decides (Some m) e = Decides-int_lt m e

upto_decides : (upto : Option ℤ) (e : ℤ) → Decides (option_map_or (λ m. int_le e m) upto true) (IfSome upto (λ m. e ≤ℤ m))
upto_decides None e = (λ h. tt, λ h. refl)
upto_decides (Some m) e = Decides-int_le e m

pub Decides-is_between : (after upto : Option ℤ) (e : ℤ) → Decides (is_between after upto e) ((IfSome after (λ m. m <ℤ e)) × (IfSome upto (λ m. e ≤ℤ m)))
Decides-is_between after upto e =
    Decides-and (option_map_or (λ m. int_lt m e) after true) (option_map_or (λ m. int_le e m) upto true) (after_decides after e) (upto_decides upto e)

-- ---- lists
AllBy-append : {X : Type 0} (P : X → Type 0) (xs ys : List X) → AllByRecursion P xs → AllByRecursion P ys → AllByRecursion P (xs ++ ys)
AllBy-append P [] ys h k = k
AllBy-append P (x ∷ xs) ys h k = (h.0, AllBy-append P xs ys h.1 k)

pub sorted-append : {K : Type 0} (c : K → K → Ordering) (xs ys : List K) → IsStrictlySortedBy c xs → IsStrictlySortedBy c ys → AllByRecursion (λ x. AllByRecursion (λ y. c x y ≡ Less) ys) xs → IsStrictlySortedBy c (xs ++ ys)
unfolding IsStrictlySortedBy
sorted-append c [] ys h k m = k
sorted-append c (x ∷ xs) ys h k m = (AllBy-append (λ y. c x y ≡ Less) xs ys h.0 m.0, sorted-append c xs ys h.1 k m.1)

pub any_left : {X : Type 0} (P : X → Type 0) (xs ys : List X) → Any P xs → Any P (xs ++ ys)
any_left P xs ys (k, x, lt, is, p) = let at = Contains-append_left xs ys x (k, lt, is) in (at.0, x, at.1, at.2, p)

pub any_right : {X : Type 0} (P : X → Type 0) (xs ys : List X) → Any P ys → Any P (xs ++ ys)
any_right P xs ys (k, x, lt, is, p) = let at = Contains-append_right xs ys x (k, lt, is) in (at.0, x, at.1, at.2, p)

filter_skip : {X : Type 0} (p : X → Bool) (xs : List X) (x : X) → p x ≡ false → filter p (xs ++ x ∷ []) ≡ filter p xs
filter_skip p [] x h = rw h refl
filter_skip p (y ∷ ys) x h = ap (λ zs. cond (p y) (y ∷ zs) zs) (filter_skip p ys x h)

and_false : (a b : Bool) → b ≡ false → (a && b) ≡ false
and_false true b h = h
and_false false b h = refl

-- ---- an event at or above a mark
row_stays : (w : Window) (events : List EventValue) (row : RowValue) (x : EventValue) → row.end ≤ℤ x.ts → IsRowOf w events row → IsRowOf w (events ++ x ∷ []) row
row_stays w events row x le is =
    let out : in_window w.size row.end x.ts ≡ false = false_from (in_window w.size row.end x.ts) (Decides-in_window w.size row.end x.ts) (λ h. let lt = h.1 in omega (arith, ints)) in
    let none : (bytes_eq x.key row.key && in_window w.size row.end x.ts) ≡ false = and_false (bytes_eq x.key row.key) (in_window w.size row.end x.ts) out in
    let same : members w.size row.end row.key (events ++ x ∷ []) ≡ members w.size row.end row.key events = filter_skip (λ y. bytes_eq y.key row.key && in_window w.size row.end y.ts) events x none in
    record {
      vertex = is.vertex;
      multiple = is.multiple;
      acc = subst (λ (xs : List EventValue). IsAccOf (map first_value xs) row.acc) (sym same) is.acc;
    }

pub closed_stay : ClosedRowsStay
closed_stay w None events rows x le h = h
closed_stay w (Some mark) events rows x le h = record {
  each = All-weaker (λ row. IsRowOf w events row × (is_between None (Some mark) row.end ≡ true)) (λ row. IsRowOf w (events ++ x ∷ []) row × (is_between None (Some mark) row.end ≡ true))
      (λ row p. let high = ((Decides-is_between None (Some mark) row.end).0 p.1).1 in let below : row.end ≤ℤ x.ts = omega (arith, ints) in (row_stays w events row x below p.0, p.1)) rows h.each;
  complete = All-push (λ y. (end : ℤ) → IsEndFor w.size w.slide y.ts end → is_between None (Some mark) end ≡ true → HasRow rows w end y.key) events x h.complete
      (λ end is between. let high = ((Decides-is_between None (Some mark) end).0 between).1 in let above : x.ts <ℤ end = is.above in absurd (omega (arith, ints)));
  rising = h.rising;
}

-- ---- rows up to a mark, and later ones
less_then : (a b : Ordering) → a ≡ Less → ordering_then a b ≡ Less
less_then a b h = rw h refl

earlier_end : (r s : RowValue) → r.end <ℤ s.end → row_cmp r s ≡ Less
earlier_end r s lt =
    let test : int_lt r.end s.end ≡ true = (Decides-int_lt r.end s.end).1 lt in
    let first : int_cmp r.end s.end ≡ Less = rw test refl in
    less_then (int_cmp r.end s.end) _ first

all_later : (rows more : List RowValue) (t : ℤ) → AllByRecursion (λ r. r.end ≤ℤ t) rows → AllByRecursion (λ s. t <ℤ s.end) more → AllByRecursion (λ r. AllByRecursion (λ s. row_cmp r s ≡ Less) more) rows
all_later [] more t h k = tt
all_later (r ∷ rows) more t h k = (later r more t h.0 k, all_later rows more t h.1 k)
  where
    later : (r : RowValue) (more : List RowValue) (t : ℤ) → r.end ≤ℤ t → AllByRecursion (λ s. t <ℤ s.end) more → AllByRecursion (λ s. row_cmp r s ≡ Less) more
    later r [] t le k = tt
    later r (s ∷ more) t le k = let lt = k.0 in (earlier_end r s (omega (arith, ints)), later r more t le k.1)

upto_more : (upto : Option ℤ) (t e : ℤ) → IfSome upto (λ m. t ≤ℤ m) → e ≤ℤ t → IfSome upto (λ m. e ≤ℤ m)
upto_more None t e h le = tt
upto_more (Some m) t e h le = omega (arith, ints)

pub rows_join : (w : Window) (t : ℤ) (upto : Option ℤ) (events : List EventValue) (rows more : List RowValue) → IfSome upto (λ m. t ≤ℤ m) → RowsBetween w None (Some t) events rows → RowsBetween w (Some t) upto events more → RowsBetween w None upto events (rows ++ more)
rows_join w t upto events rows more le a b = record {
  each = All-append (λ row. IsRowOf w events row × (is_between None upto row.end ≡ true)) rows more
      (All-weaker (λ row. IsRowOf w events row × (is_between None (Some t) row.end ≡ true)) (λ row. IsRowOf w events row × (is_between None upto row.end ≡ true))
      (λ row p. let high = ((Decides-is_between None (Some t) row.end).0 p.1).1 in (p.0, (Decides-is_between None upto row.end).1 (tt, upto_more upto t row.end le high))) rows a.each)
      (All-weaker (λ row. IsRowOf w events row × (is_between (Some t) upto row.end ≡ true)) (λ row. IsRowOf w events row × (is_between None upto row.end ≡ true))
      (λ row p. let high = ((Decides-is_between (Some t) upto row.end).0 p.1).1 in (p.0, (Decides-is_between None upto row.end).1 (tt, high))) more b.each);
  complete = λ k d lt end is between.
      by_lt_z t end
      (λ above. any_right (λ (row : RowValue). (row.vertex ≡ w.vertex) × (row.end ≡ end) × (row.key ≡ (get_or events k d).key)) rows more (b.complete k d lt end is ((Decides-is_between (Some t) upto end).1 (above, ((Decides-is_between None upto end).0 between).1))))
      (λ below. any_left (λ (row : RowValue). (row.vertex ≡ w.vertex) × (row.end ≡ end) × (row.key ≡ (get_or events k d).key)) rows more (a.complete k d lt end is ((Decides-is_between None (Some t) end).1 (tt, below))));
  rising = sorted-append row_cmp rows more a.rising b.rising
      (all_later rows more t
      (recursion_from_All (λ r. r.end ≤ℤ t) rows (All-weaker (λ row. IsRowOf w events row × (is_between None (Some t) row.end ≡ true)) (λ r. r.end ≤ℤ t) (λ row p. ((Decides-is_between None (Some t) row.end).0 p.1).1) rows a.each))
      (recursion_from_All (λ s. t <ℤ s.end) more (All-weaker (λ row. IsRowOf w events row × (is_between (Some t) upto row.end ≡ true)) (λ s. t <ℤ s.end) (λ row p. ((Decides-is_between (Some t) upto row.end).0 p.1).0) more b.each)));
}

join_so_far : (w : Window) (closed upto : Option ℤ) (events : List EventValue) (rows more : List RowValue) → IfSome closed (λ t. IfSome upto (λ m. t ≤ℤ m)) → RowsUpTo w closed events rows → RowsBetween w closed upto events more → RowsBetween w None upto events (rows ++ more)
join_so_far w None upto events rows more le a b = subst (λ (rs : List RowValue). RowsBetween w None upto events (rs ++ more)) (sym a) b
join_so_far w (Some t) upto events rows more le a b = rows_join w t upto events rows more le a b

pub follow : RowsFollow
follow w None mark events rows more le a b = join_so_far w None (Some mark) events rows more tt a b
follow w (Some t) mark events rows more le a b = join_so_far w (Some t) (Some mark) events rows more le a b

all_rows : (w : Window) (events : List EventValue) (rows : List RowValue) → RowsBetween w None None events rows → AreRows (record { window = w; events = events } ∷ []) rows
all_rows w events rows h =
    let flow : Inflow = record { window = w; events = events } in
    record {
      each = All-weaker (λ row. IsRowOf w events row × (is_between None None row.end ≡ true)) (λ row. Any (λ p. IsRowOf p.window p.events row) (flow ∷ [])) (λ row p. (0, flow, omega arith, refl, p.0)) rows h.each;
      complete = All-cons (λ (p : Inflow). All (λ x. (end : ℤ) → IsEndFor p.window.size p.window.slide x.ts end → HasRow rows p.window end x.key) p.events) flow [] (λ k d lt end is. h.complete k d lt end is refl)
          (All-nil (λ (p : Inflow). All (λ x. (end : ℤ) → IsEndFor p.window.size p.window.slide x.ts end → HasRow rows p.window end x.key) p.events));
      rising = h.rising;
    }

pub rows_whole : RowsEnd
rows_whole w None events rows more a b = all_rows w events (rows ++ more) (join_so_far w None None events rows more tt a b)
rows_whole w (Some t) events rows more a b = all_rows w events (rows ++ more) (join_so_far w (Some t) None events rows more tt a b)
