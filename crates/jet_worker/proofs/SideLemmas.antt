-- The lines of a side file, read one after another.
use Rattle.std.proofs.Common.{◌≡◌, ℕ, suc, ◌+◌, ◌<◌, ◌≤◌, Bool, true, false, List, [], ◌∷◌, ◌++◌, map, length, take, nat_lt, Option, Some, None, refl, sym, ap, ◌∙◌, subst, arith, append-nil, append_assoc, length-append}
use Rattle.std.specs.Prelude.{Result, Ok, Err, is_ok, filter_map, option_to_list, if◌then◌else◌, bytes_eq, IfErr, OnOk}
use Rattle.std.specs.List.{enumerate_from, list_all, cons_option}
use Rattle.std.proofs.lemmas.Bool.Decides.{nat_tests}
use Rattle.jet_items.specs.Values.{SideValue}
use Rattle.jet_items.specs.declared.no_memory.Refused.{Refused}
use Rattle.jet_items.specs.declared.no_memory.Refused.TheVariants as refused
use Rattle.jet_lines.specs.Files.{numbered_at, readings, readings_in, item_of, items_of, fault_of, first_of}
use Rattle.jet_lines.specs.Lines.{lines_of}
use Rattle.jet_lines.specs.Readings.{side_line}
use Rattle.jet_lines.specs.declared.fault.LineFault.{LineFault}
use Rattle.jet_lines.specs.declared.fault.LineFault.TheVariants.{KeyFull}
use Rattle.jet_flow.specs.SideFiles.{first_bad_row, most_rows, reading_after, row_after, rows_of, rows_with, side_readings}
use Rattle.jet_worker.specs.inner.LineLaws.{SideLaws}
use Rattle.jet_worker.specs.inner.Tallying.{CountsRow, RefusesRow, RefusesSideLine, SideTallied, TakesSideLine, rows_at}
use Rattle.jet_worker.specs.SideRows.{side_after, side_rows}
use Rattle.jet_worker.specs.declared.side_tally.SideTally.{SideTally}
use Rattle.jet_worker.proofs.CountLemmas.{count_last}

abbrev Reading : Type 0
Reading = Result (Option SideValue) LineFault

one_item : (r : Reading) → filter_map item_of (r ∷ []) ≡ option_to_list (item_of r)
one_item (Ok None) = refl
one_item (Ok (Some s)) = refl
one_item (Err f) = refl

cons_append : (o : Option SideValue) (xs ys : List SideValue) → cons_option o xs ++ ys ≡ cons_option o (xs ++ ys)
cons_append None xs ys = refl
cons_append (Some x) xs ys = refl

items_append : (xs ys : List Reading) → filter_map item_of (xs ++ ys) ≡ filter_map item_of xs ++ filter_map item_of ys
items_append [] ys = refl
items_append (x ∷ xs) ys = ap (cons_option (item_of x)) (items_append xs ys) ∙ sym (cons_append (item_of x) (filter_map item_of xs) (filter_map item_of ys))

take_front : {X : Type 0} (xs ys : List X) → take (length xs) (xs ++ ys) ≡ xs
take_front [] ys = refl
take_front (x ∷ xs) ys = ap (λ zs. x ∷ zs) (take_front xs ys)

-- each reading behind those at lower places
abbrev placed : List Reading → ℕ → List Reading → List Reading
placed all n rest = map (λ p. reading_after (filter_map item_of (take p.0 all)) p.1) (enumerate_from n rest)

after_from : (front rest : List Reading) → placed (front ++ rest) (length front) rest ≡ side_after (filter_map item_of front) rest
after_from front [] = refl
after_from front (r ∷ rest) =
    let all : (front ++ r ∷ []) ++ rest ≡ front ++ r ∷ rest = append_assoc front (r ∷ []) rest in
    let longer : length (front ++ r ∷ []) ≡ length front + 1 = length-append front (r ∷ []) in
    let head : filter_map item_of (take (length front) (front ++ r ∷ rest)) ≡ filter_map item_of front = ap (filter_map item_of) (take_front front (r ∷ rest)) in
    let rows : filter_map item_of (front ++ r ∷ []) ≡ filter_map item_of front ++ option_to_list (item_of r) =
    items_append front (r ∷ []) ∙ ap (λ (xs : List SideValue). filter_map item_of front ++ xs) (one_item r) in
    let tail : placed (front ++ r ∷ rest) (length front + 1) rest ≡ side_after (filter_map item_of front ++ option_to_list (item_of r)) rest =
    ap (λ (zs : List Reading). placed zs (length front + 1) rest) (sym all)
    ∙ ap (λ (n : ℕ). placed ((front ++ r ∷ []) ++ rest) n rest) (sym longer)
    ∙ after_from (front ++ r ∷ []) rest
    ∙ ap (λ (xs : List SideValue). side_after xs rest) rows in
    ap (λ (xs : List SideValue). reading_after xs r ∷ placed (front ++ r ∷ rest) (length front + 1) rest) head
    ∙ ap (λ (zs : List Reading). reading_after (filter_map item_of front) r ∷ zs) tail

readings_are : (most : ℕ) (bytes : List ℕ) → side_readings most bytes ≡ side_after [] (readings side_line most bytes)
readings_are most bytes = after_from [] (readings side_line most bytes)

after_append : (rows : List SideValue) (xs ys : List Reading) → side_after rows (xs ++ ys) ≡ side_after rows xs ++ side_after (rows ++ filter_map item_of xs) ys
after_append rows [] ys = ap (λ (zs : List SideValue). side_after zs ys) (sym (append-nil rows))
after_append rows (x ∷ xs) ys =
    let more : (rows ++ option_to_list (item_of x)) ++ filter_map item_of xs ≡ rows ++ filter_map item_of (x ∷ xs) =
    append_assoc rows (option_to_list (item_of x)) (filter_map item_of xs)
    ∙ ap (λ (zs : List SideValue). rows ++ (zs ++ filter_map item_of xs)) (sym (one_item x))
    ∙ ap (λ (zs : List SideValue). rows ++ zs) (sym (items_append (x ∷ []) xs)) in
    ap (λ (zs : List Reading). reading_after rows x ∷ zs)
    (after_append (rows ++ option_to_list (item_of x)) xs ys ∙ ap (λ (zs : List SideValue). side_after (rows ++ option_to_list (item_of x)) xs ++ side_after zs ys) more)

length_after : (rows : List SideValue) (xs : List Reading) → length (side_after rows xs) ≡ length xs
length_after rows [] = refl
length_after rows (x ∷ xs) = ap suc (length_after (rows ++ option_to_list (item_of x)) xs)

-- ---- a row behind others
row_if : (rows : List SideValue) (s : SideValue) (b : Bool) → nat_lt (rows_with s.key rows) most_rows ≡ b → row_after rows s ≡ (if b then Ok (Some s) else Err KeyFull)
row_if rows s b is = ap (λ (t : Bool). if t then Ok (Some s) else Err KeyFull) is

lt_true : (a b : ℕ) → a < b → nat_lt a b ≡ true
lt_true a b h = grind (arith, nat_tests)

lt_false : (a b : ℕ) → b ≤ a → nat_lt a b ≡ false
lt_false a b h = grind (arith, nat_tests)

row_fits : (rows : List SideValue) (s : SideValue) → rows_with s.key rows < most_rows → row_after rows s ≡ Ok (Some s)
row_fits rows s h = row_if rows s true (lt_true (rows_with s.key rows) most_rows h)

row_full : (rows : List SideValue) (s : SideValue) → most_rows ≤ rows_with s.key rows → row_after rows s ≡ Err KeyFull
row_full rows s h = row_if rows s false (lt_false (rows_with s.key rows) most_rows h)

-- good readings are as they are by themselves
good_row : (rows : List SideValue) (s : SideValue) (b : Bool) (xs : List Reading) → nat_lt (rows_with s.key rows) most_rows ≡ b → list_all is_ok (row_after rows s ∷ xs) ≡ true
    → (row_after rows s ≡ Ok (Some s)) × (list_all is_ok xs ≡ true)
good_row rows s true xs is ok = (row_if rows s true is, subst (λ (r : Reading). list_all is_ok (r ∷ xs) ≡ true) (row_if rows s true is) ok)
good_row rows s false xs is ok = absurd (false_true (subst (λ (r : Reading). list_all is_ok (r ∷ xs) ≡ true) (row_if rows s false is) ok))
  where
    false_true : false ≡ true → ⊥
    false_true h = cc

same_items : (rows : List SideValue) (xs : List Reading) → list_all is_ok (side_after rows xs) ≡ true → filter_map item_of (side_after rows xs) ≡ filter_map item_of xs
same_items rows [] ok = refl
same_items rows (Ok None ∷ xs) ok =
    ap (filter_map item_of) (ap (λ (zs : List SideValue). side_after zs xs) (append-nil rows))
    ∙ same_items rows xs (subst (λ (zs : List SideValue). list_all is_ok (side_after zs xs) ≡ true) (append-nil rows) ok)
same_items rows (Ok (Some s) ∷ xs) ok =
    let good = good_row rows s (nat_lt (rows_with s.key rows) most_rows) (side_after (rows ++ s ∷ []) xs) refl ok in
    ap (λ (r : Reading). cons_option (item_of r) (filter_map item_of (side_after (rows ++ s ∷ []) xs))) good.0
    ∙ ap (λ (zs : List SideValue). s ∷ zs) (same_items (rows ++ s ∷ []) xs good.1)
same_items rows (Err f ∷ xs) ok = cc ok

-- good readings with one more
good_append : (good : List Reading) (o : Option SideValue) → list_all is_ok good ≡ true → list_all is_ok (good ++ Ok o ∷ []) ≡ true
good_append [] o ok = refl
good_append (Ok p ∷ good) o ok = good_append good o ok
good_append (Err f ∷ good) o ok = cc ok

count_more : (key : List ℕ) (rows : List SideValue) (s : SideValue) → rows_with key (rows ++ s ∷ []) ≡ rows_with key rows + (if bytes_eq s.key key then 1 else 0)
count_more key rows s = count_last (λ (r : SideValue). bytes_eq r.key key) rows s

module _ (laws : SideLaws) where
  -- ---- the first bad line
  pub no_bad_row : (most : ℕ) (bytes : List ℕ) → list_all is_ok (side_after [] (readings_in side_line most (lines_of bytes))) ≡ true
      → (first_bad_row most bytes ≡ None) × (rows_of most bytes ≡ side_rows most (lines_of bytes))
  no_bad_row most bytes good =
      let is : side_readings most bytes ≡ side_after [] (readings side_line most bytes) = readings_are most bytes in (
        ap (λ (rs : List Reading). first_of (filter_map fault_of (enumerate_from 1 rs))) is ∙ ap first_of (laws.no_fault 1 (side_after [] (readings side_line most bytes)) good),
        ap items_of is ∙ laws.good (side_after [] (readings side_line most bytes)) good ∙ same_items [] (readings side_line most bytes) good,
      )

  pub bad_row : (most : ℕ) (bytes : List ℕ) (given : List (List ℕ)) (line : List ℕ) (others : List (List ℕ)) (why : LineFault)
      → list_all is_ok (side_after [] (readings_in side_line most given)) ≡ true → lines_of bytes ≡ given ++ line ∷ others
      → reading_after (side_rows most given) (numbered_at side_line most (length given + 1, line)) ≡ Err why → first_bad_row most bytes ≡ Some (length given + 1, why)
  bad_row most bytes given line others why good parts bad =
      let next : Reading = numbered_at side_line most (length given + 1, line) in
      let later : List Reading = map (numbered_at side_line most) (enumerate_from (length given + 1 + 1) others) in
      let before : List Reading = readings_in side_line most given in
      let all : readings side_line most bytes ≡ before ++ next ∷ later = ap (readings_in side_line most) parts ∙ laws.apart most given line others in
      let rest : List Reading = side_after (side_rows most given ++ option_to_list (item_of next)) later in
      let is : side_readings most bytes ≡ side_after [] before ++ Err why ∷ rest =
      readings_are most bytes ∙ ap (side_after []) all ∙ after_append [] before (next ∷ later)
      ∙ ap (λ (r : Reading). side_after [] before ++ r ∷ rest) bad in
      let place : 1 + length (side_after [] before) ≡ length given + 1 = omega (arith, length_after [] before, laws.count most given) in
      ap (λ (rs : List Reading). first_of (filter_map fault_of (enumerate_from 1 rs))) is ∙ laws.first_fault 1 (side_after [] before) rest why good ∙ ap (λ (k : ℕ). Some (k, why)) place

  -- ---- one line more
  readings_more : (most : ℕ) (given : List (List ℕ)) (line : List ℕ) (found : Option SideValue) → length given < most → side_line (length given + 1) line ≡ Ok found
      → readings_in side_line most (given ++ line ∷ []) ≡ readings_in side_line most given ++ Ok found ∷ []
  readings_more most given line found room read =
      laws.apart most given line [] ∙ ap (λ (r : Reading). readings_in side_line most given ++ r ∷ []) (laws.fits most (length given) line room ∙ read)

  rows_more : (most : ℕ) (given : List (List ℕ)) (line : List ℕ) (found : Option SideValue) → length given < most → side_line (length given + 1) line ≡ Ok found
      → side_rows most (given ++ line ∷ []) ≡ side_rows most given ++ option_to_list found
  rows_more most given line found room read =
      ap (filter_map item_of) (readings_more most given line found room read) ∙ items_append (readings_in side_line most given) (Ok found ∷ [])
      ∙ ap (λ (xs : List SideValue). side_rows most given ++ xs) (one_item (Ok found))

  good_more : (most : ℕ) (given : List (List ℕ)) (line : List ℕ) (found : Option SideValue) → length given < most → side_line (length given + 1) line ≡ Ok found
      → list_all is_ok (side_after [] (readings_in side_line most given)) ≡ true → reading_after (side_rows most given) (Ok found) ≡ Ok found
      → list_all is_ok (side_after [] (readings_in side_line most (given ++ line ∷ []))) ≡ true
  good_more most given line found room read good same =
      ap (λ (rs : List Reading). list_all is_ok (side_after [] rs)) (readings_more most given line found room read)
      ∙ ap (list_all is_ok) (after_append [] (readings_in side_line most given) (Ok found ∷ []))
      ∙ ap (λ (r : Reading). list_all is_ok (side_after [] (readings_in side_line most given) ++ r ∷ [])) same
      ∙ good_append (side_after [] (readings_in side_line most given)) found good

  -- a line without a row
  pub took_no_row : (n : ℕ) (line : List ℕ) (t : SideTally) → side_line n line ≡ Ok None → TakesSideLine n line t t
  took_no_row n line t read = λ most given h number small.
      let room : length given < most = omega (arith, number, small) in
      let at : side_line (length given + 1) line ≡ Ok None = subst (λ (k : ℕ). side_line k line ≡ Ok None) number read in
      let same : side_rows most (given ++ line ∷ []) ≡ side_rows most given = rows_more most given line None room at ∙ append-nil (side_rows most given) in
      record {
        good = good_more most given line None room at h.good refl;
        counts = λ key. h.counts key ∙ ap (rows_with key) (sym same);
        rows = h.rows ∙ ap length (sym same);
      }

  -- a line with a row that was counted
  took_row : (n : ℕ) (line : List ℕ) (row : SideValue) (old new : SideTally) → side_line n line ≡ Ok (Some row) → CountsRow row old new → TakesSideLine n line old new
  took_row n line row old new read c = λ most given h number small.
      let room : length given < most = omega (arith, number, small) in
      let at : side_line (length given + 1) line ≡ Ok (Some row) = subst (λ (k : ℕ). side_line k line ≡ Ok (Some row)) number read in
      let more : side_rows most (given ++ line ∷ []) ≡ side_rows most given ++ row ∷ [] = rows_more most given line (Some row) room at in
      let fits : rows_with row.key (side_rows most given) < most_rows = subst (λ (k : ℕ). k < most_rows) (h.counts row.key) c.room in
      record {
        good = good_more most given line (Some row) room at h.good (row_fits (side_rows most given) row fits);
        counts = λ key. c.counts key ∙ ap (λ (k : ℕ). k + (if bytes_eq row.key key then 1 else 0)) (h.counts key) ∙ sym (count_more key (side_rows most given) row) ∙ ap (rows_with key) (sym more);
        rows = c.rows ∙ ap (λ (k : ℕ). k + 1) h.rows ∙ sym (length-append (side_rows most given) (row ∷ [])) ∙ ap length (sym more);
      }

  -- by the answer of counting the row
  pub took_by : (n : ℕ) (line : List ℕ) (row : SideValue) (old new : SideTally) (r : Result (Unit {0}) (Refused LineFault)) → side_line n line ≡ Ok (Some row)
      → OnOk r (CountsRow row old new) → OnOk r (TakesSideLine n line old new)
  took_by n line row old new (Ok done) read c = took_row n line row old new read c
  took_by n line row old new (Err e) read c = tt

-- a line with a row whose key has no room
refused_row : (n : ℕ) (line : List ℕ) (row : SideValue) (t : SideTally) (why : LineFault) (most : ℕ) (given : List (List ℕ)) → side_line n line ≡ Ok (Some row) → SideTallied most given t
    → why ≡ KeyFull → most_rows ≤ rows_at row.key t → reading_after (side_rows most given) (side_line n line) ≡ Err why
refused_row n line row t why most given read h is full =
    ap (reading_after (side_rows most given)) read ∙ row_full (side_rows most given) row (subst (λ (k : ℕ). most_rows ≤ k) (h.counts row.key) full) ∙ ap Err (sym is)

pub refused_by : (n : ℕ) (line : List ℕ) (row : SideValue) (old : SideTally) (r : Result (Unit {0}) (Refused LineFault)) → side_line n line ≡ Ok (Some row)
    → IfErr r (RefusesRow row old) → IfErr r (RefusesSideLine n line old)
refused_by n line row old (Ok done) read c = tt
refused_by n line row old (Err refused.NoMemory) read c = tt
refused_by n line row old (Err (refused.Fault why)) read c = λ most given h. refused_row n line row old why most given read h c.0 c.1
