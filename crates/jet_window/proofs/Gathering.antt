-- Rows of several windows, together and in order.
use Rattle.std.proofs.Common.{◌≡◌, ℕ, zero, suc, ◌+◌, ◌<◌, ◌≤◌, Bool, true, false, cond, ◌&&◌, ◌||◌, ◌==◌, ℤ, ◌-ℤ◌, ◌≤ℤ◌, List, [], ◌∷◌, ◌++◌, map, length, sum_by, Option, Some, None, refl, sym, ◌∙◌, ap, subst, arith}
use Rattle.std.specs.Prelude.{bytes_eq, All, Any}
use Rattle.std.specs.Bool.{Decides}
use Rattle.std.specs.List.{AllByRecursion}
use Rattle.std.specs.List.Sorted.{IsStrictlySortedBy}
use Rattle.std.specs.Ordering.{int_eq, is_gt, ordering_then, nat_cmp, int_cmp}
use Rattle.std.specs.Cmp.Lexicographic.{slice_cmp}
use Rattle.std.specs.declared.cmp.Ordering.{Ordering}
use Rattle.std.specs.declared.cmp.Ordering.TheVariants.{Less, Equal, Greater}
use Rattle.std.proofs.lemmas.Bool.Decides.{Decides-eqb, Decides-int_eq, Decides-and}
use Rattle.std.proofs.lemmas.Int.{ints}
use Rattle.std.proofs.lemmas.Cmp.{ranked, int_ranked}
use Rattle.std.proofs.lemmas.List.Elements.{All-append, All-cons, All-nil, All-from_recursion}
use Rattle.std.proofs.lemmas.List.Sums.{sum_by-cons, sum_by-append}
use Rattle.std.proofs.lemmas.Slice.Eq.{bytes_eq-Decides}
use Rattle.jet_items.specs.Bag.{SameBag, all_of}
use Rattle.jet_items.specs.Frames.{only, event_in}
use Rattle.jet_items.specs.Grid.{IsEndFor, in_window}
use Rattle.jet_items.specs.Order.{Each}
use Rattle.jet_items.specs.Rows.{Window, Inflow, IsRowOf, HasRow, first_value, members, row_cmp}
use Rattle.jet_items.specs.Totals.{both, joined, one, total}
use Rattle.jet_items.specs.Values.{AccValue, EventValue, RowValue}
use Rattle.jet_items.proofs.Covering.{members_total, IsTotalOf, false_from, Decides-in_window}
use Rattle.jet_items.proofs.Totaling.{total-append, total-middle, total-SameBag, both_none}
use Rattle.jet_policy.specs.Policy.{IsPolicy}
use Rattle.jet_window.specs.InOrder.{IsInOrder}
use Rattle.jet_window.specs.StageLaws.{OrderedAreRows, RowsOver, instance_inflows}
use Rattle.jet_window.specs.Tables.{is_multiple}
use Rattle.jet_window.specs.WindowRows.{as_list, rows_at}
use Rattle.jet_window.proofs.Between.{any_left, any_right}
use Rattle.jet_window.proofs.Ending.{multiple_fact, multiple_test}
use Rattle.jet_window.proofs.Windowing.{key_equal}

apart : (b : Bool) → b ≡ true → b ≡ false → ⊥
apart true h k = absurd (cc)
apart false h k = absurd (cc)

-- ---- rows of a vertex, an end and a key
abbrev is_at : ℕ → ℤ → List ℕ → RowValue → Bool
is_at v e key r = (r.vertex == v) && (bytes_eq r.key key && int_eq r.end e)

abbrev share : ℕ → ℤ → List ℕ → RowValue → Option AccValue
share v e key r = only (is_at v e key r) r.acc

abbrev one_if : Bool → ℕ
one_if true = 1
one_if false = 0

abbrev none_if : Bool → ℕ
none_if true = 0
none_if false = 1

abbrev hit : ℕ → ℤ → List ℕ → RowValue → ℕ
hit v e key r = one_if (is_at v e key r)

at_decides : (v : ℕ) (e : ℤ) (key : List ℕ) (r : RowValue) → Decides (is_at v e key r) ((r.vertex ≡ v) × ((r.key ≡ key) × (r.end ≡ e)))
at_decides v e key r = Decides-and (r.vertex == v) (bytes_eq r.key key && int_eq r.end e) (Decides-eqb r.vertex v) (Decides-and (bytes_eq r.key key) (int_eq r.end e) (bytes_eq-Decides r.key key) (Decides-int_eq r.end e))

no_hit_if : (b : Bool) (a : AccValue) → one_if b ≡ 0 → only b a ≡ None
no_hit_if true a h = absurd (omega (arith, h))
no_hit_if false a h = refl

-- where none stands, none is brought
none_hit : (v : ℕ) (e : ℤ) (key : List ℕ) (xs : List RowValue) → sum_by (hit v e key) xs ≡ 0 → total (share v e key) xs ≡ None
none_hit v e key [] h = refl
none_hit v e key (x ∷ xs) h =
    let here : hit v e key x ≡ 0 = omega (arith, h, sum_by-cons (hit v e key) x xs) in
    let later : sum_by (hit v e key) xs ≡ 0 = omega (arith, h, sum_by-cons (hit v e key) x xs) in
    rw (no_hit_if (is_at v e key x) x.acc here) (none_hit v e key xs later)

-- ---- the rows of one window
same_vertex : (b c : Bool) → b ≡ true → (b && c) ≡ c
same_vertex true c h = refl
same_vertex false c h = absurd (cc)

other_vertex : (b c : Bool) → b ≡ false → (b && c) ≡ false
other_vertex true c h = absurd (cc)
other_vertex false c h = refl

hits_here : (v : ℕ) (e : ℤ) (key : List ℕ) (xs : List RowValue) → Each (λ (r : RowValue). r.vertex ≡ v) xs → sum_by (hit v e key) xs ≡ length (rows_at e key xs)
hits_here v e key [] h = refl
hits_here v e key (x ∷ xs) h =
    let own : is_at v e key x ≡ (bytes_eq x.key key && int_eq x.end e) = same_vertex (x.vertex == v) (bytes_eq x.key key && int_eq x.end e) ((Decides-eqb x.vertex v).1 h.0) in
    sum_by-cons (hit v e key) x xs ∙ (ap (λ (b : Bool). one_if b + sum_by (hit v e key) xs) own ∙ count (bytes_eq x.key key && int_eq x.end e) x.acc (rows_at e key xs) (sum_by (hit v e key) xs) (hits_here v e key xs h.1))
  where
    count : (b : Bool) (a : AccValue) (rest : List AccValue) (n : ℕ) → n ≡ length rest → one_if b + n ≡ length (as_list (only b a) ++ rest)
    count true a rest n h = omega (arith, h)
    count false a rest n h = omega (arith, h)

totals_here : (v : ℕ) (e : ℤ) (key : List ℕ) (xs : List RowValue) → Each (λ (r : RowValue). r.vertex ≡ v) xs → total (share v e key) xs ≡ total Some (rows_at e key xs)
totals_here v e key [] h = refl
totals_here v e key (x ∷ xs) h =
    let own : is_at v e key x ≡ (bytes_eq x.key key && int_eq x.end e) = same_vertex (x.vertex == v) (bytes_eq x.key key && int_eq x.end e) ((Decides-eqb x.vertex v).1 h.0) in
    ap (λ (b : Bool). both (only b x.acc) (total (share v e key) xs)) own ∙ joins (bytes_eq x.key key && int_eq x.end e) x.acc (rows_at e key xs) (total (share v e key) xs) (totals_here v e key xs h.1)
  where
    joins : (b : Bool) (a : AccValue) (rest : List AccValue) (t : Option AccValue) → t ≡ total Some rest → both (only b a) t ≡ total Some (as_list (only b a) ++ rest)
    joins true a rest t h = ap (both (Some a)) h
    joins false a rest t h = h

hits_other : (v v' : ℕ) (e : ℤ) (key : List ℕ) (xs : List RowValue) → (v' ≡ v → ⊥) → Each (λ (r : RowValue). r.vertex ≡ v') xs → sum_by (hit v e key) xs ≡ 0
hits_other v v' e key [] ne h = refl
hits_other v v' e key (x ∷ xs) ne h =
    let out : is_at v e key x ≡ false = other_vertex (x.vertex == v) (bytes_eq x.key key && int_eq x.end e) (false_from (x.vertex == v) (Decides-eqb x.vertex v) (λ is. ne (sym h.0 ∙ is))) in
    omega (arith, sum_by-cons (hit v e key) x xs, ap one_if out, hits_other v v' e key xs ne h.1)

total_list : (t : Option AccValue) → total Some (as_list t) ≡ t
total_list None = refl
total_list (Some a) = both_none (Some a)

-- ---- the rows of all windows
hits_none : (w : RowValue → ℕ) (n : ℕ) (parts : ℕ → List RowValue) → ((j : ℕ) → j < n → sum_by w (parts j) ≡ 0) → sum_by w (all_of n parts) ≡ 0
hits_none w zero parts h = refl
hits_none w (suc n) parts h = omega (arith, sum_by-append w (all_of n parts) (parts n), hits_none w n parts (λ j lt. h j (omega arith)), h n (omega arith))

hits_all : (w : RowValue → ℕ) (n : ℕ) (parts : ℕ → List RowValue) (i : ℕ) → i < n → ((j : ℕ) → j < n → (j ≡ i → ⊥) → sum_by w (parts j) ≡ 0) → sum_by w (all_of n parts) ≡ sum_by w (parts i)
hits_all w zero parts i lt h = absurd (omega arith)
hits_all w (suc n) parts i lt h = sum_by-append w (all_of n parts) (parts n) ∙ last (i == n) refl (λ below. hits_all w n parts i below (λ j small. h j (omega arith)))
  where
    last : (b : Bool) → (i == n) ≡ b → (i < n → sum_by w (all_of n parts) ≡ sum_by w (parts i)) → sum_by w (all_of n parts) + sum_by w (parts n) ≡ sum_by w (parts i)
    last true is ih =
        let same : i ≡ n = (Decides-eqb i n).0 is in
        omega (arith, hits_none w n parts (λ j below. h j (omega arith) (λ eq. absurd (omega arith))), ap (λ (k : ℕ). sum_by w (parts k)) same)
    last false is ih =
        let other : i ≡ n → ⊥ = λ eq. apart (i == n) ((Decides-eqb i n).1 eq) is in
        omega (arith, ih (omega (arith, other)), h n (omega arith) (λ eq. other (sym eq)))

totals_none : (f : RowValue → Option AccValue) (n : ℕ) (parts : ℕ → List RowValue) → ((j : ℕ) → j < n → total f (parts j) ≡ None) → total f (all_of n parts) ≡ None
totals_none f zero parts h = refl
totals_none f (suc n) parts h = total-append f (all_of n parts) (parts n) ∙ rw (totals_none f n parts (λ j lt. h j (omega arith))) (h n (omega arith))

totals_all : (f : RowValue → Option AccValue) (n : ℕ) (parts : ℕ → List RowValue) (i : ℕ) → i < n → ((j : ℕ) → j < n → (j ≡ i → ⊥) → total f (parts j) ≡ None) → total f (all_of n parts) ≡ total f (parts i)
totals_all f zero parts i lt h = absurd (omega arith)
totals_all f (suc n) parts i lt h = total-append f (all_of n parts) (parts n) ∙ last (i == n) refl (λ below. totals_all f n parts i below (λ j small. h j (omega arith)))
  where
    last : (b : Bool) → (i == n) ≡ b → (i < n → total f (all_of n parts) ≡ total f (parts i)) → both (total f (all_of n parts)) (total f (parts n)) ≡ total f (parts i)
    last true is ih =
        let same : i ≡ n = (Decides-eqb i n).0 is in
        rw (totals_none f n parts (λ j below. h j (omega arith) (λ eq. absurd (omega arith)))) (ap (λ (k : ℕ). total f (parts k)) (sym same))
    last false is ih =
        let other : i ≡ n → ⊥ = λ eq. apart (i == n) ((Decides-eqb i n).1 eq) is in
        rw (h n (omega arith) (λ eq. other (sym eq))) (both_none (total f (all_of n parts)) ∙ ih (omega (arith, other)))

-- ---- lists
each_split : {X : Type 0} (P : X → Type 0) (xs : List X) → ((front : List X) (x : X) (back : List X) → xs ≡ front ++ x ∷ back → P x) → AllByRecursion P xs
each_split P [] h = tt
each_split P (x ∷ xs) h = (h [] x xs refl, each_split P xs (λ front y back is. h (x ∷ front) y back (ap (λ (ys : List _). x ∷ ys) is)))

any_of : (P : Inflow → Type 0) (n : ℕ) (entered : ℕ → Inflow) (j : ℕ) → j < n → P (entered j) → Any P (instance_inflows n entered)
any_of P zero entered j lt p = absurd (omega arith)
any_of P (suc n) entered j lt p = last (j == n) refl (λ below. any_of P n entered j below p)
  where
    last : (b : Bool) → (j == n) ≡ b → (j < n → Any P (instance_inflows n entered)) → Any P (instance_inflows n entered ++ entered n ∷ [])
    last true is ih = any_right P (instance_inflows n entered) (entered n ∷ []) (0, entered n, omega arith, refl, subst (λ (k : ℕ). P (entered k)) ((Decides-eqb j n).0 is) p)
    last false is ih =
        let other : j ≡ n → ⊥ = λ eq. apart (j == n) ((Decides-eqb j n).1 eq) is in
        any_left P (instance_inflows n entered) (entered n ∷ []) (ih (omega (arith, other)))

all_in : (P : Inflow → Type 0) (n : ℕ) (entered : ℕ → Inflow) → ((j : ℕ) → j < n → P (entered j)) → All P (instance_inflows n entered)
all_in P zero entered h = All-nil P
all_in P (suc n) entered h = All-append P (instance_inflows n entered) (entered n ∷ []) (all_in P n entered (λ j lt. h j (omega arith))) (All-cons P (entered n) [] (h n (omega arith)) (All-nil P))

-- a row that stands is found
find_hit : (v : ℕ) (e : ℤ) (key : List ℕ) (xs : List RowValue) → (sum_by (hit v e key) xs ≡ 0 → ⊥) → Any (λ (r : RowValue). (r.vertex ≡ v) × (r.end ≡ e) × (r.key ≡ key)) xs
find_hit v e key [] h = absurd (h refl)
find_hit v e key (x ∷ xs) h = pick (is_at v e key x) refl (find_hit v e key xs)
  where
    pick : (b : Bool) → is_at v e key x ≡ b → ((sum_by (hit v e key) xs ≡ 0 → ⊥) → Any (λ (r : RowValue). (r.vertex ≡ v) × (r.end ≡ e) × (r.key ≡ key)) xs) → Any (λ (r : RowValue). (r.vertex ≡ v) × (r.end ≡ e) × (r.key ≡ key)) (x ∷ xs)
    pick true is ih = let at = (at_decides v e key x).0 is in (0, x, omega arith, refl, (at.0, at.1.1, at.1.0))
    pick false is ih = any_right (λ (r : RowValue). (r.vertex ≡ v) × (r.end ≡ e) × (r.key ≡ key)) (x ∷ []) xs
        (ih (λ none. h (omega (arith, sum_by-cons (hit v e key) x xs, ap one_if is, none))))

-- ---- which vertices the rows are of
abbrev is_known : ℕ → (ℕ → Inflow) → ℕ → Bool
is_known zero entered v = false
is_known (suc n) entered v = (v == (entered n).window.vertex) || is_known n entered v

abbrev unknown : ℕ → (ℕ → Inflow) → RowValue → ℕ
unknown n entered r = none_if (is_known n entered r.vertex)

either_true : (b c : Bool) → c ≡ true → (b || c) ≡ true
either_true true c h = refl
either_true false c h = h

known_one : (n : ℕ) (entered : ℕ → Inflow) (j : ℕ) → j < n → is_known n entered (entered j).window.vertex ≡ true
known_one zero entered j lt = absurd (omega arith)
known_one (suc n) entered j lt = last (j == n) refl (λ below. known_one n entered j below)
  where
    first : (b c : Bool) → b ≡ true → (b || c) ≡ true
    first true c h = refl
    first false c h = absurd (cc)

    last : (b : Bool) → (j == n) ≡ b → (j < n → is_known n entered (entered j).window.vertex ≡ true) → ((entered j).window.vertex == (entered n).window.vertex) || is_known n entered (entered j).window.vertex ≡ true
    last true is ih = first ((entered j).window.vertex == (entered n).window.vertex) (is_known n entered (entered j).window.vertex) ((Decides-eqb (entered j).window.vertex (entered n).window.vertex).1 (ap (λ (k : ℕ). (entered k).window.vertex) ((Decides-eqb j n).0 is)))
    last false is ih =
        let other : j ≡ n → ⊥ = λ eq. apart (j == n) ((Decides-eqb j n).1 eq) is in
        either_true ((entered j).window.vertex == (entered n).window.vertex) (is_known n entered (entered j).window.vertex) (ih (omega (arith, other)))

which_one : (n : ℕ) (entered : ℕ → Inflow) (v : ℕ) → is_known n entered v ≡ true → (j : ℕ) × (j < n) × (v ≡ (entered j).window.vertex)
which_one zero entered v h = absurd (cc)
which_one (suc n) entered v h = pick (v == (entered n).window.vertex) refl h (which_one n entered v)
  where
    pick : (b : Bool) → (v == (entered n).window.vertex) ≡ b → (b || is_known n entered v) ≡ true → (is_known n entered v ≡ true → (j : ℕ) × (j < n) × (v ≡ (entered j).window.vertex)) → (j : ℕ) × (j < suc n) × (v ≡ (entered j).window.vertex)
    pick true is k ih = (n, omega arith, (Decides-eqb v (entered n).window.vertex).0 is)
    pick false is k ih = let r = ih k in (r.0, (let lt : r.0 < n = r.1 in omega arith), r.2)

known_part : (n : ℕ) (entered : ℕ → Inflow) (j : ℕ) → j < n → (xs : List RowValue) → Each (λ (r : RowValue). r.vertex ≡ (entered j).window.vertex) xs → sum_by (unknown n entered) xs ≡ 0
known_part n entered j lt [] h = refl
known_part n entered j lt (x ∷ xs) h =
    omega (arith, sum_by-cons (unknown n entered) x xs, ap none_if (ap (is_known n entered) h.0 ∙ known_one n entered j lt), known_part n entered j lt xs h.1)

known_if : (b : Bool) → none_if b ≡ 0 → b ≡ true
known_if true h = refl
known_if false h = absurd (omega (arith, h))

some_is : {a b : AccValue} → Some a ≡ Some b → a ≡ b
some_is e = cc

none_is : (a : AccValue) → None ≡ Some a → ⊥
none_is a e = absurd (cc)

-- what is at an end that is due at all is at a multiple
picked : (m : Bool) (t : Option AccValue) (a : AccValue) → cond (m && true) t None ≡ Some a → (m ≡ true) × (t ≡ Some a)
picked true t a h = (refl, h)
picked false t a h = absurd (none_is a h)

one_at_most : (t : Option AccValue) → length (as_list t) ≤ 1
one_at_most None = omega arith
one_at_most (Some a) = omega arith

some_more : (a : AccValue) (t : Option AccValue) → (b : AccValue) × (both (Some a) t ≡ Some b)
some_more a None = (a, refl)
some_more a (Some c) = (joined a c, refl)

not_after : (o : Ordering) → is_gt o ≡ false → (o ≡ Equal → ⊥) → o ≡ Less
not_after Less h k = refl
not_after Equal h k = absurd (k refl)
not_after Greater h k = absurd (cc)

then_equal : (a b : Ordering) → ordering_then a b ≡ Equal → (a ≡ Equal) × (b ≡ Equal)
then_equal Less b h = absurd (cc)
then_equal Equal b h = (refl, h)
then_equal Greater b h = absurd (cc)

alike : (r s : RowValue) → row_cmp r s ≡ Equal → (s.vertex ≡ r.vertex) × ((s.key ≡ r.key) × (s.end ≡ r.end))
alike r s h =
    let p = then_equal (int_cmp r.end s.end) (ordering_then (nat_cmp r.vertex s.vertex) (slice_cmp nat_cmp r.key s.key)) h in
    let q = then_equal (nat_cmp r.vertex s.vertex) (slice_cmp nat_cmp r.key s.key) p.1 in
    (sym (ranked r.vertex s.vertex Equal (sym q.0)), (sym (key_equal r.key s.key q.1), sym (int_ranked r.end s.end Equal (sym p.0))))

-- rows in order, no two of one place, rise
rising_if : (r : RowValue) (back : List RowValue) → AllByRecursion (λ s. is_gt (row_cmp r s) ≡ false) back → sum_by (hit r.vertex r.end r.key) back ≡ 0 → AllByRecursion (λ s. row_cmp r s ≡ Less) back
rising_if r [] h none = tt
rising_if r (s ∷ back) h none =
    let w : RowValue → ℕ = hit r.vertex r.end r.key in
    let here : w s ≡ 0 = omega (arith, none, sum_by-cons w s back) in
    let later : sum_by w back ≡ 0 = omega (arith, none, sum_by-cons w s back) in
    (not_after (row_cmp r s) h.0 (λ eq. stands (is_at r.vertex r.end r.key s) ((at_decides r.vertex r.end r.key s).1 (alike r s eq)) here), rising_if r back h.1 later)
  where
    stands : (b : Bool) → b ≡ true → one_if b ≡ 0 → ⊥
    stands true h k = absurd (omega (arith, k))
    stands false h k = absurd (cc)

rises : (rows : List RowValue) → IsInOrder rows → ((front : List RowValue) (r : RowValue) (back : List RowValue) → rows ≡ front ++ r ∷ back → sum_by (hit r.vertex r.end r.key) back ≡ 0) → IsStrictlySortedBy row_cmp rows
unfolding IsStrictlySortedBy
rises [] h once = tt
rises (r ∷ rows) h once = (rising_if r rows h.0 (once [] r rows refl), rises rows h.1 (λ front s back is. once (r ∷ front) s back (ap (λ (ys : List RowValue). r ∷ ys) is)))

module _ (n : ℕ) (entered : ℕ → Inflow) (parts : ℕ → List RowValue) (rows : List RowValue)
    (grid : (i : ℕ) → i < n → IsPolicy (entered i).window.size (entered i).window.slide)
    (distinct : (i j : ℕ) → i < n → j < n → (entered i).window.vertex ≡ (entered j).window.vertex → i ≡ j)
    (over : (i : ℕ) → i < n → RowsOver (entered i).window (λ key e. true) [] (entered i).events (parts i))
    (bag : SameBag rows (all_of n parts)) where
  -- what the events of a window bring to an end and a key
  abbrev wanted : ℕ → ℤ → List ℕ → Option AccValue
  wanted i e key = cond (is_multiple (entered i).window.slide e && true) (total (event_in (entered i).window.size e key) (entered i).events) None

  hits_are : (i : ℕ) → i < n → (e : ℤ) (key : List ℕ) → sum_by (hit (entered i).window.vertex e key) rows ≡ length (as_list (wanted i e key))
  hits_are i lt e key =
      let v : ℕ = (entered i).window.vertex in
      bag.weighs (hit v e key)
      ∙ (hits_all (hit v e key) n parts i lt (λ j small ne. hits_other v (entered j).window.vertex e key (parts j) (λ same. ne (distinct j i small lt same)) (over j small).vertices)
      ∙ (hits_here v e key (parts i) (over i lt).vertices ∙ ap (λ (xs : List AccValue). length xs) ((over i lt).at e key)))

  totals_are : (i : ℕ) → i < n → (e : ℤ) (key : List ℕ) → total (share (entered i).window.vertex e key) rows ≡ wanted i e key
  totals_are i lt e key =
      let v : ℕ = (entered i).window.vertex in
      total-SameBag (share v e key) bag
      ∙ (totals_all (share v e key) n parts i lt (λ j small ne. none_hit v e key (parts j) (hits_other v (entered j).window.vertex e key (parts j) (λ same. ne (distinct j i small lt same)) (over j small).vertices))
      ∙ (totals_here v e key (parts i) (over i lt).vertices ∙ (ap (λ (xs : List AccValue). total Some xs) ((over i lt).at e key) ∙ total_list (wanted i e key))))

  none_unknown : sum_by (unknown n entered) rows ≡ 0
  none_unknown = bag.weighs (unknown n entered) ∙ hits_none (unknown n entered) n parts (λ j lt. known_part n entered j lt (parts j) (over j lt).vertices)

  -- a row is of one of the windows
  of_one : (front : List RowValue) (r : RowValue) (back : List RowValue) → rows ≡ front ++ r ∷ back → (j : ℕ) × (j < n) × (r.vertex ≡ (entered j).window.vertex)
  of_one front r back is =
      let w : RowValue → ℕ = unknown n entered in
      let all : sum_by w (front ++ r ∷ back) ≡ 0 = subst (λ (xs : List RowValue). sum_by w xs ≡ 0) is none_unknown in
      which_one n entered r.vertex (known_if (is_known n entered r.vertex) (omega (arith, all, sum_by-append w front (r ∷ back), sum_by-cons w r back)))

  own_hit : (r : RowValue) → hit r.vertex r.end r.key r ≡ 1
  own_hit r = ap (λ (b : Bool). one_if b) ((at_decides r.vertex r.end r.key r).1 (refl, (refl, refl)))

  -- and stands once
  once_front : (front : List RowValue) (r : RowValue) (back : List RowValue) → rows ≡ front ++ r ∷ back → sum_by (hit r.vertex r.end r.key) front + sum_by (hit r.vertex r.end r.key) back ≡ 0
  once_front front r back is =
      let one = of_one front r back is in
      let w : RowValue → ℕ = hit r.vertex r.end r.key in
      let all : sum_by w (front ++ r ∷ back) ≡ length (as_list (wanted one.0 r.end r.key)) =
      subst (λ (xs : List RowValue). sum_by w xs ≡ length (as_list (wanted one.0 r.end r.key))) is
      (subst (λ (v : ℕ). sum_by (hit v r.end r.key) rows ≡ length (as_list (wanted one.0 r.end r.key))) (sym one.2) (hits_are one.0 one.1 r.end r.key)) in
      omega (arith, all, one_at_most (wanted one.0 r.end r.key), sum_by-append w front (r ∷ back), sum_by-cons w r back, own_hit r)

  own_share : (r : RowValue) → share r.vertex r.end r.key r ≡ Some r.acc
  own_share r = ap (λ (b : Bool). only b r.acc) ((at_decides r.vertex r.end r.key r).1 (refl, (refl, refl)))

  is_row : (front : List RowValue) (r : RowValue) (back : List RowValue) → rows ≡ front ++ r ∷ back → Any (λ (p : Inflow). IsRowOf p.window p.events r) (instance_inflows n entered)
  is_row front r back is =
      let one = of_one front r back is in
      let i : ℕ = one.0 in
      let w : Window = (entered i).window in
      let f : RowValue → Option AccValue = share r.vertex r.end r.key in
      let zero_sum : sum_by (hit r.vertex r.end r.key) (front ++ back) ≡ 0 = omega (arith, once_front front r back is, sum_by-append (hit r.vertex r.end r.key) front back) in
      let whole : total f rows ≡ Some r.acc =
      ap (λ (xs : List RowValue). total f xs) is ∙ (total-middle f front r back ∙ rw (own_share r) (rw (none_hit r.vertex r.end r.key (front ++ back) zero_sum) refl)) in
      let want : wanted i r.end r.key ≡ Some r.acc = sym (totals_are i one.1 r.end r.key) ∙ (ap (λ (v : ℕ). total (share v r.end r.key) rows) (sym one.2) ∙ whole) in
      let both_are = picked (is_multiple w.slide r.end) (total (event_in w.size r.end r.key) (entered i).events) r.acc want in
      any_of (λ (p : Inflow). IsRowOf p.window p.events r) n entered i one.1 (record {
        vertex = one.2;
        multiple = multiple_fact w.slide r.end (grid i one.1).slide_low both_are.0;
        acc = subst (IsTotalOf (map first_value (members w.size r.end r.key (entered i).events))) both_are.1 (members_total w.size r.end r.key (entered i).events);
      })

  -- an event's windows have rows
  has_row : (i : ℕ) → i < n → (front : List EventValue) (x : EventValue) (back : List EventValue) → (entered i).events ≡ front ++ x ∷ back → (end : ℤ) → IsEndFor (entered i).window.size (entered i).window.slide x.ts end → HasRow rows (entered i).window end x.key
  has_row i lt front x back is end for =
      let w : Window = (entered i).window in
      let f : EventValue → Option AccValue = event_in w.size end x.key in
      let above = for.above in
      let within = for.within in
      let low : (end -ℤ w.size) ≤ℤ x.ts = omega (arith, ints) in
      let tested : (bytes_eq x.key x.key && in_window w.size end x.ts) ≡ true = (Decides-and (bytes_eq x.key x.key) (in_window w.size end x.ts) (bytes_eq-Decides x.key x.key) (Decides-in_window w.size end x.ts)).1 (refl, (low, above)) in
      let inside : f x ≡ Some (one (first_value x)) = ap (λ (b : Bool). only b (one (first_value x))) tested in
      let more = some_more (one (first_value x)) (total f (front ++ back)) in
      let some : total f (entered i).events ≡ Some more.0 = ap (λ (xs : List EventValue). total f xs) is ∙ (total-middle f front x back ∙ rw inside more.1) in
      let hits : sum_by (hit w.vertex end x.key) rows ≡ 1 = hits_are i lt end x.key ∙ rw (multiple_test w.slide end (grid i lt).slide_low for.multiple) (rw some refl) in
      find_hit w.vertex end x.key rows (λ none. absurd (omega (arith, hits, none)))

pub ordered_are_rows : OrderedAreRows
ordered_are_rows n entered parts rows grid distinct over bag order = record {
  each = All-from_recursion (λ (r : RowValue). Any (λ (p : Inflow). IsRowOf p.window p.events r) (instance_inflows n entered)) rows (each_split (λ (r : RowValue). Any (λ (p : Inflow). IsRowOf p.window p.events r) (instance_inflows n entered)) rows (is_row n entered parts rows grid distinct over bag));
  complete = all_in (λ (p : Inflow). All (λ x. (end : ℤ) → IsEndFor p.window.size p.window.slide x.ts end → HasRow rows p.window end x.key) p.events) n entered
      (λ i lt. All-from_recursion (λ (x : EventValue). (end : ℤ) → IsEndFor (entered i).window.size (entered i).window.slide x.ts end → HasRow rows (entered i).window end x.key) (entered i).events
      (each_split (λ (x : EventValue). (end : ℤ) → IsEndFor (entered i).window.size (entered i).window.slide x.ts end → HasRow rows (entered i).window end x.key) (entered i).events (has_row n entered parts rows grid distinct over bag i lt)));
  rising = rises rows order (λ front r back is. omega (arith, once_front n entered parts rows grid distinct over bag front r back is));
}
