-- How many windows an event is in, and how many frames and rows there are.
use Rattle.std.proofs.Common.{◌≡◌, ℕ, zero, suc, ◌+◌, ◌*◌, ◌/◌, ◌%◌, ◌≤◌, Bool, true, false, cond, ◌&&◌, ℤ, pos, ◌+ℤ◌, ◌-ℤ◌, ◌<ℤ◌, ◌≤ℤ◌, List, [], ◌∷◌, ◌++◌, length, sum_by, refl, sym, ◌∙◌, ap, subst, arith, Option, None}
use Rattle.std.specs.Prelude.{bytes_eq, negsuc}
use Rattle.std.specs.declared.cmp.Ordering.{Ordering}
use Rattle.std.specs.declared.cmp.Ordering.TheVariants.{Less, Equal, Greater}
use Rattle.std.specs.Ordering.{int_eq}
use Rattle.std.proofs.Math.Nat.{div-add-mod}
use Rattle.std.proofs.lemmas.Int.{ints, by_lt_z}
use Rattle.std.proofs.lemmas.Cmp.{tied_itself}
use Rattle.std.proofs.lemmas.List.{length-map, length-append}
use Rattle.std.proofs.lemmas.List.Sums.{sum_by-cons}
use Rattle.std.proofs.lemmas.Slice.Eq.{bytes_eq-Decides}
use Rattle.std.proofs.lemmas.Bool.Decides.{Decides-int_eq}
use Rattle.jet_items.specs.Bag.{SameBag}
use Rattle.jet_items.specs.Frames.{only, covers, frame_in}
use Rattle.jet_items.specs.Grid.{IsMultiple}
use Rattle.jet_items.specs.Kinds.{events_of, sides_of, frames_of, rows_of, lates_of, late_events, others_of, data_of}
use Rattle.jet_items.specs.declared.item.Item.{Item}
use Rattle.jet_items.specs.declared.item.Item.TheVariants as item
use Rattle.jet_items.specs.Order.{Each, EachPair}
use Rattle.jet_items.specs.Totals.{total, both}
use Rattle.jet_items.specs.Values.{AccValue, FrameValue, RowValue}
use Rattle.jet_items.proofs.Covering.{Decides-covers}
use Rattle.jet_items.proofs.GridLemmas.{multiple_apart}
use Rattle.jet_boxes.specs.Entry.{items_of}
use Rattle.jet_window.specs.Idles.{idles_of}
use Rattle.jet_window.specs.LateEvents.{kept_events}
use Rattle.jet_window.specs.StageLaws.{slides, windows_of, WholeWindows, FewRows, FewFrames}
use Rattle.jet_window.specs.Tables.{place_cmp, is_multiple}
use Rattle.jet_window.specs.WindowRows.{as_list, row_at, rows_at, Rises, RowsAre}
use Rattle.jet_window.proofs.Ending.{place_less, multiple_fact}
use Rattle.jet_window.proofs.Stepping.{place_total}

-- ---- a window is a whole number of slides long
times_slides : (s n : ℕ) → slides (pos s) n ≡ pos (n * s)
times_slides s zero = let none : 0 * s ≡ 0 = omega arith in ap pos (sym none)
times_slides s (suc n) =
    let rest : slides (pos s) n ≡ pos (n * s) = times_slides s n in
    let next : suc n * s ≡ n * s + s = omega arith in
    ap (λ (z : ℤ). z +ℤ pos s) rest ∙ ap pos (sym next)

pub whole_windows : WholeWindows
whole_windows (pos z) (pos s) h =
    let whole : pos (z % s) ≡ pos 0 = h.whole in
    let none : z % s ≡ 0 = cc in
    let turned : z / s * s ≡ s * (z / s) = omega arith in
    let is : z ≡ z / s * s = omega (arith, div-add-mod z s, none, turned) in
    ap pos is ∙ sym (times_slides s (z / s))
whole_windows (pos z) (negsuc s) h = let low : pos 1 ≤ℤ negsuc s = h.slide_low in absurd (omega (arith, ints))
whole_windows (negsuc z) slide h = let low : pos 1 ≤ℤ negsuc z = h.size_low in absurd (omega (arith, ints))

-- ---- the ends of windows that hold a frame
later : (a b : ℤ) (key : List ℕ) → place_cmp (a, key) (b, key) ≡ Less → a <ℤ b
later a b key h =
    let le : a ≤ℤ b = place_less (a, key) (b, key) h in
    by_lt_z a b (λ lt. lt) (λ ge. let is : b ≡ a = omega (arith, ints) in absurd (not_less (subst (λ (z : ℤ). place_cmp (a, key) (z, key) ≡ Less) is h)))
  where
    clash : (o : Ordering) → o ≡ Equal → o ≡ Less → ⊥
    clash Less e l = absurd (cc)
    clash Equal e l = absurd (cc)
    clash Greater e l = absurd (cc)

    not_less : place_cmp (a, key) (a, key) ≡ Less → ⊥
    not_less = clash (place_cmp (a, key) (a, key)) (tied_itself place_total (a, key))

abbrev hit : ℤ → FrameValue → RowValue → Bool
hit size f r = bytes_eq f.key r.key && covers size r.end f.end

abbrev ends_of : ℤ → FrameValue → List RowValue → List ℤ
ends_of size f [] = []
ends_of size f (r ∷ rows) = cond (hit size f r) (r.end ∷ ends_of size f rows) (ends_of size f rows)

both_true : (a b : Bool) → (a && b) ≡ true → (a ≡ true) × (b ≡ true)
both_true true b h = (refl, h)
both_true false b h = absurd (cc h)

key_is : (size : ℤ) (f : FrameValue) (r : RowValue) → hit size f r ≡ true → f.key ≡ r.key
key_is size f r h = (bytes_eq-Decides f.key r.key).0 (both_true (bytes_eq f.key r.key) (covers size r.end f.end) h).0

holds : (size : ℤ) (f : FrameValue) (r : RowValue) → hit size f r ≡ true → ((r.end -ℤ size) <ℤ f.end) × (f.end ≤ℤ r.end)
holds size f r h = (Decides-covers size r.end f.end).0 (both_true (bytes_eq f.key r.key) (covers size r.end f.end) h).1

-- a frame's window ends: multiples from the frame's end on, below it and a size, that rise
abbrev IsEnd : ℤ → ℤ → FrameValue → ℤ → Type 0
IsEnd size slide f e = IsMultiple slide e × (f.end ≤ℤ e) × (e <ℤ (f.end +ℤ size))

add_end : (P : ℤ → Type 0) (b : Bool) (e : ℤ) (es : List ℤ) → (b ≡ true → P e) → Each P es → Each P (cond b (e ∷ es) es)
add_end P true e es h all = (h refl, all)
add_end P false e es h all = all

ends_are : (size slide : ℤ) (f : FrameValue) (rows : List RowValue) → Each (λ r. IsMultiple slide r.end) rows → Each (IsEnd size slide f) (ends_of size f rows)
ends_are size slide f [] h = tt
ends_are size slide f (r ∷ rows) h =
    add_end (IsEnd size slide f) (hit size f r) r.end (ends_of size f rows)
    (λ is. let k = holds size f r is in let a : (r.end -ℤ size) <ℤ f.end = k.0 in let b : f.end ≤ℤ r.end = k.1 in (h.0, b, omega (arith, ints)))
    (ends_are size slide f rows h.1)

above_all : (size : ℤ) (f : FrameValue) (r : RowValue) → hit size f r ≡ true → (rows : List RowValue) → Each (Rises r) rows → Each (λ e. r.end <ℤ e) (ends_of size f rows)
above_all size f r is [] h = tt
above_all size f r is (s ∷ rows) h =
    add_end (λ e. r.end <ℤ e) (hit size f s) s.end (ends_of size f rows)
    (λ too.
    let same : s.key ≡ r.key = sym (key_is size f s too) ∙ key_is size f r is in
    later r.end s.end r.key (subst (λ (k : List ℕ). place_cmp (r.end, r.key) (s.end, k) ≡ Less) same h.0))
    (above_all size f r is rows h.1)

add_pair : (b : Bool) (e : ℤ) (es : List ℤ) → (b ≡ true → Each (λ d. e <ℤ d) es) → EachPair (λ c d. c <ℤ d) es → EachPair (λ c d. c <ℤ d) (cond b (e ∷ es) es)
add_pair true e es h all = (h refl, all)
add_pair false e es h all = all

ends_rise : (size : ℤ) (f : FrameValue) (rows : List RowValue) → EachPair Rises rows → EachPair (λ c d. c <ℤ d) (ends_of size f rows)
ends_rise size f [] h = tt
ends_rise size f (r ∷ rows) h = add_pair (hit size f r) r.end (ends_of size f rows) (λ is. above_all size f r is rows h.0) (ends_rise size f rows h.1)

-- ---- multiples that rise lie a slide apart
chain : (size slide : ℤ) (f : FrameValue) (e : ℤ) (es : List ℤ) → pos 1 ≤ℤ slide → EachPair (λ c d. c <ℤ d) (e ∷ es) → Each (IsEnd size slide f) (e ∷ es) → (e +ℤ slides slide (length es)) <ℤ (f.end +ℤ size)
chain size slide f e [] low rise are = let lt : e <ℤ (f.end +ℤ size) = are.0.2 in omega (arith, ints)
chain size slide f e (d ∷ es) low rise are =
    let more : (d +ℤ slides slide (length es)) <ℤ (f.end +ℤ size) = chain size slide f d es low rise.1 are.1 in
    let apart : (e +ℤ slide) ≤ℤ d = multiple_apart slide e d low are.0.0 are.1.0.0 rise.0.0 in
    omega (arith, ints)

slides_more : (slide : ℤ) (n k : ℕ) → pos 1 ≤ℤ slide → n ≤ k → slides slide n ≤ℤ slides slide k
slides_more slide zero zero low le = omega (arith, ints)
slides_more slide zero (suc k) low le = let more : slides slide zero ≤ℤ slides slide k = slides_more slide zero k low (omega arith) in omega (arith, ints)
slides_more slide (suc n) zero low le = absurd (omega (arith, le))
slides_more slide (suc n) (suc k) low le = let more : slides slide n ≤ℤ slides slide k = slides_more slide n k low (omega (arith, le)) in omega (arith, ints)

at_least : (a b : ℕ) → (a ≤ b → suc b ≤ a) → suc b ≤ a
at_least zero b h = h (omega arith)
at_least (suc a) zero h = omega arith
at_least (suc a) (suc b) h = let k : suc b ≤ a = at_least a b (λ le. let m : suc (suc b) ≤ suc a = h (omega (arith, le)) in omega (arith, m)) in omega (arith, k)

smaller : (slide : ℤ) (a b : ℕ) → slides slide b <ℤ slides slide a → (a ≤ b → slides slide a ≤ℤ slides slide b) → suc b ≤ a
smaller slide a b lt h = at_least a b (λ le. let k : slides slide a ≤ℤ slides slide b = h le in absurd (omega (arith, ints)))

few_ends : (n : ℕ) (size slide : ℤ) (f : FrameValue) (es : List ℤ) → pos 1 ≤ℤ slide → size ≡ slides slide n → EachPair (λ c d. c <ℤ d) es → Each (IsEnd size slide f) es → length es ≤ n
few_ends n size slide f [] low is rise are = omega arith
few_ends n size slide f (e ∷ es) low is rise are =
    let last : (e +ℤ slides slide (length es)) <ℤ (f.end +ℤ size) = chain size slide f e es low rise are in
    let first : f.end ≤ℤ e = are.0.1 in
    let below : slides slide (length es) <ℤ slides slide n = omega (arith, ints) in
    smaller slide n (length es) below (λ le. slides_more slide n (length es) low le)

-- ---- each row has a frame, and each frame few rows
abbrev one_if : Bool → ℕ
one_if b = cond b 1 0

hits_are : (size : ℤ) (f : FrameValue) (rows : List RowValue) → sum_by (λ r. one_if (hit size f r)) rows ≡ length (ends_of size f rows)
hits_are size f [] = refl
hits_are size f (r ∷ rows) = sum_by-cons (λ r. one_if (hit size f r)) r rows ∙ (ap (λ n. one_if (hit size f r) + n) (hits_are size f rows) ∙ counted (hit size f r))
  where
    counted : (b : Bool) → one_if b + length (ends_of size f rows) ≡ length (cond b (r.end ∷ ends_of size f rows) (ends_of size f rows))
    counted true = omega arith
    counted false = omega arith

hits_or : (size : ℤ) (r : RowValue) (f : FrameValue) (frames : List FrameValue) (b : Bool) → hit size f r ≡ b → (total (frame_in size r.end r.key) (f ∷ frames) ≡ None → ⊥) → ((total (frame_in size r.end r.key) frames ≡ None → ⊥) → 1 ≤ sum_by (λ g. one_if (hit size g r)) frames) → 1 ≤ sum_by (λ g. one_if (hit size g r)) (f ∷ frames)
hits_or size r f frames true is h more = let one : one_if (hit size f r) ≡ 1 = ap one_if is in omega (arith, sum_by-cons (λ g. one_if (hit size g r)) f frames, one)
hits_or size r f frames false is h more =
    let rest : 1 ≤ sum_by (λ g. one_if (hit size g r)) frames = more (λ none. h (ap (λ (b : Bool). both (only b f.acc) (total (frame_in size r.end r.key) frames)) is ∙ none)) in
    omega (arith, sum_by-cons (λ g. one_if (hit size g r)) f frames, rest)

some_frame : (size : ℤ) (r : RowValue) (frames : List FrameValue) → (total (frame_in size r.end r.key) frames ≡ None → ⊥) → 1 ≤ sum_by (λ f. one_if (hit size f r)) frames
some_frame size r [] h = absurd (h refl)
some_frame size r (f ∷ frames) h = hits_or size r f frames (hit size f r) refl h (some_frame size r frames)

-- the sums in either order
rows_first : (size : ℤ) (frames : List FrameValue) (rows : List RowValue) → sum_by (λ f. sum_by (λ r. one_if (hit size f r)) rows) frames ≡ sum_by (λ r. sum_by (λ f. one_if (hit size f r)) frames) rows
rows_first size frames [] = zeros frames
  where
    zeros : (fs : List FrameValue) → sum_by (λ f. sum_by (λ r. one_if (hit size f r)) (let none : List RowValue = [] in none)) fs ≡ 0
    zeros [] = refl
    zeros (f ∷ fs) = omega (arith, sum_by-cons (λ f. sum_by (λ r. one_if (hit size f r)) (let none : List RowValue = [] in none)) f fs, zeros fs)
rows_first size frames (r ∷ rows) =
    split frames ∙ (ap (λ n. sum_by (λ f. one_if (hit size f r)) frames + n) (rows_first size frames rows) ∙ sym (sum_by-cons (λ s. sum_by (λ f. one_if (hit size f s)) frames) r rows))
  where
    split : (fs : List FrameValue) → sum_by (λ f. sum_by (λ s. one_if (hit size f s)) (r ∷ rows)) fs ≡ sum_by (λ f. one_if (hit size f r)) fs + sum_by (λ f. sum_by (λ s. one_if (hit size f s)) rows) fs
    split [] = refl
    split (f ∷ fs) =
        omega (arith, sum_by-cons (λ g. sum_by (λ s. one_if (hit size g s)) (r ∷ rows)) f fs, sum_by-cons (λ g. one_if (hit size g r)) f fs, sum_by-cons (λ g. sum_by (λ s. one_if (hit size g s)) rows) f fs, sum_by-cons (λ s. one_if (hit size f s)) r rows, split fs)

each_one : (g : RowValue → ℕ) (rows : List RowValue) → Each (λ r. 1 ≤ g r) rows → length rows ≤ sum_by g rows
each_one g [] h = omega arith
each_one g (r ∷ rows) h = omega (arith, sum_by-cons g r rows, h.0, each_one g rows h.1)

each_few : (g : FrameValue → ℕ) (n : ℕ) (frames : List FrameValue) → ((f : FrameValue) → g f ≤ n) → sum_by g frames ≤ n * length frames
each_few g n [] h = omega arith
each_few g n (f ∷ frames) h = let next : n * suc (length frames) ≡ n + n * length frames = omega arith in omega (arith, sum_by-cons g f frames, h f, each_few g n frames h, next)

-- ---- what `RowsAre` says of each row
module _ (vertex : ℕ) (size slide : ℤ) (due : ℤ → Bool) (frames : List FrameValue) (all : List RowValue) (h : RowsAre vertex size slide due frames all) where
  itself : (r : RowValue) (rows : List RowValue) → (acc : AccValue) × (more : List AccValue) × (rows_at r.end r.key (r ∷ rows) ≡ acc ∷ more)
  itself r rows =
      let key : bytes_eq r.key r.key ≡ true = (bytes_eq-Decides r.key r.key).1 refl in
      let end : int_eq r.end r.end ≡ true = (Decides-int_eq r.end r.end).1 refl in
      (r.acc, rows_at r.end r.key rows, rw key (rw end refl))

  behind : (front : List RowValue) (e : ℤ) (key : List ℕ) (rows : List RowValue) → ((rows_at e key rows ≡ []) → ⊥) → (rows_at e key (front ++ rows) ≡ []) → ⊥
  behind [] e key rows k none = k none
  behind (s ∷ front) e key rows k none = behind front e key rows k (second (as_list (row_at e key s)) (rows_at e key (front ++ rows)) none)
    where
      second : (xs ys : List AccValue) → (xs ++ ys) ≡ [] → ys ≡ []
      second [] ys p = p
      second (x ∷ xs) ys p = absurd (cc)

  filled : (o : Option AccValue) → (as_list o ≡ [] → ⊥) → (o ≡ None → ⊥)
  filled o k none = k (ap as_list none)

  if_true : (b : Bool) (o : Option AccValue) → (cond b o None ≡ None → ⊥) → (b ≡ true) × ((o ≡ None) → ⊥)
  if_true true o k = (refl, k)
  if_true false o k = absurd (k refl)

  of_row : (front rows : List RowValue) (r : RowValue) → all ≡ front ++ r ∷ rows → (is_multiple slide r.end ≡ true) × ((total (frame_in size r.end r.key) frames ≡ None) → ⊥)
  of_row front rows r parts =
      let mine = itself r rows in
      let some : (rows_at r.end r.key (r ∷ rows) ≡ []) → ⊥ = λ none. let clash : (mine.0 ∷ mine.1) ≡ [] = sym mine.2 ∙ none in absurd (cc) in
      let in_all : (rows_at r.end r.key all ≡ []) → ⊥ = λ none. behind front r.end r.key (r ∷ rows) some (ap (rows_at r.end r.key) (sym parts) ∙ none) in
      let there = if_true (is_multiple slide r.end && due r.end) (total (frame_in size r.end r.key) frames) (filled _ (λ none. in_all (h.each r.end r.key ∙ none))) in
      ((both_true (is_multiple slide r.end) (due r.end) there.0).0, there.1)

  of_rows : (front rows : List RowValue) → all ≡ front ++ rows → (append : (r : RowValue) (rest : List RowValue) → rows ≡ r ∷ rest → all ≡ (front ++ r ∷ []) ++ rest) → pos 1 ≤ℤ slide → Each (λ r. IsMultiple slide r.end) rows × Each (λ r. 1 ≤ sum_by (λ f. one_if (hit size f r)) frames) rows
  of_rows front [] parts push low = (tt, tt)
  of_rows front (r ∷ rows) parts push low =
      let this = of_row front rows r parts in
      let rest = of_rows (front ++ r ∷ []) rows (push r rows refl) (λ s more is. push r rows refl ∙ (ap (λ (xs : List RowValue). (front ++ r ∷ []) ++ xs) is ∙ sym (assoc (front ++ r ∷ []) s more))) low in
      ((multiple_fact slide r.end low this.0, rest.0), (some_frame size r frames this.1, rest.1))
    where
      assoc : (xs : List RowValue) (s : RowValue) (more : List RowValue) → (xs ++ s ∷ []) ++ more ≡ xs ++ s ∷ more
      assoc [] s more = refl
      assoc (x ∷ xs) s more = ap (λ (ys : List RowValue). x ∷ ys) (assoc xs s more)

pub few_rows : FewRows
few_rows vertex size slide due frames rows grid h =
    let n : ℕ = windows_of size slide in
    let each = of_rows vertex size slide due frames rows h [] rows refl (λ r rest at. at) grid.slide_low in
    let few : (f : FrameValue) → sum_by (λ r. one_if (hit size f r)) rows ≤ n = λ f.
    let ends : length (ends_of size f rows) ≤ n = few_ends n size slide f (ends_of size f rows) grid.slide_low (whole_windows size slide grid) (ends_rise size f rows h.rising) (ends_are size slide f rows each.0) in
    omega (arith, hits_are size f rows, ends) in
    omega (arith, each_one (λ r. sum_by (λ f. one_if (hit size f r)) frames) rows each.1, rows_first size frames rows, each_few (λ f. sum_by (λ r. one_if (hit size f r)) rows) n frames few)

-- ---- frames and late items of events
sum_ones : {X : Type 0} (xs : List X) → sum_by (λ x. 1) xs ≡ length xs
sum_ones [] = refl
sum_ones (x ∷ xs) = omega (arith, sum_by-cons (λ y. 1) x xs, sum_ones xs)

same_length : {X : Type 0} (xs ys : List X) → SameBag xs ys → length xs ≡ length ys
same_length xs ys h = sym (sum_ones xs) ∙ (h.weighs (λ x. 1) ∙ sum_ones ys)

-- the data by its kinds
by_kinds : (xs : List Item) → length (data_of xs) ≡ length (events_of xs) + (length (sides_of xs) + (length (frames_of xs) + (length (rows_of xs) + (length (lates_of xs) + length (idles_of xs)))))
by_kinds [] = refl
by_kinds (item.Event e ∷ xs) = omega (arith, by_kinds xs)
by_kinds (item.Side s ∷ xs) = omega (arith, by_kinds xs)
by_kinds (item.Frame f ∷ xs) = omega (arith, by_kinds xs)
by_kinds (item.Row r ∷ xs) = omega (arith, by_kinds xs)
by_kinds (item.Late l ∷ xs) = omega (arith, by_kinds xs)
by_kinds (item.Idle ∷ xs) = omega (arith, by_kinds xs)
by_kinds (item.Mark m ∷ xs) = by_kinds xs
by_kinds (item.Done ∷ xs) = by_kinds xs

record Alone (xs : List Item) : Type 0 where
  pub sides : sides_of xs ≡ []
  pub frames : frames_of xs ≡ []
  pub rows : rows_of xs ≡ []
  pub lates : lates_of xs ≡ []
  pub idles : idles_of xs ≡ []

alone : (xs : List Item) → others_of xs ≡ [] → Alone xs
alone [] h = record { sides = refl; frames = refl; rows = refl; lates = refl; idles = refl }
alone (item.Event e ∷ xs) h = let r = alone xs h in record { sides = r.sides; frames = r.frames; rows = r.rows; lates = r.lates; idles = r.idles }
alone (item.Side s ∷ xs) h = absurd (cc)
alone (item.Frame f ∷ xs) h = absurd (cc)
alone (item.Row r ∷ xs) h = absurd (cc)
alone (item.Late l ∷ xs) h = absurd (cc)
alone (item.Idle ∷ xs) h = absurd (cc)
alone (item.Mark m ∷ xs) h = let r = alone xs h in record { sides = r.sides; frames = r.frames; rows = r.rows; lates = r.lates; idles = r.idles }
alone (item.Done ∷ xs) h = let r = alone xs h in record { sides = r.sides; frames = r.frames; rows = r.rows; lates = r.lates; idles = r.idles }

pub few_frames : FewFrames
few_frames vertex slide begun held told taken given h none =
    let a = alone (items_of taken) none in
    omega (
      arith,
      by_kinds given,
      ap length h.events,
      ap length (h.rows ∙ a.rows),
      ap length (h.sides ∙ a.sides),
      ap length (h.idles ∙ a.idles),
      same_length (frames_of given) (frames_of (items_of taken) ++ h.own) h.passed,
      length-append (frames_of (items_of taken)) h.own,
      ap length a.frames,
      h.few,
      same_length (events_of (items_of taken) ++ late_events (items_of taken)) (late_events given ++ kept_events slide begun (items_of taken)) h.parts,
      length-append (events_of (items_of taken)) (late_events (items_of taken)),
      length-append (late_events given) (kept_events slide begun (items_of taken)),
      length-map (lates_of given) (λ l. l.event),
      length-map (lates_of (items_of taken)) (λ l. l.event),
      ap length a.lates,
    )
