-- One whole drain.
use Rattle.std.proofs.Common.{◌≡◌, ◌||◌, ◌<◌, ℕ, Bool, true, false, List, [], ◌∷◌, ◌++◌, length, map, refl, sym, ◌∙◌, ap, subst, append-nil, append_assoc, inl, inr, ◌⊎◌}
use Rattle.std.specs.Prelude.{All, ◌↔◌}
use Rattle.std.specs.List.{AllByRecursion}
use Rattle.std.specs.List.Sorted.{IsPermutation}
use Rattle.std.specs.Ordering.{is_gt}
use Rattle.std.specs.Prelude.{int_le}
use Rattle.std.specs.Option.{option_map_or}
use Rattle.std.proofs.lemmas.List.{length-map, get_or-map}
use Rattle.std.proofs.lemmas.List.Elements.{All-append, All-weaker, All-head, All-map}
use Rattle.std.proofs.lemmas.List.Sorted.{IsPermutation-trans, IsPermutation-append_left, IsPermutation-append_right}
use Rattle.jet_coalescer.specs.Notes.{HasNotes}
use Rattle.jet_coalescer.specs.View as coalescer
use Rattle.jet_coalescer.specs.declared.queue.Queue.{Queue}
use Rattle.jet_conveyor.specs.Conveyor as conveyor
use Rattle.jet_file.specs.Text.{rows_text}
use Rattle.jet_items.specs.Kinds.{rows_of}
use Rattle.jet_items.specs.Rows.{row_cmp}
use Rattle.jet_items.specs.Values.{RowValue}
use Rattle.jet_window.specs.Held.{WaitingRows, is_let_out}
use Rattle.jet_window.specs.InOrder.{IsInOrder}
use Rattle.jet_sink.specs.Alike.{AreAlike}
use Rattle.jet_sink.specs.Drained.{AllDone, HasDrained, Drained}
use Rattle.jet_sink.specs.Taken.{TakenItem, items_in, notes_of, HasTaken}
use Rattle.jet_sink.specs.View.{View}
use Rattle.jet_sink.specs.inner.LetOut.{PrintsDue}
use Rattle.jet_sink.specs.inner.Noted.{Notes, TakesKnown}
use Rattle.jet_sink.proofs.Noting.{rows_then, notes_then}
use Rattle.jet_sink.proofs.Printing.{same_out}
use Rattle.jet_sink.proofs.Taking.{done_of, none_taken}

-- ---- rows in order

recursion_front : {X : Type 0} (P : X → Type 0) (xs ys : List X) → AllByRecursion P (xs ++ ys) → AllByRecursion P xs
recursion_front P [] ys h = tt
recursion_front P (x ∷ xs) ys h = (h.0, recursion_front P xs ys h.1)

pub order_front : (xs ys : List RowValue) → IsInOrder (xs ++ ys) → IsInOrder xs
order_front [] ys h = tt
order_front (x ∷ xs) ys h = (recursion_front (λ later. is_gt (row_cmp x later) ≡ false) xs ys h.0, order_front xs ys h.1)

pub order_back : (xs ys : List RowValue) → IsInOrder (xs ++ ys) → IsInOrder ys
order_back [] ys h = h
order_back (x ∷ xs) ys h = order_back xs ys h.1

-- ---- queues that are done

pub done_all : (qs : List Queue) (v : conveyor.View) → AreAlike qs v → AllDone qs → All (λ d. d ≡ true) v.done
done_all qs v alike all = subst (λ (ds : List Bool). All (λ d. d ≡ true) ds) alike.done (All-map (λ (d : Bool). d ≡ true) done_of qs all)

unmapped : (qs : List Queue) → All (λ d. d ≡ true) (map done_of qs) → AllDone qs
unmapped qs all = λ k d inside. sym (get_or-map done_of qs k d (done_of d) inside) ∙ all k (done_of d) (subst (λ (n : ℕ). k < n) (sym (length-map qs done_of)) inside)

pub all_done : (qs : List Queue) (v : conveyor.View) → AreAlike qs v → All (λ d. d ≡ true) v.done → AllDone qs
all_done qs v alike all = unmapped qs (subst (λ (ds : List Bool). All (λ d. d ≡ true) ds) (sym alike.done) all)

-- ---- what is left

out_true : (a : WaitingRows) (row : RowValue) → a.closed ≡ true → is_let_out a row ≡ false → ⊥
out_true a row closed h = let out : is_let_out a row ≡ true = ap (λ (c : Bool). c || option_map_or (λ t. int_le row.end t) a.passed false) closed in absurd (cc (out, h))

none_left : (a : WaitingRows) → (rows : List RowValue) → a.closed ≡ true → All (λ row. is_let_out a row ≡ false) rows → rows ≡ []
none_left a [] closed held = refl
none_left a (row ∷ rows) closed held = absurd (out_true a row closed (All-head (λ r. is_let_out a r ≡ false) row rows held))

either : (x y : Bool) → (x || y) ≡ true → (x ≡ true) ⊎ (y ≡ true)
either true y h = inl refl
either false y h = inr h

or_true : (x : Bool) → (x || true) ≡ true
or_true true = refl
or_true false = refl

more_out : (closed all rest : Bool) → (closed || rest) ≡ true → ((closed || all) || rest) ≡ true
more_out true all rest h = refl
more_out false true rest h = refl
more_out false false rest h = h

-- ---- a drain that took items

-- a sink without the lines of its last drain
abbrev pub cleared : View → View
cleared a = record a { row_lines = []; late_lines = [] }

module _ (a b c : View) (old new : conveyor.View) (all : Bool) (taken : List TakenItem) (notes : Notes taken (cleared a) b) (due : PrintsDue all b c)
    (marks : c.marks ≡ b.marks) (alike : AreAlike c.marks.queues new) (ends : (all ≡ true) ↔ All (λ d. d ≡ true) new.done) where
  abbrev given : List RowValue
  given = due.lets_out.prints.given

  -- what was let out before is let out now
  still_out : (row : RowValue) → is_let_out b.rows row ≡ true → is_let_out c.rows row ≡ true
  still_out row h =
      let shut : WaitingRows = record b.rows { closed = b.rows.closed || all } in
      same_out c.rows shut row true (sym due.lets_out.prints.passed) (sym due.lets_out.prints.closed) (more_out b.rows.closed all (option_map_or (λ t. int_le row.end t) b.rows.passed false) h)

  given_out : (row : RowValue) → is_let_out (record b.rows { closed = b.rows.closed || all }) row ≡ true → is_let_out c.rows row ≡ true
  given_out row h = same_out c.rows (record b.rows { closed = b.rows.closed || all }) row true (sym due.lets_out.prints.passed) (sym due.lets_out.prints.closed) h

  all_now : AllDone b.marks.queues → AllDone c.marks.queues
  all_now h = subst (λ (m : coalescer.View). AllDone m.queues) (sym marks) h

  only_closed : (AllDone a.marks.queues → AllDone b.marks.queues) → (a.rows.closed ≡ true → AllDone a.marks.queues) → c.rows.closed ≡ true → AllDone c.marks.queues
  only_closed lasting before h = by_cases (either b.rows.closed all (sym due.lets_out.prints.closed ∙ h)) where
    by_cases : (b.rows.closed ≡ true) ⊎ (all ≡ true) → AllDone c.marks.queues
    by_cases (inl was) = all_now (lasting (before (sym notes.closed ∙ was)))
    by_cases (inr is) = all_done c.marks.queues new alike (ends.0 is)

  rows_once : (rows : List RowValue) (before : List TakenItem) → IsPermutation (rows_of (items_in before)) (rows ++ a.rows.rows)
      → IsPermutation (rows_of (items_in (before ++ taken))) ((rows ++ given) ++ c.rows.rows)
  rows_once rows before h =
      let came : List RowValue = rows_of (items_in taken) in
      let first : IsPermutation (rows_of (items_in before) ++ came) ((rows ++ a.rows.rows) ++ came) = IsPermutation-append_left came (rows_of (items_in before)) (rows ++ a.rows.rows) h in
      let then : IsPermutation (rows ++ (a.rows.rows ++ came)) (rows ++ b.rows.rows) = IsPermutation-append_right rows (a.rows.rows ++ came) b.rows.rows notes.rows in
      let held : rows ++ b.rows.rows ≡ (rows ++ given) ++ c.rows.rows = ap (λ (rs : List RowValue). rows ++ rs) due.lets_out.prints.rows ∙ sym (append_assoc rows given c.rows.rows) in
      let joined : IsPermutation (rows_of (items_in before) ++ came) (rows ++ b.rows.rows) =
      IsPermutation-trans (rows_of (items_in before) ++ came) ((rows ++ a.rows.rows) ++ came) (rows ++ b.rows.rows) first
      (subst (λ (rs : List RowValue). IsPermutation rs (rows ++ b.rows.rows)) (sym (append_assoc rows a.rows.rows came)) then) in
      subst (λ (rs : List RowValue). IsPermutation rs ((rows ++ given) ++ c.rows.rows)) (sym (rows_then before taken)) (subst (IsPermutation (rows_of (items_in before) ++ came)) held joined)

  goes_on : (before : List TakenItem) (rows : List RowValue) → HasDrained a before rows → HasDrained c (before ++ taken) (rows ++ given)
  goes_on before rows h = record {
    marks = subst (λ (m : coalescer.View). HasNotes m (notes_of (before ++ taken))) (sym marks) (subst (HasNotes b.marks) (sym (notes_then before taken)) (notes.marks (notes_of before) h.marks));
    rows = rows_once rows before h.rows;
    passed = due.lets_out.prints.passed ∙ (notes.passed h.passed ∙ ap (λ (m : coalescer.View). m.low) (sym marks));
    due = All-append (λ row. is_let_out c.rows row ≡ true) rows given
        (All-weaker (λ row. is_let_out a.rows row ≡ true) (λ row. is_let_out c.rows row ≡ true) (λ row out. still_out row (notes.later row out)) rows h.due)
        (All-weaker (λ row. is_let_out (record b.rows { closed = b.rows.closed || all }) row ≡ true) (λ row. is_let_out c.rows row ≡ true) given_out given due.lets_out.prints.out);
    held = due.lets_out.held;
    order = order_back given c.rows.rows (subst IsInOrder due.lets_out.prints.rows (notes.order h.order));
    closed = only_closed notes.lasting h.closed;
    ended = λ some done. none_left c.rows c.rows.rows (due.lets_out.prints.closed ∙ (ap (λ (x : Bool). b.rows.closed || x) (ends.1 (done_all c.marks.queues new alike done)) ∙ or_true b.rows.closed)) due.lets_out.held;
  }

  drained : 0 < length taken → HasTaken taken old new → Drained true a c old new
  drained some took = record {
    taken = taken;
    printed = given;
    some = λ e. some;
    took = took;
    row_lines = due.lets_out.prints.lines ∙ (ap (λ (text : List ℕ). text ++ rows_text b.windows given) notes.row_lines ∙ ap (λ ws. rows_text ws given) notes.windows);
    late_lines = due.late_lines ∙ notes.late_lines;
    goes_on = λ before rows h. (goes_on before rows h, order_front given c.rows.rows (subst IsInOrder due.lets_out.prints.rows (notes.order h.order)));
  }

cleared_is : (s : View) (rows lates : List ℕ) → rows ≡ [] → lates ≡ [] → record s { row_lines = rows; late_lines = lates } ≡ cleared s
cleared_is s rows lates no_rows no_lates = ap (λ (r : List ℕ). record s { row_lines = r; late_lines = lates }) no_rows ∙ ap (λ (l : List ℕ). record s { row_lines = []; late_lines = l }) no_lates

pub collected : (s : View) (rows lates : List ℕ) (m : Bool) (b c : View) (old new : conveyor.View) (all : Bool) → rows ≡ [] → lates ≡ []
    → TakesKnown m (record s { row_lines = rows; late_lines = lates }) b old new → m ≡ true → PrintsDue all b c → c.marks ≡ b.marks → AreAlike b.marks.queues new
    → ((all ≡ true) ↔ All (λ d. d ≡ true) new.done) → Drained true s c old new
collected s rows lates m b c old new all no_rows no_lates known is due marks alike ends =
    let notes : Notes known.taken (cleared s) b = subst (λ (a : View). Notes known.taken a b) (cleared_is s rows lates no_rows no_lates) known.notes in
    drained s b c old new all known.taken notes due marks (subst (λ (v : coalescer.View). AreAlike v.queues new) (sym marks) alike) ends (known.some is) known.took

-- ---- a drain that took nothing

module _ (a : View) (v : conveyor.View) where
  same_drained : (before : List TakenItem) (rows : List RowValue) → HasDrained a before rows → HasDrained (cleared a) before rows
  same_drained before rows h = record {
    marks = h.marks;
    rows = h.rows;
    passed = h.passed;
    due = h.due;
    held = h.held;
    order = h.order;
    closed = h.closed;
    ended = h.ended;
  }

  nothing_drained : Drained false a (cleared a) v v
  nothing_drained = record {
    taken = [];
    printed = [];
    some = λ e. absurd (cc e);
    took = none_taken v;
    row_lines = refl;
    late_lines = refl;
    goes_on = λ before rows h. (subst (λ (t : List TakenItem). HasDrained (cleared a) t (rows ++ [])) (sym (append-nil before)) (subst (HasDrained (cleared a) before) (sym (append-nil rows)) (same_drained before rows h)), tt);
  }

pub drained_none : (a b : View) (rows lates : List ℕ) (old new : conveyor.View) → rows ≡ [] → lates ≡ [] → b ≡ record a { row_lines = rows; late_lines = lates } → new ≡ old → Drained false a b old new
drained_none a b rows lates old new no_rows no_lates is still =
    let same : b ≡ cleared a = is ∙ cleared_is a rows lates no_rows no_lates in
    subst (λ (s : View). Drained false a s old new) (sym same) (subst (λ (v : conveyor.View). Drained false a (cleared a) old v) (sym still) (nothing_drained a old))
