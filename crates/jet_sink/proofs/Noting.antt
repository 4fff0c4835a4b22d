-- What one item does to a sink, and several, one after another.
use Rattle.std.proofs.Common.{◌≡◌, ◌||◌, ◌<◌, ℕ, Bool, true, false, ℤ, List, [], ◌∷◌, ◌++◌, length, Option, Some, None, Result, Ok, Err, refl, sym, ◌∙◌, ap, subst, append-nil, append_assoc, arith}
use Rattle.std.specs.Prelude.{int_le, OnOk}
use Rattle.std.specs.List.Sorted.{IsPermutation}
use Rattle.std.specs.Int.{int_max}
use Rattle.std.specs.Option.{option_map_or}
use Rattle.std.proofs.lemmas.Int.{ints, int_max_is}
use Rattle.std.proofs.lemmas.List.{map-append}
use Rattle.std.proofs.lemmas.List.Concat.{flat_map-append}
use Rattle.std.proofs.lemmas.List.Sorted.{IsPermutation-refl, IsPermutation-trans, IsPermutation-append_left, IsPermutation-to_front}
use Rattle.jet_coalescer.specs.Notes.{Note, HasNotes}
use Rattle.jet_coalescer.specs.Queues.{unknown, greater, is_done_at}
use Rattle.jet_coalescer.specs.View as coalescer
use Rattle.jet_file.specs.Text.{late_text, late_window_line}
use Rattle.jet_items.specs.Kinds.{as_row, as_late, rows_of, lates_of}
use Rattle.jet_items.specs.Values.{RowValue, LateValue}
use Rattle.jet_items.specs.declared.item.Item.{Item}
use Rattle.jet_items.specs.declared.item.Item.TheVariants as item
use Rattle.jet_window.specs.Held.{WaitingRows, is_let_out}
use Rattle.jet_window.specs.InOrder.{IsInOrder}
use Rattle.jet_sink.specs.Drained.{AllDone}
use Rattle.jet_sink.specs.Taken.{TakenItem, items_in, note_of, notes_of}
use Rattle.jet_sink.specs.View.{View}
use Rattle.jet_sink.specs.inner.Noted.{Notes}

-- one item of a queue
abbrev pub one : ℕ → Item → List TakenItem
one q x = record { queue = q; item = x } ∷ []

-- ---- lists of items that were taken

pub rows_then : (t u : List TakenItem) → rows_of (items_in (t ++ u)) ≡ rows_of (items_in t) ++ rows_of (items_in u)
rows_then t u = ap rows_of (map-append (λ (x : TakenItem). x.item) t u) ∙ flat_map-append as_row (items_in t) (items_in u)

pub lates_then : (t u : List TakenItem) → lates_of (items_in (t ++ u)) ≡ lates_of (items_in t) ++ lates_of (items_in u)
lates_then t u = ap lates_of (map-append (λ (x : TakenItem). x.item) t u) ∙ flat_map-append as_late (items_in t) (items_in u)

pub notes_then : (t u : List TakenItem) → notes_of (t ++ u) ≡ notes_of t ++ notes_of u
notes_then t u = flat_map-append (λ (x : TakenItem). note_of x.queue x.item) t u

-- ---- a sink that took nothing

same_told : (c : coalescer.View) (told : List Note) → HasNotes c told → HasNotes c (told ++ [])
same_told c told h = subst (HasNotes c) (sym (append-nil told)) h

same_rows : (rows : List RowValue) → IsPermutation (rows ++ []) rows
same_rows rows = subst (λ (rs : List RowValue). IsPermutation rs rows) (sym (append-nil rows)) (IsPermutation-refl rows)

pub none_noted : (s : View) → Notes [] s s
none_noted s = record {
  marks = same_told s.marks;
  rows = same_rows s.rows.rows;
  order = λ h. h;
  passed = λ h. h;
  closed = refl;
  later = λ row h. h;
  lasting = λ h. h;
  windows = refl;
  row_lines = refl;
  late_lines = sym (append-nil s.late_lines);
}

-- ---- an item of each kind

-- one that is dropped
pub other_noted : (s : View) (q : ℕ) (x : Item) → note_of q x ≡ [] → as_row x ≡ [] → as_late x ≡ [] → Notes (one q x) s s
other_noted s q x notes rows lates =
    let all_notes : notes_of (one q x) ≡ [] = ap (λ (ns : List Note). ns ++ []) notes in
    let all_rows : rows_of (items_in (one q x)) ≡ [] = ap (λ (rs : List RowValue). rs ++ []) rows in
    let all_lates : lates_of (items_in (one q x)) ≡ [] = ap (λ (ls : List LateValue). ls ++ []) lates in
    record {
      marks = λ told h. subst (λ (ns : List Note). HasNotes s.marks (told ++ ns)) (sym all_notes) (same_told s.marks told h);
      rows = subst (λ (rs : List RowValue). IsPermutation (s.rows.rows ++ rs) s.rows.rows) (sym all_rows) (same_rows s.rows.rows);
      order = λ h. h;
      passed = λ h. h;
      closed = refl;
      later = λ row h. h;
      lasting = λ h. h;
      windows = refl;
      row_lines = refl;
      late_lines = sym (append-nil s.late_lines) ∙ ap (λ (ls : List LateValue). s.late_lines ++ late_text s.windows ls) (sym all_lates);
    }

pub row_noted : (s : View) (q : ℕ) (row : RowValue) (rows : WaitingRows) → IsPermutation (row ∷ s.rows.rows) rows.rows × (rows ≡ record s.rows { rows = rows.rows }) → IsInOrder rows.rows
    → Notes (one q (item.Row row)) s (record s { rows = rows })
row_noted s q row rows (more, is) order = record {
  marks = same_told s.marks;
  rows = IsPermutation-trans (s.rows.rows ++ row ∷ []) (row ∷ s.rows.rows) rows.rows (IsPermutation-to_front s.rows.rows row) more;
  order = λ h. order;
  passed = λ h. ap (λ (r : WaitingRows). r.passed) is ∙ h;
  closed = ap (λ (r : WaitingRows). r.closed) is;
  later = λ r h. ap (λ (w : WaitingRows). is_let_out w r) is ∙ h;
  lasting = λ h. h;
  windows = refl;
  row_lines = refl;
  late_lines = sym (append-nil s.late_lines);
}

-- a row that was put, or was not
pub row_put : {T E : Type 0} (result : Result T E) (s : View) (q : ℕ) (row : RowValue) (x : Item) (rows : WaitingRows) → x ≡ item.Row row
    → OnOk result (IsPermutation (row ∷ s.rows.rows) rows.rows × (rows ≡ record s.rows { rows = rows.rows })) → IsInOrder rows.rows → OnOk result (Notes (one q x) s (record s { rows = rows }))
row_put (Ok y) s q row x rows is h order = subst (λ (z : Item). Notes (one q z) s (record s { rows = rows })) (sym is) (row_noted s q row rows h order)
row_put (Err e) s q row x rows is h order = h

pub late_noted : (s : View) (q : ℕ) (late : LateValue) (lines : List ℕ) → lines ≡ s.late_lines ++ late_window_line s.windows late → Notes (one q (item.Late late)) s (record s { late_lines = lines })
late_noted s q late lines is = record {
  marks = same_told s.marks;
  rows = same_rows s.rows.rows;
  order = λ h. h;
  passed = λ h. h;
  closed = refl;
  later = λ row h. h;
  lasting = λ h. h;
  windows = refl;
  row_lines = refl;
  late_lines = is ∙ ap (λ (text : List ℕ). s.late_lines ++ text) (sym (append-nil (late_window_line s.windows late)));
}

-- ---- a mark or an end

-- while a queue is open, not all are done
pub not_all : (c : coalescer.View) (q : ℕ) → q < length c.queues → is_done_at c q ≡ false → AllDone c.queues → ⊥
not_all c q inside is_open all = let done : is_done_at c q ≡ true = all q unknown inside in absurd (cc (done, is_open))

greatest_twice : (t u : ℤ) → int_max t (int_max t u) ≡ int_max t u
greatest_twice t u = omega (arith, ints, int_max_is t (int_max t u), int_max_is t u)

pub greater_twice : (a b : Option ℤ) → greater a (greater a b) ≡ greater a b
greater_twice None None = refl
greater_twice None (Some u) = refl
greater_twice (Some t) None = ap Some (omega (arith, ints, int_max_is t t))
greater_twice (Some t) (Some u) = ap Some (greatest_twice t u)

reaches : (end t u : ℤ) → int_le end t ≡ true → int_le end (int_max t u) ≡ true
reaches end t u h = grind (arith, ints, int_max_is t u)

let_out_later : (closed : Bool) (p m : Option ℤ) (end : ℤ) → (closed || option_map_or (λ t. int_le end t) p false) ≡ true → (closed || option_map_or (λ t. int_le end t) (greater p m) false) ≡ true
let_out_later true p m end h = refl
let_out_later false None m end h = absurd (cc h)
let_out_later false (Some t) None end h = h
let_out_later false (Some t) (Some u) end h = reaches end t u h

pub told_noted : (s : View) (q : ℕ) (x : Item) (note : Note) (marks : coalescer.View) (least : Option ℤ) (rows : WaitingRows)
    → q < length s.marks.queues → is_done_at s.marks q ≡ false
    → note_of q x ≡ note ∷ [] → as_row x ≡ [] → as_late x ≡ []
    → ((told : List Note) → HasNotes s.marks told → HasNotes marks (told ++ note ∷ []))
    → marks.low ≡ greater s.marks.low least
    → rows ≡ record s.rows { passed = greater s.rows.passed marks.low }
    → Notes (one q x) s (record s { marks = marks; rows = rows })
told_noted s q x note marks least rows inside is_open notes no_rows no_lates tells rises is =
    let all_notes : notes_of (one q x) ≡ note ∷ [] = ap (λ (ns : List Note). ns ++ []) notes in
    let all_rows : rows_of (items_in (one q x)) ≡ [] = ap (λ (rs : List RowValue). rs ++ []) no_rows in
    let all_lates : lates_of (items_in (one q x)) ≡ [] = ap (λ (ls : List LateValue). ls ++ []) no_lates in
    let held : s.rows.rows ≡ rows.rows = sym (ap (λ (r : WaitingRows). r.rows) is) in
    record {
      marks = λ told h. subst (λ (ns : List Note). HasNotes marks (told ++ ns)) (sym all_notes) (tells told h);
      rows = subst (λ (rs : List RowValue). IsPermutation (s.rows.rows ++ rs) rows.rows) (sym all_rows) (subst (λ (rs : List RowValue). IsPermutation (s.rows.rows ++ []) rs) held (same_rows s.rows.rows));
      order = λ h. subst IsInOrder held h;
      passed = λ h. ap (λ (r : WaitingRows). r.passed) is
          ∙ (ap (λ (p : Option ℤ). greater p marks.low) h ∙ (ap (λ (m : Option ℤ). greater s.marks.low m) rises ∙ (greater_twice s.marks.low least ∙ sym rises)));
      closed = ap (λ (r : WaitingRows). r.closed) is;
      later = λ row h. ap (λ (w : WaitingRows). is_let_out w row) is ∙ let_out_later s.rows.closed s.rows.passed marks.low row.end h;
      lasting = λ h. absurd (not_all s.marks q inside is_open h);
      windows = refl;
      row_lines = refl;
      late_lines = sym (append-nil s.late_lines) ∙ ap (λ (ls : List LateValue). s.late_lines ++ late_text s.windows ls) (sym all_lates);
    }

-- ---- items, and then others

pub notes_trans : (t u : List TakenItem) (a b c : View) → Notes t a b → Notes u b c → Notes (t ++ u) a c
notes_trans t u a b c h k = record {
  marks = λ told was. subst (HasNotes c.marks) (append_assoc told (notes_of t) (notes_of u) ∙ ap (λ (ns : List Note). told ++ ns) (sym (notes_then t u))) (k.marks (told ++ notes_of t) (h.marks told was));
  rows = subst (λ (rs : List RowValue). IsPermutation rs c.rows.rows) (append_assoc a.rows.rows (rows_of (items_in t)) (rows_of (items_in u)) ∙ ap (λ (rs : List RowValue). a.rows.rows ++ rs) (sym (rows_then t u)))
      (IsPermutation-trans ((a.rows.rows ++ rows_of (items_in t)) ++ rows_of (items_in u)) (b.rows.rows ++ rows_of (items_in u)) c.rows.rows
      (IsPermutation-append_left (rows_of (items_in u)) (a.rows.rows ++ rows_of (items_in t)) b.rows.rows h.rows) k.rows);
  order = λ was. k.order (h.order was);
  passed = λ was. k.passed (h.passed was);
  closed = k.closed ∙ h.closed;
  later = λ row was. k.later row (h.later row was);
  lasting = λ was. k.lasting (h.lasting was);
  windows = k.windows ∙ h.windows;
  row_lines = k.row_lines ∙ h.row_lines;
  late_lines = k.late_lines
      ∙ (ap (λ (lines : List ℕ). lines ++ late_text b.windows (lates_of (items_in u))) h.late_lines
      ∙ (append_assoc a.late_lines (late_text a.windows (lates_of (items_in t))) (late_text b.windows (lates_of (items_in u)))
      ∙ ap (λ (text : List ℕ). a.late_lines ++ text)
      (ap (λ ws. late_text a.windows (lates_of (items_in t)) ++ late_text ws (lates_of (items_in u))) h.windows
      ∙ (sym (flat_map-append (late_window_line a.windows) (lates_of (items_in t)) (lates_of (items_in u))) ∙ ap (late_text a.windows) (sym (lates_then t u))))));
}
