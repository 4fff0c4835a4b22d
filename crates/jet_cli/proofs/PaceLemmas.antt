-- That rows are written before the next read: what the calls of a run took and wrote, step by step.
use Rattle.std.proofs.Common.{◌≡◌, ℕ, ◌≤◌, List, [], ◌∷◌, ◌++◌, length, map, take, filter, Bool, true, false, cond, Option, Some, None, refl, ap, sym, ◌∙◌, subst, arith, append-nil, append_assoc, length-append, All, ℤ, pos, ◌-ℤ◌, ◌≤ℤ◌, ◌<ℤ◌, inl, inr, rules}
use Rattle.std.specs.Prelude.{IfSome, IsSomeAnd, ◌⊎◌, flat_map, int_le, codes}
use Rattle.std.proofs.Math.Seq.{take-append_seam}
use Rattle.std.proofs.lemmas.Grind.{flat_map-append}
use Rattle.std.proofs.lemmas.Int.{ints}
use Rattle.std.proofs.lemmas.List.Elements.{filter-append, All-append, All-head, All-nil, All-tail, All-weaker}
use Rattle.jet_items.specs.Values.{RowValue}
use Rattle.jet_lines.specs.LinesValue.{LinesValue}
use Rattle.jet_file.specs.Outside.{Told, WhereTold, CallMade, Read, Wrote, rest_of}
use Rattle.jet_file.specs.Pace.{taken_by, wrote_by, rows_until}
use Rattle.jet_file.specs.Text.{row_line}
use Rattle.jet_file.specs.declared.outside.Out.TheVariants.{Rows, Notes}
use Rattle.jet_file.proofs.PaceLaws.{taken_by-append, wrote_by-append}
use Rattle.jet_worker.specs.Calls.{ReadsOrWrites}
use Rattle.jet_worker.specs.Feeding.{Appends, TakesPiece}
use Rattle.jet_worker.proofs.CallLaws.{cancel, none_reads, none_writes, one_piece, split_last}
use Rattle.jet_cli.proofs.ReadPlaces.{NoRead, none_splits, reads_none, reads_none_both, split_front, notes_in_rows, took_none, took_one, wrote_own}
use Rattle.jet_cli.specs.Pacing.{HasPaced, base_ahead, base_mark}
use Rattle.jet_cli.specs.inner.Progress.{base_rows_text}
use Rattle.jet_cli.specs.Words.{WindowCommand}
use Rattle.jet_cli.proofs.RunLemmas.{rest_stays}
use Rattle.jet_file.proofs.GoesLaws.{goes_then, goes_same}
use Rattle.jet_lines.specs.Files.{events_in, most_lines, whole_lines}
use Rattle.jet_cli.specs.Counting.{mark_after}
use Rattle.jet_cli.specs.inner.Took.{ClosesOn}

-- ---- which rows a time has passed
shorter : (p : RowValue → Bool) (f : RowValue → List ℕ) (rows : List RowValue) → length (flat_map f (filter p rows)) ≤ length (flat_map f rows)
shorter p f [] = omega arith
shorter p f (r ∷ rows) = with_test (p r) (shorter p f rows)
  where
    with_test : (b : Bool) → length (flat_map f (filter p rows)) ≤ length (flat_map f rows) → length (flat_map f (cond b (r ∷ filter p rows) (filter p rows))) ≤ length (flat_map f (r ∷ rows))
    with_test true less = omega (arith, less, length-append (f r) (flat_map f (filter p rows)), length-append (f r) (flat_map f rows))
    with_test false less = omega (arith, less, length-append (f r) (flat_map f rows))

pub filter_nothing : {X : Type 0} (p : X → Bool) (xs : List X) → All (λ x. p x ≡ false) xs → filter p xs ≡ []
filter_nothing p [] h = refl
filter_nothing {X} p (x ∷ xs) h =
    ap (λ (b : Bool). cond b (x ∷ filter p xs) (filter p xs)) (All-head (λ (x : X). p x ≡ false) x xs h) ∙ filter_nothing p xs (All-tail (λ (x : X). p x ≡ false) x xs h)

not_yet : (end m t ahead : ℤ) → pos 0 ≤ℤ ahead → m ≤ℤ t → t <ℤ end → int_le end (m -ℤ ahead) ≡ false
not_yet end m t ahead a h k = grind (arith, ints, rules, a, h, k)

-- later rows end after what the watermark had passed
until_more : (m ahead : ℤ) (closed : Option ℤ) (table more : List RowValue) → pos 0 ≤ℤ ahead → IsSomeAnd closed (λ t. m ≤ℤ t) → All (λ r. IfSome closed (λ t. t <ℤ r.end)) more
    → rows_until (m -ℤ ahead) (table ++ more) ≡ rows_until (m -ℤ ahead) table
until_more m ahead None table more a h k = absurd h
until_more m ahead (Some t) table more a h k =
    filter-append (λ (r : RowValue). int_le r.end (m -ℤ ahead)) table more
    ∙ ap (λ (rows : List RowValue). rows_until (m -ℤ ahead) table ++ rows)
    (filter_nothing (λ (r : RowValue). int_le r.end (m -ℤ ahead)) more (All-weaker (λ (r : RowValue). t <ℤ r.end) (λ (r : RowValue). int_le r.end (m -ℤ ahead) ≡ false) (λ r end. not_yet r.end m t ahead a h end) more k))
    ∙ append-nil (rows_until (m -ℤ ahead) table)

-- ---- the steps
-- what a read saw stands where more rows were given that end after what was closed
saw : (c : WindowCommand) (mark closed closed' : Option ℤ) (table more : List RowValue) (k : ℕ)
    → IfSome mark (λ m. (length (base_rows_text c (rows_until (m -ℤ base_ahead) table)) ≤ k) × IsSomeAnd closed (λ t. m ≤ℤ t))
    → IfSome closed (λ t. IsSomeAnd closed' (λ u. t ≤ℤ u)) → All (λ r. IfSome closed (λ t. t <ℤ r.end)) more
    → IfSome mark (λ m. (length (base_rows_text c (rows_until (m -ℤ base_ahead) (table ++ more))) ≤ k) × IsSomeAnd closed' (λ t. m ≤ℤ t))
saw c None closed closed' table more k h up after = tt
saw c (Some m) None closed' table more k h up after = absurd h.1
saw c (Some m) (Some t) None table more k h up after = absurd up
saw c (Some m) (Some t) (Some u) table more k h up after = (
  subst (λ (rows : List RowValue). length (base_rows_text c rows) ≤ k) (sym (until_more m base_ahead (Some t) table more (grind (arith, ints)) h.1 after)) h.0,
  omega (arith, ints, h.1, up),
)

-- a read sees all rows that were closed before it
sees_all : (c : WindowCommand) (mark closed : Option ℤ) (table : List RowValue) (k : ℕ) → mark ≡ closed → k ≡ length (base_rows_text c table)
    → IfSome mark (λ m. (length (base_rows_text c (rows_until (m -ℤ base_ahead) table)) ≤ k) × IsSomeAnd closed (λ t. m ≤ℤ t))
sees_all c None closed table k same all = tt
sees_all c (Some m) closed table k same all = (
  omega (arith, all, shorter (λ (r : RowValue). int_le r.end (m -ℤ base_ahead)) (row_line (codes "w") (pos c.size)) table),
  subst (λ (o : Option ℤ). IsSomeAnd o (λ t. m ≤ℤ t)) same (omega (arith, ints)),
)

pub paced_starts : (c : WindowCommand) (file : ℕ) (a : Told) → HasPaced c file [] None [] a a
paced_starts c file a = record {
  calls = [];
  quiet = All-nil ReadsOrWrites;
  trace = sym (append-nil a.trace);
  rest = refl;
  taken = refl;
  wrote = refl;
  each = λ before after n is. absurd (none_splits [] before after file n tt is);
}

pub paced_takes : (c : WindowCommand) (file : ℕ) (bytes piece : List ℕ) (closed : Option ℤ) (table : List RowValue) (x y : LinesValue) (a b d : Told)
    → HasPaced c file bytes closed table a b → (t : TakesPiece file x y b d) → t.piece ≡ piece
    → closed ≡ mark_after c (events_in most_lines 0 (whole_lines bytes))
    → HasPaced c file (bytes ++ piece) closed table a d
paced_takes c file bytes piece closed table x y a b d h t is now =
    let read : List CallMade = Read file (length t.piece) ∷ [] in
    let front : take (length bytes) (rest_of a file) ≡ bytes = ap (take (length bytes)) h.rest ∙ take-append_seam bytes (rest_of b file) in
    let mark : base_mark c (rest_of a file) (taken_by file h.calls) ≡ closed =
    ap (λ (k : ℕ). base_mark c (rest_of a file) k) h.taken
    ∙ ap (λ (s : List ℕ). mark_after c (events_in most_lines 0 (whole_lines s))) front ∙ sym now in
    subst (λ (p : List ℕ). HasPaced c file (bytes ++ p) closed table a d) is
    (record {
      calls = h.calls ++ read;
      quiet = All-append ReadsOrWrites h.calls read h.quiet (none_reads file (length t.piece ∷ []) (one_piece (length t.piece) t.small));
      trace = t.trace ∙ ap (λ (l : List CallMade). l ++ read) h.trace ∙ append_assoc a.trace h.calls read;
      rest = h.rest ∙ ap (λ (s : List ℕ). bytes ++ s) t.rest ∙ sym (append_assoc bytes t.piece (rest_of d file));
      taken = omega (arith, taken_by-append file h.calls read, took_one file (length t.piece), h.taken, length-append bytes t.piece);
      wrote = wrote_by-append Rows h.calls read ∙ omega (arith, h.wrote);
      each = λ before after n e. step before after n (split_last h.calls before after (Read file (length t.piece)) (Read file n) e) mark;
    })
  where
    step : (before after : List CallMade) (n : ℕ) → (before ≡ h.calls) ⊎ ((later : List CallMade) × (h.calls ≡ before ++ Read file n ∷ later))
        → base_mark c (rest_of a file) (taken_by file h.calls) ≡ closed
        → IfSome (base_mark c (rest_of a file) (taken_by file before)) (λ m. (length (base_rows_text c (rows_until (m -ℤ base_ahead) table)) ≤ wrote_by Rows before) × IsSomeAnd closed (λ t. m ≤ℤ t))
    step before after n (inl same) mark =
        subst (λ (l : List CallMade). IfSome (base_mark c (rest_of a file) (taken_by file l)) (λ m. (length (base_rows_text c (rows_until (m -ℤ base_ahead) table)) ≤ wrote_by Rows l) × IsSomeAnd closed (λ t. m ≤ℤ t))) (sym same)
        (sees_all c (base_mark c (rest_of a file) (taken_by file h.calls)) closed table (wrote_by Rows h.calls) mark h.wrote)
    step before after n (inr (later, e)) mark = h.each before later n e

pub paced_appends : (c : WindowCommand) (file : ℕ) (bytes : List ℕ) (closed closed' : Option ℤ) (table more : List RowValue) (notes : List ℕ) (a b d : Told)
    → HasPaced c file bytes closed table a b → Appends (base_rows_text c more) notes b d
    → ClosesOn closed closed' more → HasPaced c file bytes closed' (table ++ more) a d
paced_appends c file bytes closed closed' table more notes a b d h w on =
    let first : List CallMade = map (Wrote Notes) w.note_lengths in
    let second : List CallMade = map (Wrote Rows) w.row_lengths in
    let none : NoRead (first ++ second) = reads_none_both first second (reads_none Notes w.note_lengths) (reads_none Rows w.row_lengths) in
    record {
      calls = h.calls ++ (first ++ second);
      quiet = All-append ReadsOrWrites h.calls (first ++ second) h.quiet (All-append ReadsOrWrites first second (none_writes Notes w.note_lengths) (none_writes Rows w.row_lengths));
      trace = w.trace ∙ append_assoc b.trace first second ∙ ap (λ (l : List CallMade). l ++ (first ++ second)) h.trace ∙ append_assoc a.trace h.calls (first ++ second);
      rest = h.rest ∙ ap (λ (s : List ℕ). bytes ++ s) (sym (rest_stays file b d w.content w.place));
      taken = taken_by-append file h.calls (first ++ second) ∙ omega (arith, took_none file (first ++ second) none, h.taken);
      wrote = wrote_by-append Rows h.calls (first ++ second)
          ∙ omega (arith, h.wrote, wrote_by-append Rows first second, notes_in_rows w.note_lengths, wrote_own Rows w.row_lengths, w.row_sum, length-append (base_rows_text c table) (base_rows_text c more), ap length (flat_map-append (row_line (codes "w") (pos c.size)) table more));
      each = λ before after' n e.
          let parts = split_front h.calls (first ++ second) before after' file n none e in
          saw c (base_mark c (rest_of a file) (taken_by file before)) closed closed' table more (wrote_by Rows before) (h.each before parts.0 n parts.1) on.up on.later;
    }

pub goes_paced_starts : (c : WindowCommand) (file : ℕ) (start : Option Told) → WhereTold (HasPaced c file [] None []) start start
goes_paced_starts c file start = goes_same (HasPaced c file [] None []) (paced_starts c file) start

pub goes_paced_takes : (c : WindowCommand) (file : ℕ) (bytes piece : List ℕ) (closed : Option ℤ) (table : List RowValue) (x y : LinesValue) (start now next : Option Told)
    → WhereTold (HasPaced c file bytes closed table) start now → WhereTold (TakesPiece file x y) now next → y.rest ≡ x.rest ++ piece
    → closed ≡ mark_after c (events_in most_lines 0 (whole_lines bytes))
    → WhereTold (HasPaced c file (bytes ++ piece) closed table) start next
goes_paced_takes c file bytes piece closed table x y start now next paced told is mark =
    goes_then (HasPaced c file bytes closed table) (TakesPiece file x y) (HasPaced c file (bytes ++ piece) closed table)
    (λ a b d h t. paced_takes c file bytes piece closed table x y a b d h t (cancel x.rest t.piece piece (sym t.lines ∙ is)) mark) start now next paced told

pub goes_paced_appends : (c : WindowCommand) (file : ℕ) (bytes : List ℕ) (closed closed' : Option ℤ) (table more : List RowValue) (notes : List ℕ) (start now next : Option Told)
    → WhereTold (HasPaced c file bytes closed table) start now → WhereTold (Appends (base_rows_text c more) notes) now next → ClosesOn closed closed' more
    → WhereTold (HasPaced c file bytes closed' (table ++ more)) start next
goes_paced_appends c file bytes closed closed' table more notes start now next paced told on =
    goes_then (HasPaced c file bytes closed table) (Appends (base_rows_text c more) notes) (HasPaced c file bytes closed' (table ++ more))
    (λ a b d h w. paced_appends c file bytes closed closed' table more notes a b d h w on) start now next paced told
