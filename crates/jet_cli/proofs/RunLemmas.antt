-- How the run over a file goes on, step by step, on an outside that tells all.
use Rattle.std.proofs.Common.{◌≡◌, ◌≢◌, ℕ, List, [], ◌∷◌, ◌++◌, length, map, take, Bool, true, false, Option, refl, ap, sym, ◌∙◌, subst, arith, append-nil, append_assoc, length-append, inl, inr}
use Rattle.std.specs.Prelude.{◌⊎◌}
use Rattle.std.proofs.Math.Seq.{take-append_seam}
use Rattle.jet_file.specs.Outside.{Told, Place, CallMade, Read, Wrote, WhereTold, rest_of, rest_from}
use Rattle.jet_file.specs.Pace.{taken_by}
use Rattle.jet_file.specs.declared.outside.Out.TheVariants.{Rows, Notes}
use Rattle.jet_file.proofs.GoesLaws.{goes_then, goes_same}
use Rattle.jet_file.proofs.PaceLaws.{taken_by-append, wrote_by-append}
use Rattle.jet_lines.specs.Files.{are_good, most_lines, whole_lines}
use Rattle.jet_lines.specs.LinesValue.{LinesValue}
use Rattle.jet_lines.specs.Readings.{event_line}
use Rattle.std.proofs.lemmas.List.Elements.{All-append, All-cons, All-nil}
use Rattle.jet_worker.specs.Calls.{ReadsOrWrites}
use Rattle.jet_worker.specs.Feeding.{Appends, TakesPiece}
use Rattle.jet_worker.proofs.CallLaws.{cancel, none_reads, none_writes, one_piece, split_last}
use Rattle.jet_cli.specs.inner.Progress.{HasRun}
use Rattle.jet_cli.specs.Pacing.{IsReady, base_late_of}
use Rattle.jet_cli.specs.Words.{WindowCommand}
use Rattle.jet_cli.proofs.ReadPlaces.{NoRead, ready_more, ready_start, reads_none, reads_none_both, rows_in_notes, some_read, took_none, took_one, writes_live, wrote_own}

false_not_true : {P : Type 0} → false ≡ true → P
false_not_true h = absurd (cc)

pub run_starts : (c : WindowCommand) (file : ℕ) (a : Told) → HasRun c file [] false [] [] a a
run_starts c file a = record {
  rest = refl;
  end = λ h. false_not_true h;
  content = refl;
  name = refl;
  taken = omega arith;
  rows_written = sym (append-nil (a.written Rows));
  notes_written = sym (append-nil (a.written Notes));
  calls = [];
  quiet = All-nil ReadsOrWrites;
  taken_is = refl;
  wrote_notes = refl;
  live = λ h. All-nil (λ (call : CallMade). call ≢ Read file 0);
  ready = ready_start c (rest_of a file) file;
  trace = sym (append-nil a.trace);
}

-- a piece more, where the file has not ended, its whole lines are good, and their late lines were written
run_takes : (c : WindowCommand) (file : ℕ) (bytes rows notes : List ℕ) (before after : LinesValue) (piece : List ℕ) (a b d : Told) → before.ended ≡ false → are_good (event_line 0) most_lines (whole_lines bytes) ≡ true
    → notes ≡ base_late_of c (whole_lines bytes) → HasRun c file bytes before.ended rows notes a b → (t : TakesPiece file before after b d) → t.piece ≡ piece → HasRun c file (bytes ++ piece) after.ended rows notes a d
run_takes c file bytes rows notes before after piece a b d live good late h t is =
    let read : List CallMade = Read file (length t.piece) ∷ [] in
    let here : take (taken_by file h.calls) (rest_of a file) ≡ bytes =
    ap (λ (k : ℕ). take k (rest_of a file)) h.taken_is ∙ ap (take (length bytes)) h.rest ∙ take-append_seam bytes (rest_of b file) in
    let now : IsReady c (rest_of a file) file h.calls = record {
      live = h.live live;
      good = subst (λ (s : List ℕ). are_good (event_line 0) most_lines (whole_lines s) ≡ true) (sym here) good;
      late = h.wrote_notes ∙ ap length (late ∙ ap (λ (s : List ℕ). base_late_of c (whole_lines s)) (sym here));
    } in
    subst (λ (p : List ℕ). HasRun c file (bytes ++ p) after.ended rows notes a d) is
    (record {
      rest = h.rest ∙ ap (λ (s : List ℕ). bytes ++ s) t.rest ∙ sym (append_assoc bytes t.piece (rest_of d file));
      end = t.end;
      content = t.content ∙ h.content;
      name = t.name ∙ h.name;
      taken = t.taken ∙ omega (arith, h.taken, length-append bytes t.piece);
      rows_written = ap (λ w. w Rows) t.written ∙ h.rows_written;
      notes_written = ap (λ w. w Notes) t.written ∙ h.notes_written;
      calls = h.calls ++ read;
      quiet = All-append ReadsOrWrites h.calls read h.quiet (none_reads file (length t.piece ∷ []) (one_piece (length t.piece) t.small));
      taken_is = omega (arith, taken_by-append file h.calls read, took_one file (length t.piece), h.taken_is, length-append bytes t.piece);
      wrote_notes = wrote_by-append Notes h.calls read ∙ omega (arith, h.wrote_notes);
      live = λ e. All-append (λ (call : CallMade). call ≢ Read file 0) h.calls read (h.live live)
          (All-cons (λ (call : CallMade). call ≢ Read file 0) (Read file (length t.piece)) [] (some_read file (length t.piece) (t.some e)) (All-nil (λ (call : CallMade). call ≢ Read file 0)));
      ready = λ front back n e. by_place front back n now (split_last h.calls front back (Read file (length t.piece)) (Read file n) e);
      trace = t.trace ∙ ap (λ (l : List CallMade). l ++ read) h.trace ∙ append_assoc a.trace h.calls read;
    })
  where
    by_place : (front back : List CallMade) (n : ℕ) → IsReady c (rest_of a file) file h.calls → (front ≡ h.calls) ⊎ ((later : List CallMade) × (h.calls ≡ front ++ Read file n ∷ later))
        → IsReady c (rest_of a file) file front
    by_place front back n now (inl same) = subst (IsReady c (rest_of a file) file) (sym same) now
    by_place front back n now (inr (later, e)) = h.ready front later n e

pub goes_takes : (c : WindowCommand) (file : ℕ) (bytes rows notes : List ℕ) (before after : LinesValue) (piece : List ℕ) (old now next : Option Told) → before.ended ≡ false
    → are_good (event_line 0) most_lines (whole_lines bytes) ≡ true → notes ≡ base_late_of c (whole_lines bytes) → after.rest ≡ before.rest ++ piece
    → WhereTold (HasRun c file bytes before.ended rows notes) old now → WhereTold (TakesPiece file before after) now next → WhereTold (HasRun c file (bytes ++ piece) after.ended rows notes) old next
goes_takes c file bytes rows notes before after piece old now next live good late is =
    goes_then (HasRun c file bytes before.ended rows notes) (TakesPiece file before after) (HasRun c file (bytes ++ piece) after.ended rows notes)
    (λ a b d h t. run_takes c file bytes rows notes before after piece a b d live good late h t (cancel before.rest t.piece piece (sym t.lines ∙ is))) old now next

pub rest_stays : (file : ℕ) (a b : Told) → b.content ≡ a.content → b.place ≡ a.place → rest_of b file ≡ rest_of a file
rest_stays file a b content place =
    ap (λ (p : ℕ → Place). rest_from (b.content (p file).name) (p file).taken) place ∙ ap (λ told. rest_from (told (a.place file).name) (a.place file).taken) content

run_appends : (c : WindowCommand) (file : ℕ) (bytes : List ℕ) (ended : Bool) (rows notes more later : List ℕ) (a b d : Told) → HasRun c file bytes ended rows notes a b → Appends more later b d
    → HasRun c file bytes ended (rows ++ more) (notes ++ later) a d
run_appends c file bytes ended rows notes more later a b d h w =
    let first : List CallMade = map (Wrote Notes) w.note_lengths in
    let second : List CallMade = map (Wrote Rows) w.row_lengths in
    let none : NoRead (first ++ second) = reads_none_both first second (reads_none Notes w.note_lengths) (reads_none Rows w.row_lengths) in
    record {
      rest = h.rest ∙ ap (λ (s : List ℕ). bytes ++ s) (sym (rest_stays file b d w.content w.place));
      end = λ e. rest_stays file b d w.content w.place ∙ h.end e;
      content = w.content ∙ h.content;
      name = ap (λ (p : ℕ → Place). (p file).name) w.place ∙ h.name;
      taken = ap (λ (p : ℕ → Place). (p file).taken) w.place ∙ h.taken;
      rows_written = w.rows_written ∙ ap (λ (s : List ℕ). s ++ more) h.rows_written ∙ append_assoc (a.written Rows) rows more;
      notes_written = w.notes_written ∙ ap (λ (s : List ℕ). s ++ later) h.notes_written ∙ append_assoc (a.written Notes) notes later;
      calls = h.calls ++ (first ++ second);
      quiet = All-append ReadsOrWrites h.calls (first ++ second) h.quiet (All-append ReadsOrWrites first second (none_writes Notes w.note_lengths) (none_writes Rows w.row_lengths));
      taken_is = taken_by-append file h.calls (first ++ second) ∙ omega (arith, took_none file (first ++ second) none, h.taken_is);
      wrote_notes = wrote_by-append Notes h.calls (first ++ second)
          ∙ omega (arith, h.wrote_notes, wrote_by-append Notes first second, wrote_own Notes w.note_lengths, rows_in_notes w.row_lengths, w.note_sum, length-append notes later);
      live = λ e. All-append (λ (call : CallMade). call ≢ Read file 0) h.calls (first ++ second) (h.live e)
          (All-append (λ (call : CallMade). call ≢ Read file 0) first second (writes_live Notes w.note_lengths file) (writes_live Rows w.row_lengths file));
      ready = ready_more c (rest_of a file) file h.calls (first ++ second) h.ready none;
      trace = w.trace ∙ append_assoc b.trace first second ∙ ap (λ (l : List CallMade). l ++ (first ++ second)) h.trace ∙ append_assoc a.trace h.calls (first ++ second);
    }

pub goes_writes : (c : WindowCommand) (file : ℕ) (bytes : List ℕ) (ended : Bool) (rows notes more later : List ℕ) (old now next : Option Told) → WhereTold (HasRun c file bytes ended rows notes) old now → WhereTold (Appends more later) now next
    → WhereTold (HasRun c file bytes ended (rows ++ more) (notes ++ later)) old next
goes_writes c file bytes ended rows notes more later old now next =
    goes_then (HasRun c file bytes ended rows notes) (Appends more later) (HasRun c file bytes ended (rows ++ more) (notes ++ later)) (run_appends c file bytes ended rows notes more later) old now next

pub goes_starts : (c : WindowCommand) (file : ℕ) (old : Option Told) → WhereTold (HasRun c file [] false [] []) old old
goes_starts c file old = goes_same (HasRun c file [] false [] []) (run_starts c file) old
