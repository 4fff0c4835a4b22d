-- One more line: what it holds, and what counting that writes.
use Rattle.std.proofs.Common.{◌≡◌, ℕ, List, [], ◌∷◌, ◌++◌, map, append_assoc, refl, ap, sym, ◌∙◌, subst, Option, Some, None, Result, Ok, Err, append-nil, OnOk, ◌≤ℤ◌, ◌<ℤ◌}
use Rattle.std.specs.Prelude.{IfErr, IfSome, IsSomeAnd}
use Rattle.jet_items.specs.Values.{EventValue, RowValue}
use Rattle.jet_lines.specs.Readings.{event_line}
use Rattle.jet_file.specs.Outside.{CallMade, Told, WhereTold, Wrote}
use Rattle.jet_file.specs.declared.outside.Out.TheVariants.{Rows, Notes}
use Rattle.jet_policy.specs.MarkerValue.{MarkerValue}
use Rattle.jet_window.specs.Plain.{PlainValue}
use Rattle.jet_cli.specs.Counting.{Counts, mark_after}
use Rattle.jet_cli.specs.inner.Ending.{Ends}
use Rattle.jet_worker.specs.Feeding.{Appends, Flushes, StopsAppending}
use Rattle.jet_cli.specs.inner.Finished.{Finished}
use Rattle.jet_cli.specs.LineStops.{IsBadLineAt, IsWrote, LineStop, StepStops}
use Rattle.jet_cli.specs.inner.Progress.{TookLine, base_rows_text}
use Rattle.jet_worker.specs.Stopping.{IsNoBadLine, IsWriting, LastIs}
use Rattle.jet_cli.specs.inner.Took.{Took, Prints, late_text_of}
use Rattle.jet_cli.specs.Words.{WindowCommand}
use Rattle.jet_cli.proofs.ReadPlaces.{all_wrote}
use Rattle.jet_cli.proofs.TookLemmas.{stays}
use Rattle.std.proofs.lemmas.List.Elements.{All-append, All-nil}
use Rattle.jet_cli.specs.declared.counter.WindowCounter.{WindowCounter}
use Rattle.jet_worker.specs.declared.stop.Stop.{Stop}
use Rattle.jet_worker.specs.declared.stop.Stop.TheVariants.{BadLine, Outside, NoMemory}
use Rattle.jet_file.proofs.GoesLaws.{goes_weaker, goes_same}

-- an event of a line was counted, and the texts of that written
pub wrote_event : (c : WindowCommand) (events : List EventValue) (e : EventValue) (table : List RowValue) (n : ℕ) (line : List ℕ) (now next : Option Told) (old mid new : WindowCounter)
    → event_line 0 n line ≡ Ok (Some e) → Took c events e table old mid → Prints c old → old.rows.items ≡ [] → old.notes.items ≡ []
    → mid.size ≡ old.size → mid.name ≡ old.name
    → new.marker ≡ mid.marker → new.window ≡ mid.window → new.size ≡ mid.size → new.name ≡ mid.name
    → (r : Result (Unit {0}) Stop) → WhereTold (Flushes mid.rows.items mid.notes.items r) now next → OnOk r (new.rows.items ≡ []) → OnOk r (new.notes.items ≡ [])
    → OnOk r (TookLine c events table n line now next new)
wrote_event c events e table n line now next old mid new read took prints no_rows no_notes s1 n1 m w s2 n2 (Ok done) told rows notes =
    let rows_are : mid.rows.items ≡ base_rows_text c took.given = took.rows ∙ ap (λ (l : List ℕ). l ++ base_rows_text c took.given) no_rows in
    let notes_are : mid.notes.items ≡ late_text_of c events e = took.notes ∙ ap (λ (l : List ℕ). l ++ late_text_of c events e) no_notes in
    record {
      found = Some e;
      more = took.given;
      read = read;
      counts = subst (λ (x : MarkerValue). Counts c (events ++ e ∷ []) (table ++ took.given) x new.window) (sym m)
          (subst (λ (x : PlainValue). Counts c (events ++ e ∷ []) (table ++ took.given) mid.marker x) (sym w) took.counts);
      closes = took.closes;
      prints = record { size = s2 ∙ s1 ∙ prints.size; name = n2 ∙ n1 ∙ prints.name };
      no_rows = rows;
      no_notes = notes;
      told = subst (λ (l : List ℕ). WhereTold (Appends (base_rows_text c took.given) l) now next) notes_are
          (subst (λ (l : List ℕ). WhereTold (Appends l mid.notes.items) now next) rows_are told);
    }
wrote_event c events e table n line now next old mid new read took prints no_rows no_notes s1 n1 m w s2 n2 (Err stop) told rows notes = tt

-- the writing stopped
appending_stops : (rows notes : List ℕ) (stop : Stop) (a b : Told) → StopsAppending rows notes stop a b → StepStops IsWriting stop a b
appending_stops rows notes stop a b h = record {
  calls = map (Wrote Notes) h.note_lengths ++ map (Wrote Rows) h.row_lengths;
  wrote = All-append IsWrote (map (Wrote Notes) h.note_lengths) (map (Wrote Rows) h.row_lengths) (all_wrote Notes h.note_lengths) (all_wrote Rows h.row_lengths);
  last = h.last;
  fails = h.fails;
  trace = h.trace ∙ ap (λ (l : List CallMade). l ++ h.last) (append_assoc a.trace (map (Wrote Notes) h.note_lengths) (map (Wrote Rows) h.row_lengths));
}

pub write_stops : (rows notes : List ℕ) (n : ℕ) (line : List ℕ) (now next : Option Told) (r : Result (Unit {0}) Stop) → WhereTold (Flushes rows notes r) now next
    → IfErr r IsNoBadLine → IfErr r (LineStop n line now next)
write_stops rows notes n line now next (Ok done) told never = tt
write_stops rows notes n line now next (Err (BadLine p l why)) told never = absurd never
write_stops rows notes n line now next (Err (Outside call spot)) told never =
    (goes_weaker (StopsAppending rows notes (Outside call spot)) (StepStops IsWriting (Outside call spot)) (appending_stops rows notes (Outside call spot)) now next told, tt)
write_stops rows notes n line now next (Err NoMemory) told never = (goes_weaker (StopsAppending rows notes NoMemory) (StepStops IsWriting NoMemory) (appending_stops rows notes NoMemory) now next told, tt)

-- a stop that touched no outside
pub stands : (n : ℕ) (line : List ℕ) (now : Option Told) (stop : Stop) → LastIs IsWriting stop [] → IsBadLineAt n line stop → LineStop n line now now stop
stands n line now stop none bad =
    (goes_same (StepStops IsWriting stop) (λ a. record { calls = []; wrote = All-nil IsWrote; last = []; fails = none; trace = sym (append-nil (a.trace ++ []) ∙ append-nil a.trace) }) now, bad)

same_none : (a : List RowValue) → a ≡ a ++ []
same_none a = sym (append-nil a)

-- a line that holds nothing
pub wrote_nothing : (c : WindowCommand) (events : List EventValue) (table : List RowValue) (n : ℕ) (line : List ℕ) (now : Option Told) (w : WindowCounter)
    → event_line 0 n line ≡ Ok None → Counts c events table w.marker w.window → Prints c w → w.rows.items ≡ [] → w.notes.items ≡ []
    → TookLine c events table n line now now w
wrote_nothing c events table n line now w read counts prints no_rows no_notes = record {
  found = None;
  more = [];
  read = read;
  counts = subst (λ (es : List EventValue). Counts c es (table ++ []) w.marker w.window) (sym (append-nil events))
      (subst (λ (t : List RowValue). Counts c events t w.marker w.window) (same_none table) counts);
  closes = record {
    up = subst (λ (es : List EventValue). IfSome (mark_after c events) (λ t. IsSomeAnd (mark_after c es) (λ u. t ≤ℤ u))) (sym (append-nil events)) (stays (mark_after c events));
    later = All-nil (λ (r : RowValue). IfSome (mark_after c events) (λ t. t <ℤ r.end));
  };
  prints = prints;
  no_rows = no_rows;
  no_notes = no_notes;
  told = goes_same (Appends [] []) (λ a. record { note_lengths = []; row_lengths = []; row_sum = refl; note_sum = refl; content = refl; place = refl; rows_written = sym (append-nil (a.written Rows)); notes_written = sym (append-nil (a.written Notes)); trace = sym (append-nil (a.trace ++ []) ∙ append-nil a.trace) }) now;
}

-- what holds where the result is Ok
pub on_ok_from : {P : Type 0} (r : Result (Unit {0}) Stop) → ((d : Unit {0}) → r ≡ Ok d → P) → OnOk r P
on_ok_from (Ok d) h = h d refl
on_ok_from (Err e) h = tt

-- the end of the file: the last rows were written
pub wrote_end : (c : WindowCommand) (events : List EventValue) (table : List RowValue) (now next : Option Told) (old mid : WindowCounter)
    → Finished c events table old mid → old.rows.items ≡ [] → old.notes.items ≡ []
    → (r : Result (Unit {0}) Stop) → WhereTold (Flushes mid.rows.items mid.notes.items r) now next → OnOk r (Ends c events table now next)
wrote_end c events table now next old mid f no_rows no_notes (Ok done) told =
    let rows_are : mid.rows.items ≡ base_rows_text c f.given = f.rows ∙ ap (λ (l : List ℕ). l ++ base_rows_text c f.given) no_rows in
    record {
      more = f.given;
      all = f.all;
      closes = f.closes;
      told = subst (λ (l : List ℕ). WhereTold (Appends (base_rows_text c f.given) l) now next) (f.notes ∙ no_notes)
          (subst (λ (l : List ℕ). WhereTold (Appends l mid.notes.items) now next) rows_are told);
    }
wrote_end c events table now next old mid f no_rows no_notes (Err stop) told = tt

pub end_stops : (rows notes : List ℕ) (now next : Option Told) (r : Result (Unit {0}) Stop) → WhereTold (Flushes rows notes r) now next → IfErr r IsNoBadLine
    → IfErr r (λ stop. IsNoBadLine stop × WhereTold (StepStops IsWriting stop) now next)
end_stops rows notes now next (Ok done) told never = tt
end_stops rows notes now next (Err stop) told never = (never, goes_weaker (StopsAppending rows notes stop) (StepStops IsWriting stop) (appending_stops rows notes stop) now next told)
