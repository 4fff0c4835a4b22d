-- The steps of the loop over a file's lines.
use Rattle.jet_cli.proofs.PaceLemmas.{goes_paced_appends}
use Rattle.jet_cli.specs.Pacing.{HasPaced}
use Rattle.std.proofs.Common.{◌≡◌, ℕ, ◌+◌, ◌<◌, ◌≤◌, List, [], ◌++◌, length, Bool, true, false, Option, Some, None, Result, Ok, Err, refl, ap, sym, ◌∙◌, subst, append-nil, All, OnOk, pos, ℤ}
use Rattle.std.proofs.lemmas.List.Elements.{All-nil}
use Rattle.std.specs.Prelude.{IfErr, MatchResult, codes}
use Rattle.std.proofs.lemmas.Grind.{flat_map-append}
use Rattle.jet_items.specs.Values.{EventValue, RowValue}
use Rattle.jet_lines.specs.Cutting.{NextIs}
use Rattle.jet_lines.specs.Feeds.{NoFeed}
use Rattle.jet_lines.specs.Files.{events_in, most_lines}
use Rattle.jet_lines.specs.Lines.{lines_of}
use Rattle.jet_lines.specs.LinesValue.{LinesValue}
use Rattle.jet_lines.specs.declared.cut.Cut.TheVariants as cut
use Rattle.jet_lines.specs.declared.fault.LineFault.{LineFault}
use Rattle.jet_file.specs.Text.{row_line}
use Rattle.jet_file.specs.Outside.{Told, CallMade, WhereTold, Reading, OpensFile, AddsNumber, LacksFile}
use Rattle.jet_file.proofs.GoesLaws.{goes_same, goes_then, goes_weaker}
use Rattle.jet_cli.specs.Counting.{Counts, late_among, mark_after}
use Rattle.jet_cli.specs.Done.{IsDone}
use Rattle.jet_cli.specs.inner.Ending.{Ends}
use Rattle.jet_worker.specs.Calls.{Calling}
use Rattle.jet_worker.specs.Feeding.{FailsAt, PutsPiece, TakesPiece}
use Rattle.jet_worker.proofs.CallLaws.{last_weaker, read_last, write_in}
use Rattle.jet_cli.specs.LineStops.{LineStop, IsBadIn, IsBadLineAt, IsWrote, RunStops, StepStops}
use Rattle.jet_cli.specs.inner.Progress.{HasRun, Progress, TookLine, base_rows_text, base_late_text}
use Rattle.jet_worker.specs.Stopping.{IsCallIn, IsWriting, IsForOutside, IsNoBadLine, CauseOfStop, Outcome, OpenOutcome}
use Rattle.jet_cli.specs.inner.FileLaws.{FileLaws}
use Rattle.jet_cli.specs.inner.LineLaws.{LineLaws}
use Rattle.jet_cli.specs.inner.Took.{Prints}
use Rattle.jet_cli.specs.Words.{WindowCommand}
use Rattle.jet_cli.specs.declared.counter.WindowCounter.{WindowCounter}
use Rattle.jet_worker.specs.declared.stop.Call.TheVariants as call
use Rattle.jet_worker.specs.declared.stop.Spot.TheVariants.{Part}
use Rattle.jet_worker.specs.declared.stop.Stop.{Stop}
use Rattle.jet_worker.specs.declared.stop.Stop.TheVariants.{BadLine, Outside, NoMemory}
use Rattle.jet_cli.proofs.DoneLemmas.{done_is}
use Rattle.jet_cli.proofs.ProgressLemmas.{progress_line, progress_more}
use Rattle.jet_cli.proofs.RunLemmas.{goes_writes}
use Rattle.jet_cli.proofs.StopLemmas.{goes_run_stops, bad_cut, bad_read}

-- one line more
pub took_line : (line_laws : LineLaws) (c : WindowCommand) (file : ℕ) (start now next : Option Told) (lines lines' : LinesValue) (w w' : WindowCounter) (n : ℕ) (line : List ℕ)
    → Progress c file start now lines w → NextIs lines (cut.Line n) lines' → line ≡ lines'.line
    → ((c' : WindowCommand) (events : List EventValue) (table : List RowValue) → Counts c' events table w.marker w.window → Prints c' w → All (λ e. e.line < n) events
    → w.rows.items ≡ [] → w.notes.items ≡ [] → TookLine c' events table n line now next w')
    → Progress c file start next lines' w'
took_line line_laws c file start now next lines lines' w w' n line p next_is same took =
    let number : n ≡ length p.given + 1 = next_is.0 ∙ ap (λ (k : ℕ). k + 1) p.number in
    let before : All (λ (e : EventValue). e.line < n) (events_in most_lines 0 p.given) =
    subst (λ (k : ℕ). All (λ (e : EventValue). e.line < k) (events_in most_lines 0 p.given)) (sym number) p.before in
    let t : TookLine c (events_in most_lines 0 p.given) p.table n line now next w' = took c (events_in most_lines 0 p.given) p.table p.counts p.prints before p.no_rows p.no_notes in
    progress_line line_laws c file start now next lines lines' w w' n p next_is
    (subst (λ (l : List ℕ). TookLine c (events_in most_lines 0 p.given) p.table n l now next w') same t)

-- one piece more
pub took_piece : (line_laws : LineLaws) (c : WindowCommand) (file : ℕ) (start now next : Option Told) (lines lines1 lines' : LinesValue) (w : WindowCounter)
    → Progress c file start now lines w → NextIs lines cut.More lines1 → PutsPiece lines1 lines' → WhereTold (TakesPiece file lines1 lines') now next → Progress c file start next lines' w
took_piece line_laws c file start now next lines lines1 lines' w p more puts told =
    let same : lines1 ≡ lines = more.3 in
    let live : lines1.ended ≡ false = ap (λ (v : LinesValue). v.ended) same ∙ more.0 in
    progress_more line_laws c file start now next lines1 lines' w (subst (λ (v : LinesValue). Progress c file start now v w) (sym same) p) live
    (subst (λ (v : LinesValue). NoFeed v.rest (length v.rest)) (sym same) more.1.0) puts told

-- the run stops at a line that the cutter refused
pub stops_at_cut : (laws : FileLaws) (line_laws : LineLaws) (c : WindowCommand) (file : ℕ) (old start now : Option Told) (lines lines' : LinesValue) (w : WindowCounter) (n : ℕ) (why : LineFault)
    → Progress c file start now lines w → NextIs lines (cut.Bad n why) lines' → WhereTold (OpensFile c.file file) old start → WhereTold (Calling (RunStops c (BadLine 0 n why))) old now
stops_at_cut laws line_laws c file old start now lines lines' w n why p bad opens =
    goes_run_stops laws c file p.bytes lines.ended (base_rows_text c p.table) (base_late_text (late_among c (events_in most_lines 0 p.given))) (BadLine 0 n why) old start now now
    (bad_cut line_laws c file start now lines w p n 0 why lines' refl bad) opens p.told (goes_same (StepStops (IsCallIn (Part 0) file) (BadLine 0 n why)) (λ a. record { calls = []; wrote = All-nil IsWrote; last = []; fails = refl; trace = sym (append-nil (a.trace ++ []) ∙ append-nil a.trace) }) now)

-- a step that writes is one of any file
of_writing : (file : ℕ) (stop : Stop) (now next : Option Told) → WhereTold (StepStops IsWriting stop) now next → WhereTold (StepStops (IsCallIn (Part 0) file) stop) now next
of_writing file stop = goes_weaker (StepStops IsWriting stop) (StepStops (IsCallIn (Part 0) file) stop) (λ a b h. record {
  calls = h.calls;
  wrote = h.wrote;
  last = h.last;
  fails = last_weaker IsWriting (IsCallIn (Part 0) file) stop h.last (write_in (Part 0) file) h.fails;
  trace = h.trace;
})

-- the run stops in reading or counting a line
pub stops_at_line : (laws : FileLaws) (line_laws : LineLaws) (c : WindowCommand) (file : ℕ) (old start now next : Option Told) (lines lines' : LinesValue) (w : WindowCounter) (n : ℕ) (line : List ℕ) (stop : Stop)
    → Progress c file start now lines w → NextIs lines (cut.Line n) lines' → line ≡ lines'.line → LineStop n line now next stop → WhereTold (OpensFile c.file file) old start → WhereTold (Calling (RunStops c stop)) old next
stops_at_line laws line_laws c file old start now next lines lines' w n line stop p next_is same h opens =
    goes_run_stops laws c file p.bytes lines.ended (base_rows_text c p.table) (base_late_text (late_among c (events_in most_lines 0 p.given))) stop old start now next
    (bad_read line_laws c file start now lines w p n lines' stop next_is (subst (λ (l : List ℕ). IsBadLineAt n l stop) same h.1)) opens p.told (of_writing file stop now next h.0)

none_bad : (stop : Stop) → IsNoBadLine stop → (content : List ℕ) → IsBadIn content stop
none_bad (BadLine part line why) h content = absurd h
none_bad (Outside call spot) h content = tt
none_bad NoMemory h content = tt

-- a read of the file stopped
pub stops_read : (file : ℕ) (stop : Stop) (now next : Option Told) → WhereTold (FailsAt call.Read (Part 0) (Reading file) stop) now next → WhereTold (StepStops (IsCallIn (Part 0) file) stop) now next
stops_read file stop = goes_weaker (FailsAt call.Read (Part 0) (Reading file) stop) (StepStops (IsCallIn (Part 0) file) stop) (λ a b h. record {
  calls = [];
  wrote = All-nil IsWrote;
  last = h.last;
  fails = read_last (Part 0) file stop h.last h.is;
  trace = ap (λ (t : Told). t.trace) h.same ∙ ap (λ (l : List CallMade). l ++ h.last) (sym (append-nil a.trace));
})

-- the run stops for another cause
pub stops_else : (laws : FileLaws) (c : WindowCommand) (file : ℕ) (old start now next : Option Told) (lines : LinesValue) (w : WindowCounter) (stop : Stop)
    → Progress c file start now lines w → IsNoBadLine stop → WhereTold (StepStops (IsCallIn (Part 0) file) stop) now next → WhereTold (OpensFile c.file file) old start → WhereTold (Calling (RunStops c stop)) old next
stops_else laws c file old start now next lines w stop p never told opens =
    goes_run_stops laws c file p.bytes lines.ended (base_rows_text c p.table) (base_late_text (late_among c (events_in most_lines 0 p.given))) stop old start now next
    (λ content more is may. none_bad stop never content) opens p.told told

pub stops_at_end : (laws : FileLaws) (c : WindowCommand) (file : ℕ) (old start now next : Option Told) (lines : LinesValue) (w : WindowCounter) (r : Result (Unit {0}) Stop)
    → Progress c file start now lines w → WhereTold (OpensFile c.file file) old start
    → IfErr r (λ stop. IsNoBadLine stop × WhereTold (StepStops IsWriting stop) now next) → IfErr r (λ stop. WhereTold (Calling (RunStops c stop)) old next)
stops_at_end laws c file old start now next lines w (Ok d) p opens h = tt
stops_at_end laws c file old start now next lines w (Err stop) p opens h = stops_else laws c file old start now next lines w stop p h.0 (of_writing file stop now next h.1) opens

-- two steps that both go
goes_both : (step more : Told → Told → Type 0) (now next : Option Told) → WhereTold step now next → WhereTold more now next → WhereTold (λ a b. step a b × more a b) now next
goes_both step more None next h k = tt
goes_both step more (Some a) None h k = h
goes_both step more (Some a) (Some b) h k = (h, k)

-- the run is done
goes_done : (laws : FileLaws) (line_laws : LineLaws) (c : WindowCommand) (file : ℕ) (before after : ℕ → Bool) (old start now next : Option Told) (lines lines' : LinesValue) (w : WindowCounter)
    → (p : Progress c file start now lines w) → NextIs lines cut.End lines' → WhereTold (OpensFile c.file file) old start → AddsNumber file before after
    → (e : Ends c (events_in most_lines 0 p.given) p.table now next) → WhereTold (IsDone c before after) old next
goes_done laws line_laws c file before after old start now next lines lines' w p end opens adds e =
    let events : List EventValue = events_in most_lines 0 p.given in
    let run : WhereTold (HasRun c file p.bytes lines.ended (base_rows_text c p.table ++ base_rows_text c e.more) (base_late_text (late_among c events) ++ [])) start next =
    goes_writes c file p.bytes lines.ended (base_rows_text c p.table) (base_late_text (late_among c events)) (base_rows_text c e.more) [] start now next p.told e.told in
    let run2 : WhereTold (HasRun c file p.bytes true (base_rows_text c p.table ++ base_rows_text c e.more) (base_late_text (late_among c events))) start next =
    subst (λ (l : List ℕ). WhereTold (HasRun c file p.bytes true (base_rows_text c p.table ++ base_rows_text c e.more) l) start next) (append-nil (base_late_text (late_among c events)))
    (subst (λ (b : Bool). WhereTold (HasRun c file p.bytes b (base_rows_text c p.table ++ base_rows_text c e.more) (base_late_text (late_among c events) ++ [])) start next) end.0 run) in
    let rows : base_rows_text c p.table ++ base_rows_text c e.more ≡ base_rows_text c (p.table ++ e.more) = sym (flat_map-append (row_line (codes "w") (pos c.size)) p.table e.more) in
    let closed : Option ℤ = mark_after c events in
    let paced : WhereTold (HasPaced c file p.bytes closed (p.table ++ e.more)) start next = goes_paced_appends c file p.bytes closed closed p.table e.more [] start now next p.paced e.told e.closes in
    goes_then (OpensFile c.file file) (λ a b. HasRun c file p.bytes true (base_rows_text c p.table ++ base_rows_text c e.more) (base_late_text (late_among c events)) a b × HasPaced c file p.bytes closed (p.table ++ e.more) a b) (IsDone c before after)
    (λ a b d o r. done_is laws line_laws c file before after a b d p.bytes (base_rows_text c p.table ++ base_rows_text c e.more) p.given (p.table ++ e.more) o adds r.0 rows
    (λ more may. p.cut more (λ is. may refl) ∙ ap (λ (l : List ℕ). p.given ++ lines_of (l ++ more)) end.1) p.good e.all closed r.1) old start next opens (goes_both (HasRun c file p.bytes true (base_rows_text c p.table ++ base_rows_text c e.more) (base_late_text (late_among c events))) (HasPaced c file p.bytes closed (p.table ++ e.more)) start next run2 paced)

pub done_at_end : (laws : FileLaws) (line_laws : LineLaws) (c : WindowCommand) (file : ℕ) (before after : ℕ → Bool) (old start now next : Option Told) (lines lines' : LinesValue) (w : WindowCounter) (r : Result (Unit {0}) Stop)
    → Progress c file start now lines w → NextIs lines cut.End lines' → WhereTold (OpensFile c.file file) old start → AddsNumber file before after
    → OnOk r ((c' : WindowCommand) (events : List EventValue) (table : List RowValue) → Counts c' events table w.marker w.window → Prints c' w → w.rows.items ≡ [] → w.notes.items ≡ [] → Ends c' events table now next)
    → OnOk r (WhereTold (IsDone c before after) old next)
done_at_end laws line_laws c file before after old start now next lines lines' w (Ok d) p end opens adds ends =
    goes_done laws line_laws c file before after old start now next lines lines' w p end opens adds (ends c (events_in most_lines 0 p.given) p.table p.counts p.prints p.no_rows p.no_notes)
done_at_end laws line_laws c file before after old start now next lines lines' w (Err stop) p end opens adds ends = tt

-- ---- faults of the whole run
stays_caused : {T : Type 0} (before now next : ℕ) (r : Result T Stop) → now ≡ before → MatchResult r (λ _. next ≡ now) (CauseOfStop now next) → MatchResult r (λ _. next ≡ before) (CauseOfStop before next)
stays_caused before now next (Ok x) same h = h ∙ same
stays_caused before now next (Err stop) same h = subst (λ (k : ℕ). CauseOfStop k next stop) same h

pub outcome_of : {S T : Type 0} (opened : S → ℕ → Bool) (steady : S → Bool) (faults : S → ℕ) (old start now next : S) (r : Result T Stop)
    → steady start ≡ steady old → faults start ≡ faults old → steady now ≡ steady start → faults now ≡ faults start → Outcome opened steady faults now next r → OpenOutcome steady faults old next r
outcome_of opened steady faults old start now next r s1 f1 s2 f2 o =
    let same : faults now ≡ faults old = f2 ∙ f1 in
    record {
      steady_same = o.steady_same ∙ s2 ∙ s1;
      later = subst (λ (k : ℕ). k ≤ faults next) same o.later;
      cause = stays_caused (faults old) (faults now) (faults next) r same o.cause;
    }

pub works_on : {T : Type 0} (r : Result T Stop) (name : List ℕ) (told : Option Told) → IfErr r (λ stop. IsForOutside stop → ⊥) → IfErr r (λ stop. IsForOutside stop → LacksFile name told)
works_on (Ok x) name told h = tt
works_on (Err stop) name told h = λ is. absurd (h is)
