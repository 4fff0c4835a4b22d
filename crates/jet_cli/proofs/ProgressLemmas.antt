-- How the progress over a file's lines goes on: one line more, one piece more.
use Rattle.std.proofs.Common.{◌≡◌, ℕ, ◌+◌, ◌<◌, ◌≤◌, List, [], ◌∷◌, ◌++◌, length, Bool, true, false, Option, Some, None, Ok, refl, ap, sym, ◌∙◌, subst, arith, append-nil, append_assoc, length-append, All, pos, inl, inr}
use Rattle.std.specs.Prelude.{option_to_list, flat_map, codes, if◌then◌else◌}
use Rattle.std.proofs.lemmas.Grind.{flat_map-append}
use Rattle.std.proofs.lemmas.List.Elements.{All-weaker, All-append, All-nil, All-cons}
use Rattle.jet_items.specs.Marks.{is_behind}
use Rattle.jet_items.specs.Values.{EventValue}
use Rattle.jet_lines.specs.Cutting.{MayCome, NextIs}
use Rattle.jet_lines.specs.Files.{are_good, events_in, most_lines, whole_lines, GoOn}
use Rattle.jet_lines.specs.Lines.{lines_of}
use Rattle.jet_lines.specs.LinesValue.{LinesValue}
use Rattle.jet_lines.specs.Readings.{event_line}
use Rattle.jet_lines.specs.declared.cut.Cut.TheVariants as cut
use Rattle.jet_cli.specs.inner.LineLaws.{LineLaws}
use Rattle.jet_file.specs.Outside.{Told, WhereTold}
use Rattle.jet_file.specs.Text.{row_line, late_line}
use Rattle.jet_cli.specs.Counting.{Counts, late_among, mark_after}
use Rattle.jet_worker.specs.Feeding.{PutsPiece, TakesPiece}
use Rattle.jet_cli.specs.inner.Progress.{HasRun, Progress, TookLine, base_rows_text, base_late_text, late_of_line}
use Rattle.jet_cli.specs.inner.Took.{Prints}
use Rattle.jet_cli.specs.Pacing.{HasPaced, base_late_of}
use Rattle.jet_cli.specs.Words.{WindowCommand}
use Rattle.jet_cli.proofs.PaceLemmas.{goes_paced_starts, goes_paced_takes, goes_paced_appends}
use Rattle.jet_lines.specs.Feeds.{NoFeed}
use Rattle.jet_cli.specs.declared.counter.WindowCounter.{WindowCounter}
use Rattle.jet_cli.proofs.KeptLemmas.{late_more}
use Rattle.jet_cli.proofs.RunLemmas.{goes_starts, goes_takes, goes_writes}

late_if : (c : WindowCommand) (e : EventValue) (b : Bool) → flat_map (late_line (codes "w")) (if b then e ∷ [] else []) ≡ (if b then late_line (codes "w") e else [])
late_if c e true = append-nil (late_line (codes "w") e)
late_if c e false = refl

-- the late lines with those of one line more
late_text_more : (laws : LineLaws) (c : WindowCommand) (events : List EventValue) (found : Option EventValue) (n : ℕ) (line : List ℕ) → event_line 0 n line ≡ Ok found → All (λ e. e.line < n) events
    → base_late_text (late_among c (events ++ option_to_list found)) ≡ base_late_text (late_among c events) ++ late_of_line c events found
late_text_more laws c events None n line read before =
    ap (λ (es : List EventValue). base_late_text (late_among c es)) (append-nil events) ∙ sym (append-nil (base_late_text (late_among c events)))
late_text_more laws c events (Some e) n line read before =
    let at : e.line ≡ n = laws.line 0 n line e read in
    ap base_late_text (late_more c events e (subst (λ (k : ℕ). All (λ (x : EventValue). x.line < k) events) (sym at) before))
    ∙ flat_map-append (late_line (codes "w")) (late_among c events) (if is_behind (pos c.lag) (pos c.slide) events e then e ∷ [] else [])
    ∙ ap (λ (l : List ℕ). base_late_text (late_among c events) ++ l) (late_if c e (is_behind (pos c.lag) (pos c.slide) events e))

-- what a line holds stands on it
found_before : (laws : LineLaws) (found : Option EventValue) (n : ℕ) (line : List ℕ) → event_line 0 n line ≡ Ok found → All (λ e. e.line < n + 1) (option_to_list found)
found_before laws None n line read = All-nil (λ (e : EventValue). e.line < n + 1)
found_before laws (Some e) n line read =
    All-cons (λ (x : EventValue). x.line < n + 1) e [] (let at : e.line ≡ n = laws.line 0 n line e read in omega (arith, at)) (All-nil (λ (x : EventValue). x.line < n + 1))

later : (n m a : ℕ) → a < n → n ≤ m → a < m
later n m a h k = omega arith

pub progress_line : (laws : LineLaws) (c : WindowCommand) (file : ℕ) (start now next : Option Told) (lines lines' : LinesValue) (w w' : WindowCounter) (n : ℕ)
    → (p : Progress c file start now lines w) → NextIs lines (cut.Line n) lines' → TookLine c (events_in most_lines 0 p.given) p.table n lines'.line now next w'
    → Progress c file start next lines' w'
progress_line laws c file start now next lines lines' w w' n p next_is t =
    let events : List EventValue = events_in most_lines 0 p.given in
    let number : n ≡ length p.given + 1 = next_is.0 ∙ ap (λ (k : ℕ). k + 1) p.number in
    let room : length p.given < most_lines = omega (arith, next_is.1, p.most, number) in
    let read : event_line 0 (length p.given + 1) lines'.line ≡ Ok t.found = subst (λ (k : ℕ). event_line 0 k lines'.line ≡ Ok t.found) number t.read in
    let more : GoOn (event_line 0) most_lines p.given lines'.line t.found = laws.more 0 most_lines p.given lines'.line t.found p.good room read in
    let given : List (List ℕ) = p.given ++ lines'.line ∷ [] in
    let longer : length given ≡ length p.given + 1 = length-append p.given (lines'.line ∷ []) in
    let ended : lines'.ended ≡ lines.ended = ap (λ (v : LinesValue). v.ended) next_is.4 in
    let before : All (λ (e : EventValue). e.line < n) events = subst (λ (k : ℕ). All (λ (e : EventValue). e.line < k) events) (sym number) p.before in
    let before2 : All (λ (e : EventValue). e.line < length given + 1) (events ++ option_to_list t.found) =
    All-append (λ (e : EventValue). e.line < length given + 1) events (option_to_list t.found)
    (All-weaker (λ (e : EventValue). e.line < n) (λ (e : EventValue). e.line < length given + 1) (λ e h. later n (length given + 1) e.line h (omega (arith, number, longer))) events before)
    (All-weaker (λ (e : EventValue). e.line < n + 1) (λ (e : EventValue). e.line < length given + 1) (λ e h. later (n + 1) (length given + 1) e.line h (omega (arith, number, longer))) (option_to_list t.found) (found_before laws t.found n lines'.line t.read)) in
    let rows : base_rows_text c (p.table ++ t.more) ≡ base_rows_text c p.table ++ base_rows_text c t.more = flat_map-append (row_line (codes "w") (pos c.size)) p.table t.more in
    let notes : base_late_text (late_among c (events ++ option_to_list t.found)) ≡ base_late_text (late_among c events) ++ late_of_line c events t.found =
    late_text_more laws c events t.found n lines'.line t.read before in
    let paced : WhereTold (HasPaced c file p.bytes (mark_after c (events ++ option_to_list t.found)) (p.table ++ t.more)) start next =
    goes_paced_appends c file p.bytes (mark_after c events) (mark_after c (events ++ option_to_list t.found)) p.table t.more (late_of_line c events t.found) start now next p.paced t.told t.closes in
    let told : WhereTold (HasRun c file p.bytes lines.ended (base_rows_text c p.table ++ base_rows_text c t.more) (base_late_text (late_among c events) ++ late_of_line c events t.found)) start next =
    goes_writes c file p.bytes lines.ended (base_rows_text c p.table) (base_late_text (late_among c events)) (base_rows_text c t.more) (late_of_line c events t.found) start now next p.told t.told in
    record {
      bytes = p.bytes;
      given = given;
      table = p.table ++ t.more;
      good = more.0;
      most = ap (λ (v : LinesValue). v.most) next_is.4 ∙ p.most;
      number = ap (λ (v : LinesValue). v.number) next_is.4 ∙ number ∙ sym longer;
      cut = λ rest may.
          let may2 : MayCome lines.ended rest = λ e. may (ended ∙ e) in
          p.cut rest may2 ∙ ap (λ (l : List (List ℕ)). p.given ++ l) (next_is.3 rest may2) ∙ sym (append_assoc p.given (lines'.line ∷ []) (lines_of (lines'.rest ++ rest)));
      before = subst (λ (es : List EventValue). All (λ (e : EventValue). e.line < length given + 1) es) (sym more.1) before2;
      counts = subst (λ (es : List EventValue). Counts c es (p.table ++ t.more) w'.marker w'.window) (sym more.1) t.counts;
      prints = t.prints;
      no_rows = t.no_rows;
      no_notes = t.no_notes;
      told = subst (λ (b : Bool). WhereTold (HasRun c file p.bytes b (base_rows_text c (p.table ++ t.more)) (base_late_text (late_among c (events_in most_lines 0 given)))) start next) (sym ended)
          (subst (λ (es : List EventValue). WhereTold (HasRun c file p.bytes lines.ended (base_rows_text c (p.table ++ t.more)) (base_late_text (late_among c es))) start next) (sym more.1)
          (subst (λ (l : List ℕ). WhereTold (HasRun c file p.bytes lines.ended (base_rows_text c (p.table ++ t.more)) l) start next) (sym notes)
          (subst (λ (l : List ℕ). WhereTold (HasRun c file p.bytes lines.ended l (base_late_text (late_among c events) ++ late_of_line c events t.found)) start next) (sym rows) told)));
      paced = subst (λ (es : List EventValue). WhereTold (HasPaced c file p.bytes (mark_after c es) (p.table ++ t.more)) start next) (sym more.1) paced;
    }

false_is : {P : Type 0} (b : Bool) → b ≡ false → b ≡ true → P
false_is b f t = absurd (cc)

progress_put : (laws : LineLaws) (c : WindowCommand) (file : ℕ) (start now next : Option Told) (lines lines' : LinesValue) (w : WindowCounter) (piece : List ℕ)
    → (p : Progress c file start now lines w) → lines.ended ≡ false → NoFeed lines.rest (length lines.rest) → lines'.rest ≡ lines.rest ++ piece → lines'.most ≡ lines.most → lines'.number ≡ lines.number
    → WhereTold (TakesPiece file lines lines') now next → Progress c file start next lines' w
progress_put laws c file start now next lines lines' w piece p live none rest most number told =
    let whole : whole_lines p.bytes ≡ p.given = laws.whole p.bytes lines.rest p.given (λ more. p.cut more (λ e. false_is lines.ended live e)) none in
    record {
      bytes = p.bytes ++ piece;
      given = p.given;
      table = p.table;
      good = p.good;
      most = most ∙ p.most;
      number = number ∙ p.number;
      cut = λ more may.
          ap lines_of (append_assoc p.bytes piece more) ∙ p.cut (piece ++ more) (λ e. false_is lines.ended live e)
          ∙ ap (λ (l : List ℕ). p.given ++ lines_of l) (sym (append_assoc lines.rest piece more) ∙ ap (λ (l : List ℕ). l ++ more) (sym rest));
      before = p.before;
      counts = p.counts;
      prints = p.prints;
      no_rows = p.no_rows;
      no_notes = p.no_notes;
      paced = goes_paced_takes c file p.bytes piece (mark_after c (events_in most_lines 0 p.given)) p.table lines lines' start now next p.paced told rest
          (ap (λ (g : List (List ℕ)). mark_after c (events_in most_lines 0 g)) (sym whole));
      told = goes_takes c file p.bytes (base_rows_text c p.table) (base_late_text (late_among c (events_in most_lines 0 p.given))) lines lines' piece start now next live
          (ap (are_good (event_line 0) most_lines) whole ∙ p.good) (ap (base_late_of c) (sym whole)) rest p.told told;
    }

-- one piece more, or the end of the file
pub progress_more : (laws : LineLaws) (c : WindowCommand) (file : ℕ) (start now next : Option Told) (lines lines' : LinesValue) (w : WindowCounter)
    → Progress c file start now lines w → lines.ended ≡ false → NoFeed lines.rest (length lines.rest) → PutsPiece lines lines' → WhereTold (TakesPiece file lines lines') now next → Progress c file start next lines' w
progress_more laws c file start now next lines lines' w p live none (inl (piece, some, small, is)) told =
    progress_put laws c file start now next lines lines' w piece p live none (ap (λ (v : LinesValue). v.rest) is) (ap (λ (v : LinesValue). v.most) is) (ap (λ (v : LinesValue). v.number) is) told
progress_more laws c file start now next lines lines' w p live none (inr is) told =
    progress_put laws c file start now next lines lines' w [] p live none (ap (λ (v : LinesValue). v.rest) is ∙ sym (append-nil lines.rest)) (ap (λ (v : LinesValue). v.most) is) (ap (λ (v : LinesValue). v.number) is) told

-- nothing is read yet
pub progress_starts : (c : WindowCommand) (file : ℕ) (start : Option Told) (lines : LinesValue) (w : WindowCounter)
    → lines ≡ record { most = most_lines; number = 0; ended = false; line = []; rest = []; held = 0 } → Counts c [] [] w.marker w.window → Prints c w → w.rows.items ≡ [] → w.notes.items ≡ []
    → Progress c file start start lines w
progress_starts c file start lines w is counts prints no_rows no_notes =
    let ended : lines.ended ≡ false = ap (λ (v : LinesValue). v.ended) is in
    record {
      bytes = [];
      given = [];
      table = [];
      good = refl;
      most = ap (λ (v : LinesValue). v.most) is;
      number = ap (λ (v : LinesValue). v.number) is;
      cut = λ more may. ap (λ (v : LinesValue). lines_of (v.rest ++ more)) (sym is);
      before = All-nil (λ (e : EventValue). e.line < 0 + 1);
      counts = counts;
      prints = prints;
      no_rows = no_rows;
      no_notes = no_notes;
      paced = goes_paced_starts c file start;
      told = subst (λ (b : Bool). WhereTold (HasRun c file [] b [] []) start start) (sym ended) (goes_starts c file start);
    }
