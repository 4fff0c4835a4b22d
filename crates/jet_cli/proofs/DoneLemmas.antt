-- What a run over a whole file comes to: what Done says, and which line is the first bad one.
use Rattle.jet_worker.proofs.CallLaws.{cancel, same_head, same_tail}
use Rattle.jet_cli.proofs.ReadPlaces.{ready_opened}
use Rattle.jet_file.specs.Pace.{IsPaced, Source, taken_by, wrote_by, rows_until}
use Rattle.jet_cli.specs.Pacing.{HasPaced, KeepsPace, ReadsReady, base_ahead, base_mark, base_source}
use Rattle.std.proofs.Common.{◌≡◌, ℕ, zero, suc, ◌+◌, List, [], ◌∷◌, ◌++◌, length, Bool, true, false, not, cond, Option, Some, None, refl, ap, sym, ◌∙◌, subst, arith, append-nil, All, pos, ℤ, ◌-ℤ◌, ◌≤ℤ◌, ◌≤◌, ◌≢◌, append_assoc}
use Rattle.std.specs.Prelude.{codes, IsSome, Any, ◌==◌, IfSome, IsSomeAnd, int_le}
use Rattle.std.specs.Option.{option_map_or}
use Rattle.std.specs.List.Sorted.{IsPermutation}
use Rattle.std.proofs.lemmas.List.Elements.{All-map, All-weaker, All-head, All-tail, All-cons, All-nil, filter_passes, All-filter}
use Rattle.std.proofs.lemmas.List.Sorted.{IsPermutation-filter_both}
use Rattle.jet_items.specs.Marks.{is_behind}
use Rattle.jet_items.specs.Rows.{Window, Inflow, IsRowOf, AreRows}
use Rattle.jet_items.specs.Values.{EventValue, RowValue, LateValue}
use Rattle.jet_lines.specs.Files.{are_good, events_in, most_lines}
use Rattle.jet_lines.specs.Lines.{lines_of}
use Rattle.jet_lines.specs.Readings.{event_line}
use Rattle.jet_file.specs.Headline.{late_at, Headline}
use Rattle.jet_file.specs.Outside.{Told, Place, OpensFile, AddsNumber, CallMade, Opened, Read, rest_of}
use Rattle.jet_file.specs.Text.{row_line, late_line, rows_text, late_text}
use Rattle.jet_file.specs.declared.outside.Out.TheVariants.{Rows, Notes}
use Rattle.jet_cli.specs.inner.FileLaws.{FileLaws}
use Rattle.jet_cli.specs.inner.LineLaws.{LineLaws}
use Rattle.jet_cli.specs.Base.{base_window, base_events, base_inflow, base_behind}
use Rattle.jet_cli.specs.Counting.{late_among, kept_among, as_late}
use Rattle.jet_cli.specs.Done.{IsDone}
use Rattle.jet_cli.specs.inner.Progress.{HasRun, base_rows_text, base_late_text}
use Rattle.jet_cli.specs.Words.{WindowCommand}

-- ---- the late events
late_at_all : (events : List EventValue) → late_at 2 (as_late events) ≡ events
late_at_all [] = refl
late_at_all (e ∷ events) = ap (λ (es : List EventValue). e ∷ es) (late_at_all events)

late_lines : (c : WindowCommand) (events : List EventValue) → base_late_text events ≡ late_text (base_window c ∷ []) (as_late events)
late_lines c [] = refl
late_lines c (e ∷ events) = ap (λ (l : List ℕ). late_line (codes "w") e ++ l) (late_lines c events)

-- ---- the rows
row_lines : (c : WindowCommand) (rows : List RowValue) → All (λ r. r.vertex ≡ 2) rows → base_rows_text c rows ≡ rows_text (base_window c ∷ []) rows
row_lines c [] h = refl
row_lines c (r ∷ rows) h =
    let at : r.vertex ≡ 2 = All-head (λ (r : RowValue). r.vertex ≡ 2) r rows h in
    ap (λ (l : List ℕ). row_line (codes "w") (pos c.size) r ++ l) (row_lines c rows (All-tail (λ (r : RowValue). r.vertex ≡ 2) r rows h))
    ∙ ap (λ (v : ℕ). option_map_or (λ (w : Window). row_line w.name w.size r) (cond (2 == v) (Some (base_window c)) None) [] ++ rows_text (base_window c ∷ []) rows) (sym at)

-- the one of a list of one
pub one_of : {X : Type 0} (P : X → Type 0) (x : X) → Any P (x ∷ []) → P x
one_of P x (zero, y, lt, is, h) = subst P (sym is) h
one_of P x (suc k, y, lt, is, h) = absurd (omega (arith, lt))

vertices : (c : WindowCommand) (events : List EventValue) (rows : List RowValue) → AreRows (record { window = base_window c; events = events } ∷ []) rows → All (λ r. r.vertex ≡ 2) rows
vertices c events rows h =
    All-weaker (λ (r : RowValue). Any (λ (p : Inflow). IsRowOf p.window p.events r) (record { window = base_window c; events = events } ∷ [])) (λ (r : RowValue). r.vertex ≡ 2)
    (λ r a. (one_of (λ (p : Inflow). IsRowOf p.window p.events r) (record { window = base_window c; events = events }) a).vertex) rows h.each

not_false : (b : Bool) → not b ≡ true → b ≡ false
not_false true h = absurd (cc)
not_false false h = refl

-- ---- the headline
late_vertex : (c : WindowCommand) (content : List ℕ) (events : List EventValue) → All (λ (l : LateValue). Any (λ (e : Inflow). e.window.vertex ≡ l.vertex) (base_inflow c content)) (as_late events)
late_vertex c content events =
    All-map (λ (l : LateValue). Any (λ (e : Inflow). e.window.vertex ≡ l.vertex) (base_inflow c content)) (λ (e : EventValue). let l : LateValue = record { vertex = 2; event = e } in l) events
    (λ k d lt. (0, record { window = base_window c; events = base_events content }, omega arith, refl, refl))

pub headline_is : (c : WindowCommand) (content : List ℕ) (table : List RowValue)
    → AreRows (record { window = base_window c; events = kept_among c (base_events content) } ∷ []) table
    → Headline (base_inflow c content) (base_behind c content) (base_rows_text c table) (base_late_text (late_among c (base_events content)))
headline_is c content table rows =
    let events : List EventValue = base_events content in
    let behind : EventValue → Bool = is_behind (pos c.lag) (pos c.slide) events in
    record {
      late = as_late (late_among c events);
      table = table;
      counted = record {
        kept = record { window = base_window c; events = kept_among c events } ∷ [];
        once = (
          (
            refl,
            subst (λ (l : List EventValue). IsPermutation events (l ++ kept_among c events)) (sym (late_at_all (late_among c events)))
                (IsPermutation-filter_both behind (λ e. not (behind e)) (λ e. refl) events),
          ),
          tt,
        );
        late_somewhere = late_vertex c content (late_among c events);
        late_behind = All-map (λ (l : LateValue). behind l.event ≡ true) (λ (e : EventValue). let l : LateValue = record { vertex = 2; event = e } in l) (late_among c events) (filter_passes behind events);
        are_rows = rows;
      };
      rows_are = row_lines c table (vertices c (kept_among c events) table rows);
      notes_are = late_lines c (late_among c events);
    }

kept_not_behind : (c : WindowCommand) (content : List ℕ) → All (λ e. base_behind c content e ≡ false) (kept_among c (base_events content))
kept_not_behind c content =
    let events : List EventValue = base_events content in
    let behind : EventValue → Bool = is_behind (pos c.lag) (pos c.slide) events in
    All-weaker (λ (e : EventValue). not (behind e) ≡ true) (λ (e : EventValue). behind e ≡ false) (λ e h. not_false (behind e) h) (kept_among c events) (filter_passes (λ e. not (behind e)) events)

pub some_of : {X : Type 0} (o : Option X) → IsSome o → (x : X) × (o ≡ Some x)
some_of None h = absurd (cc h)
some_of (Some x) h = (x, refl)

-- the one number that the call added
same_if : (f file : ℕ) (b : Bool) → (f == file) ≡ b → (f ≢ file → ⊥) → f ≡ file
same_if f file true is never = grind (arith, is)
same_if f file false is never = absurd (never (λ e. grind (arith, is, e)))

same_bits : (a b : Bool) → a ≡ b → a ≡ true → b ≡ false → ⊥
same_bits a b h t f = cc (sym t ∙ h ∙ f)

added_one : (file other : ℕ) (before now : ℕ → Bool) → AddsNumber file before now → before other ≡ false → now other ≡ true → other ≡ file
added_one file other before now adds fresh added =
    same_if other file (other == file) refl (λ ne. same_bits (now other) (before other) (adds.others other ne) added fresh)

-- the text of the rows until a time, among all windows
until_text : (c : WindowCommand) (t : ℤ) (rows : List RowValue) → All (λ r. r.vertex ≡ 2) rows → base_rows_text c (rows_until t rows) ≡ rows_text (base_window c ∷ []) (rows_until t rows)
until_text c t rows h = row_lines c (rows_until t rows) (All-filter (λ (r : RowValue). int_le r.end t) (λ (r : RowValue). r.vertex ≡ 2) rows h)

-- a read saw what it should, and the opening before all took and wrote nothing
saw_all : (c : WindowCommand) (table : List RowValue) (mark closed : Option ℤ) (k : ℕ) → All (λ r. r.vertex ≡ 2) table
    → IfSome mark (λ m. (length (base_rows_text c (rows_until (m -ℤ base_ahead) table)) ≤ k) × IsSomeAnd closed (λ t. m ≤ℤ t))
    → IfSome mark (λ m. length (rows_text (base_window c ∷ []) (rows_until (m -ℤ base_ahead) table)) ≤ k)
saw_all c table None closed k at h = tt
saw_all c table (Some m) closed k at h = subst (λ (l : List ℕ). length l ≤ k) (until_text c (m -ℤ base_ahead) table at) h.0

-- what each read of a source saw, as the pace of a job says it
abbrev Keeps : WindowCommand → List RowValue → List CallMade → Source → Type 0
Keeps c table calls s = (before after : List CallMade) (n : ℕ) → calls ≡ before ++ Read s.file n ∷ after
    → IfSome (s.mark (taken_by s.file before)) (λ m. length (rows_text (base_window c ∷ []) (rows_until (m -ℤ base_ahead) table)) ≤ wrote_by Rows before)

pub pace_is : (laws : FileLaws) (c : WindowCommand) (file : ℕ) (before now : ℕ → Bool) (old start new : Told) (bytes content : List ℕ) (closed : Option ℤ) (table : List RowValue)
    → OpensFile c.file file old start → AddsNumber file before now → (h : HasPaced c file bytes closed table start new) → ReadsReady c (rest_of start file) file h.calls → rest_of start file ≡ content → All (λ r. r.vertex ≡ 2) table
    → KeepsPace c content table before now old new
pace_is laws c file before now old start new bytes content closed table opens adds h ready whole at = record {
  calls = Opened c.file file ∷ h.calls;
  opens = (refl, h.quiet);
  ready = ready_opened laws c file old start h.calls opens ready;
  trace = h.trace ∙ ap (λ (l : List CallMade). l ++ h.calls) opens.trace ∙ append_assoc old.trace (Opened c.file file ∷ []) h.calls;
  paced = λ other fresh added named.
      subst (λ (f : ℕ). IsPaced (base_window c ∷ []) (base_source c content f ∷ []) base_ahead table (Opened c.file file ∷ h.calls)) (sym (added_one file other before now adds fresh added))
      (record { each = All-cons (Keeps c table (Opened c.file file ∷ h.calls)) (base_source c content file) [] paced (All-nil (Keeps c table (Opened c.file file ∷ h.calls))) });
}
  where
    shown : (front after : List CallMade) (n : ℕ) → h.calls ≡ front ++ Read file n ∷ after
        → IfSome (base_mark c content (taken_by file front)) (λ m. length (rows_text (base_window c ∷ []) (rows_until (m -ℤ base_ahead) table)) ≤ wrote_by Rows front)
    shown front after n e =
        saw_all c table (base_mark c content (taken_by file front)) closed (wrote_by Rows front) at
        (subst (λ (s : List ℕ). IfSome (base_mark c s (taken_by file front)) (λ m. (length (base_rows_text c (rows_until (m -ℤ base_ahead) table)) ≤ wrote_by Rows front) × IsSomeAnd closed (λ t. m ≤ℤ t))) whole (h.each front after n e))

    paced : (front after : List CallMade) (n : ℕ) → Opened c.file file ∷ h.calls ≡ front ++ Read file n ∷ after
        → IfSome (base_mark c content (taken_by file front)) (λ m. length (rows_text (base_window c ∷ []) (rows_until (m -ℤ base_ahead) table)) ≤ wrote_by Rows front)
    paced [] after n e = absurd (cc e)
    paced (x ∷ front) after n e =
        subst (λ (y : CallMade). IfSome (base_mark c content (taken_by file (y ∷ front))) (λ m. length (rows_text (base_window c ∷ []) (rows_until (m -ℤ base_ahead) table)) ≤ wrote_by Rows (y ∷ front)))
        (same_head (Opened c.file file) x h.calls (front ++ Read file n ∷ after) e)
        (shown front after n (same_tail (Opened c.file file) x h.calls (front ++ Read file n ∷ after) e))

-- ---- what Done says
pub done_is : (laws : FileLaws) (line_laws : LineLaws) (c : WindowCommand) (file : ℕ) (before now : ℕ → Bool) (old start new : Told) (bytes rows : List ℕ) (given : List (List ℕ)) (table : List RowValue)
    → OpensFile c.file file old start → AddsNumber file before now
    → HasRun c file bytes true rows (base_late_text (late_among c (events_in most_lines 0 given))) start new
    → rows ≡ base_rows_text c table
    → ((more : List ℕ) → (true ≡ true → more ≡ []) → lines_of (bytes ++ more) ≡ given ++ lines_of ([] ++ more))
    → are_good (event_line 0) most_lines given ≡ true
    → AreRows (record { window = base_window c; events = kept_among c (events_in most_lines 0 given) } ∷ []) table
    → (closed : Option ℤ) → HasPaced c file bytes closed table start new
    → IsDone c before now old new
unfolding headline_is
done_is laws line_laws c file before now old start new bytes rows given table opens adds run rows_are cut good all closed paced =
    let found = some_of (old.content c.file) opens.there in
    let content : List ℕ = found.0 in
    let same : bytes ≡ content = sym (append-nil bytes) ∙ ap (λ (s : List ℕ). bytes ++ s) (sym (run.end refl)) ∙ sym run.rest ∙ laws.opened c.file content file old start found.1 opens in
    let lines : lines_of content ≡ given = ap lines_of (sym same ∙ sym (append-nil bytes)) ∙ cut [] (λ e. refl) ∙ append-nil given in
    let events : events_in most_lines 0 given ≡ base_events content = ap (events_in most_lines 0) (sym lines) in
    let good2 : are_good (event_line 0) most_lines (lines_of content) ≡ true = ap (are_good (event_line 0) most_lines) lines ∙ good in
    let all2 : AreRows (record { window = base_window c; events = kept_among c (base_events content) } ∷ []) table =
    subst (λ (es : List EventValue). AreRows (record { window = base_window c; events = kept_among c es } ∷ []) table) events all in
    let head : Headline (base_inflow c content) (base_behind c content) (base_rows_text c table) (base_late_text (late_among c (base_events content))) = headline_is c content table all2 in
    let name : (new.place file).name ≡ c.file = run.name ∙ ap (λ (p : Place). p.name) opens.place in
    let taken : (new.place file).taken ≡ length content = run.taken ∙ ap (λ (p : Place). p.taken + length bytes) opens.place ∙ omega (arith, ap length same) in
    record {
      content = content;
      rows = base_rows_text c table;
      notes = base_late_text (late_among c (base_events content));
      content_is = found.1;
      read = record {
        file = file;
        fresh = adds.fresh;
        opened = adds.added;
        place = ap (λ (n : List ℕ). let p : Place = record { name = n; taken = (new.place file).taken } in p) name ∙ ap (λ (t : ℕ). let p : Place = record { name = c.file; taken = t } in p) taken;
      };
      good = (line_laws.all 0 most_lines content good2).0;
      rows_written = run.rows_written ∙ ap (λ w. w Rows ++ rows) opens.written ∙ ap (λ (l : List ℕ). old.written Rows ++ l) rows_are;
      notes_written = run.notes_written ∙ ap (λ w. w Notes ++ base_late_text (late_among c (events_in most_lines 0 given))) opens.written
          ∙ ap (λ (es : List EventValue). old.written Notes ++ base_late_text (late_among c es)) events;
      headline = head;
      pace = pace_is laws c file before now old start new bytes content closed table opens adds paced
          (subst (ReadsReady c (rest_of start file) file) (cancel start.trace run.calls paced.calls (sym run.trace ∙ paced.trace)) run.ready) (laws.opened c.file content file old start found.1 opens) (vertices c (kept_among c (base_events content)) table all2);
      kept = run.content ∙ opens.content;
      exact = All-cons (λ (k : Inflow). All (λ (e : EventValue). base_behind c content e ≡ false) k.events) (record { window = base_window c; events = kept_among c (base_events content) }) [] (kept_not_behind c content) (All-nil (λ (k : Inflow). All (λ (e : EventValue). base_behind c content e ≡ false) k.events));
    }
