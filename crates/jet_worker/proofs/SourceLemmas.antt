-- The lines of a source file, read one after another.
use Rattle.std.proofs.Common.{◌≡◌, ℕ, ◌+◌, ◌<◌, ◌≤◌, Bool, true, false, ℤ, List, [], ◌∷◌, ◌++◌, map, length, Option, Some, None, Result, Ok, All, refl, sym, ap, ◌∙◌, subst, arith, append-nil, length-append}
use Rattle.std.specs.Prelude.{count_by, cond, if◌then◌else◌}
use Rattle.std.proofs.lemmas.List.{map-append}
use Rattle.std.proofs.lemmas.List.Elements.{All-head, All-tail, All-weaker, All-append, All-nil, All-cons}
use Rattle.jet_items.specs.Marks.{is_behind, mark_at, mark_of}
use Rattle.jet_items.specs.Values.{EventValue}
use Rattle.jet_policy.specs.MarkerValue.{MarkerValue, HasSeen}
use Rattle.jet_lines.specs.Files.{GoOn, are_good, events_in}
use Rattle.jet_items.specs.declared.no_memory.Refused.{Refused}
use Rattle.jet_items.specs.declared.no_memory.Refused.TheVariants as refused
use Rattle.jet_lines.specs.Readings.{◌>>=◌, Fails, entry_at, event_in, event_line}
use Rattle.jet_lines.specs.declared.entry.Entry.{Entry}
use Rattle.jet_lines.specs.declared.entry.Entry.TheVariants as entry
use Rattle.jet_lines.specs.declared.fault.LineFault.{LineFault}
use Rattle.jet_worker.specs.CheckText.{behind_count}
use Rattle.jet_worker.specs.inner.LineLaws.{EventLaws}
use Rattle.jet_worker.specs.inner.Tallying.{CountsEntry, CountsEvent, RefusesSourceLine, TakesSourceLine, is_below}
use Rattle.jet_worker.specs.declared.source_tally.SourceTally.{SourceTally}
use Rattle.jet_worker.proofs.CountLemmas.{count_first, count_last}
use Rattle.jet_worker.proofs.BehindLaws.{AreBefore, behind_at, behind_more, le}

-- ---- what a line holds

-- the event of an entry
pub entry_gives : (p n : ℕ) (line : List ℕ) (x : Entry) → entry_at p n line ≡ Ok x → event_line p n line ≡ Ok (event_in x)
entry_gives p n line x h = ap (λ (r : Result Entry LineFault). r >>= (λ (y : Entry). Ok (event_in y))) h

pub entry_refuses : (n : ℕ) (line : List ℕ) (t : SourceTally) (e : Refused LineFault) → Fails e (entry_at t.part n line) → RefusesSourceLine n line t e
entry_refuses n line t refused.NoMemory h = tt
entry_refuses n line t (refused.Fault why) h = ap (λ (r : Result Entry LineFault). r >>= (λ (y : Entry). Ok (event_in y))) h

-- ---- events that are behind

count_same : {X : Type 0} (p q : X → Bool) (xs : List X) → All (λ x. p x ≡ q x) xs → count_by p xs ≡ count_by q xs
count_same p q [] h = refl
count_same {X} p q (x ∷ xs) h =
    count_first p x xs
    ∙ ap (λ (b : Bool). cond b 1 0 + count_by p xs) (All-head (λ (y : X). p y ≡ q y) x xs h)
    ∙ ap (λ (n : ℕ). cond (q x) 1 0 + n) (count_same p q xs (All-tail (λ (y : X). p y ≡ q y) x xs h))
    ∙ sym (count_first q x xs)

-- how many are behind with one event more
count_more : (lag grain : ℤ) (events : List EventValue) (e : EventValue) → AreBefore e.line events
    → behind_count lag grain (events ++ e ∷ []) ≡ behind_count lag grain events + cond (is_below (mark_of lag grain (map (λ x. x.ts) events)) e.ts) 1 0
count_more lag grain events e h =
    let p : EventValue → Bool = λ x. is_behind lag grain (events ++ e ∷ []) x in
    let q : EventValue → Bool = λ x. is_behind lag grain events x in
    let same : All (λ (x : EventValue). p x ≡ q x) events =
    All-weaker (λ (x : EventValue). x.line < e.line) (λ (x : EventValue). p x ≡ q x) (λ x lt. behind_more lag grain events e x (le x.line e.line lt)) events h in
    let last : p e ≡ is_below (mark_of lag grain (map (λ x. x.ts) events)) e.ts = behind_more lag grain events e e (omega arith) ∙ behind_at lag grain events e h in
    count_last p events e
    ∙ ap (λ (n : ℕ). n + cond (p e) 1 0) (count_same p q events same)
    ∙ ap (λ (b : Bool). behind_count lag grain events + cond b 1 0) last

one_more : (n : ℕ) (b : Bool) → (if b then n + 1 else n) ≡ n + cond b 1 0
one_more n true = refl
one_more n false = omega arith

-- ---- one line more

mark_is : (lag grain : ℤ) (times : List ℤ) (m : MarkerValue) → m.lag ≡ lag → m.grain ≡ grain → HasSeen m times → mark_at m.lag m.grain m.greatest ≡ mark_of lag grain times
mark_is lag grain times m l g h = ap (λ (x : ℤ). mark_at x m.grain m.greatest) l ∙ ap (λ (x : ℤ). mark_at lag x m.greatest) g ∙ ap (mark_at lag grain) h

later : (n m a : ℕ) → a < n → n ≤ m → a < m
later n m a h k = omega arith

module _ (laws : EventLaws) where
  goes_on : (most p : ℕ) (given : List (List ℕ)) (line : List ℕ) (found : Option EventValue) (n : ℕ) → are_good (event_line p) most given ≡ true → n ≡ length given + 1 → n ≤ most
      → event_line p n line ≡ Ok found → GoOn (event_line p) most given line found
  goes_on most p given line found n good number small read =
      let room : length given < most = omega (arith, number, small) in
      laws.more p most given line found good room (subst (λ (k : ℕ). event_line p k line ≡ Ok found) number read)

  -- a line without an event
  pub took_no_event : (n : ℕ) (line : List ℕ) (t : SourceTally) → event_line t.part n line ≡ Ok None → TakesSourceLine n line t t
  took_no_event n line t read = λ most p lag unit given h number small.
      let read2 : event_line p n line ≡ Ok None = subst (λ (k : ℕ). event_line k n line ≡ Ok None) h.part read in
      let more : GoOn (event_line p) most given line None = goes_on most p given line None n h.good number small read2 in
      let same : events_in most p (given ++ line ∷ []) ≡ events_in most p given = more.1 ∙ append-nil (events_in most p given) in
      let longer : length (given ++ line ∷ []) ≡ length given + 1 = length-append given (line ∷ []) in
      record {
        good = more.0;
        part = h.part;
        marker_lag = h.marker_lag;
        marker_unit = h.marker_unit;
        seen = subst (λ (es : List EventValue). HasSeen t.marker (map (λ e. e.ts) es)) (sym same) h.seen;
        lines = subst (λ (es : List EventValue). All (λ (e : EventValue). e.line < length (given ++ line ∷ []) + 1) es) (sym same)
            (All-weaker (λ (e : EventValue). e.line < length given + 1) (λ (e : EventValue). e.line < length (given ++ line ∷ []) + 1) (λ e lt. later (length given + 1) (length (given ++ line ∷ []) + 1) e.line lt (omega (arith, longer))) (events_in most p given) h.lines);
        events = h.events ∙ ap length (sym same);
        behind = h.behind ∙ ap (behind_count lag unit) (sym same);
      }

  -- a line with an event that was counted
  pub took_event : (n : ℕ) (line : List ℕ) (e : EventValue) (old new : SourceTally) → event_line old.part n line ≡ Ok (Some e) → CountsEvent e old new → TakesSourceLine n line old new
  took_event n line e old new read c = λ most p lag unit given h number small.
      let read2 : event_line p n line ≡ Ok (Some e) = subst (λ (k : ℕ). event_line k n line ≡ Ok (Some e)) h.part read in
      let more : GoOn (event_line p) most given line (Some e) = goes_on most p given line (Some e) n h.good number small read2 in
      let events : List EventValue = events_in most p given in
      let at : e.line ≡ n = laws.line p n line e read2 in
      let before : AreBefore e.line events = subst (λ (k : ℕ). AreBefore k events) (sym (at ∙ number)) h.lines in
      let longer : length (given ++ line ∷ []) ≡ length given + 1 = length-append given (line ∷ []) in
      let mark : mark_at old.marker.lag old.marker.grain old.marker.greatest ≡ mark_of lag unit (map (λ (x : EventValue). x.ts) events) =
      mark_is lag unit (map (λ (x : EventValue). x.ts) events) old.marker h.marker_lag h.marker_unit h.seen in
      let lines : All (λ (x : EventValue). x.line < length (given ++ line ∷ []) + 1) (events ++ e ∷ []) =
      All-append (λ (x : EventValue). x.line < length (given ++ line ∷ []) + 1) events (e ∷ [])
      (All-weaker (λ (x : EventValue). x.line < length given + 1) (λ (x : EventValue). x.line < length (given ++ line ∷ []) + 1) (λ x lt. later (length given + 1) (length (given ++ line ∷ []) + 1) x.line lt (omega (arith, longer))) events h.lines)
      (All-cons (λ (x : EventValue). x.line < length (given ++ line ∷ []) + 1) e [] (omega (arith, at, number, longer)) (All-nil (λ (x : EventValue). x.line < length (given ++ line ∷ []) + 1))) in
      record {
        good = more.0;
        part = c.part ∙ h.part;
        marker_lag = c.lag ∙ h.marker_lag;
        marker_unit = c.unit ∙ h.marker_unit;
        seen = subst (λ (ts : List ℤ). HasSeen new.marker ts) (sym (map-append (λ (x : EventValue). x.ts) events (e ∷ [])) ∙ ap (map (λ (x : EventValue). x.ts)) (sym more.1)) (c.seen (map (λ (x : EventValue). x.ts) events) h.seen);
        lines = subst (λ (es : List EventValue). All (λ (x : EventValue). x.line < length (given ++ line ∷ []) + 1) es) (sym more.1) lines;
        events = c.events ∙ ap (λ (k : ℕ). k + 1) h.events ∙ sym (length-append events (e ∷ [])) ∙ ap length (sym more.1);
        behind = c.behind ∙ one_more old.behind (is_below (mark_at old.marker.lag old.marker.grain old.marker.greatest) e.ts)
            ∙ ap (λ (m : Option ℤ). old.behind + cond (is_below m e.ts) 1 0) mark
            ∙ ap (λ (k : ℕ). k + cond (is_below (mark_of lag unit (map (λ (x : EventValue). x.ts) events)) e.ts) 1 0) h.behind
            ∙ sym (count_more lag unit events e before)
            ∙ ap (behind_count lag unit) (sym more.1);
      }

  -- a line whose entry was counted
  pub took_entry : (n : ℕ) (line : List ℕ) (x : Entry) (old new : SourceTally) → entry_at old.part n line ≡ Ok x → CountsEntry x old new → TakesSourceLine n line old new
  took_entry n line entry.Nothing old new read is =
      subst (λ (t : SourceTally). TakesSourceLine n line old t) (sym is) (took_no_event n line old (entry_gives old.part n line entry.Nothing read))
  took_entry n line (entry.Event e) old new read c = took_event n line e old new (entry_gives old.part n line (entry.Event e) read) c
  took_entry n line entry.Idle old new read is =
      subst (λ (t : SourceTally). TakesSourceLine n line old t) (sym is) (took_no_event n line old (entry_gives old.part n line entry.Idle read))
