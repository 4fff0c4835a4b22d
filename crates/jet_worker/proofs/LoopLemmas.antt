-- The reading of one file to its end, step by step.
use Rattle.std.proofs.Common.{◌≡◌, ℕ, ◌+◌, ◌<◌, ◌≤◌, Bool, true, false, List, [], ◌∷◌, ◌++◌, length, All, Option, Some, None, refl, sym, ap, ◌∙◌, subst, arith, inl, inr, append-nil, append_assoc, length-append, take, map}
use Rattle.std.proofs.Math.Seq.{take-append_seam}
use Rattle.std.proofs.lemmas.List.{map-append}
use Rattle.std.proofs.lemmas.List.Elements.{All-append, All-cons, All-nil}
use Rattle.std.proofs.lemmas.List.Sums.{fold-append}
use Rattle.std.specs.Prelude.{◌⊎◌, sum}
use Rattle.jet_lines.specs.Cutting.{MayCome, NextIs}
use Rattle.jet_lines.specs.Feeds.{NoFeed}
use Rattle.jet_lines.specs.Files.{through_last_feed, whole_lines}
use Rattle.jet_lines.specs.Lines.{lines_of}
use Rattle.jet_lines.specs.LinesValue.{LinesValue}
use Rattle.jet_lines.specs.declared.cut.Cut.TheVariants as cut
use Rattle.jet_lines.specs.declared.fault.LineFault.{LineFault}
use Rattle.jet_lines.specs.declared.fault.LineFault.TheVariants as fault
use Rattle.jet_file.specs.Outside.{Told, CallMade, Read, Reading, WhereTold, rest_of}
use Rattle.jet_flow.specs.DataFiles.{DataFile}
use Rattle.jet_worker.specs.Calls.{most_piece}
use Rattle.jet_worker.specs.CheckText.{Checks, first_bad}
use Rattle.jet_worker.specs.Checked.{AreWanted}
use Rattle.jet_worker.specs.Feeding.{FailsAt, PutsPiece, TakesPiece}
use Rattle.jet_worker.specs.inner.FileChecks.{HasTaken, HasTallied, IsBadIn, Progress, StopsReading}
use Rattle.jet_worker.specs.Stopping.{IsCallIn, IsNoBadLine, LastIs}
use Rattle.jet_worker.specs.inner.LineLaws.{LineLaws}
use Rattle.jet_worker.specs.inner.Tallying.{IsSmall, StopsAtLine, TakesLine, Tallied, next_fault}
use Rattle.jet_worker.specs.declared.stop.Call.TheVariants as call
use Rattle.jet_worker.specs.declared.stop.Spot.{Spot}
use Rattle.jet_worker.specs.declared.stop.Spot.TheVariants.{Part}
use Rattle.jet_worker.specs.declared.stop.Stop.{Stop}
use Rattle.jet_worker.specs.declared.stop.Stop.TheVariants.{BadLine, Outside, NoMemory}
use Rattle.jet_worker.specs.declared.tally.Tally.{Tally}
use Rattle.jet_file.proofs.GoesLaws.{goes_same, goes_then, goes_weaker}
use Rattle.jet_worker.proofs.CallLaws.{cancel, one_piece, pieces_more, read_last, split_last}
use Rattle.jet_worker.proofs.TallyLemmas.{bad_is, long_fault, many_fault, none_is}

-- what the loop over the lines of a file keeps
pub record SoFar {S : Type 0} (told : S → Option Told) (opened : S → ℕ → Bool) (steady : S → Bool) (faults : S → ℕ) (most part at : ℕ) (first tally : Tally) (count : ℕ) (start now : S) (lines : LinesValue) : Type 0 where
  pub progress : (c : Checks) (f : DataFile) → c.most ≡ most → Tallied c (part, f) [] first → Progress c (part, f) at (told start) (told now) lines tally
  pub small : IsSmall lines.number tally
  pub count_is : count ≡ lines.number
  pub opened_same : opened now ≡ opened start
  pub steady_same : steady now ≡ steady start
  pub faults_same : faults now ≡ faults start

nothing_before : {P : Type 0} (front back : List ℕ) (n : ℕ) → [] ≡ front ++ n ∷ back → P
nothing_before [] back n is = absurd (cc is)
nothing_before (m ∷ front) back n is = absurd (cc is)

taken_starts : (c : Checks) (p : ℕ × DataFile) (at : ℕ) (a : Told) → HasTaken c p at [] false a a
taken_starts c p at a = record {
  rest = refl;
  end = λ h. absurd (cc h);
  content = refl;
  written = refl;
  name = refl;
  taken = omega arith;
  others = λ other differs. refl;
  counts = [];
  sum = refl;
  pieces = All-nil (λ (n : ℕ). n ≤ most_piece);
  live = λ h. All-nil (λ (n : ℕ). 0 < n);
  wanted = λ front back n is. nothing_before front back n is;
  trace = sym (append-nil a.trace);
}

-- nothing is read yet
pub progress_starts : (c : Checks) (p : ℕ × DataFile) (at : ℕ) (start : Option Told) (lines : LinesValue) (tally : Tally)
    → lines ≡ record { most = c.most; number = 0; ended = false; line = []; rest = []; held = 0 } → Tallied c p [] tally → Progress c p at start start lines tally
progress_starts c p at start lines tally is tallied =
    let ended : lines.ended ≡ false = ap (λ (v : LinesValue). v.ended) is in
    record {
      bytes = [];
      given = [];
      most = ap (λ (v : LinesValue). v.most) is;
      number = ap (λ (v : LinesValue). v.number) is;
      cut = λ more may. ap (λ (v : LinesValue). lines_of (v.rest ++ more)) (sym is);
      tallied = tallied;
      told = subst (λ (b : Bool). WhereTold (HasTaken c p at [] b) start start) (sym ended) (goes_same (HasTaken c p at [] false) (taken_starts c p at) start);
    }

-- one line more
pub progress_line : (c : Checks) (p : ℕ × DataFile) (at : ℕ) (start now : Option Told) (lines lines' : LinesValue) (tally tally' : Tally) (n : ℕ) (line : List ℕ)
    → Progress c p at start now lines tally → NextIs lines (cut.Line n) lines' → line ≡ lines'.line → TakesLine n line tally tally' → Progress c p at start now lines' tally'
progress_line c p at start now lines lines' tally tally' n line h next same takes =
    let number : n ≡ length h.given + 1 = next.0 ∙ ap (λ (k : ℕ). k + 1) h.number in
    let given : List (List ℕ) = h.given ++ lines'.line ∷ [] in
    let longer : length given ≡ length h.given + 1 = length-append h.given (lines'.line ∷ []) in
    let ended : lines'.ended ≡ lines.ended = ap (λ (v : LinesValue). v.ended) next.4 in
    record {
      bytes = h.bytes;
      given = given;
      most = ap (λ (v : LinesValue). v.most) next.4 ∙ h.most;
      number = ap (λ (v : LinesValue). v.number) next.4 ∙ number ∙ sym longer;
      cut = λ rest may.
          let may2 : MayCome lines.ended rest = λ e. may (ended ∙ e) in
          h.cut rest may2 ∙ ap (λ (l : List (List ℕ)). h.given ++ l) (next.3 rest may2) ∙ sym (append_assoc h.given (lines'.line ∷ []) (lines_of (lines'.rest ++ rest)));
      tallied = subst (λ (l : List ℕ). Tallied c p (h.given ++ l ∷ []) tally') same (takes c p h.given h.tallied number (subst (λ (k : ℕ). n ≤ k) h.most next.1));
      told = subst (λ (b : Bool). WhereTold (HasTaken c p at h.bytes b) start now) (sym ended) h.told;
    }

-- ---- one piece more

-- one more read is wanted where the file has not ended and no line is bad
wanted_more : (c : Checks) (p : ℕ × DataFile) (bytes counts : List ℕ) (n : ℕ) → AreWanted c p bytes counts → All (λ m. 0 < m) counts → first_bad c p (through_last_feed (take (sum counts) bytes)) ≡ None
    → AreWanted c p bytes (counts ++ n ∷ [])
wanted_more c p bytes counts n h live good = λ front back m is. by_place front m (split_last counts front back n m is)
  where
    by_place : (front : List ℕ) (m : ℕ) → (front ≡ counts) ⊎ ((later : List ℕ) × (counts ≡ front ++ m ∷ later)) → All (λ k. 0 < k) front × (first_bad c p (through_last_feed (take (sum front) bytes)) ≡ None)
    by_place front m (inl same) = subst (λ (l : List ℕ). All (λ k. 0 < k) l × (first_bad c p (through_last_feed (take (sum l) bytes)) ≡ None)) (sym same) (live, good)
    by_place front m (inr (later, e)) = h front later m e

takes : (c : Checks) (p : ℕ × DataFile) (at : ℕ) (bytes piece : List ℕ) (before after : LinesValue) (a b d : Told) → after.rest ≡ before.rest ++ piece → before.ended ≡ false
    → first_bad c p (through_last_feed bytes) ≡ None → HasTaken c p at bytes before.ended a b → TakesPiece at before after b d → HasTaken c p at (bytes ++ piece) after.ended a d
takes c p at bytes piece before after a b d is live good h t =
    let same : t.piece ≡ piece = cancel before.rest t.piece piece (sym t.lines ∙ is) in
    let front : take (sum h.counts) (rest_of a at) ≡ bytes = ap (λ (k : ℕ). take k (rest_of a at)) h.sum ∙ ap (take (length bytes)) h.rest ∙ take-append_seam bytes (rest_of b at) in
    record {
      rest = h.rest ∙ ap (λ (l : List ℕ). bytes ++ l) (t.rest ∙ ap (λ (l : List ℕ). l ++ rest_of d at) same) ∙ sym (append_assoc bytes piece (rest_of d at));
      end = t.end;
      content = t.content ∙ h.content;
      written = t.written ∙ h.written;
      name = t.name ∙ h.name;
      taken = t.taken ∙ ap (λ (k : ℕ). k + length t.piece) h.taken ∙ omega (arith, ap length same, length-append bytes piece);
      others = λ other differs. t.others other differs ∙ h.others other differs;
      counts = h.counts ++ length t.piece ∷ [];
      sum = fold-append ◌+◌ 0 h.counts (length t.piece ∷ []) ∙ ap (λ (k : ℕ). k + length t.piece) h.sum ∙ omega (arith, ap length same, length-append bytes piece);
      pieces = pieces_more h.counts (length t.piece ∷ []) h.pieces (one_piece (length t.piece) t.small);
      live = λ e. All-append (λ (k : ℕ). 0 < k) h.counts (length t.piece ∷ []) (h.live live) (All-cons (λ (k : ℕ). 0 < k) (length t.piece) [] (t.some e) (All-nil (λ (k : ℕ). 0 < k)));
      wanted = wanted_more c p (rest_of a at) h.counts (length t.piece) h.wanted (h.live live)
          (subst (λ (l : List ℕ). first_bad c p (through_last_feed l) ≡ None) (sym front) good);
      trace = t.trace ∙ ap (λ (l : List CallMade). l ++ Read at (length t.piece) ∷ []) h.trace ∙ append_assoc a.trace (map (Read at) h.counts) (Read at (length t.piece) ∷ [])
          ∙ ap (λ (l : List CallMade). a.trace ++ l) (sym (map-append (Read at) h.counts (length t.piece ∷ [])));
    }

false_is : {P : Type 0} (b : Bool) → b ≡ false → b ≡ true → P
false_is b f t = absurd (cc)

progress_put : (laws : LineLaws) (c : Checks) (p : ℕ × DataFile) (at : ℕ) (start now next : Option Told) (lines lines' : LinesValue) (tally : Tally) (piece : List ℕ)
    → Progress c p at start now lines tally → lines.ended ≡ false → NoFeed lines.rest (length lines.rest) → lines'.rest ≡ lines.rest ++ piece → lines'.most ≡ lines.most → lines'.number ≡ lines.number
    → WhereTold (TakesPiece at lines lines') now next → Progress c p at start next lines' tally
progress_put laws c p at start now next lines lines' tally piece h live none rest most number told = record {
  bytes = h.bytes ++ piece;
  given = h.given;
  most = most ∙ h.most;
  number = number ∙ h.number;
  cut = λ more may.
      ap lines_of (append_assoc h.bytes piece more) ∙ h.cut (piece ++ more) (λ e. false_is lines.ended live e)
      ∙ ap (λ (l : List ℕ). h.given ++ lines_of l) (sym (append_assoc lines.rest piece more) ∙ ap (λ (l : List ℕ). l ++ more) (sym rest));
  tallied = h.tallied;
  told =
      let whole : whole_lines h.bytes ≡ h.given = laws.whole h.bytes lines.rest h.given (λ more. h.cut more (λ e. false_is lines.ended live e)) none in
      let good : first_bad c p (through_last_feed h.bytes) ≡ None = none_is laws c p (through_last_feed h.bytes) tally (subst (λ (g : List (List ℕ)). Tallied c p g tally) (sym whole) h.tallied) in
      goes_then (HasTaken c p at h.bytes lines.ended) (TakesPiece at lines lines') (HasTaken c p at (h.bytes ++ piece) lines'.ended)
      (λ a b d r t. takes c p at h.bytes piece lines lines' a b d rest live good r t) start now next h.told told;
}

progress_more : (laws : LineLaws) (c : Checks) (p : ℕ × DataFile) (at : ℕ) (start now next : Option Told) (lines lines' : LinesValue) (tally : Tally)
    → Progress c p at start now lines tally → lines.ended ≡ false → NoFeed lines.rest (length lines.rest) → PutsPiece lines lines' → WhereTold (TakesPiece at lines lines') now next → Progress c p at start next lines' tally
progress_more laws c p at start now next lines lines' tally h live none (inl (piece, some, small, is)) told =
    progress_put laws c p at start now next lines lines' tally piece h live none (ap (λ (v : LinesValue). v.rest) is) (ap (λ (v : LinesValue). v.most) is) (ap (λ (v : LinesValue). v.number) is) told
progress_more laws c p at start now next lines lines' tally h live none (inr is) told =
    progress_put laws c p at start now next lines lines' tally [] h live none (ap (λ (v : LinesValue). v.rest) is ∙ sym (append-nil lines.rest)) (ap (λ (v : LinesValue). v.most) is) (ap (λ (v : LinesValue). v.number) is) told

pub progress_piece : (laws : LineLaws) (c : Checks) (p : ℕ × DataFile) (at : ℕ) (start now next : Option Told) (lines lines1 lines' : LinesValue) (tally : Tally)
    → Progress c p at start now lines tally → NextIs lines cut.More lines1 → PutsPiece lines1 lines' → WhereTold (TakesPiece at lines1 lines') now next → Progress c p at start next lines' tally
progress_piece laws c p at start now next lines lines1 lines' tally h more puts told =
    let same : lines1 ≡ lines = more.3 in
    progress_more laws c p at start now next lines1 lines' tally (subst (λ (v : LinesValue). Progress c p at start now v tally) (sym same) h) (ap (λ (v : LinesValue). v.ended) same ∙ more.0)
    (subst (λ (v : LinesValue). NoFeed v.rest (length v.rest)) (sym same) more.1.0) puts told

pub number_stays : (lines lines1 lines' : LinesValue) → NextIs lines cut.More lines1 → PutsPiece lines1 lines' → lines'.number ≡ lines.number
number_stays lines lines1 lines' more (inl (piece, some, small, is)) = ap (λ (v : LinesValue). v.number) is ∙ ap (λ (v : LinesValue). v.number) more.3
number_stays lines lines1 lines' more (inr is) = ap (λ (v : LinesValue). v.number) is ∙ ap (λ (v : LinesValue). v.number) more.3

-- ---- stops

-- a step that took nothing and wrote nothing stopped
record Halts (spot : Spot) (at : ℕ) (stop : Stop) (old new : Told) : Type 0 where
  content : new.content ≡ old.content
  written : new.written ≡ old.written
  last : List CallMade
  fails : LastIs (IsCallIn spot at) stop last
  trace : new.trace ≡ old.trace ++ last

-- such a step stops the reading
stops : (c : Checks) (p : ℕ × DataFile) (at : ℕ) (bytes : List ℕ) (ended : Bool) (stop : Stop) (start now next : Told) → ((content more : List ℕ) → content ≡ bytes ++ more → MayCome ended more → IsBadIn c p content stop)
    → HasTaken c p at bytes ended start now → Halts (Part p.0) at stop now next → StopsReading c p at stop start next
stops c p at bytes ended stop start now next bad run s = record {
  bad = bad (rest_of start at) (rest_of now at) run.rest run.end;
  reads = record {
    content = s.content ∙ run.content;
    written = s.written ∙ run.written;
    counts = run.counts;
    pieces = run.pieces;
    last = s.last;
    fails = s.fails;
    trace = s.trace ∙ ap (λ (l : List CallMade). l ++ s.last) run.trace;
  };
  wanted = run.wanted;
}

-- no call was made, and none failed
here : (spot : Spot) (at : ℕ) (stop : Stop) (a : Told) → LastIs (IsCallIn spot at) stop [] → Halts spot at stop a a
here spot at stop a h = record { content = refl; written = refl; last = []; fails = h; trace = sym (append-nil a.trace) }

-- one read stopped
read_halts : (spot : Spot) (file : ℕ) (stop : Stop) (a b : Told) → FailsAt call.Read spot (Reading file) stop a b → Halts spot file stop a b
read_halts spot file stop a b h = record {
  content = ap (λ (t : Told). t.content) h.same;
  written = ap (λ (t : Told). t.written) h.same;
  last = h.last;
  fails = read_last spot file stop h.last h.is;
  trace = ap (λ (t : Told). t.trace) h.same;
}

module _ (laws : LineLaws) (c : Checks) (p : ℕ × DataFile) (at : ℕ) (start now : Option Told) (lines : LinesValue) (tally : Tally) (h : Progress c p at start now lines tally) where
  bad_at : (content more : List ℕ) (line : List ℕ) (others : List (List ℕ)) (f : LineFault) (part n : ℕ) → content ≡ h.bytes ++ more → MayCome lines.ended more
      → lines_of (lines.rest ++ more) ≡ line ∷ others → part ≡ p.0 → n ≡ lines.number + 1 → next_fault c p h.given line ≡ Some f → IsBadIn c p content (BadLine part n f)
  bad_at content more line others f part n is may next part_is n_is fault_is =
      let parts : lines_of content ≡ h.given ++ line ∷ others = ap lines_of is ∙ h.cut more may ∙ ap (λ (l : List (List ℕ)). h.given ++ l) next in
      let number : n ≡ length h.given + 1 = n_is ∙ ap (λ (k : ℕ). k + 1) h.number in
      (part_is, bad_is laws c p content h.given line others f tally h.tallied parts fault_is ∙ ap (λ (k : ℕ). Some (k, f)) (sym number))

  -- a line that the cutter refused
  bad_cut : (n part : ℕ) (f : LineFault) (lines' : LinesValue) → part ≡ p.0 → NextIs lines (cut.Bad n f) lines' → (content more : List ℕ) → content ≡ h.bytes ++ more → MayCome lines.ended more → IsBadIn c p content (BadLine part n f)
  bad_cut n part fault.TooLong lines' part_is k content more is may =
      let found = k.2 more may in
      let room : length h.given < c.most = omega (arith, k.0, k.1, h.most, h.number) in
      bad_at content more found.0 found.1 fault.TooLong part n is may found.2 part_is k.0 (long_fault laws c p h.given found.0 room found.3)
  bad_cut n part fault.TooMany lines' part_is k content more is may =
      let found = k.2 more may in
      let full : c.most ≤ length h.given = omega (arith, k.0, k.1, h.most, h.number) in
      bad_at content more found.0 found.1 fault.TooMany part n is may found.2 part_is k.0 (many_fault laws c p h.given found.0 full)
  bad_cut n part (fault.BadByte at) lines' part_is k content more is may = absurd k
  bad_cut n part fault.Quote lines' part_is k content more is may = absurd k
  bad_cut n part fault.Fields lines' part_is k content more is may = absurd k
  bad_cut n part (fault.Number i) lines' part_is k content more is may = absurd k
  bad_cut n part (fault.Key f) lines' part_is k content more is may = absurd k
  bad_cut n part fault.KeyFull lines' part_is k content more is may = absurd k

  pub stops_at_cut : (n part : ℕ) (f : LineFault) (lines' : LinesValue) (bad_part : part ≡ p.0) → NextIs lines (cut.Bad n f) lines' → WhereTold (StopsReading c p at (BadLine part n f)) start now
  stops_at_cut n part f lines' part_is next =
      goes_weaker (HasTaken c p at h.bytes lines.ended) (StopsReading c p at (BadLine part n f))
      (λ a b r. stops c p at h.bytes lines.ended (BadLine part n f) a b b (bad_cut n part f lines' part_is next) r (here (Part p.0) at (BadLine part n f) b refl)) start now h.told

  bad_read : (n part : ℕ) (lines' : LinesValue) (stop : Stop) → part ≡ p.0 → NextIs lines (cut.Line n) lines' → StopsAtLine part n lines'.line tally stop
      → (content more : List ℕ) → content ≡ h.bytes ++ more → MayCome lines.ended more → IsBadIn c p content stop
  bad_read n part lines' (BadLine q k why) part_is next s content more is may =
      let number : n ≡ length h.given + 1 = next.0 ∙ ap (λ (j : ℕ). j + 1) h.number in
      bad_at content more lines'.line (lines_of (lines'.rest ++ more)) why q k is may (next.3 more may) (s.0 ∙ part_is) (s.1 ∙ next.0)
      (s.2 c p h.given h.tallied number (subst (λ (j : ℕ). n ≤ j) h.most next.1))
  bad_read n part lines' (Outside call spot) part_is next s content more is may = tt
  bad_read n part lines' NoMemory part_is next s content more is may = tt

  line_told : (part n : ℕ) (line : List ℕ) (stop : Stop) → StopsAtLine part n line tally stop → LastIs (IsCallIn (Part p.0) at) stop []
  line_told part n line (BadLine q k why) s = refl
  line_told part n line (Outside call spot) s = absurd s
  line_told part n line NoMemory s = refl

  pub stops_at_line : (n part : ℕ) (line : List ℕ) (lines' : LinesValue) (stop : Stop) → part ≡ p.0 → NextIs lines (cut.Line n) lines' → line ≡ lines'.line → StopsAtLine part n line tally stop
      → WhereTold (StopsReading c p at stop) start now
  stops_at_line n part line lines' stop part_is next same s =
      goes_weaker (HasTaken c p at h.bytes lines.ended) (StopsReading c p at stop)
      (λ a b r. stops c p at h.bytes lines.ended stop a b b (bad_read n part lines' stop part_is next (subst (λ (l : List ℕ). StopsAtLine part n l tally stop) same s)) r
      (here (Part p.0) at stop b (line_told part n line stop s))) start now h.told

module _ (c : Checks) (p : ℕ × DataFile) (at : ℕ) (start now : Option Told) (lines : LinesValue) (tally : Tally) (h : Progress c p at start now lines tally) where
  none_bad : (stop : Stop) → IsNoBadLine stop → (content : List ℕ) → IsBadIn c p content stop
  none_bad (BadLine part line why) k content = absurd k
  none_bad (Outside call spot) k content = tt
  none_bad NoMemory k content = tt

  pub stops_at_read : (stop : Stop) (next : Option Told) → IsNoBadLine stop → WhereTold (FailsAt call.Read (Part p.0) (Reading at) stop) now next → WhereTold (StopsReading c p at stop) start next
  stops_at_read stop next never told =
      goes_then (HasTaken c p at h.bytes lines.ended) (FailsAt call.Read (Part p.0) (Reading at) stop) (StopsReading c p at stop)
      (λ a b d r s. stops c p at h.bytes lines.ended stop a b d (λ content more is may. none_bad stop never content) r (read_halts (Part p.0) at stop b d s)) start now next h.told told

  pub tallied_at_end : (count : ℕ) (lines' : LinesValue) → NextIs lines cut.End lines' → count ≡ lines.number → WhereTold (HasTallied c p at count tally) start now
  tallied_at_end count lines' end count_is =
      let none : (more : List ℕ) → MayCome lines.ended more → more ≡ [] = λ more may. may end.0 in
      let all : lines_of h.bytes ≡ h.given =
      ap lines_of (sym (append-nil h.bytes)) ∙ h.cut [] (λ e. refl) ∙ ap (λ (l : List ℕ). h.given ++ lines_of (l ++ [])) end.1 ∙ append-nil h.given in
      goes_weaker (HasTaken c p at h.bytes lines.ended) (HasTallied c p at count tally) (λ a b r. record {
        bytes = h.bytes;
        left = r.rest ∙ ap (λ (l : List ℕ). h.bytes ++ l) (r.end end.0) ∙ append-nil h.bytes;
        run = subst (λ (e : Bool). HasTaken c p at h.bytes e a b) end.0 r;
        tallied = subst (λ (g : List (List ℕ)). Tallied c p g tally) (sym all) h.tallied;
        count_is = count_is ∙ h.number ∙ ap length (sym all);
      }) start now h.told
