-- Why a run over a file stops, said of the whole run.
use Rattle.std.proofs.Common.{◌≡◌, ℕ, ◌+◌, ◌<◌, ◌≤◌, List, [], ◌∷◌, ◌++◌, length, append_assoc, append-nil, Bool, Option, Some, None, Err, refl, ap, sym, ◌∙◌, subst, arith, inl, inr}
use Rattle.std.specs.Prelude.{◌⊎◌, IsSomeAnd}
use Rattle.jet_lines.specs.Cutting.{MayCome, NextIs}
use Rattle.jet_lines.specs.Files.{first_bad_line, most_lines}
use Rattle.jet_lines.specs.Lines.{lines_of}
use Rattle.jet_lines.specs.LinesValue.{LinesValue}
use Rattle.jet_lines.specs.Readings.{event_line}
use Rattle.jet_lines.specs.declared.cut.Cut.TheVariants as cut
use Rattle.jet_lines.specs.declared.fault.LineFault.{LineFault}
use Rattle.jet_lines.specs.declared.fault.LineFault.TheVariants as fault
use Rattle.jet_file.specs.Outside.{Told, WhereTold, Opened, Opening, OpensFile, Tried, rest_of}
use Rattle.jet_cli.specs.inner.FileLaws.{FileLaws}
use Rattle.jet_cli.specs.inner.LineLaws.{LineLaws}
use Rattle.jet_cli.specs.LineStops.{IsBadIn, IsBadLineAt, IsBadOf, IsWrote, RunStops, StepStops}
use Rattle.jet_cli.specs.inner.Progress.{HasRun, Progress}
use Rattle.jet_worker.specs.Calls.{Calling, ReadsOrWrites, OpensInOrder, part_place}
use Rattle.jet_worker.specs.Feeding.{FailsAt}
use Rattle.jet_worker.specs.Stopping.{IsCallIn, IsNoBadLine, LastOf}
use Rattle.jet_worker.specs.declared.stop.Call.{Call}
use Rattle.jet_worker.specs.declared.stop.Call.TheVariants.{Open}
use Rattle.jet_worker.specs.declared.stop.Spot.TheVariants.{Part}
use Rattle.jet_worker.proofs.CallLaws.{none_in, none_last}
use Rattle.jet_file.proofs.GoesLaws.{goes_same, goes_weaker}
use Rattle.jet_cli.proofs.OrderLemmas.{named_after, opening_named}
use Rattle.jet_cli.proofs.ReadPlaces.{last_none, ready_more, ready_opened, ready_unopened, wrote_none, wrote_quiet}
use Rattle.std.proofs.lemmas.List.Elements.{All-append, All-weaker}
use Rattle.jet_cli.specs.Words.{WindowCommand}
use Rattle.jet_cli.specs.declared.counter.WindowCounter.{WindowCounter}
use Rattle.jet_worker.specs.declared.stop.Spot.{Spot}
use Rattle.jet_worker.specs.declared.stop.Stop.{Stop}
use Rattle.jet_worker.specs.declared.stop.Stop.TheVariants.{BadLine, Outside, NoMemory}
use Rattle.jet_cli.proofs.DoneLemmas.{some_of}
use Rattle.jet_file.specs.Outside.{CallMade}

bad_of : (c : WindowCommand) (content : List ℕ) (told : Told) (stop : Stop) → told.content c.file ≡ Some content → IsBadIn content stop → IsBadOf c told stop
bad_of c content told (BadLine part n why) is h =
    (h.0, subst (λ (o : Option (List ℕ)). IsSomeAnd o (λ (bytes : List ℕ). first_bad_line (event_line 0) most_lines bytes ≡ Some (n, why))) (sym is) h.1)
bad_of c content told (Outside call spot) is h = tt
bad_of c content told NoMemory is h = tt

run_stops : (laws : FileLaws) (c : WindowCommand) (file : ℕ) (bytes : List ℕ) (ended : Bool) (rows notes : List ℕ) (stop : Stop) (old start now next : Told)
    → ((content more : List ℕ) → content ≡ bytes ++ more → MayCome ended more → IsBadIn content stop)
    → OpensFile c.file file old start → HasRun c file bytes ended rows notes start now → StepStops (IsCallIn (Part 0) file) stop now next → Calling (RunStops c stop) old next
run_stops laws c file bytes ended rows notes stop old start now next bad opens run stops =
    let such : Call → Spot → Tried → Type 0 = IsCallIn (Part 0) file in
    let calls : List CallMade = run.calls ++ stops.calls in
    let found = some_of (old.content c.file) opens.there in
    record {
      calls = Opened c.file file ∷ (calls ++ stops.last);
      trace = stops.trace ∙ ap (λ (l : List CallMade). l ++ stops.calls ++ stops.last) (run.trace ∙ ap (λ (l : List CallMade). l ++ run.calls) opens.trace)
          ∙ ap (λ (l : List CallMade). l ++ stops.last) (append_assoc (old.trace ++ Opened c.file file ∷ []) run.calls stops.calls)
          ∙ append_assoc (old.trace ++ Opened c.file file ∷ []) calls stops.last ∙ append_assoc old.trace (Opened c.file file ∷ []) (calls ++ stops.last);
      did = record {
        opens = (refl, All-append ReadsOrWrites calls stops.last (All-append ReadsOrWrites run.calls stops.calls run.quiet (All-weaker IsWrote ReadsOrWrites wrote_quiet stops.calls stops.wrote)) (none_last such stop stops.last (none_in (Part 0) file) stops.fails));
        ready = ready_opened laws c file old start (calls ++ stops.last) opens
            (ready_more c (rest_of start file) file calls stops.last (ready_more c (rest_of start file) file run.calls stops.calls run.ready (wrote_none stops.calls stops.wrote)) (last_none such stop stops.last stops.fails));
        fails = named_after part_place (Part 0) c.file file calls stop stops.last refl stops.fails;
        bad = bad_of c found.0 old stop found.1 (bad found.0 (rest_of now file) (sym (laws.opened c.file found.0 file old start found.1 opens) ∙ run.rest) run.end);
      };
    }

-- no call was made
pub goes_nowhere : (c : WindowCommand) (old : Option Told) → WhereTold (Calling (RunStops c NoMemory)) old old
goes_nowhere c old = goes_same (Calling (RunStops c NoMemory)) (λ a. record { calls = []; trace = sym (append-nil a.trace); did = record { opens = tt; ready = ready_unopened c a (Part 0) (Opening c.file) NoMemory [] refl; fails = tt; bad = tt } }) old

-- the file could not be opened
pub goes_unopened : (c : WindowCommand) (stop : Stop) (old now : Option Told) → IsNoBadLine stop → WhereTold (FailsAt Open (Part 0) (Opening c.file) stop) old now → WhereTold (Calling (RunStops c stop)) old now
goes_unopened c stop old now never = goes_weaker (FailsAt Open (Part 0) (Opening c.file) stop) (Calling (RunStops c stop)) (λ a b s. record {
  calls = s.last;
  trace = ap (λ (t : Told). t.trace) s.same;
  did = record { opens = opens stop s.last s.is; ready = ready_unopened c a (Part 0) (Opening c.file) stop s.last s.is; fails = opening_named part_place (Part 0) c.file stop s.last refl s.is; bad = none_bad a stop never };
}) old now
  where
    opens : (stop : Stop) (last : List CallMade) → LastOf Open (Part 0) (Opening c.file) stop last → OpensInOrder (c.file ∷ []) last
    opens (BadLine part line why) last h = absurd h
    opens (Outside call spot) last h = subst (OpensInOrder (c.file ∷ [])) (sym h.2) (refl, refl)
    opens NoMemory last h = subst (OpensInOrder (c.file ∷ [])) (sym h) tt

    none_bad : (told : Told) (stop : Stop) → IsNoBadLine stop → IsBadOf c told stop
    none_bad told (BadLine part line why) h = absurd h
    none_bad told (Outside call spot) h = tt
    none_bad told NoMemory h = tt

pub goes_run_stops : (laws : FileLaws) (c : WindowCommand) (file : ℕ) (bytes : List ℕ) (ended : Bool) (rows notes : List ℕ) (stop : Stop) (old start now next : Option Told)
    → ((content more : List ℕ) → content ≡ bytes ++ more → MayCome ended more → IsBadIn content stop)
    → WhereTold (OpensFile c.file file) old start → WhereTold (HasRun c file bytes ended rows notes) start now → WhereTold (StepStops (IsCallIn (Part 0) file) stop) now next → WhereTold (Calling (RunStops c stop)) old next
goes_run_stops laws c file bytes ended rows notes stop None start now next bad o r s = tt
goes_run_stops laws c file bytes ended rows notes stop (Some old) None now next bad o r s = absurd o
goes_run_stops laws c file bytes ended rows notes stop (Some old) (Some start) None next bad o r s = absurd r
goes_run_stops laws c file bytes ended rows notes stop (Some old) (Some start) (Some now) None bad o r s = absurd s
goes_run_stops laws c file bytes ended rows notes stop (Some old) (Some start) (Some now) (Some next) bad o r s = run_stops laws c file bytes ended rows notes stop old start now next bad o r s

-- ---- which line is the first bad one
module _ (laws : LineLaws) (c : WindowCommand) (file : ℕ) (start now : Option Told) (lines : LinesValue) (w : WindowCounter) (p : Progress c file start now lines w) where
  bad_at : (content more : List ℕ) (line : List ℕ) (others : List (List ℕ)) (f : LineFault) (part n : ℕ) → content ≡ p.bytes ++ more → MayCome lines.ended more
      → lines_of (lines.rest ++ more) ≡ line ∷ others → part ≡ 0 → n ≡ lines.number + 1
      → ((length p.given < most_lines) × (event_line 0 (length p.given + 1) line ≡ Err f)) ⊎ ((most_lines ≤ length p.given) × (f ≡ fault.TooMany))
      → IsBadIn content (BadLine part n f)
  bad_at content more line others f part n is may next part_is n_is how =
      let parts : lines_of content ≡ p.given ++ line ∷ others = ap lines_of is ∙ p.cut more may ∙ ap (λ (l : List (List ℕ)). p.given ++ l) next in
      let number : n ≡ length p.given + 1 = n_is ∙ ap (λ (k : ℕ). k + 1) p.number in (
        part_is,
        elim how [
          | inl h ↦ (laws.bad 0 most_lines content p.given line others f p.good parts h.0 h.1).0 ∙ ap (λ (k : ℕ). Some (k, f)) (sym number)
          | inr h ↦ (laws.many 0 most_lines content p.given line others p.good parts h.0).0 ∙ ap (λ (g : LineFault). Some (length p.given + 1, g)) (sym h.1) ∙ ap (λ (k : ℕ). Some (k, f)) (sym number)
        ],
      )

  -- a line that the cutter refused
  pub bad_cut : (n part : ℕ) (f : LineFault) (lines' : LinesValue) → part ≡ 0 → NextIs lines (cut.Bad n f) lines' → (content more : List ℕ) → content ≡ p.bytes ++ more → MayCome lines.ended more → IsBadIn content (BadLine part n f)
  bad_cut n part fault.TooLong lines' part_is h content more is may =
      let found = h.2 more may in
      let room : length p.given < most_lines = omega (arith, h.0, h.1, p.most, p.number) in
      bad_at content more found.0 found.1 fault.TooLong part n is may found.2 part_is h.0 (inl (room, laws.long 0 (length p.given + 1) found.0 found.3))
  bad_cut n part fault.TooMany lines' part_is h content more is may =
      let found = h.2 more may in
      let full : most_lines ≤ length p.given = omega (arith, h.0, h.1, p.most, p.number) in
      bad_at content more found.0 found.1 fault.TooMany part n is may found.2 part_is h.0 (inr (full, refl))
  bad_cut n part (fault.BadByte at) lines' part_is h content more is may = absurd h
  bad_cut n part fault.Quote lines' part_is h content more is may = absurd h
  bad_cut n part fault.Fields lines' part_is h content more is may = absurd h
  bad_cut n part (fault.Number i) lines' part_is h content more is may = absurd h
  bad_cut n part (fault.Key f) lines' part_is h content more is may = absurd h
  bad_cut n part fault.KeyFull lines' part_is h content more is may = absurd h

  -- a line that was read and refused
  pub bad_read : (n : ℕ) (lines' : LinesValue) (stop : Stop) → NextIs lines (cut.Line n) lines' → IsBadLineAt n lines'.line stop → (content more : List ℕ) → content ≡ p.bytes ++ more → MayCome lines.ended more → IsBadIn content stop
  bad_read n lines' (BadLine part k f) next h content more is may =
      let number : n ≡ length p.given + 1 = next.0 ∙ ap (λ (j : ℕ). j + 1) p.number in
      let room : length p.given < most_lines = omega (arith, next.1, p.most, number) in
      bad_at content more lines'.line (lines_of (lines'.rest ++ more)) f part k is may (next.3 more may) h.0 (h.1 ∙ next.0)
      (inl (room, ap (λ (j : ℕ). event_line 0 j lines'.line) (sym number) ∙ h.2))
  bad_read n lines' (Outside call spot) next h content more is may = tt
  bad_read n lines' NoMemory next h content more is may = tt
