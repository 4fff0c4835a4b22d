-- That the calls of a command come in their order, and which of them a fault names.
use Rattle.std.proofs.Common.{◌≡◌, ℕ, suc, ◌+◌, ◌≤◌, List, [], ◌∷◌, ◌++◌, length, map, sum, Option, Some, refl, ap, sym, ◌∙◌, subst, arith, append-nil, append_assoc, inl, inr, All}
use Rattle.std.specs.Prelude.{slice_get}
use Rattle.std.proofs.lemmas.List.Elements.{All-append, All-cons, All-nil}
use Rattle.jet_file.specs.Outside.{CallMade, Opened, Read, Missed, Tried, Opening, Reading, Writing}
use Rattle.jet_file.specs.declared.outside.Out.TheVariants as out
use Rattle.jet_worker.specs.Calls.{ArePieces, EndsFailed, IsCallOf, IsEnd, ReadsOrWrites, Turn, opened_by, part_place, turn_calls}
use Rattle.jet_worker.specs.Stopping.{IsCallIn, LastIs, LastOf}
use Rattle.jet_worker.specs.declared.stop.Call.{Call}
use Rattle.jet_worker.specs.declared.stop.Call.TheVariants as call
use Rattle.jet_worker.specs.declared.stop.Spot.{Spot}
use Rattle.jet_worker.specs.declared.stop.Spot.TheVariants.{Job, Part, Rows, Notes}
use Rattle.jet_worker.specs.declared.stop.Stop.{Stop}
use Rattle.jet_worker.specs.declared.stop.Stop.TheVariants.{BadLine, Outside, NoMemory}
use Rattle.jet_worker.proofs.CallLaws.{call_named, no_calls, none_turn, opened_by-append, opened_by_turn}
use Rattle.jet_cli.specs.CallOrder.{AreBeforeEnd, ReadsJob, StopNamed, check_place, job_place, most_text}

-- ---- the calls for a job file

-- a job file was opened and had a turn, and then came the last
pub reads_job : (name : List ℕ) (file : ℕ) (counts lengths : List ℕ) (last : List CallMade) → ArePieces counts → sum counts ≤ most_text → AreBeforeEnd counts → All ReadsOrWrites last → IsEnd last
    → ReadsJob name (Opened name file ∷ (turn_calls (record { file = file; counts = counts; lengths = lengths }) ++ last))
reads_job name file counts lengths last pieces few live none end =
    let t : Turn = record { file = file; counts = counts; lengths = lengths } in
    record {
      order = record {
        opens = (refl, All-append ReadsOrWrites (turn_calls t) last (none_turn t pieces) none);
        opened = (name, file) ∷ [];
        turns = t ∷ [];
        waiting = [];
        last = last;
        calls_are = ap (λ (l : List CallMade). Opened name file ∷ (l ++ last)) (sym (append-nil (turn_calls t)));
        order = refl;
        end = end;
      };
      live = All-cons (λ (t : Turn). AreBeforeEnd t.counts) t [] live (All-nil (λ (t : Turn). AreBeforeEnd t.counts));
      few = All-cons (λ (t : Turn). sum t.counts ≤ most_text) t [] few (All-nil (λ (t : Turn). sum t.counts ≤ most_text));
    }

-- it was opened and read
pub reads_only : (name : List ℕ) (file : ℕ) (counts : List ℕ) → ArePieces counts → sum counts ≤ most_text → AreBeforeEnd counts → ReadsJob name (Opened name file ∷ map (Read file) counts)
reads_only name file counts pieces few live =
    subst (λ (l : List CallMade). ReadsJob name (Opened name file ∷ l)) (append-nil (map (Read file) counts ++ []) ∙ append-nil (map (Read file) counts))
    (reads_job name file counts [] [] pieces few live (All-nil ReadsOrWrites) (inl refl))

-- its opening failed, or wanted memory
pub unopened : (name : List ℕ) (stop : Stop) (last : List CallMade) → LastOf call.Open Job (Opening name) stop last → ReadsJob name last
unfolding no_calls
unopened name (BadLine part line why) last h = absurd h
unopened name (Outside call spot) last h =
    subst (ReadsJob name) (sym h.2)
    (record {
      order = record { opens = (refl, refl); opened = []; turns = []; waiting = []; last = Missed (Opening name) ∷ []; calls_are = refl; order = refl; end = inr (Opening name, refl) };
      live = All-nil (λ (t : Turn). AreBeforeEnd t.counts);
      few = All-nil (λ (t : Turn). sum t.counts ≤ most_text);
    })
unopened name NoMemory last h = subst (ReadsJob name) (sym h) (record { order = no_calls (name ∷ []); live = All-nil (λ (t : Turn). AreBeforeEnd t.counts); few = All-nil (λ (t : Turn). sum t.counts ≤ most_text) })

-- ---- which call a fault names

-- the first opening failed
pub opening_named : (place_of : Spot → Option ℕ) (mine : Spot) (name : List ℕ) (stop : Stop) (last : List CallMade) → place_of mine ≡ Some 0 → LastOf call.Open mine (Opening name) stop last → StopNamed place_of stop last
opening_named place_of mine name (BadLine part line why) last place h = tt
opening_named place_of mine name (Outside call spot) last place h = record {
  before = [];
  tried = Opening name;
  calls_are = h.2;
  is = subst (λ (k : Call). IsCallOf place_of [] k spot (Opening name)) (sym h.0) (ap place_of h.1 ∙ place);
}
opening_named place_of mine name NoMemory last place h = tt

-- a call of the first file that was opened failed, after these
pub named_after : (place_of : Spot → Option ℕ) (mine : Spot) (name : List ℕ) (file : ℕ) (more : List CallMade) (stop : Stop) (last : List CallMade) → place_of mine ≡ Some 0 → LastIs (IsCallIn mine file) stop last
    → StopNamed place_of stop (Opened name file ∷ (more ++ last))
named_after place_of mine name file more (BadLine part line why) last place h = tt
named_after place_of mine name file more (Outside call spot) last place h = record {
  before = Opened name file ∷ more;
  tried = h.0;
  calls_are = ap (λ (l : List CallMade). Opened name file ∷ (more ++ l)) h.1;
  is = call_named place_of (Opened name file ∷ more) mine 0 file call spot h.0 place refl h.2;
}
named_after place_of mine name file more NoMemory last place h = tt

-- the call that is named for a job file is so for a check
call_first : (before : List CallMade) (call : Call) (spot : Spot) (tried : Tried) → IsCallOf job_place before call spot tried → IsCallOf check_place before call spot tried
call_first before call.Open Job (Opening name) h = h
call_first before call.Open (Part p) (Opening name) h = absurd (cc h)
call_first before call.Open Rows (Opening name) h = absurd (cc h)
call_first before call.Open Notes (Opening name) h = absurd (cc h)
call_first before call.Open spot (Reading file) h = absurd h
call_first before call.Open spot (Writing to) h = absurd h
call_first before call.Read Job (Reading file) h = h
call_first before call.Read (Part p) (Reading file) h = absurd h
call_first before call.Read Rows (Reading file) h = absurd h
call_first before call.Read Notes (Reading file) h = absurd h
call_first before call.Read spot (Opening name) h = absurd h
call_first before call.Read spot (Writing to) h = absurd h
call_first before call.Write Job tried h = absurd h
call_first before call.Write (Part p) tried h = absurd h
call_first before call.Write Rows (Opening name) h = absurd h
call_first before call.Write Rows (Reading file) h = absurd h
call_first before call.Write Rows (Writing out.Rows) h = tt
call_first before call.Write Rows (Writing out.Notes) h = absurd h
call_first before call.Write Notes (Opening name) h = absurd h
call_first before call.Write Notes (Reading file) h = absurd h
call_first before call.Write Notes (Writing out.Rows) h = absurd h
call_first before call.Write Notes (Writing out.Notes) h = tt

pub fails_first : (call : Call) (spot : Spot) (calls : List CallMade) → EndsFailed job_place call spot calls → EndsFailed check_place call spot calls
fails_first call spot calls h = record { before = h.before; tried = h.tried; calls_are = h.calls_are; is = call_first h.before call spot h.tried h.is }

-- the call that is named for data files is so behind the job file's opening
call_later : (before all : List CallMade) (file : ℕ) (call : Call) (spot : Spot) (tried : Tried) → opened_by all ≡ file ∷ opened_by before → IsCallOf part_place before call spot tried → IsCallOf check_place all call spot tried
call_later before all file call.Open (Part p) (Opening name) is h = ap Some (ap (λ (n : ℕ). n + 1) (same p (length (opened_by before)) h) ∙ one_more ∙ sym (ap length is))
  where
    same : (p n : ℕ) → Some p ≡ Some n → p ≡ n
    same p n h = cc h

    one_more : length (opened_by before) + 1 ≡ length (file ∷ opened_by before)
    one_more = omega arith
call_later before all file call.Open Job (Opening name) is h = absurd (cc h)
call_later before all file call.Open Rows (Opening name) is h = absurd (cc h)
call_later before all file call.Open Notes (Opening name) is h = absurd (cc h)
call_later before all file call.Open spot (Reading other) is h = absurd h
call_later before all file call.Open spot (Writing to) is h = absurd h
call_later before all file call.Read (Part p) (Reading other) is h =
    ap (λ (l : List ℕ). slice_get l (p + 1)) is ∙ ap (slice_get (file ∷ opened_by before)) (one_more p) ∙ h
  where
    one_more : (k : ℕ) → k + 1 ≡ suc k
    one_more k = omega arith
call_later before all file call.Read Job (Reading other) is h = absurd h
call_later before all file call.Read Rows (Reading other) is h = absurd h
call_later before all file call.Read Notes (Reading other) is h = absurd h
call_later before all file call.Read spot (Opening name) is h = absurd h
call_later before all file call.Read spot (Writing to) is h = absurd h
call_later before all file call.Write Job tried is h = absurd h
call_later before all file call.Write (Part p) tried is h = absurd h
call_later before all file call.Write Rows (Opening name) is h = absurd h
call_later before all file call.Write Rows (Reading other) is h = absurd h
call_later before all file call.Write Rows (Writing out.Rows) is h = tt
call_later before all file call.Write Rows (Writing out.Notes) is h = absurd h
call_later before all file call.Write Notes (Opening name) is h = absurd h
call_later before all file call.Write Notes (Reading other) is h = absurd h
call_later before all file call.Write Notes (Writing out.Rows) is h = absurd h
call_later before all file call.Write Notes (Writing out.Notes) is h = tt

pub fails_later : (name : List ℕ) (file : ℕ) (counts : List ℕ) (call : Call) (spot : Spot) (later : List CallMade) → EndsFailed part_place call spot later
    → EndsFailed check_place call spot ((Opened name file ∷ map (Read file) counts) ++ later)
fails_later name file counts call spot later h =
    let first : List CallMade = Opened name file ∷ map (Read file) counts in
    let turn : Turn = record { file = file; counts = counts; lengths = [] } in
    let none : opened_by (map (Read file) counts) ≡ [] = ap opened_by (sym (append-nil (map (Read file) counts))) ∙ opened_by_turn turn in
    record {
      before = first ++ h.before;
      tried = h.tried;
      calls_are = ap (λ (l : List CallMade). first ++ l) h.calls_are ∙ sym (append_assoc first h.before (Missed h.tried ∷ []));
      is = call_later h.before (first ++ h.before) file call spot h.tried (opened_by-append first h.before ∙ ap (λ (l : List ℕ). file ∷ (l ++ opened_by h.before)) none) h.is;
    }
