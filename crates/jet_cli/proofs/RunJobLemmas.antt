-- What the command `run` comes to.
use Rattle.std.proofs.Common.{◌≡◌, ℕ, List, ◌++◌, map, Bool, true, Some, ap, sym, ◌∙◌, subst, refl, All, inl, inr, Option}
use Rattle.std.specs.Prelude.{◌≢◌, IsSome, IsSomeAnd}
use Rattle.std.proofs.lemmas.List.Elements.{All-weaker}
use Rattle.jet_coordinator.specs.Runs.{HasBegunPrinting, HasPrinted, HasRun, IsFirstBadLine, IsReadOut, RunStops}
use Rattle.jet_file.specs.Outside.{Told, CallMade, WhereTold, AddsNumber}
use Rattle.jet_file.specs.Text.{late_text, rows_text}
use Rattle.jet_file.specs.declared.outside.Out.TheVariants as out
use Rattle.jet_flow.specs.DataFiles.{DataFile, file_name}
use Rattle.jet_flow.specs.Inflows.{windows}
use Rattle.jet_items.specs.Kinds.{lates_of}
use Rattle.jet_items.specs.Rows.{Window}
use Rattle.jet_lines.specs.declared.fault.LineFault.{LineFault}
use Rattle.jet_plan.specs.declared.dag.Dag.{Dag}
use Rattle.jet_plan.specs.declared.plan.Plan.{Plan}
use Rattle.jet_worker.specs.CheckText.{Checks, first_bad}
use Rattle.jet_worker.specs.Checked.{IsCheckOf, names_of, numbered}
use Rattle.jet_worker.specs.Calls.{Calling, OpensInOrder}
use Rattle.jet_worker.specs.declared.stop.Stop.{Stop}
use Rattle.jet_worker.specs.declared.stop.Stop.TheVariants.{BadLine, Outside, NoMemory}
use Rattle.jet_worker.proofs.CallLaws.{opens_none}
use Rattle.jet_cli.specs.CallOrder.{ReadsJob, RunsJob, data_names}
use Rattle.jet_cli.specs.CheckedJob.{WhyHalted}
use Rattle.jet_cli.specs.JobChecks.{HasChecks}
use Rattle.jet_cli.specs.JobFiles.{ReadHalts, ReadsPlan}
use Rattle.jet_cli.specs.JobWords.{JobCommand}
use Rattle.jet_cli.specs.RunJob.{BeginsRun, IsRunJob, RunHalts, run_end}
use Rattle.jet_cli.specs.declared.halt.Halt.{Halt}
use Rattle.jet_cli.specs.declared.halt.Halt.TheVariants.{Stopped}
use Rattle.jet_cli.specs.inner.Halting.{IsNoBadHalt}
use Rattle.jet_cli.specs.inner.RangeLaws.{AllowsLines}
use Rattle.jet_cli.proofs.CheckLemmas.{dag_is, files_are, fresh_before, goes_of_all, goes_unread_job, good_same, job_alone, job_calls, not_new, plan_valid, read_whole, then_calls}
use Rattle.jet_cli.proofs.OrderLemmas.{fails_later, reads_only}

-- ---- from the reading of the job file on
module _ (k : Checks) (ws : List Window) (old mid : Told) (kept : mid.content ≡ old.content) (written : mid.written ≡ old.written) where
  printed_same : (new : Told) → HasPrinted ws mid new → HasPrinted ws old new
  printed_same new p = record {
    came = p.came;
    printed = p.printed;
    each = p.each;
    rows = p.rows ∙ ap (λ w. w out.Rows ++ rows_text ws p.printed) written;
    notes = p.notes ∙ ap (λ w. w out.Notes ++ late_text ws (lates_of p.came)) written;
  }

  printing_same : (new : Told) → HasBegunPrinting ws mid new → HasBegunPrinting ws old new
  printing_same new p = record {
    came = p.came;
    printed = p.printed;
    held = p.held;
    each = p.each;
    rows_front = p.rows_front;
    rows_rest = p.rows_rest;
    rows_parts = p.rows_parts;
    notes_front = p.notes_front;
    notes_rest = p.notes_rest;
    notes_parts = p.notes_parts;
    rows = p.rows ∙ ap (λ w. w out.Rows ++ p.rows_front) written;
    notes = p.notes ∙ ap (λ w. w out.Notes ++ p.notes_front) written;
  }

  first_bad_same : (part line : ℕ) (why : LineFault) → IsFirstBadLine k part line why mid → IsFirstBadLine k part line why old
  first_bad_same part line why b = record {
    file = b.file;
    is = b.is;
    bad = subst (λ (ct : List ℕ → Option (List ℕ)). IsSomeAnd (ct (file_name b.file)) (λ content. first_bad k (part, b.file) content ≡ Some (line, why))) kept b.bad;
    there = subst (λ (ct : List ℕ → Option (List ℕ)). All (λ (f : DataFile). IsSome (ct (file_name f))) k.files) kept b.there;
  }

  module _ (file : ℕ) (before opened now : ℕ → Bool) (calls : List CallMade) (new : Told) (adds : AddsNumber file before opened) where
    read_out_more : (p : ℕ × DataFile) → IsReadOut opened now calls new p → IsReadOut before now calls new p
    read_out_more p h = record {
      at = h.at;
      opening = h.opening;
      fresh = fresh_before k old mid kept written file before opened adds h.at h.fresh;
      opened = h.opened;
      name = h.name;
      end = h.end;
    }

    run_same : ((other : ℕ) → other ≢ file → mid.place other ≡ old.place other) → HasRun k ws opened now calls mid new → HasRun k ws before now calls old new
    run_same others d = record {
      order = d.order;
      good = good_same k old mid kept written (numbered k) d.good;
      read = All-weaker (IsReadOut opened now calls new) (IsReadOut before now calls new) read_out_more (numbered k) d.read;
      printed = printed_same new d.printed;
      kept = d.kept ∙ kept;
      opened = λ n was. d.opened n (adds.others n (other n was) ∙ was);
      places = λ n was. d.places n (adds.others n (other n was) ∙ was) ∙ others n (other n was);
    }
      where
        other : (n : ℕ) → before n ≡ true → n ≢ file
        other = not_new k old mid kept written file before opened adds

-- ---- the run of `run`
pub goes_run : (allows : AllowsLines) (c : JobCommand) (plan : Plan) (before opened now : ℕ → Bool) → plan_valid plan → (old mid new : Option Told) → WhereTold (ReadsPlan c plan before opened) old mid
    → ((k : Checks) → IsCheckOf plan.dag plan.settings k → WhereTold (Calling (HasRun k (windows plan.dag) opened now)) mid new) → WhereTold (Calling (IsRunJob c before now)) old new
goes_run allows c plan before opened now valid =
    goes_of_all allows c plan (λ k. Calling (HasRun k (windows plan.dag) opened now)) (Calling (IsRunJob c before now)) before opened valid
    (λ a b d r h k. record {
      calls = job_calls c.job r.file r.counts ++ k.calls;
      trace = then_calls a.trace b.trace d.trace (job_calls c.job r.file r.counts) k.calls r.trace k.trace;
      did = record {
        job = h;
        read = read_whole c plan before opened now a b d r h (k.did.opened r.file r.opened.added) (k.did.places r.file r.opened.added);
        order = record {
          first = job_calls c.job r.file r.counts;
          later = k.calls;
          calls_are = refl;
          job = reads_only c.job r.file r.counts r.pieces r.few r.live;
          files = subst (λ (g : Dag). HasRun h.checks (windows g) before now k.calls a d) (dag_is c plan before opened a b r h)
              (run_same h.checks (windows plan.dag) a b r.kept r.written r.file before opened now k.calls d r.opened r.others k.did);
        };
      };
    })

-- the calls for the job file, and then those for the data files
pub job_run : (c : JobCommand) (told : Told) (calls first later : List CallMade) → calls ≡ first ++ later → ReadsJob c.job first → (h : HasChecks c told) → OpensInOrder (names_of h.checks) later → RunsJob c told calls
job_run c told calls first later calls_are job h order = record {
  first = first;
  later = later;
  calls_are = calls_are;
  job = job;
  files = subst (λ (names : List (List ℕ)). OpensInOrder names later) (sym (ap (map file_name) (files_are c told h))) order;
}

-- why the run stopped, behind the calls for the job file
why_stopped : (c : JobCommand) (stop : Stop) (file : ℕ) (counts : List ℕ) (a b d : Told) → b.content ≡ a.content → b.written ≡ a.written → (h : HasChecks c a) (later : List CallMade) → RunStops h.checks (windows h.job.dag) stop later b d
    → WhyHalted c (run_end c) (Stopped stop) (job_calls c.job file counts ++ later) a d
why_stopped c stop file counts a b d kept written h later k = by_stop stop k
  where
    begun : HasBegunPrinting (windows h.job.dag) b d → BeginsRun c a d
    begun p = record { job = h; printed = printing_same h.checks (windows h.job.dag) a b kept written d p }

    by_stop : (s : Stop) → RunStops h.checks (windows h.job.dag) s later b d → WhyHalted c (run_end c) (Stopped s) (job_calls c.job file counts ++ later) a d
    by_stop (BadLine part line why) k = record { begun = begun k.begun; bad = first_bad_same h.checks (windows h.job.dag) a b kept written part line why k.why }
    by_stop (Outside call spot) k = (fails_later c.job file counts call spot later k.why, inr (begun k.begun))
    by_stop NoMemory k = inr (begun k.begun)

pub goes_run_stops : (allows : AllowsLines) (c : JobCommand) (plan : Plan) (stop : Stop) (before opened : ℕ → Bool) → plan_valid plan → (old mid new : Option Told) → WhereTold (ReadsPlan c plan before opened) old mid
    → ((k : Checks) → IsCheckOf plan.dag plan.settings k → WhereTold (Calling (RunStops k (windows plan.dag) stop)) mid new) → WhereTold (Calling (RunHalts c (Stopped stop))) old new
goes_run_stops allows c plan stop before opened valid =
    goes_of_all allows c plan (λ k. Calling (RunStops k (windows plan.dag) stop)) (Calling (RunHalts c (Stopped stop))) before opened valid
    (λ a b d r h k.
    let stops : RunStops h.checks (windows h.job.dag) stop k.calls b d = subst (λ (g : Dag). RunStops h.checks (windows g) stop k.calls b d) (dag_is c plan before opened a b r h) k.did in
    record {
      calls = job_calls c.job r.file r.counts ++ k.calls;
      trace = then_calls a.trace b.trace d.trace (job_calls c.job r.file r.counts) k.calls r.trace k.trace;
      did = record {
        order = job_run c a (job_calls c.job r.file r.counts ++ k.calls) (job_calls c.job r.file r.counts) k.calls refl (reads_only c.job r.file r.counts r.pieces r.few r.live) h stops.order;
        why = why_stopped c stop r.file r.counts a b d r.kept r.written h k.calls stops;
      };
    })

-- the reading of the job file ended early
pub goes_run_unread : (c : JobCommand) (halt : Halt) (old new : Option Told) → IsNoBadHalt halt → WhereTold (Calling (ReadHalts c halt)) old new → WhereTold (Calling (RunHalts c halt)) old new
goes_run_unread c = goes_unread_job c (run_end c) (λ told calls job. job_alone c (OpensInOrder (data_names c told)) calls (opens_none (data_names c told)) job) (λ a b same. inl same)
