-- How `run` ended, in the words of the top call.
use Rattle.std.proofs.Common.{◌≡◌, ℕ, Bool, true, Option, Some, None, Result, Ok, Err, OnOk}
use Rattle.std.specs.Prelude.{IfErr, IsSomeAnd}
use Rattle.jet_file.specs.Outside.{Told, WhereTold}
use Rattle.jet_flow.specs.DataFiles.{file_name}
use Rattle.jet_lines.specs.declared.fault.LineFault.{LineFault}
use Rattle.jet_worker.specs.Calls.{Calling}
use Rattle.jet_worker.specs.CheckText.{first_bad}
use Rattle.jet_worker.specs.Checked.{IsGood}
use Rattle.jet_worker.specs.declared.stop.Stop.TheVariants.{BadLine, Outside, NoMemory}
use Rattle.jet_cli.specs.CallOrder.{IsInOrder}
use Rattle.jet_cli.specs.CheckedJob.{AreGoodFiles, LacksFiles}
use Rattle.jet_cli.specs.Commands.{HasBegun, StaysQuiet}
use Rattle.jet_cli.specs.JobChecks.{HasChecks}
use Rattle.jet_cli.specs.JobWords.{JobCommand}
use Rattle.jet_cli.specs.Refusals.{RefusalIs, text_refusal}
use Rattle.jet_cli.specs.RunJob.{IsBadLineInRun, IsRunJob, RunHalts, run_end}
use Rattle.jet_cli.specs.Words.{RunOf}
use Rattle.jet_cli.specs.declared.halt.Halt.{Halt}
use Rattle.jet_cli.specs.declared.halt.Halt.TheVariants.{Refused, Stopped}
use Rattle.jet_cli.specs.declared.status.Refusal.{Refusal}
use Rattle.jet_cli.specs.inner.Halting.{HaltOutcome, IsKnown, IsOutsideHalt}
use Rattle.jet_file.proofs.GoesLaws.{goes_weaker}
use Rattle.jet_cli.proofs.FactLemmas.{all_at, bad_not_good, check_not_refused, job_failed, job_refused, lacks_files_of, weaker_ok}
use Rattle.jet_cli.proofs.MeetLemmas.{Begun, Facts, Halted}
use Rattle.jet_cli.proofs.RunJobLemmas.{job_run}

-- in good files no line is bad
bad_in_good : (c : JobCommand) (part line : ℕ) (why : LineFault) (old new : Option Told) → WhereTold (Calling (IsBadLineInRun c part line why)) old new → IsSomeAnd old (AreGoodFiles c) → ⊥
bad_in_good c part line why None new h good = good
bad_in_good c part line why (Some a) None h good = h
bad_in_good c part line why (Some a) (Some b) h good =
    let job = h.did.begun.job in
    let bad = h.did.bad in
    bad_not_good (a.content (file_name bad.file)) (first_bad job.checks (part, bad.file)) (line, why) (all_at (IsGood job.checks a) job.checks.files part bad.file bad.is (good job)) bad.bad

module _ (c : JobCommand) (old now : Option Told) where
  run_halted : (same : Type 0) (halt : Halt) → WhereTold (λ a b. IsKnown (text_refusal c.options (a.content c.job)) halt) old now → WhereTold (Calling (RunHalts c halt)) old now → Halted (RunOf c) old now same halt
  run_halted same (Refused why) known h = job_refused c (run_end c) old now same why h
  run_halted same (Stopped (BadLine p l w)) known h =
      let bad : WhereTold (Calling (IsBadLineInRun c p l w)) old now =
      goes_weaker (Calling (RunHalts c (Stopped (BadLine p l w)))) (Calling (IsBadLineInRun c p l w)) (λ a b k. record { calls = k.calls; trace = k.trace; did = k.did.why }) old now h in (
        bad,
        λ cause is. check_not_refused c cause old now (goes_weaker (Calling (IsBadLineInRun c p l w)) (λ a b. HasChecks c a) (λ a b k. k.did.begun.job) old now bad) is,
        λ good. bad_in_good c p l w old now bad good,
      )
  run_halted same (Stopped (Outside call spot)) known h = job_failed c (run_end c) old now same call spot known h
  run_halted same (Stopped NoMemory) known h = tt

  run_halted_of : {T : Type 0} (r : Result T Halt) (same : Type 0) → IfErr r (λ halt. WhereTold (λ a b. IsKnown (text_refusal c.options (a.content c.job)) halt) old now)
      → IfErr r (λ halt. WhereTold (Calling (RunHalts c halt)) old now) → IfErr r (Halted (RunOf c) old now same)
  run_halted_of (Ok x) same known h = tt
  run_halted_of (Err halt) same known h = run_halted same halt known h

  -- the calls of `run`, however it ended
  run_calls : (before after : ℕ → Bool) (r : Result (Unit {0}) Halt) → OnOk r (WhereTold (Calling (IsRunJob c before after)) old now) → IfErr r (λ halt. WhereTold (Calling (RunHalts c halt)) old now)
      → WhereTold (Calling (IsInOrder (RunOf c))) old now
  run_calls before after (Ok d) done halt =
      goes_weaker (Calling (IsRunJob c before after)) (Calling (IsInOrder (RunOf c))) (λ a b h. record {
        calls = h.calls;
        trace = h.trace;
        did = job_run c a h.calls h.did.order.first h.did.order.later h.did.order.calls_are h.did.order.job h.did.job h.did.order.files.order;
      }) old now done
  run_calls before after (Err e) done halt =
      goes_weaker (Calling (RunHalts c e)) (Calling (IsInOrder (RunOf c))) (λ a b h. record { calls = h.calls; trace = h.trace; did = h.did.order }) old now halt

  -- and what it has written then
  run_begun : (r : Result (Unit {0}) Halt) → IfErr r (λ halt. WhereTold (Calling (RunHalts c halt)) old now) → IfErr r (Begun (RunOf c) old now)
  run_begun (Ok d) h = tt
  run_begun (Err (Refused why)) h = tt
  run_begun (Err (Stopped (BadLine p l w))) h = tt
  run_begun (Err (Stopped (Outside call spot))) h = goes_weaker (Calling (RunHalts c (Stopped (Outside call spot)))) (HasBegun (RunOf c)) (λ a b k. k.did.why.1) old now h
  run_begun (Err (Stopped NoMemory)) h = goes_weaker (Calling (RunHalts c (Stopped NoMemory))) (HasBegun (RunOf c)) (λ a b k. k.did.why) old now h

pub run_facts : {S : Type 0} (told : S → Option Told) (opened : S → ℕ → Bool) (steady : S → Bool) (faults : S → ℕ) (c : JobCommand) (old now : S) (r : Result (Unit {0}) Halt)
    → OnOk r (WhereTold (Calling (IsRunJob c (opened old) (opened now))) (told old) (told now)) → IfErr r (λ halt. WhereTold (Calling (RunHalts c halt)) (told old) (told now))
    → IfErr r (λ halt. WhereTold (λ a b. IsKnown (text_refusal c.options (a.content c.job)) halt) (told old) (told now))
    → HaltOutcome steady faults old now r → (steady old ≡ true → IfErr r (λ halt. IsOutsideHalt halt → LacksFiles c (told old)))
    → Facts told opened steady faults (RunOf c) old now r
run_facts told opened steady faults c old now r done halt known outcome works =
    let ran : Told → Told → Type 0 = Calling (IsRunJob c (opened old) (opened now)) in
    let has_run : Type 0 = WhereTold ran (told old) (told now) in
    let nothing : Type 0 = WhereTold (StaysQuiet (RunOf c)) (told old) (told now) in
    let quiet : OnOk r nothing = weaker_ok r has_run nothing (goes_weaker ran (StaysQuiet (RunOf c)) (λ a b k. tt) (told old) (told now)) done in
    record {
      calls = run_calls c (told old) (told now) (opened old) (opened now) r done halt;
      begun = run_begun c (told old) (told now) r halt;
      done = done;
      quiet = quiet;
      in_time = quiet;
      valid = weaker_ok r has_run ((why : Refusal) → RefusalIs (Some why) (RunOf c) (told old) → ⊥)
          (λ k why is. check_not_refused c why (told old) (told now) (goes_weaker ran (λ a b. HasChecks c a) (λ a b q. q.did.job) (told old) (told now) k) is) done;
      halted = run_halted_of c (told old) (told now) r (now ≡ old) known halt;
      outcome = outcome;
      works = λ s. lacks_files_of r c (told old) (works s);
    }
