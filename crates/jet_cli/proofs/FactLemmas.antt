-- How each command ended, in the words of the top call.
use Rattle.std.proofs.Common.{◌≡◌, ℕ, List, [], append-nil, Bool, true, Option, Some, None, Result, Ok, Err, refl, ap, sym, ◌∙◌, subst, OnOk, pos, ◌≤ℤ◌, ◌<◌, ◌+◌, length, get_or, inl, inr, arith}
use Rattle.std.specs.Prelude.{IfErr, IfSome, IsSome, IsSomeAnd, option_map, slice_get}
use Rattle.jet_file.specs.Headline.{WritesNothing}
use Rattle.jet_file.specs.Outside.{Told, WhereTold, LacksFile}
use Rattle.jet_worker.specs.Calls.{Calling}
use Rattle.jet_worker.specs.declared.stop.Call.{Call}
use Rattle.jet_worker.specs.declared.stop.Spot.{Spot}
use Rattle.jet_worker.specs.declared.stop.Stop.TheVariants.{BadLine, Outside, NoMemory}
use Rattle.jet_cli.specs.CallOrder.{IsInOrder}
use Rattle.jet_cli.specs.BaseJob.{base_fault}
use Rattle.jet_flow.specs.DataFiles.{DataFile, file_name}
use Rattle.jet_worker.specs.CheckText.{first_bad}
use Rattle.jet_worker.specs.Checked.{IsGood, numbered}
use Rattle.jet_cli.specs.CheckedJob.{AreGoodFiles, CheckHalts, EarlyEnd, HasDataFiles, IsBadLineOf, IsCheckedJob, JobHalts, LacksFiles, check_end}
use Rattle.jet_cli.specs.JobChecks.{HasChecks}
use Rattle.jet_cli.specs.JobData.{files_of}
use Rattle.jet_lines.specs.declared.fault.LineFault.{LineFault}
use Rattle.std.specs.List.{All, Any, enumerate_from}
use Rattle.std.proofs.lemmas.Option.{get_or_from_slice_get, slice_get_within}
use Rattle.std.proofs.lemmas.List.FromFn.{get_or-enumerate_from, length-enumerate_from}
use Rattle.jet_cli.specs.Commands.{HasBegun, StaysQuiet}
use Rattle.jet_cli.specs.Done.{IsDone, IsQuiet, IsQuietInTime}
use Rattle.jet_cli.specs.inner.Halting.{HaltOutcome, IsKnown, IsNoBadHalt, IsOutsideHalt, IsRefusal}
use Rattle.jet_cli.proofs.EarlyLemmas.{goes_unread}
use Rattle.jet_cli.specs.JobWords.{JobCommand}
use Rattle.jet_cli.specs.LineStops.{BaseHalts, IsFirstBadLine, RunStops}
use Rattle.jet_cli.specs.Planned.{IsJobRead, IsPlanned, PlanHalts}
use Rattle.jet_cli.specs.Refusals.{RefusalIs, base_refusal, job_refusal, text_refusal}
use Rattle.jet_cli.specs.Words.{WindowCommand, WindowOf, PlanOf, CheckOf}
use Rattle.jet_cli.specs.declared.halt.Halt.{Halt}
use Rattle.jet_cli.specs.declared.halt.Halt.TheVariants.{Refused, Stopped}
use Rattle.jet_cli.specs.declared.status.Refusal.{Refusal}
use Rattle.jet_cli.specs.declared.status.Refusal.TheVariants as refusal
use Rattle.jet_laws.specs.InTime.{NoneIsBehind}
use Rattle.jet_cli.proofs.AnswerLemmas.{in_time_is, never_bad, quiet_is}
use Rattle.jet_file.proofs.GoesLaws.{goes_same, goes_weaker}
use Rattle.jet_cli.proofs.MeetLemmas.{Begun, Facts, Fails, Halted}
use Rattle.jet_cli.proofs.CheckLemmas.{job_checked, turns_all}

-- where the file is there, it does not lack
lacks_not : (name : List ℕ) (told : Option Told) → LacksFile name told → IsSomeAnd told (λ t. IsSome (t.content name)) → ⊥
lacks_not name None lacks has = has
lacks_not name (Some t) lacks has = cc (subst IsSome lacks has)

lacks_of : {T : Type 0} (r : Result T Halt) (name : List ℕ) (told : Option Told) → IfErr r (λ halt. IsOutsideHalt halt → LacksFile name told)
    → IfErr r (λ halt. IsOutsideHalt halt → IsSomeAnd told (λ t. IsSome (t.content name)) → ⊥)
lacks_of (Ok x) name told h = tt
lacks_of (Err e) name told h = λ is. lacks_not name told (h is)

pub weaker_ok : {T : Type 0} (r : Result T Halt) (P Q : Type 0) → (P → Q) → OnOk r P → OnOk r Q
weaker_ok (Ok x) P Q f h = f h
weaker_ok (Err e) P Q f h = tt

-- ---- `window`
no_refusal : (c : WindowCommand) (why : Refusal) → base_fault c ≡ None → base_refusal c ≡ Some why → ⊥
no_refusal c why none h = cc (sym (ap (option_map refusal.Plan) none) ∙ h)

base_halted : (c : WindowCommand) (old now : Option Told) (same : Type 0) → (same → now ≡ old) → (halt : Halt) → (IsRefusal halt → same) → BaseHalts c old now halt → Halted (WindowOf c) old now same halt
base_halted c old now same untold (Refused why) untouched h =
    (h, subst (λ (n : Option Told). WhereTold WritesNothing old n) (sym (untold (untouched tt))) (goes_same WritesNothing (λ a. refl) old), λ none. untouched tt)
base_halted c old now same untold (Stopped (BadLine p l w)) untouched h =
    let bad : WhereTold (λ a b. IsFirstBadLine c p l w a) old now = goes_weaker (Calling (RunStops c (BadLine p l w))) (λ a b. IsFirstBadLine c p l w a) (λ a b s. s.did.bad) old now h.0 in
    (bad, λ cause is. no_refusal c cause h.1 is, λ good. never_bad c old now p l w good bad)
base_halted c old now same untold (Stopped (Outside call spot)) untouched h =
    (goes_weaker (Calling (RunStops c (Outside call spot))) (Fails (WindowOf c) call spot) (λ a b s. record { calls = s.calls; trace = s.trace; did = s.did.fails }) old now h.0, λ cause is. absurd (no_refusal c cause h.1 is))
base_halted c old now same untold (Stopped NoMemory) untouched h = tt

base_halted_of : {T : Type 0} (r : Result T Halt) (c : WindowCommand) (old now : Option Told) (same : Type 0) → (same → now ≡ old) → IfErr r (λ halt. IsRefusal halt → same) → IfErr r (BaseHalts c old now)
    → IfErr r (Halted (WindowOf c) old now same)
base_halted_of (Ok x) c old now same untold untouched h = tt
base_halted_of (Err halt) c old now same untold untouched h = base_halted c old now same untold halt untouched h

-- the calls of `window`, however it ended
base_calls : (c : WindowCommand) (before after : ℕ → Bool) (old now : Option Told) (r : Result (Unit {0}) Halt) (same : Type 0) → (same → now ≡ old) → OnOk r (WhereTold (IsDone c before after) old now) → IfErr r (λ halt. IsRefusal halt → same)
    → IfErr r (BaseHalts c old now) → WhereTold (Calling (IsInOrder (WindowOf c))) old now
base_calls c before after old now (Ok d) same untold done untouched halt =
    goes_weaker (IsDone c before after) (Calling (IsInOrder (WindowOf c))) (λ a b h. record { calls = h.pace.calls; trace = h.pace.trace; did = (h.pace.opens, h.pace.ready) }) old now done
base_calls c before after old now (Err (Refused why)) same untold done untouched halt =
    subst (λ (n : Option Told). WhereTold (Calling (IsInOrder (WindowOf c))) old n) (sym (untold (untouched tt))) (goes_same (Calling (IsInOrder (WindowOf c))) (λ a. record { calls = []; trace = sym (append-nil a.trace); did = (tt, λ content file is opened. absurd (cc opened)) }) old)
base_calls c before after old now (Err (Stopped stop)) same untold done untouched halt =
    goes_weaker (Calling (RunStops c stop)) (Calling (IsInOrder (WindowOf c))) (λ a b h. record { calls = h.calls; trace = h.trace; did = (h.did.opens, h.did.ready) }) old now halt.0

-- what is begun where nothing is said of it
begun_none : (c : WindowCommand) (old now : Option Told) (r : Result (Unit {0}) Halt) → WhereTold (Calling (IsInOrder (WindowOf c))) old now → IfErr r (Begun (WindowOf c) old now)
begun_none c old now (Ok d) h = tt
begun_none c old now (Err (Refused why)) h = tt
begun_none c old now (Err (Stopped (BadLine p l w))) h = tt
begun_none c old now (Err (Stopped (Outside call spot))) h = goes_weaker (Calling (IsInOrder (WindowOf c))) (HasBegun (WindowOf c)) (λ a b s. tt) old now h
begun_none c old now (Err (Stopped NoMemory)) h = goes_weaker (Calling (IsInOrder (WindowOf c))) (HasBegun (WindowOf c)) (λ a b s. tt) old now h

pub base_facts : {S : Type 0} (law : NoneIsBehind) (told : S → Option Told) (opened : S → ℕ → Bool) (steady : S → Bool) (faults : S → ℕ) (c : WindowCommand) (old now : S) (r : Result (Unit {0}) Halt)
    → OnOk r (pos 1 ≤ℤ pos c.slide)
    → OnOk r (WhereTold (IsDone c (opened old) (opened now)) (told old) (told now)) → OnOk r (base_fault c ≡ None) → IfErr r (BaseHalts c (told old) (told now)) → IfErr r (λ halt. IsRefusal halt → now ≡ old)
    → HaltOutcome steady faults old now r → (steady old ≡ true → IfErr r (λ halt. IsOutsideHalt halt → LacksFile c.file (told old)))
    → Facts told opened steady faults (WindowOf c) old now r
base_facts law told opened steady faults c old now r slide done valid halt untouched outcome works =
    let quiet : OnOk r (WhereTold (IsQuiet c) (told old) (told now)) =
    weaker_ok r (WhereTold (IsDone c (opened old) (opened now)) (told old) (told now)) (WhereTold (IsQuiet c) (told old) (told now))
    (goes_weaker (IsDone c (opened old) (opened now)) (IsQuiet c) (quiet_is c (opened old) (opened now)) (told old) (told now)) done in
    let calls : WhereTold (Calling (IsInOrder (WindowOf c))) (told old) (told now) = base_calls c (opened old) (opened now) (told old) (told now) r (now ≡ old) (λ is. ap told is) done untouched halt in
    record {
      calls = calls;
      begun = begun_none c (told old) (told now) r calls;
      done = done;
      quiet = quiet;
      in_time = in_time_on r slide quiet;
      valid = weaker_ok r (base_fault c ≡ None) ((why : Refusal) → base_refusal c ≡ Some why → ⊥) (λ none why is. no_refusal c why none is) valid;
      halted = base_halted_of r c (told old) (told now) (now ≡ old) (λ is. ap told is) untouched halt;
      outcome = outcome;
      works = λ s. lacks_of r c.file (told old) (works s);
    }
  where
    in_time_on : (r : Result (Unit {0}) Halt) → OnOk r (pos 1 ≤ℤ pos c.slide) → OnOk r (WhereTold (IsQuiet c) (told old) (told now)) → OnOk r (WhereTold (IsQuietInTime c) (told old) (told now))
    in_time_on (Ok d) step quiet = goes_weaker (IsQuiet c) (IsQuietInTime c) (λ a b. in_time_is law c a b step) (told old) (told now) quiet
    in_time_on (Err e) step quiet = tt

-- ---- `plan`
-- a job that was read and is valid is not refused
pub read_not_refused : (c : JobCommand) (before now : ℕ → Bool) (a b : Told) → IsJobRead c before now a b → text_refusal c.options (a.content c.job) ≡ None
read_not_refused c before now a b r =
    ap (text_refusal c.options) r.content_is ∙ ap (job_refusal c.options) r.job_is ∙ ap (option_map refusal.Plan) r.valid

none_some : (o : Option Refusal) (why : Refusal) → o ≡ None → o ≡ Some why → ⊥
none_some o why h k = cc (sym h ∙ k)

pub job_not_refused : (c : JobCommand) (why : Refusal) (before now : ℕ → Bool) (old new : Option Told) → WhereTold (IsJobRead c before now) old new
    → IsSomeAnd old (λ t. text_refusal c.options (t.content c.job) ≡ Some why) → ⊥
job_not_refused c why before now None new r is = is
job_not_refused c why before now (Some a) None r is = r
job_not_refused c why before now (Some a) (Some b) r is = none_some (text_refusal c.options (a.content c.job)) why (read_not_refused c before now a b r) is

refused_told : (c : JobCommand) (why : Refusal) (old new : Option Told) → WhereTold (λ a b. text_refusal c.options (a.content c.job) ≡ Some why) old new → IfSome old (λ t. text_refusal c.options (t.content c.job) ≡ Some why)
refused_told c why None new h = tt
refused_told c why (Some a) None h = absurd h
refused_told c why (Some a) (Some b) h = h

plan_halted : (c : JobCommand) (old now : Option Told) (same : Type 0) (halt : Halt) → IsNoBadHalt halt → WhereTold (λ a b. IsKnown (text_refusal c.options (a.content c.job)) halt) old now
    → WhereTold (Calling (PlanHalts c halt)) old now → Halted (PlanOf c) old now same halt
plan_halted c old now same (Refused why) never known h = (
  refused_told c why old now (goes_weaker (Calling (PlanHalts c (Refused why))) (λ a b. text_refusal c.options (a.content c.job) ≡ Some why) (λ a b k. k.did.why.0) old now h),
  goes_weaker (Calling (PlanHalts c (Refused why))) WritesNothing (λ a b k. k.did.why.1) old now h,
  λ none. absurd none,
)
plan_halted c old now same (Stopped (BadLine p l w)) never known h = absurd never
plan_halted c old now same (Stopped (Outside call spot)) never known h = (
  goes_weaker (Calling (PlanHalts c (Stopped (Outside call spot)))) (Fails (PlanOf c) call spot) (λ a b k. record { calls = k.calls; trace = k.trace; did = k.did.why.0 }) old now h,
  goes_unread c call spot old now known,
)
plan_halted c old now same (Stopped NoMemory) never known h = tt

plan_halted_of : {T : Type 0} (r : Result T Halt) (c : JobCommand) (old now : Option Told) (same : Type 0) → IfErr r IsNoBadHalt
    → IfErr r (λ halt. WhereTold (λ a b. IsKnown (text_refusal c.options (a.content c.job)) halt) old now)
    → IfErr r (λ halt. WhereTold (Calling (PlanHalts c halt)) old now) → IfErr r (Halted (PlanOf c) old now same)
plan_halted_of (Ok x) c old now same never known h = tt
plan_halted_of (Err halt) c old now same never known h = plan_halted c old now same halt never known h

-- the calls of `plan`, however it ended, and what it has written then
plan_calls : (c : JobCommand) (before after : ℕ → Bool) (old now : Option Told) (r : Result (Unit {0}) Halt) → OnOk r (WhereTold (Calling (IsPlanned c before after)) old now) → IfErr r (λ halt. WhereTold (Calling (PlanHalts c halt)) old now)
    → WhereTold (Calling (IsInOrder (PlanOf c))) old now
plan_calls c before after old now (Ok d) done halt =
    goes_weaker (Calling (IsPlanned c before after)) (Calling (IsInOrder (PlanOf c))) (λ a b h. record { calls = h.calls; trace = h.trace; did = h.did.order }) old now done
plan_calls c before after old now (Err e) done halt =
    goes_weaker (Calling (PlanHalts c e)) (Calling (IsInOrder (PlanOf c))) (λ a b h. record { calls = h.calls; trace = h.trace; did = h.did.order }) old now halt

plan_begun : (c : JobCommand) (old now : Option Told) (r : Result (Unit {0}) Halt) → IfErr r (λ halt. WhereTold (Calling (PlanHalts c halt)) old now) → IfErr r (Begun (PlanOf c) old now)
plan_begun c old now (Ok d) h = tt
plan_begun c old now (Err (Refused why)) h = tt
plan_begun c old now (Err (Stopped (BadLine p l w))) h = tt
plan_begun c old now (Err (Stopped (Outside call spot))) h = goes_weaker (Calling (PlanHalts c (Stopped (Outside call spot)))) (HasBegun (PlanOf c)) (λ a b k. k.did.why.1) old now h
plan_begun c old now (Err (Stopped NoMemory)) h = goes_weaker (Calling (PlanHalts c (Stopped NoMemory))) (HasBegun (PlanOf c)) (λ a b k. k.did.why) old now h

pub plan_facts : {S : Type 0} (told : S → Option Told) (opened : S → ℕ → Bool) (steady : S → Bool) (faults : S → ℕ) (c : JobCommand) (old now : S) (r : Result (Unit {0}) Halt)
    → OnOk r (WhereTold (Calling (IsPlanned c (opened old) (opened now))) (told old) (told now))
    → IfErr r (λ halt. WhereTold (Calling (PlanHalts c halt)) (told old) (told now)) → IfErr r IsNoBadHalt
    → IfErr r (λ halt. WhereTold (λ a b. IsKnown (text_refusal c.options (a.content c.job)) halt) (told old) (told now))
    → HaltOutcome steady faults old now r → (steady old ≡ true → IfErr r (λ halt. IsOutsideHalt halt → LacksFile c.job (told old)))
    → Facts told opened steady faults (PlanOf c) old now r
plan_facts told opened steady faults c old now r done halt never known outcome works =
    let planned : Type 0 = WhereTold (Calling (IsPlanned c (opened old) (opened now))) (told old) (told now) in
    let quiet : OnOk r (WhereTold (StaysQuiet (PlanOf c)) (told old) (told now)) =
    weaker_ok r planned (WhereTold (StaysQuiet (PlanOf c)) (told old) (told now)) (goes_weaker (Calling (IsPlanned c (opened old) (opened now))) (StaysQuiet (PlanOf c)) (λ a b p. p.did.notes_written) (told old) (told now)) done in
    record {
      calls = plan_calls c (opened old) (opened now) (told old) (told now) r done halt;
      begun = plan_begun c (told old) (told now) r halt;
      done = done;
      quiet = quiet;
      in_time = quiet;
      valid = weaker_ok r planned ((why : Refusal) → RefusalIs (Some why) (PlanOf c) (told old) → ⊥)
          (λ p why is. job_not_refused c why (opened old) (opened now) (told old) (told now)
          (goes_weaker (Calling (IsPlanned c (opened old) (opened now))) (IsJobRead c (opened old) (opened now)) (λ a b q. q.did.job) (told old) (told now) p) is) done;
      halted = plan_halted_of r c (told old) (told now) (now ≡ old) never known halt;
      outcome = outcome;
      works = λ s. lacks_of r c.job (told old) (works s);
    }

-- ---- `check`
-- where all data files are there, none lacks
all_any : {X : Type 0} (P Q : X → Type 0) (xs : List X) → All P xs → Any Q xs → ((x : X) → P x → Q x → ⊥) → ⊥
all_any P Q xs all (k, x, lt, is, h) f = f x (subst P is (all k x lt)) h

some_none : {X : Type 0} (o : Option X) → IsSome o → o ≡ None → ⊥
some_none o h is = cc (subst IsSome is h)

lacks_files : (c : JobCommand) (told : Option Told) → LacksFiles c told → IsSomeAnd told (HasDataFiles c) → ⊥
lacks_files c None lacks has = has
lacks_files c (Some t) (inl none) has = some_none (t.content c.job) has.job none
lacks_files c (Some t) (inr some) has =
    all_any (λ (f : DataFile). IsSome (t.content (file_name f))) (λ (f : DataFile). t.content (file_name f) ≡ None) (files_of (t.content c.job)) has.files some
    (λ f there none. some_none (t.content (file_name f)) there none)

pub lacks_files_of : {T : Type 0} (r : Result T Halt) (c : JobCommand) (told : Option Told) → IfErr r (λ halt. IsOutsideHalt halt → LacksFiles c told)
    → IfErr r (λ halt. IsOutsideHalt halt → IsSomeAnd told (HasDataFiles c) → ⊥)
lacks_files_of (Ok x) c told h = tt
lacks_files_of (Err e) c told h = λ is. lacks_files c told (h is)

-- a job that is checked is not refused
checks_not_refused : (c : JobCommand) (a : Told) → HasChecks c a → text_refusal c.options (a.content c.job) ≡ None
checks_not_refused c a h = ap (text_refusal c.options) h.content_is ∙ ap (job_refusal c.options) h.job_is ∙ ap (option_map refusal.Plan) h.valid

pub check_not_refused : (c : JobCommand) (why : Refusal) (old new : Option Told) → WhereTold (λ a b. HasChecks c a) old new → IsSomeAnd old (λ t. text_refusal c.options (t.content c.job) ≡ Some why) → ⊥
check_not_refused c why None new r is = is
check_not_refused c why (Some a) None r is = r
check_not_refused c why (Some a) (Some b) r is = none_some (text_refusal c.options (a.content c.job)) why (checks_not_refused c a r) is

-- what holds of numbered elements holds of each
pub all_at : {X : Type 0} (P : ℕ × X → Type 0) (xs : List X) (i : ℕ) (x : X) → slice_get xs i ≡ Some x → All P (enumerate_from 0 xs) → P (i, x)
all_at {X = X} P xs i x is all =
    let lt : i < length xs = slice_get_within xs i x is in
    let lt' : i < length (enumerate_from 0 xs) = subst (λ (n : ℕ). i < n) (sym (length-enumerate_from 0 xs)) lt in
    let at : P (get_or (enumerate_from 0 xs) i (i, x)) = all i (i, x) lt' in
    let number : 0 + i ≡ i = omega arith in
    subst P (get_or-enumerate_from 0 xs i (i, x) lt ∙ ap (λ (n : ℕ). let p : ℕ × X = (n, get_or xs i x) in p) number ∙ ap (λ (y : X). let p : ℕ × X = (i, y) in p) (get_or_from_slice_get xs i x x is)) at

pub bad_not_good : (o : Option (List ℕ)) (f : List ℕ → Option (ℕ × LineFault)) (b : ℕ × LineFault) → IsSomeAnd o (λ content. f content ≡ None) → IsSomeAnd o (λ content. f content ≡ Some b) → ⊥
bad_not_good None f b good bad = good
bad_not_good (Some content) f b good bad = cc (sym good ∙ bad)

bad_in_good : (c : JobCommand) (part line : ℕ) (why : LineFault) (old new : Option Told) → WhereTold (Calling (IsBadLineOf c part line why)) old new → IsSomeAnd old (AreGoodFiles c) → ⊥
bad_in_good c part line why None new h good = good
bad_in_good c part line why (Some a) None h good = h
bad_in_good c part line why (Some a) (Some b) h good =
    let k = h.did.job.checks in
    let bad = h.did.bad in
    bad_not_good (a.content (file_name bad.file)) (first_bad k (part, bad.file)) (line, why) (all_at (IsGood k a) k.files part bad.file bad.is (good h.did.job)) bad.bad

-- what an early end says where the job is refused, and where a call failed
module _ (c : JobCommand) (e : EarlyEnd) (old now : Option Told) (same : Type 0) where
  pub job_refused : (why : Refusal) → WhereTold (Calling (JobHalts c e (Refused why))) old now → Halted (CheckOf c) old now same (Refused why)
  job_refused why h = (
    refused_told c why old now (goes_weaker (Calling (JobHalts c e (Refused why))) (λ a b. text_refusal c.options (a.content c.job) ≡ Some why) (λ a b k. k.did.why.0) old now h),
    goes_weaker (Calling (JobHalts c e (Refused why))) WritesNothing (λ a b k. k.did.why.1) old now h,
    λ none. absurd none,
  )

  pub job_failed : (call : Call) (spot : Spot) → WhereTold (λ a b. IsKnown (text_refusal c.options (a.content c.job)) (Stopped (Outside call spot))) old now
      → WhereTold (Calling (JobHalts c e (Stopped (Outside call spot)))) old now → Halted (CheckOf c) old now same (Stopped (Outside call spot))
  job_failed call spot known h = (
    goes_weaker (Calling (JobHalts c e (Stopped (Outside call spot)))) (Fails (CheckOf c) call spot) (λ a b k. record { calls = k.calls; trace = k.trace; did = k.did.why.0 }) old now h,
    goes_unread c call spot old now known,
  )

check_halted : (c : JobCommand) (old now : Option Told) (same : Type 0) (halt : Halt) → WhereTold (λ a b. IsKnown (text_refusal c.options (a.content c.job)) halt) old now → WhereTold (Calling (CheckHalts c halt)) old now
    → Halted (CheckOf c) old now same halt
check_halted c old now same (Refused why) known h = job_refused c (check_end c) old now same why h
check_halted c old now same (Stopped (BadLine p l w)) known h =
    let bad : WhereTold (Calling (IsBadLineOf c p l w)) old now =
    goes_weaker (Calling (CheckHalts c (Stopped (BadLine p l w)))) (Calling (IsBadLineOf c p l w)) (λ a b k. record { calls = k.calls; trace = k.trace; did = k.did.why }) old now h in (
      bad,
      λ cause is. check_not_refused c cause old now (goes_weaker (Calling (IsBadLineOf c p l w)) (λ a b. HasChecks c a) (λ a b k. k.did.job) old now bad) is,
      λ good. bad_in_good c p l w old now bad good,
    )
check_halted c old now same (Stopped (Outside call spot)) known h = job_failed c (check_end c) old now same call spot known h
check_halted c old now same (Stopped NoMemory) known h = tt

-- the calls of `check`, however it ended, and what it has written then
check_calls : (c : JobCommand) (before after : ℕ → Bool) (old now : Option Told) (r : Result (Unit {0}) Halt) → OnOk r (WhereTold (Calling (IsCheckedJob c before after)) old now) → IfErr r (λ halt. WhereTold (Calling (CheckHalts c halt)) old now)
    → WhereTold (Calling (IsInOrder (CheckOf c))) old now
check_calls c before after old now (Ok d) done halt =
    goes_weaker (Calling (IsCheckedJob c before after)) (Calling (IsInOrder (CheckOf c))) (λ a b h. record {
      calls = h.calls;
      trace = h.trace;
      did = job_checked c a h.calls h.did.order.first h.did.order.later h.did.order.calls_are h.did.order.job h.did.job h.did.order.files.order
          (turns_all h.did.job.checks a (numbered h.did.job.checks) h.did.order.files.order.turns h.did.order.files.turns);
    }) old now done
check_calls c before after old now (Err e) done halt =
    goes_weaker (Calling (CheckHalts c e)) (Calling (IsInOrder (CheckOf c))) (λ a b h. record { calls = h.calls; trace = h.trace; did = h.did.order }) old now halt

check_begun : (c : JobCommand) (old now : Option Told) (r : Result (Unit {0}) Halt) → IfErr r (λ halt. WhereTold (Calling (CheckHalts c halt)) old now) → IfErr r (Begun (CheckOf c) old now)
check_begun c old now (Ok d) h = tt
check_begun c old now (Err (Refused why)) h = tt
check_begun c old now (Err (Stopped (BadLine p l w))) h = tt
check_begun c old now (Err (Stopped (Outside call spot))) h = goes_weaker (Calling (CheckHalts c (Stopped (Outside call spot)))) (HasBegun (CheckOf c)) (λ a b k. k.did.why.1) old now h
check_begun c old now (Err (Stopped NoMemory)) h = goes_weaker (Calling (CheckHalts c (Stopped NoMemory))) (HasBegun (CheckOf c)) (λ a b k. k.did.why) old now h

check_halted_of : {T : Type 0} (r : Result T Halt) (c : JobCommand) (old now : Option Told) (same : Type 0)
    → IfErr r (λ halt. WhereTold (λ a b. IsKnown (text_refusal c.options (a.content c.job)) halt) old now) → IfErr r (λ halt. WhereTold (Calling (CheckHalts c halt)) old now) → IfErr r (Halted (CheckOf c) old now same)
check_halted_of (Ok x) c old now same known h = tt
check_halted_of (Err halt) c old now same known h = check_halted c old now same halt known h

pub check_facts : {S : Type 0} (told : S → Option Told) (opened : S → ℕ → Bool) (steady : S → Bool) (faults : S → ℕ) (c : JobCommand) (old now : S) (r : Result (Unit {0}) Halt)
    → OnOk r (WhereTold (Calling (IsCheckedJob c (opened old) (opened now))) (told old) (told now)) → IfErr r (λ halt. WhereTold (Calling (CheckHalts c halt)) (told old) (told now))
    → IfErr r (λ halt. WhereTold (λ a b. IsKnown (text_refusal c.options (a.content c.job)) halt) (told old) (told now))
    → HaltOutcome steady faults old now r → (steady old ≡ true → IfErr r (λ halt. IsOutsideHalt halt → LacksFiles c (told old)))
    → Facts told opened steady faults (CheckOf c) old now r
check_facts told opened steady faults c old now r done halt known outcome works =
    let checked : Type 0 = WhereTold (Calling (IsCheckedJob c (opened old) (opened now))) (told old) (told now) in
    let quiet : OnOk r (WhereTold (StaysQuiet (CheckOf c)) (told old) (told now)) =
    weaker_ok r checked (WhereTold (StaysQuiet (CheckOf c)) (told old) (told now)) (goes_weaker (Calling (IsCheckedJob c (opened old) (opened now))) (StaysQuiet (CheckOf c)) (λ a b k. k.did.order.files.notes) (told old) (told now)) done in
    record {
      calls = check_calls c (opened old) (opened now) (told old) (told now) r done halt;
      begun = check_begun c (told old) (told now) r halt;
      done = done;
      quiet = quiet;
      in_time = quiet;
      valid = weaker_ok r checked ((why : Refusal) → RefusalIs (Some why) (CheckOf c) (told old) → ⊥)
          (λ k why is. check_not_refused c why (told old) (told now) (goes_weaker (Calling (IsCheckedJob c (opened old) (opened now))) (λ a b. HasChecks c a) (λ a b q. q.did.job) (told old) (told now) k) is) done;
      halted = check_halted_of r c (told old) (told now) (now ≡ old) known halt;
      outcome = outcome;
      works = λ s. lacks_files_of r c (told old) (works s);
    }
