-- What the top call says to a command, from how the command ended.
use Rattle.std.proofs.Common.{◌≡◌, ℕ, ◌<◌, Bool, true, Option, Some, None, Result, Ok, Err, refl, sym, ◌∙◌, subst, arith, OnOk, inl, inr}
use Rattle.std.specs.Prelude.{IfErr, ⊤}
use Rattle.jet_lines.specs.declared.fault.LineFault.{LineFault}
use Rattle.jet_file.specs.Headline.{WritesNothing}
use Rattle.jet_file.specs.Outside.{Told, WhereTold}
use Rattle.jet_worker.specs.Calls.{Calling, EndsFailed}
use Rattle.jet_worker.specs.declared.stop.Call.{Call}
use Rattle.jet_worker.specs.declared.stop.Spot.{Spot}
use Rattle.jet_worker.specs.declared.stop.Stop.TheVariants.{BadLine, Outside, NoMemory}
use Rattle.jet_cli.specs.Answers.{HasFiles, HasGoodFiles, HasNoJobFile, IsJobUnread}
use Rattle.jet_cli.specs.CallOrder.{IsInOrder, place_in}
use Rattle.jet_cli.specs.Commands.{Finishes, HasBadLine, HasBegun, StaysQuiet, StaysQuietInTime}
use Rattle.jet_cli.specs.inner.Ended.{status_of}
use Rattle.jet_cli.specs.inner.Halting.{HaltOutcome, IsOutsideHalt}
use Rattle.jet_cli.specs.inner.Meeting.{Meets}
use Rattle.jet_cli.specs.Refusals.{MayBeRefused, RefusalIs, refusal_of, base_refusal}
use Rattle.jet_cli.specs.Words.{JetCommand, WindowOf, RunOf, PlanOf, CheckOf}
use Rattle.jet_cli.specs.declared.halt.Halt.{Halt}
use Rattle.jet_cli.specs.declared.halt.Halt.TheVariants.{Refused, Stopped}
use Rattle.jet_cli.specs.declared.status.Refusal.{Refusal}
use Rattle.jet_cli.specs.declared.status.Status.{Status}
use Rattle.jet_cli.specs.declared.status.Status.TheVariants as status

-- the last call of all failed, and it is the one that is named
abbrev pub Fails : JetCommand → Call → Spot → Told → Told → Type 0
Fails c call spot = Calling (λ calls a b. EndsFailed (place_in c) call spot calls)

-- what is written where a call failed or memory ran out
abbrev pub Begun : JetCommand → Option Told → Option Told → Halt → Type 0
Begun c old now (Refused why) = ⊤
Begun c old now (Stopped (BadLine part line why)) = ⊤
Begun c old now (Stopped (Outside call spot)) = WhereTold (HasBegun c) old now
Begun c old now (Stopped NoMemory) = WhereTold (HasBegun c) old now

-- what an early end says; where no job file is read and the job is refused, the outside is the same
abbrev pub Halted : JetCommand → Option Told → Option Told → Type 0 → Halt → Type 0
Halted c old now same (Refused why) = MayBeRefused why c old × WhereTold WritesNothing old now × (HasNoJobFile (Some c) → same)
Halted c old now same (Stopped (BadLine part line why)) = HasBadLine c part line why old now × ((cause : Refusal) → RefusalIs (Some cause) c old → ⊥) × (HasGoodFiles c old → ⊥)
Halted c old now same (Stopped (Outside call spot)) =
    WhereTold (Fails c call spot) old now × ((cause : Refusal) → RefusalIs (Some cause) c old → IsJobUnread c (status.OutsideFault call spot))
Halted c old now same (Stopped NoMemory) = ⊤

-- how a command ended
pub record Facts {S : Type 0} (told : S → Option Told) (opened : S → ℕ → Bool) (steady : S → Bool) (faults : S → ℕ) (c : JetCommand) (old now : S) (r : Result (Unit {0}) Halt) : Type 0 where
  pub done : OnOk r (WhereTold (Finishes c (opened old) (opened now)) (told old) (told now))
  pub quiet : OnOk r (WhereTold (StaysQuiet c) (told old) (told now))
  pub in_time : OnOk r (WhereTold (StaysQuietInTime c) (told old) (told now))
  pub valid : OnOk r ((why : Refusal) → RefusalIs (Some why) c (told old) → ⊥)
  pub halted : IfErr r (Halted c (told old) (told now) (now ≡ old))
  pub calls : WhereTold (Calling (IsInOrder c)) (told old) (told now)
  pub begun : IfErr r (Begun c (told old) (told now))
  pub outcome : HaltOutcome steady faults old now r
  pub works : steady old ≡ true → IfErr r (λ halt. IsOutsideHalt halt → HasFiles c (told old) → ⊥)

same_why : (why cause : Refusal) (o : Option Refusal) → o ≡ Some why → o ≡ Some cause → why ≡ cause
same_why why cause o h k = cc (sym h ∙ k)

some_not_none : (why : Refusal) (o : Option Refusal) → o ≡ Some why → o ≡ None → ⊥
some_not_none why o h k = cc (sym h ∙ k)

-- a cause of refusal is the only one
one_cause : (c : JetCommand) (told : Option Told) (why cause : Refusal) → MayBeRefused why c told → RefusalIs (Some cause) c told → why ≡ cause
one_cause (WindowOf c) told why cause h k = same_why why cause (base_refusal c) h k
one_cause (RunOf c) None why cause h k = absurd k
one_cause (RunOf c) (Some t) why cause h k = same_why why cause (refusal_of (RunOf c) t.content) h k
one_cause (PlanOf c) None why cause h k = absurd k
one_cause (PlanOf c) (Some t) why cause h k = same_why why cause (refusal_of (PlanOf c) t.content) h k
one_cause (CheckOf c) None why cause h k = absurd k
one_cause (CheckOf c) (Some t) why cause h k = same_why why cause (refusal_of (CheckOf c) t.content) h k

no_cause : (c : JetCommand) (told : Option Told) (why : Refusal) → MayBeRefused why c told → RefusalIs None c told → ⊥
no_cause (WindowOf c) told why h k = some_not_none why (base_refusal c) h k
no_cause (RunOf c) None why h k = k
no_cause (RunOf c) (Some t) why h k = some_not_none why (refusal_of (RunOf c) t.content) h k
no_cause (PlanOf c) None why h k = k
no_cause (PlanOf c) (Some t) why h k = some_not_none why (refusal_of (PlanOf c) t.content) h k
no_cause (CheckOf c) None why h k = k
no_cause (CheckOf c) (Some t) why h k = some_not_none why (refusal_of (CheckOf c) t.content) h k

not_less : (before now : ℕ) → now ≡ before → before < now → ⊥
not_less before now h lt = omega (arith, h, lt)

module _ {S : Type 0} (told : S → Option Told) (opened : S → ℕ → Bool) (steady : S → Bool) (faults : S → ℕ) (c : JetCommand) (old now : S) where
  meets_done : (d : Unit {0}) → Facts told opened steady faults c old now (Ok d) → Meets told opened steady faults c old now status.Done
  meets_done d f = record {
    calls = f.calls;
    begun = λ is. absurd is;
    done = λ is. f.done;
    quiet = λ is. f.quiet;
    in_time = λ is. f.in_time;
    steady_same = f.outcome.steady_same;
    later = f.outcome.later;
    usage = λ is. cc is;
    refused = λ why is. absurd (cc is);
    refuses = λ why is never. absurd (f.valid why is);
    unwritten = λ is. absurd is;
    untouched = λ none is. absurd is;
    bad_line = λ part line why is. absurd (cc is);
    fault = λ is. absurd is;
    every_fault = λ lt. absurd (not_less (faults old) (faults now) f.outcome.cause lt);
    fault_call = λ call spot is. absurd (cc is);
    works = λ s files is. is;
    complete = λ none good never. inl refl;
  }

  same_refused : (why cause : Refusal) → status.JobRefused why ≡ status.JobRefused cause → why ≡ cause
  same_refused why cause h = cc h

  meets_refused : (why : Refusal) → Facts told opened steady faults c old now (Err (Refused why)) → Meets told opened steady faults c old now (status.JobRefused why)
  meets_refused why f = record {
    calls = f.calls;
    begun = λ is. absurd is;
    done = λ is. absurd (cc is);
    quiet = λ is. absurd (cc is);
    in_time = λ is. absurd (cc is);
    steady_same = f.outcome.steady_same;
    later = f.outcome.later;
    usage = λ is. cc is;
    refused = λ cause is. subst (λ (w : Refusal). MayBeRefused w c (told old)) (same_refused why cause is) f.halted.0;
    refuses = λ cause is never. inl (cc (one_cause c (told old) why cause f.halted.0 is));
    unwritten = λ is. f.halted.1;
    untouched = λ none is. f.halted.2 none;
    bad_line = λ part line cause is. absurd (cc is);
    fault = λ is. absurd is;
    every_fault = λ lt. absurd (not_less (faults old) (faults now) f.outcome.cause lt);
    fault_call = λ call spot is. absurd (cc is);
    works = λ s files is. is;
    complete = λ none good never. absurd (no_cause c (told old) why f.halted.0 none);
  }

  same_bad : (p q l m : ℕ) (w v : LineFault) → status.BadLine p l w ≡ status.BadLine q m v → (p ≡ q) × (l ≡ m) × (w ≡ v)
  same_bad p q l m w v h = (cc h, cc h, cc h)

  meets_bad : (p l : ℕ) (w : LineFault) → Facts told opened steady faults c old now (Err (Stopped (BadLine p l w))) → Meets told opened steady faults c old now (status.BadLine p l w)
  meets_bad p l w f = record {
    calls = f.calls;
    begun = λ is. absurd is;
    done = λ is. absurd (cc is);
    quiet = λ is. absurd (cc is);
    in_time = λ is. absurd (cc is);
    steady_same = f.outcome.steady_same;
    later = f.outcome.later;
    usage = λ is. cc is;
    refused = λ why is. absurd (cc is);
    refuses = λ why is never. absurd (f.halted.1 why is);
    unwritten = λ is. absurd is;
    untouched = λ none is. absurd is;
    bad_line = λ part line why is.
        let same = same_bad p part l line w why is in
        subst (λ (k : ℕ). HasBadLine c k line why (told old) (told now)) same.0
        (subst (λ (k : ℕ). HasBadLine c p k why (told old) (told now)) same.1
        (subst (λ (k : LineFault). HasBadLine c p l k (told old) (told now)) same.2 f.halted.0));
    fault = λ is. absurd is;
    every_fault = λ lt. absurd (not_less (faults old) (faults now) f.outcome.cause lt);
    fault_call = λ call spot is. absurd (cc is);
    works = λ s files is. is;
    complete = λ none good never. absurd (f.halted.2 good);
  }

  same_call : (k k' : Call) (s s' : Spot) → status.OutsideFault k s ≡ status.OutsideFault k' s' → (k ≡ k') × (s ≡ s')
  same_call k k' s s' h = (cc h, cc h)

  meets_fault : (k : Call) (s : Spot) → Facts told opened steady faults c old now (Err (Stopped (Outside k s))) → Meets told opened steady faults c old now (status.OutsideFault k s)
  meets_fault k s f = record {
    calls = f.calls;
    begun = λ is. f.begun;
    done = λ is. absurd (cc is);
    quiet = λ is. absurd (cc is);
    in_time = λ is. absurd (cc is);
    steady_same = f.outcome.steady_same;
    later = f.outcome.later;
    usage = λ is. cc is;
    refused = λ why is. absurd (cc is);
    refuses = λ why is never. absurd (never (f.halted.1 why is));
    unwritten = λ is. absurd is;
    untouched = λ none is. absurd is;
    bad_line = λ part line why is. absurd (cc is);
    fault = λ is. f.outcome.cause;
    every_fault = λ lt. tt;
    fault_call = λ call spot is.
        let same = same_call k call s spot is in
        subst (λ (x : Call). WhereTold (Fails c x spot) (told old) (told now)) same.0
        (subst (λ (x : Spot). WhereTold (Fails c k x) (told old) (told now)) same.1 f.halted.0);
    works = λ st files is. f.works st tt files;
    complete = λ none good never. absurd (never f.outcome.cause);
  }

  meets_memory : Facts told opened steady faults c old now (Err (Stopped NoMemory)) → Meets told opened steady faults c old now status.NoMemory
  meets_memory f = record {
    calls = f.calls;
    begun = λ is. f.begun;
    done = λ is. absurd (cc is);
    quiet = λ is. absurd (cc is);
    in_time = λ is. absurd (cc is);
    steady_same = f.outcome.steady_same;
    later = f.outcome.later;
    usage = λ is. cc is;
    refused = λ why is. absurd (cc is);
    refuses = λ why is never. inr refl;
    unwritten = λ is. absurd is;
    untouched = λ none is. absurd is;
    bad_line = λ part line why is. absurd (cc is);
    fault = λ is. absurd is;
    every_fault = λ lt. absurd (not_less (faults old) (faults now) f.outcome.cause lt);
    fault_call = λ call spot is. absurd (cc is);
    works = λ st files is. is;
    complete = λ none good never. inr refl;
  }

  meets : (r : Result (Unit {0}) Halt) → Facts told opened steady faults c old now r → Meets told opened steady faults c old now (status_of r)
  meets (Ok d) f = meets_done d f
  meets (Err (Refused why)) f = meets_refused why f
  meets (Err (Stopped (BadLine p l w))) f = meets_bad p l w f
  meets (Err (Stopped (Outside k s))) f = meets_fault k s f
  meets (Err (Stopped NoMemory)) f = meets_memory f

  -- the same of the words that are the command, and of the status that is the answer
  pub meets_as : (words : JetCommand) (s : Status) (r : Result (Unit {0}) Halt) → words ≡ c → s ≡ status_of r → Facts told opened steady faults c old now r → Meets told opened steady faults words old now s
  meets_as words s r is answer f =
      subst (λ (k : JetCommand). Meets told opened steady faults k old now s) (sym is) (subst (λ (t : Status). Meets told opened steady faults c old now t) (sym answer) (meets r f))
