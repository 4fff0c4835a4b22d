-- Which call ended a command with a job file.
use Rattle.std.proofs.Common.{◌≡◌, ◌∙◌, Option, Some, None, sym, subst}
use Rattle.std.specs.Prelude.{IsSomeAnd}
use Rattle.jet_file.specs.Outside.{Told, WhereTold}
use Rattle.jet_worker.specs.Stopping.{IsOfCall}
use Rattle.jet_worker.specs.declared.stop.Call.{Call}
use Rattle.jet_worker.specs.declared.stop.Call.TheVariants.{Open, Read, Write}
use Rattle.jet_worker.specs.declared.stop.Spot.{Spot}
use Rattle.jet_worker.specs.declared.stop.Spot.TheVariants.{Job, Part, Rows, Notes}
use Rattle.jet_worker.specs.declared.stop.Stop.{Stop}
use Rattle.jet_worker.specs.declared.stop.Stop.TheVariants.{BadLine, Outside, NoMemory}
use Rattle.jet_cli.specs.Answers.{IsForJobFile}
use Rattle.jet_cli.specs.inner.Halting.{IsEarly, IsKnown}
use Rattle.jet_cli.specs.JobWords.{JobCommand}
use Rattle.jet_cli.specs.Refusals.{text_refusal}
use Rattle.jet_cli.specs.declared.halt.Halt.{Halt}
use Rattle.jet_cli.specs.declared.halt.Halt.TheVariants.{Refused, Stopped}
use Rattle.jet_cli.specs.declared.status.Refusal.{Refusal}
use Rattle.jet_cli.specs.declared.status.Status.TheVariants.{OutsideFault}

pub early_open : (stop : Stop) → IsOfCall Open Job stop → IsEarly (Stopped stop)
early_open (BadLine part line why) h = absurd h
early_open (Outside call spot) h = subst (λ (k : Call). IsEarly (Stopped (Outside k spot))) (sym h.0) (subst (λ (s : Spot). IsEarly (Stopped (Outside Open s))) (sym h.1) tt)
early_open NoMemory h = tt

pub early_read : (stop : Stop) → IsOfCall Read Job stop → IsEarly (Stopped stop)
early_read (BadLine part line why) h = absurd h
early_read (Outside call spot) h = subst (λ (k : Call). IsEarly (Stopped (Outside k spot))) (sym h.0) (subst (λ (s : Spot). IsEarly (Stopped (Outside Read s))) (sym h.1) tt)
early_read NoMemory h = tt

pub early_known : (r : Option Refusal) (halt : Halt) → IsEarly halt → IsKnown r halt
early_known r (Refused why) h = tt
early_known r (Stopped (BadLine part line why)) h = tt
early_known r (Stopped NoMemory) h = tt
early_known r (Stopped (Outside Open Job)) h = tt
early_known r (Stopped (Outside Open (Part p))) h = absurd h
early_known r (Stopped (Outside Open Rows)) h = absurd h
early_known r (Stopped (Outside Open Notes)) h = absurd h
early_known r (Stopped (Outside Read Job)) h = tt
early_known r (Stopped (Outside Read (Part p))) h = absurd h
early_known r (Stopped (Outside Read Rows)) h = absurd h
early_known r (Stopped (Outside Read Notes)) h = absurd h
early_known r (Stopped (Outside Write Job)) h = absurd h
early_known r (Stopped (Outside Write (Part p))) h = absurd h
early_known r (Stopped (Outside Write Rows)) h = absurd h
early_known r (Stopped (Outside Write Notes)) h = absurd h

pub none_known : (r : Option Refusal) (halt : Halt) → r ≡ None → IsKnown r halt
none_known r (Refused why) h = tt
none_known r (Stopped (BadLine part line why)) h = tt
none_known r (Stopped NoMemory) h = tt
none_known r (Stopped (Outside Open Job)) h = tt
none_known r (Stopped (Outside Open (Part p))) h = h
none_known r (Stopped (Outside Open Rows)) h = h
none_known r (Stopped (Outside Open Notes)) h = h
none_known r (Stopped (Outside Read Job)) h = tt
none_known r (Stopped (Outside Read (Part p))) h = h
none_known r (Stopped (Outside Read Rows)) h = h
none_known r (Stopped (Outside Read Notes)) h = h
none_known r (Stopped (Outside Write Job)) h = h
none_known r (Stopped (Outside Write (Part p))) h = h
none_known r (Stopped (Outside Write Rows)) h = h
none_known r (Stopped (Outside Write Notes)) h = h

none_some : {P : Type 0} (r : Option Refusal) (cause : Refusal) → r ≡ None → r ≡ Some cause → P
none_some r cause h k = absurd (no (sym h ∙ k))
  where
    no : (let n : Option Refusal = None in n ≡ Some cause) → ⊥
    no e = cc e

unread : (r : Option Refusal) (call : Call) (spot : Spot) (cause : Refusal) → IsKnown r (Stopped (Outside call spot)) → r ≡ Some cause → IsForJobFile (OutsideFault call spot)
unread r Open Job cause h k = tt
unread r Open (Part p) cause h k = none_some r cause h k
unread r Open Rows cause h k = none_some r cause h k
unread r Open Notes cause h k = none_some r cause h k
unread r Read Job cause h k = tt
unread r Read (Part p) cause h k = none_some r cause h k
unread r Read Rows cause h k = none_some r cause h k
unread r Read Notes cause h k = none_some r cause h k
unread r Write Job cause h k = none_some r cause h k
unread r Write (Part p) cause h k = none_some r cause h k
unread r Write Rows cause h k = none_some r cause h k
unread r Write Notes cause h k = none_some r cause h k

-- where the job is refused, the call that ended the command was one for the job file
pub goes_unread : (c : JobCommand) (call : Call) (spot : Spot) (old new : Option Told) → WhereTold (λ a b. IsKnown (text_refusal c.options (a.content c.job)) (Stopped (Outside call spot))) old new
    → (cause : Refusal) → IsSomeAnd old (λ t. text_refusal c.options (t.content c.job) ≡ Some cause) → IsForJobFile (OutsideFault call spot)
goes_unread c call spot None new h cause is = absurd is
goes_unread c call spot (Some a) None h cause is = absurd h
goes_unread c call spot (Some a) (Some b) h cause is = unread (text_refusal c.options (a.content c.job)) call spot cause h is
