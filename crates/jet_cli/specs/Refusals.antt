-- Why the job of a command is refused.
use Rattle.std.specs.Prelude.{◌≡◌, ℕ, ℤ, List, Option, Some, None, option_map, Result, Ok, Err, IfSome, IsSomeAnd}
use Rattle.std.specs.Option.{option_map_or}
use Rattle.jet_file.specs.Outside.{Told}
use Rattle.jet_job.specs.Jobs.{job_at}
use Rattle.jet_job.specs.declared.fault.JobFault.{JobFault}
use Rattle.jet_job.specs.declared.job_text.JobText.{JobText}
use Rattle.jet_plan.specs.Faults.{fault}
use Rattle.jet_plan.specs.declared.settings.Settings.{Settings}
use Rattle.jet_cli.specs.BaseJob.{base_fault}
use Rattle.jet_cli.specs.Words.{JetCommand, WindowCommand, WindowOf, RunOf, PlanOf, CheckOf}
use Rattle.jet_cli.specs.declared.job_words.Options.{Options}
use Rattle.jet_cli.specs.declared.status.Refusal.{Refusal}
use Rattle.jet_cli.specs.declared.status.Refusal.TheVariants.{Job, Plan}

-- the number of an option, or that of the job where the option is not given
abbrev pub option_over : Option ℤ → ℤ → ℤ
option_over option number = option_map_or (λ n. n) option number

-- the settings of a job with options put over them
abbrev pub with_options : Options → Settings → Settings
with_options o s = record s { workers = option_over o.workers s.workers; members = option_over o.members s.members; ring = option_over o.ring s.ring }

-- the job file has a fault; or the job has one, with the options put over its settings
abbrev pub job_refusal : Options → Result JobText JobFault → Option Refusal
job_refusal o (Err why) = Some (Job why)
job_refusal o (Ok job) = option_map Plan (fault job.dag (with_options o job.settings))

-- why a job file with this content is refused
abbrev pub text_refusal : Options → Option (List ℕ) → Option Refusal
text_refusal o None = None
text_refusal o (Some text) = job_refusal o (job_at text)

-- why the job of `window` is refused
abbrev pub base_refusal : WindowCommand → Option Refusal
base_refusal c = option_map Plan (base_fault c)

-- why the job of a command is refused, where files have these contents
abbrev pub refusal_of : JetCommand → (List ℕ → Option (List ℕ)) → Option Refusal
refusal_of (WindowOf c) content = base_refusal c
refusal_of (RunOf c) content = text_refusal c.options (content c.job)
refusal_of (PlanOf c) content = text_refusal c.options (content c.job)
refusal_of (CheckOf c) content = text_refusal c.options (content c.job)

-- the outside has no part in the job of `window`; of other commands it may not tell the job file
abbrev pub RefusalIs : Option Refusal → JetCommand → Option Told → Type 0
RefusalIs why (WindowOf c) told = base_refusal c ≡ why
RefusalIs why (RunOf c) told = IsSomeAnd told (λ t. refusal_of (RunOf c) t.content ≡ why)
RefusalIs why (PlanOf c) told = IsSomeAnd told (λ t. refusal_of (PlanOf c) t.content ≡ why)
RefusalIs why (CheckOf c) told = IsSomeAnd told (λ t. refusal_of (CheckOf c) t.content ≡ why)

-- the job is refused for this cause, where the outside tells the job file
abbrev pub MayBeRefused : Refusal → JetCommand → Option Told → Type 0
MayBeRefused why (WindowOf c) told = base_refusal c ≡ Some why
MayBeRefused why (RunOf c) told = IfSome told (λ t. refusal_of (RunOf c) t.content ≡ Some why)
MayBeRefused why (PlanOf c) told = IfSome told (λ t. refusal_of (PlanOf c) t.content ≡ Some why)
MayBeRefused why (CheckOf c) told = IfSome told (λ t. refusal_of (CheckOf c) t.content ≡ Some why)
