-- What `Done` says to `plan`.
use Rattle.std.specs.Prelude.{◌≡◌, ◌≢◌, ◌⊎◌, ⊤, ℕ, Bool, List, ◌++◌, Some, Ok}
use Rattle.jet_file.specs.Headline.{IsReadWhole}
use Rattle.jet_file.specs.Outside.{CallMade, Told}
use Rattle.jet_file.specs.declared.outside.Out.TheVariants.{Rows, Notes}
use Rattle.jet_job.specs.Jobs.{job_at}
use Rattle.jet_job.specs.declared.job_text.JobText.{JobText}
use Rattle.jet_plan.specs.Plans.{IsValid}
use Rattle.jet_plan.specs.PlanText.{plan_text}
use Rattle.jet_worker.specs.Calls.{EndsFailed}
use Rattle.jet_worker.specs.declared.stop.Stop.TheVariants.{BadLine, Outside, NoMemory}
use Rattle.jet_cli.specs.CallOrder.{ReadsJob, job_place}
use Rattle.jet_cli.specs.JobWords.{JobCommand}
use Rattle.jet_cli.specs.Refusals.{text_refusal, with_options}
use Rattle.jet_cli.specs.declared.halt.Halt.{Halt}
use Rattle.jet_cli.specs.declared.halt.Halt.TheVariants.{Refused, Stopped}

-- the job file of a command was opened by this call and read whole, and its job is valid with the options put over
pub record IsJobRead (c : JobCommand) (before now : ℕ → Bool) (old new : Told) : Type 0 where
  pub content : List ℕ
  pub job : JobText
  pub content_is : old.content c.job ≡ Some content
  pub read : IsReadWhole c.job content before now new
  pub job_is : job_at content ≡ Ok job
  pub valid : IsValid job.dag (with_options c.options job.settings)

-- what Done to `plan` says, where the outside tells its content
pub record IsPlanned (c : JobCommand) (before now : ℕ → Bool) (calls : List CallMade) (old new : Told) : Type 0 where
  pub order : ReadsJob c.job calls
  pub job : IsJobRead c before now old new
  -- no other file was opened
  pub alone : (other : ℕ) → other ≢ job.read.file → now other ≡ before other
  -- what this call wrote
  pub rows_written : new.written Rows ≡ old.written Rows ++ plan_text job.job.dag (with_options c.options job.job.settings)
  pub notes_written : new.written Notes ≡ old.written Notes
  -- no content changed
  pub kept : new.content ≡ old.content

-- a front of the text of a job file's plan was written, and nothing else
pub record BeginsPlan (c : JobCommand) (old new : Told) : Type 0 where
  pub content : List ℕ
  pub job : JobText
  pub content_is : old.content c.job ≡ Some content
  pub job_is : job_at content ≡ Ok job
  pub valid : IsValid job.dag (with_options c.options job.settings)
  pub front : List ℕ
  pub rest : List ℕ
  pub parts : plan_text job.dag (with_options c.options job.settings) ≡ front ++ rest
  pub rows_written : new.written Rows ≡ old.written Rows ++ front
  pub notes_written : new.written Notes ≡ old.written Notes

-- nothing was written, or a front of the plan's text
abbrev pub HasBegunPlan : JobCommand → Told → Told → Type 0
HasBegunPlan c old new = (new.written ≡ old.written) ⊎ BeginsPlan c old new

-- why `plan` ends early: its job is refused, and nothing was written; or a call failed; or for want of memory
abbrev pub WhyHalted : JobCommand → Halt → List CallMade → Told → Told → Type 0
WhyHalted c (Refused why) calls old new = (text_refusal c.options (old.content c.job) ≡ Some why) × (new.written ≡ old.written)
WhyHalted c (Stopped (BadLine part line why)) calls old new = ⊤
WhyHalted c (Stopped (Outside call spot)) calls old new = EndsFailed job_place call spot calls × HasBegunPlan c old new
WhyHalted c (Stopped NoMemory) calls old new = HasBegunPlan c old new

-- `plan` ends early, and its calls were in order
pub record PlanHalts (c : JobCommand) (halt : Halt) (calls : List CallMade) (old new : Told) : Type 0 where
  pub order : ReadsJob c.job calls
  pub why : WhyHalted c halt calls old new
