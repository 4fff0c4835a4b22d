-- What the reading of a job file does.
use Rattle.std.specs.Prelude.{◌≡◌, ◌≢◌, ℕ, ◌≤◌, Bool, List, ◌∷◌, ◌++◌, length, map, sum, take, Some, Ok}
use Rattle.jet_file.specs.Outside.{Told, CallMade, Opened, Read, AddsNumber}
use Rattle.jet_job.specs.Jobs.{job_at}
use Rattle.jet_job.specs.declared.job_text.JobText.{JobText}
use Rattle.jet_plan.specs.declared.plan.Plan.{Plan}
use Rattle.jet_worker.specs.declared.stop.Stop.{Stop}
use Rattle.jet_worker.specs.Calls.{ArePieces}
use Rattle.jet_cli.specs.CallOrder.{AreBeforeEnd, ReadsJob, StopNamed, job_place, most_text}
use Rattle.jet_cli.specs.JobWords.{JobCommand}
use Rattle.jet_cli.specs.Refusals.{text_refusal, with_options}
use Rattle.jet_cli.specs.declared.halt.Halt.{Halt}
use Rattle.jet_cli.specs.declared.halt.Halt.TheVariants.{Refused, Stopped}

-- a file was opened and this text read of it: all, or the first bytes where there are too many
pub record ReadsJobFile (name text : List ℕ) (before now : ℕ → Bool) (old new : Told) : Type 0 where
  pub file : ℕ
  pub opened : AddsNumber file before now
  pub content : List ℕ
  pub content_is : old.content name ≡ Some content
  pub front : text ≡ take most_text content
  pub place : new.place file ≡ record { name = name; taken = length text }
  pub others : (other : ℕ) → other ≢ file → new.place other ≡ old.place other
  pub kept : new.content ≡ old.content
  pub written : new.written ≡ old.written
  pub counts : List ℕ
  pub pieces : ArePieces counts
  pub live : AreBeforeEnd counts
  pub few : sum counts ≤ most_text
  pub trace : new.trace ≡ old.trace ++ (Opened name file ∷ map (Read file) counts)

-- a job file was opened and read whole, and this is the plan of its job with the options put over
pub record ReadsPlan (c : JobCommand) (plan : Plan) (before now : ℕ → Bool) (old new : Told) : Type 0 where
  pub file : ℕ
  pub opened : AddsNumber file before now
  pub content : List ℕ
  pub content_is : old.content c.job ≡ Some content
  pub job : JobText
  pub job_is : job_at content ≡ Ok job
  pub dag : plan.dag ≡ job.dag
  pub settings : plan.settings ≡ with_options c.options job.settings
  pub place : new.place file ≡ record { name = c.job; taken = length content }
  pub others : (other : ℕ) → other ≢ file → new.place other ≡ old.place other
  pub kept : new.content ≡ old.content
  pub written : new.written ≡ old.written
  pub counts : List ℕ
  pub pieces : ArePieces counts
  pub live : AreBeforeEnd counts
  pub few : sum counts ≤ most_text
  pub trace : new.trace ≡ old.trace ++ (Opened c.job file ∷ map (Read file) counts)

-- the reading of a job file stopped, and nothing was written
pub record StopsJob (name : List ℕ) (stop : Stop) (calls : List CallMade) (old new : Told) : Type 0 where
  pub order : ReadsJob name calls
  pub fails : StopNamed job_place stop calls
  pub written : new.written ≡ old.written

-- why the job file of a command gives no plan: the job is refused for its first fault, or the reading stopped
abbrev pub WhyUnread : JobCommand → Halt → List CallMade → Told → Type 0
WhyUnread c (Refused why) calls old = text_refusal c.options (old.content c.job) ≡ Some why
WhyUnread c (Stopped stop) calls old = StopNamed job_place stop calls

-- the job file of a command gave no plan, and nothing was written
pub record ReadHalts (c : JobCommand) (halt : Halt) (calls : List CallMade) (old new : Told) : Type 0 where
  pub order : ReadsJob c.job calls
  pub why : WhyUnread c halt calls old
  pub written : new.written ≡ old.written
