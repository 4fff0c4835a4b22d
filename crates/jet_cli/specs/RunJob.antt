-- What the answers say to `run`.
use Rattle.std.specs.Prelude.{◌≡◌, ◌⊎◌, ℕ, Bool, List}
use Rattle.jet_coordinator.specs.Runs.{HasBegunPrinting, HasRun, IsFirstBadLine}
use Rattle.jet_file.specs.Outside.{CallMade, Told}
use Rattle.jet_flow.specs.Inflows.{windows}
use Rattle.jet_items.specs.Rows.{Window}
use Rattle.jet_lines.specs.declared.fault.LineFault.{LineFault}
use Rattle.jet_cli.specs.CallOrder.{RunsJob}
use Rattle.jet_cli.specs.CheckedJob.{EarlyEnd, IsJobDone, JobHalts}
use Rattle.jet_cli.specs.JobChecks.{HasChecks}
use Rattle.jet_cli.specs.JobWords.{JobCommand}
use Rattle.jet_cli.specs.declared.halt.Halt.{Halt}

-- the windows of the job of a command
abbrev pub job_windows : (c : JobCommand) (told : Told) → HasChecks c told → List Window
job_windows c told h = windows h.job.dag

-- what Done to `run` says, where the outside tells its content: each data file was opened by this call and read to its end,
-- none has a bad line, and each row and late event of one list of items was written, and nothing else
abbrev pub IsRunJob : JobCommand → (ℕ → Bool) → (ℕ → Bool) → List CallMade → Told → Told → Type 0
IsRunJob c before now = IsJobDone c (λ old job later new. HasRun job.checks (job_windows c old job) before now later old new) before now

-- fronts of the texts of rows and late events of the job's windows were written
pub record BeginsRun (c : JobCommand) (old new : Told) : Type 0 where
  pub job : HasChecks c old
  pub printed : HasBegunPrinting (job_windows c old job) old new

-- nothing was written, or fronts of such texts
abbrev pub HasBegunRun : JobCommand → Told → Told → Type 0
HasBegunRun c old new = (new.written ≡ old.written) ⊎ BeginsRun c old new

-- the line is the first bad one of its file, and fronts of such texts were written
pub record IsBadLineInRun (c : JobCommand) (part line : ℕ) (why : LineFault) (calls : List CallMade) (old new : Told) : Type 0 where
  pub begun : BeginsRun c old new
  pub bad : IsFirstBadLine begun.job.checks part line why old

-- how `run` ends early
abbrev pub run_end : JobCommand → EarlyEnd
run_end c = record { in_order = RunsJob c; bad = IsBadLineInRun c; begun = HasBegunRun c }

abbrev pub RunHalts : JobCommand → Halt → List CallMade → Told → Told → Type 0
RunHalts c = JobHalts c (run_end c)
