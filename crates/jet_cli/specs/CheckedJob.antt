-- What the answers say to `check`.
use Rattle.std.specs.Prelude.{◌≡◌, ◌⊎◌, ⊤, Any, ℕ, ◌+◌, Bool, List, ◌++◌, length, All, Option, Some, None, IsSome}
use Rattle.jet_lines.specs.declared.fault.LineFault.{LineFault}
use Rattle.jet_file.specs.Headline.{IsReadWhole}
use Rattle.jet_file.specs.Outside.{CallMade, Told}
use Rattle.jet_flow.specs.DataFiles.{file_name}
use Rattle.jet_worker.specs.Calls.{EndsFailed, ReadsInOrder}
use Rattle.jet_worker.specs.Checked.{IsBadLine, IsBegun, IsChecked, IsGood, names_of, numbered}
use Rattle.jet_cli.specs.CallOrder.{ChecksJob, JobFirst, check_place}
use Rattle.jet_cli.specs.JobChecks.{HasChecks}
use Rattle.jet_cli.specs.JobData.{files_of}
use Rattle.jet_cli.specs.JobWords.{JobCommand}
use Rattle.jet_cli.specs.Refusals.{text_refusal}
use Rattle.jet_worker.specs.declared.stop.Stop.TheVariants.{BadLine, Outside, NoMemory}
use Rattle.jet_cli.specs.declared.halt.Halt.{Halt}
use Rattle.jet_cli.specs.declared.halt.Halt.TheVariants.{Refused, Stopped}

-- what Done to a command says that does this with the data files of its job by the calls behind those for the job file
pub record IsJobDone (c : JobCommand) (does : (old : Told) → HasChecks c old → List CallMade → Told → Type 0) (before now : ℕ → Bool) (calls : List CallMade) (old new : Told) : Type 0 where
  pub job : HasChecks c old
  -- the job file was opened by this call and read to its end
  pub read : IsReadWhole c.job job.content before now new
  pub order : JobFirst c (λ later. does old job later new) calls

-- what Done to `check` says, where the outside tells its content: each data file was opened by this call and read to its
-- end, none has a bad line, and the check's text was written
abbrev pub IsCheckedJob : JobCommand → (ℕ → Bool) → (ℕ → Bool) → List CallMade → Told → Told → Type 0
IsCheckedJob c before now = IsJobDone c (λ old job later new. IsChecked job.checks before now later old new) before now

-- the line is the first bad one of its file, whose turn was the last; the files before are good, and their lines of the
-- check's text were written
pub record IsBadLineOf (c : JobCommand) (part line : ℕ) (why : LineFault) (calls : List CallMade) (old new : Told) : Type 0 where
  pub job : HasChecks c old
  pub first : List CallMade
  pub later : List CallMade
  pub calls_are : calls ≡ first ++ later
  pub order : ReadsInOrder (names_of job.checks) later
  pub turn : length order.turns ≡ part + 1
  pub bad : IsBadLine job.checks part line why old new

-- nothing was written; or a front of the lines of the first files was, and these are good
abbrev pub HasBegunCheck : JobCommand → Told → Told → Type 0
HasBegunCheck c old new = (new.written ≡ old.written) ⊎ ((job : HasChecks c old) × IsBegun job.checks old new)

-- the job file is there, and each data file of its job
pub record HasDataFiles (c : JobCommand) (told : Told) : Type 0 where
  pub job : IsSome (told.content c.job)
  pub files : All (λ file. IsSome (told.content (file_name file))) (files_of (told.content c.job))

-- each data file of the job is there, and none of its lines is bad
abbrev pub AreGoodFiles : JobCommand → Told → Type 0
AreGoodFiles c told = (job : HasChecks c told) → All (IsGood job.checks told) (numbered job.checks)

-- how a command that reads data files ends early: its calls are in this order; what is said of a bad line; and what has
-- been written where a call failed or memory ran out
pub record EarlyEnd : Type 1 where
  pub in_order : Told → List CallMade → Type 0
  pub bad : ℕ → ℕ → LineFault → List CallMade → Told → Told → Type 0
  pub begun : Told → Told → Type 0

-- why it ends early: its job is refused, and nothing was written; or a line is bad; or a call failed; or for want of memory
abbrev pub WhyHalted : JobCommand → EarlyEnd → Halt → List CallMade → Told → Told → Type 0
WhyHalted c e (Refused why) calls old new = (text_refusal c.options (old.content c.job) ≡ Some why) × (new.written ≡ old.written)
WhyHalted c e (Stopped (BadLine part line why)) calls old new = e.bad part line why calls old new
WhyHalted c e (Stopped (Outside call spot)) calls old new = EndsFailed check_place call spot calls × e.begun old new
WhyHalted c e (Stopped NoMemory) calls old new = e.begun old new

-- it ends early, and its calls were in order
pub record JobHalts (c : JobCommand) (e : EarlyEnd) (halt : Halt) (calls : List CallMade) (old new : Told) : Type 0 where
  pub order : e.in_order old calls
  pub why : WhyHalted c e halt calls old new

-- how `check` ends early
abbrev pub check_end : JobCommand → EarlyEnd
check_end c = record { in_order = ChecksJob c; bad = IsBadLineOf c; begun = HasBegunCheck c }

abbrev pub CheckHalts : JobCommand → Halt → List CallMade → Told → Told → Type 0
CheckHalts c = JobHalts c (check_end c)

-- the job file is not there, or a data file of its job, where that is told
abbrev pub LacksFiles : JobCommand → Option Told → Type 0
LacksFiles c None = ⊤
LacksFiles c (Some told) = (told.content c.job ≡ None) ⊎ Any (λ file. told.content (file_name file) ≡ None) (files_of (told.content c.job))
