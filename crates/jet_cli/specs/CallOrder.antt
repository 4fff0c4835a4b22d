-- The calls of a command on the outside, however it ends, and which of them a fault names.
use Rattle.std.specs.Prelude.{◌≡◌, ◌⊎◌, ⊤, ℕ, ◌+◌, ◌<◌, ◌≤◌, List, [], ◌∷◌, ◌++◌, map, sum, All, Option, Some, None}
use Rattle.jet_file.specs.Outside.{CallMade, Told}
use Rattle.jet_flow.specs.DataFiles.{file_name}
use Rattle.jet_worker.specs.Calls.{EndsFailed, OpensInOrder, ReadsInOrder, part_place}
use Rattle.jet_worker.specs.Checked.{HaveTurns, numbered}
use Rattle.jet_worker.specs.declared.stop.Spot.{Spot}
use Rattle.jet_worker.specs.declared.stop.Spot.TheVariants.{Job, Part}
use Rattle.jet_worker.specs.declared.stop.Stop.{Stop}
use Rattle.jet_worker.specs.declared.stop.Stop.TheVariants.{BadLine, Outside, NoMemory}
use Rattle.jet_cli.specs.JobWords.{JobCommand}
use Rattle.jet_cli.specs.JobChecks.{HasChecks}
use Rattle.jet_cli.specs.JobData.{files_of}
use Rattle.jet_cli.specs.Pacing.{ReadsOn}
use Rattle.jet_cli.specs.Words.{JetCommand, WindowOf, RunOf, PlanOf, CheckOf}

-- one byte more than a job file may have
abbrev pub most_text : ℕ
most_text = 1048577

-- the job file is opened first
abbrev pub job_place : Spot → Option ℕ
job_place Job = Some 0
job_place spot = None

-- and then the data files in the order of their numbers
abbrev pub check_place : Spot → Option ℕ
check_place Job = Some 0
check_place (Part p) = Some (p + 1)
check_place spot = None

-- the place of a file among the openings of a command
abbrev pub place_in : JetCommand → Spot → Option ℕ
place_in (WindowOf c) = part_place
place_in (RunOf c) = check_place
place_in (PlanOf c) = job_place
place_in (CheckOf c) = check_place

-- before each of these reads of a file, none had found its end
abbrev pub AreBeforeEnd : List ℕ → Type 0
AreBeforeEnd counts = (front back : List ℕ) (n : ℕ) → counts ≡ front ++ n ∷ back → All (λ m. 0 < m) front

-- the job file is opened and read, not behind its end, and no more bytes are taken of it than one too many
pub record ReadsJob (name : List ℕ) (calls : List CallMade) : Type 0 where
  pub order : ReadsInOrder (name ∷ []) calls
  pub live : All (λ t. AreBeforeEnd t.counts) order.turns
  pub few : All (λ t. sum t.counts ≤ most_text) order.turns

-- first the calls for the job file, and then such calls for the data files of its job
pub record JobFirst (c : JobCommand) (such : List CallMade → Type 0) (calls : List CallMade) : Type 0 where
  pub first : List CallMade
  pub later : List CallMade
  pub calls_are : calls ≡ first ++ later
  pub job : ReadsJob c.job first
  pub files : such later

-- the names of the data files of the job in a command's job file
abbrev pub data_names : JobCommand → Told → List (List ℕ)
data_names c told = map file_name (files_of (told.content c.job))

-- the data files have their turns: the line of a file was written before the next file was read
pub record ChecksFiles (c : JobCommand) (told : Told) (calls : List CallMade) : Type 0 where
  pub order : ReadsInOrder (data_names c told) calls
  pub turns : (order.turns ≡ []) ⊎ ((job : HasChecks c told) × HaveTurns job.checks told (numbered job.checks) order.turns)

-- the calls of `check`
abbrev pub ChecksJob : JobCommand → Told → List CallMade → Type 0
ChecksJob c told = JobFirst c (ChecksFiles c told)

-- the calls of `run`: all data files are opened before the first is read
abbrev pub RunsJob : JobCommand → Told → List CallMade → Type 0
RunsJob c told = JobFirst c (OpensInOrder (data_names c told))

-- the calls of a command come in its order, and no other file is opened; `window` reads on only when all is ready for it
abbrev pub IsInOrder : JetCommand → List CallMade → Told → Told → Type 0
IsInOrder (WindowOf c) calls old new = OpensInOrder (c.file ∷ []) calls × ReadsOn c old calls
IsInOrder (RunOf c) calls old new = RunsJob c old calls
IsInOrder (PlanOf c) calls old new = ReadsJob c.job calls
IsInOrder (CheckOf c) calls old new = ChecksJob c old calls

-- where the stop is for a call that failed, it names the last one
abbrev pub StopNamed : (Spot → Option ℕ) → Stop → List CallMade → Type 0
StopNamed place_of (BadLine part line why) calls = ⊤
StopNamed place_of (Outside call spot) calls = EndsFailed place_of call spot calls
StopNamed place_of NoMemory calls = ⊤
