-- When each answer of the top call comes.
use Rattle.std.specs.Prelude.{◌≡◌, Option, Some, None, ◌⊎◌, ⊤, IsSome, IsSomeAnd}
use Rattle.jet_lines.specs.Files.{first_bad_line, most_lines}
use Rattle.jet_lines.specs.Readings.{event_line}
use Rattle.jet_file.specs.Outside.{Told}
use Rattle.jet_worker.specs.declared.stop.Call.TheVariants.{Open, Read}
use Rattle.jet_worker.specs.declared.stop.Spot.TheVariants.{Job}
use Rattle.jet_cli.specs.CheckedJob.{AreGoodFiles, HasDataFiles}
use Rattle.jet_cli.specs.JobWords.{JobCommand}
use Rattle.jet_cli.specs.Words.{JetCommand, WindowCommand, WindowOf, RunOf, PlanOf, CheckOf}
use Rattle.jet_cli.specs.declared.status.Status.{Status}
use Rattle.jet_cli.specs.declared.status.Status.TheVariants.{Usage, JobRefused, OutsideFault, NoMemory}

-- the answer, or want of memory, which is free
abbrev pub OrNoMemory : Status → Status → Type 0
OrNoMemory result answer = (result ≡ answer) ⊎ (result ≡ NoMemory)

-- the file is there
abbrev pub HasFile : WindowCommand → Option Told → Type 0
HasFile c told = IsSomeAnd told (λ t. IsSome (t.content c.file))

-- the job file is there
abbrev pub HasJobFile : JobCommand → Option Told → Type 0
HasJobFile c told = IsSomeAnd told (λ t. IsSome (t.content c.job))

-- each file that the command reads is there
abbrev pub HasFiles : JetCommand → Option Told → Type 0
HasFiles (WindowOf c) told = HasFile c told
HasFiles (RunOf c) told = IsSomeAnd told (HasDataFiles c)
HasFiles (PlanOf c) told = HasJobFile c told
HasFiles (CheckOf c) told = IsSomeAnd told (HasDataFiles c)

-- the file is there, and none of its lines is bad
abbrev pub HasGoodFile : WindowCommand → Option Told → Type 0
HasGoodFile c told = IsSomeAnd told (λ t. IsSomeAnd (t.content c.file) (λ content. first_bad_line (event_line 0) most_lines content ≡ None))

-- each data file that the command reads is there, and none of its lines is bad
abbrev pub HasGoodFiles : JetCommand → Option Told → Type 0
HasGoodFiles (WindowOf c) told = HasGoodFile c told
HasGoodFiles (RunOf c) told = IsSomeAnd told (AreGoodFiles c)
HasGoodFiles (PlanOf c) told = ⊤
HasGoodFiles (CheckOf c) told = IsSomeAnd told (AreGoodFiles c)

-- the command reads no job file
abbrev pub HasNoJobFile : Option JetCommand → Type 0
HasNoJobFile None = ⊤
HasNoJobFile (Some (WindowOf c)) = ⊤
HasNoJobFile (Some (RunOf c)) = ⊥
HasNoJobFile (Some (PlanOf c)) = ⊥
HasNoJobFile (Some (CheckOf c)) = ⊥

-- the job file could not be opened or not be read
abbrev pub IsForJobFile : Status → Type 0
IsForJobFile (OutsideFault Open Job) = ⊤
IsForJobFile (OutsideFault Read Job) = ⊤
IsForJobFile status = ⊥

-- the answer tells that the command's job file was not read; `window` has none
abbrev pub IsJobUnread : JetCommand → Status → Type 0
IsJobUnread (WindowOf c) status = ⊥
IsJobUnread (RunOf c) status = IsForJobFile status
IsJobUnread (PlanOf c) status = IsForJobFile status
IsJobUnread (CheckOf c) status = IsForJobFile status

abbrev pub IsOutsideFault : Status → Type 0
IsOutsideFault (OutsideFault call file) = ⊤
IsOutsideFault status = ⊥

-- a call failed, or memory ran out
abbrev pub IsCutShort : Status → Type 0
IsCutShort (OutsideFault call file) = ⊤
IsCutShort NoMemory = ⊤
IsCutShort status = ⊥

abbrev pub IsUsageOrRefused : Status → Type 0
IsUsageOrRefused Usage = ⊤
IsUsageOrRefused (JobRefused why) = ⊤
IsUsageOrRefused status = ⊥
