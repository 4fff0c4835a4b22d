-- Why the reading and counting of one line stops.
use Rattle.std.specs.Prelude.{◌≡◌, ℕ, ⊤, List, [], ◌∷◌, ◌++◌, All, Option, Some, None, Err, IsSomeAnd}
use Rattle.jet_lines.specs.Readings.{event_line}
use Rattle.jet_lines.specs.Files.{first_bad_line, most_lines}
use Rattle.jet_lines.specs.declared.fault.LineFault.{LineFault}
use Rattle.jet_file.specs.Outside.{CallMade, Opened, Read, Wrote, Missed, Told, WhereTold, Tried}
use Rattle.jet_cli.specs.BaseJob.{base_fault}
use Rattle.jet_cli.specs.Refusals.{base_refusal}
use Rattle.jet_cli.specs.Words.{WindowCommand}
use Rattle.jet_cli.specs.declared.halt.Halt.{Halt}
use Rattle.jet_cli.specs.declared.halt.Halt.TheVariants.{Refused, Stopped}
use Rattle.jet_worker.specs.Calls.{Calling, OpensInOrder, part_place}
use Rattle.jet_worker.specs.Stopping.{IsWriting, LastIs}
use Rattle.jet_worker.specs.declared.stop.Call.{Call}
use Rattle.jet_worker.specs.declared.stop.Spot.{Spot}
use Rattle.jet_cli.specs.CallOrder.{StopNamed}
use Rattle.jet_cli.specs.Pacing.{ReadsOn}
use Rattle.jet_worker.specs.declared.stop.Stop.{Stop}
use Rattle.jet_worker.specs.declared.stop.Stop.TheVariants.{BadLine, Outside, NoMemory}

-- where the stop is for a bad line, it is this line, which has this fault
abbrev pub IsBadLineAt : ℕ → List ℕ → Stop → Type 0
IsBadLineAt number line (BadLine part n why) = (part ≡ 0) × (n ≡ number) × (event_line 0 number line ≡ Err why)
IsBadLineAt number line (Outside call spot) = ⊤
IsBadLineAt number line NoMemory = ⊤

-- the call wrote
abbrev pub IsWrote : CallMade → Type 0
IsWrote (Opened name file) = ⊥
IsWrote (Read file n) = ⊥
IsWrote (Wrote to n) = ⊤
IsWrote (Missed tried) = ⊥

-- a step that opened and read nothing stopped, at such a call where one failed
pub record StepStops (such : Call → Spot → Tried → Type 0) (stop : Stop) (old new : Told) : Type 0 where
  pub calls : List CallMade
  pub wrote : All IsWrote calls
  pub last : List CallMade
  pub fails : LastIs such stop last
  pub trace : new.trace ≡ old.trace ++ calls ++ last

-- the line has a fault; or a write failed; or memory ran out
abbrev pub LineStop : ℕ → List ℕ → Option Told → Option Told → Stop → Type 0
LineStop number line old new stop = WhereTold (StepStops IsWriting stop) old new × IsBadLineAt number line stop

-- in this file the stop's line is the first bad one, where it is for a bad line
abbrev pub IsBadIn : List ℕ → Stop → Type 0
IsBadIn content (BadLine part n why) = (part ≡ 0) × (first_bad_line (event_line 0) most_lines content ≡ Some (n, why))
IsBadIn content (Outside call spot) = ⊤
IsBadIn content NoMemory = ⊤

-- that line is the first bad line of the command's file, which is part 0
abbrev pub IsFirstBadLine : WindowCommand → ℕ → ℕ → LineFault → Told → Type 0
IsFirstBadLine c part line why told = (part ≡ 0) × IsSomeAnd (told.content c.file) (λ content. first_bad_line (event_line 0) most_lines content ≡ Some (line, why))

-- where the stop is for a bad line, it is the first bad line of the command's file
abbrev pub IsBadOf : WindowCommand → Told → Stop → Type 0
IsBadOf c told (BadLine part n why) = IsFirstBadLine c part n why told
IsBadOf c told (Outside call spot) = ⊤
IsBadOf c told NoMemory = ⊤

-- why the run over the file of a command stops; its calls were in order
pub record RunStops (c : WindowCommand) (stop : Stop) (calls : List CallMade) (old new : Told) : Type 0 where
  pub opens : OpensInOrder (c.file ∷ []) calls
  pub ready : ReadsOn c old calls
  pub fails : StopNamed part_place stop calls
  pub bad : IsBadOf c old stop

-- where the stop is no want of memory, the command's job is valid
abbrev pub IsOfValid : WindowCommand → Stop → Type 0
IsOfValid c (BadLine part n why) = base_fault c ≡ None
IsOfValid c (Outside call spot) = base_fault c ≡ None
IsOfValid c NoMemory = ⊤

-- why `window` ends early: its job is refused, or it stops
abbrev pub BaseHalts : WindowCommand → Option Told → Option Told → Halt → Type 0
BaseHalts c old new (Refused why) = base_refusal c ≡ Some why
BaseHalts c old new (Stopped stop) = WhereTold (Calling (RunStops c stop)) old new × IsOfValid c stop
