-- What the end of a command before its work is done says of the outside.
use Rattle.std.specs.Prelude.{◌≡◌, ℕ, ◌≤◌, Bool, Option, None, Result, MatchResult}
use Rattle.jet_worker.specs.Stopping.{CauseOfStop, IsForOutside, IsNoBadLine}
use Rattle.jet_worker.specs.declared.stop.Call.TheVariants.{Open, Read}
use Rattle.jet_worker.specs.declared.stop.Spot.TheVariants.{Job}
use Rattle.jet_worker.specs.declared.stop.Stop.TheVariants.{BadLine, Outside, NoMemory}
use Rattle.jet_cli.specs.declared.halt.Halt.{Halt}
use Rattle.jet_cli.specs.declared.halt.Halt.TheVariants.{Refused, Stopped}
use Rattle.jet_cli.specs.declared.status.Refusal.{Refusal}

-- a call on the outside ended the command
abbrev pub IsOutsideHalt : Halt → Type 0
IsOutsideHalt (Refused why) = ⊥
IsOutsideHalt (Stopped stop) = IsForOutside stop

-- the opening or the reading of the job file ended the command, and no other call; or the job was refused
abbrev pub IsEarly : Halt → Type 0
IsEarly (Refused why) = Unit {0}
IsEarly (Stopped (Outside Open Job)) = Unit {0}
IsEarly (Stopped (Outside Read Job)) = Unit {0}
IsEarly (Stopped (Outside call spot)) = ⊥
IsEarly (Stopped (BadLine part line why)) = ⊥
IsEarly (Stopped NoMemory) = Unit {0}

-- where another call ended the command, its job had been read and is not refused
abbrev pub IsKnown : Option Refusal → Halt → Type 0
IsKnown refusal (Refused why) = Unit {0}
IsKnown refusal (Stopped (Outside Open Job)) = Unit {0}
IsKnown refusal (Stopped (Outside Read Job)) = Unit {0}
IsKnown refusal (Stopped (Outside call spot)) = refusal ≡ None
IsKnown refusal (Stopped (BadLine part line why)) = Unit {0}
IsKnown refusal (Stopped NoMemory) = Unit {0}

-- no bad line ended the command
abbrev pub IsNoBadHalt : Halt → Type 0
IsNoBadHalt (Refused why) = Unit {0}
IsNoBadHalt (Stopped stop) = IsNoBadLine stop

-- the count of faults rose where a call on the outside ended the command, and stays where none did
abbrev pub CauseOfHalt : ℕ → ℕ → Halt → Type 0
CauseOfHalt before now (Refused why) = now ≡ before
CauseOfHalt before now (Stopped stop) = CauseOfStop before now stop

-- what a command says of faults
pub record HaltOutcome {S T : Type 0} (steady : S → Bool) (faults : S → ℕ) (old now : S) (result : Result T Halt) : Type 0 where
  pub steady_same : steady now ≡ steady old
  pub later : faults old ≤ faults now
  pub cause : MatchResult result (λ _. faults now ≡ faults old) (CauseOfHalt (faults old) (faults now))

abbrev pub IsRefusal : Halt → Type 0
IsRefusal (Refused why) = Unit {0}
IsRefusal (Stopped stop) = ⊥
