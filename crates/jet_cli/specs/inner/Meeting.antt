-- All that the top call says to one command, of how the outside went on and of the answer.
use Rattle.std.specs.Prelude.{◌≡◌, ℕ, ◌<◌, ◌≤◌, Bool, true, Option, Some, None}
use Rattle.jet_lines.specs.declared.fault.LineFault.{LineFault}
use Rattle.jet_file.specs.Causes.{Rose}
use Rattle.jet_file.specs.Headline.{WritesNothing}
use Rattle.jet_file.specs.Outside.{Told, WhereTold}
use Rattle.jet_worker.specs.Calls.{Calling, EndsFailed}
use Rattle.jet_worker.specs.declared.stop.Call.{Call}
use Rattle.jet_worker.specs.declared.stop.Spot.{Spot}
use Rattle.jet_cli.specs.Answers.{HasFiles, HasGoodFiles, HasNoJobFile, IsCutShort, IsJobUnread, IsOutsideFault, IsUsageOrRefused, OrNoMemory}
use Rattle.jet_cli.specs.CallOrder.{IsInOrder, place_in}
use Rattle.jet_cli.specs.Commands.{Finishes, HasBadLine, HasBegun, StaysQuiet, StaysQuietInTime}
use Rattle.jet_cli.specs.Refusals.{MayBeRefused, RefusalIs}
use Rattle.jet_cli.specs.Words.{JetCommand}
use Rattle.jet_cli.specs.declared.status.Refusal.{Refusal}
use Rattle.jet_cli.specs.declared.status.Status.{Status}
use Rattle.jet_cli.specs.declared.status.Status.TheVariants.{Done, Usage, JobRefused, BadLine, OutsideFault}

-- what the answer says, and when each answer comes
pub record Meets {S : Type 0} (told : S → Option Told) (opened : S → ℕ → Bool) (steady : S → Bool) (faults : S → ℕ) (c : JetCommand) (old now : S) (status : Status) : Type 0 where
  pub done : status ≡ Done → WhereTold (Finishes c (opened old) (opened now)) (told old) (told now)
  pub quiet : status ≡ Done → WhereTold (StaysQuiet c) (told old) (told now)
  pub in_time : status ≡ Done → WhereTold (StaysQuietInTime c) (told old) (told now)
  pub calls : WhereTold (Calling (IsInOrder c)) (told old) (told now)
  pub begun : IsCutShort status → WhereTold (HasBegun c) (told old) (told now)
  pub steady_same : steady now ≡ steady old
  pub later : faults old ≤ faults now
  pub usage : status ≡ Usage → ⊥
  pub refused : (why : Refusal) → status ≡ JobRefused why → MayBeRefused why c (told old)
  pub refuses : (why : Refusal) → RefusalIs (Some why) c (told old) → (IsJobUnread c status → ⊥) → OrNoMemory status (JobRefused why)
  pub unwritten : IsUsageOrRefused status → WhereTold WritesNothing (told old) (told now)
  pub untouched : HasNoJobFile (Some c) → IsUsageOrRefused status → now ≡ old
  pub bad_line : (part line : ℕ) (why : LineFault) → status ≡ BadLine part line why → HasBadLine c part line why (told old) (told now)
  pub fault : IsOutsideFault status → Rose (faults old) (faults now)
  pub every_fault : faults old < faults now → IsOutsideFault status
  pub fault_call : (call : Call) (spot : Spot) → status ≡ OutsideFault call spot → WhereTold (Calling (λ calls a b. EndsFailed (place_in c) call spot calls)) (told old) (told now)
  pub works : steady old ≡ true → HasFiles c (told old) → IsOutsideFault status → ⊥
  pub complete : RefusalIs None c (told old) → HasGoodFiles c (told old) → (Rose (faults old) (faults now) → ⊥) → OrNoMemory status Done
