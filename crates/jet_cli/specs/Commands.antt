-- What the answers of the top call say to each command.
use Rattle.std.specs.Prelude.{◌≡◌, ⊤, ℕ, Bool, Option}
use Rattle.jet_lines.specs.declared.fault.LineFault.{LineFault}
use Rattle.jet_file.specs.Outside.{Told, WhereTold}
use Rattle.jet_file.specs.declared.outside.Out.TheVariants.{Notes}
use Rattle.jet_worker.specs.Calls.{Calling}
use Rattle.jet_cli.specs.CheckedJob.{HasBegunCheck, IsBadLineOf, IsCheckedJob}
use Rattle.jet_cli.specs.Done.{IsDone, IsQuiet, IsQuietInTime}
use Rattle.jet_cli.specs.LineStops.{IsFirstBadLine}
use Rattle.jet_cli.specs.Planned.{HasBegunPlan, IsPlanned}
use Rattle.jet_cli.specs.RunJob.{HasBegunRun, IsBadLineInRun, IsRunJob}
use Rattle.jet_cli.specs.Words.{JetCommand, WindowOf, RunOf, PlanOf, CheckOf}

-- what Done says, where the outside tells its content
abbrev pub Finishes : JetCommand → (ℕ → Bool) → (ℕ → Bool) → Told → Told → Type 0
Finishes (WindowOf c) before now old new = IsDone c before now old new
Finishes (RunOf c) before now old new = Calling (IsRunJob c before now) old new
Finishes (PlanOf c) before now old new = Calling (IsPlanned c before now) old new
Finishes (CheckOf c) before now old new = Calling (IsCheckedJob c before now) old new

-- no late line is written where no event is behind, and none ever by `plan` and `check`; of `run` nothing is said yet
abbrev pub StaysQuiet : JetCommand → Told → Told → Type 0
StaysQuiet (WindowOf c) old new = IsQuiet c old new
StaysQuiet (RunOf c) old new = ⊤
StaysQuiet (PlanOf c) old new = new.written Notes ≡ old.written Notes
StaysQuiet (CheckOf c) old new = new.written Notes ≡ old.written Notes

-- no late line is written where no event lags more than the lag, and none ever by `plan` and `check`; of `run` nothing is said yet
abbrev pub StaysQuietInTime : JetCommand → Told → Told → Type 0
StaysQuietInTime (WindowOf c) old new = IsQuietInTime c old new
StaysQuietInTime (RunOf c) old new = ⊤
StaysQuietInTime (PlanOf c) old new = new.written Notes ≡ old.written Notes
StaysQuietInTime (CheckOf c) old new = new.written Notes ≡ old.written Notes

-- that line is the first bad line of its file; `plan` reads no lines
abbrev pub HasBadLine : JetCommand → ℕ → ℕ → LineFault → Option Told → Option Told → Type 0
HasBadLine (WindowOf c) part line why old new = WhereTold (λ a b. IsFirstBadLine c part line why a) old new
HasBadLine (RunOf c) part line why old new = WhereTold (Calling (IsBadLineInRun c part line why)) old new
HasBadLine (PlanOf c) part line why old new = ⊥
HasBadLine (CheckOf c) part line why old new = WhereTold (Calling (IsBadLineOf c part line why)) old new

-- what `run`, `plan` and `check` have written where a call failed or memory ran out: fronts of their texts
abbrev pub HasBegun : JetCommand → Told → Told → Type 0
HasBegun (WindowOf c) old new = ⊤
HasBegun (RunOf c) old new = HasBegunRun c old new
HasBegun (PlanOf c) old new = HasBegunPlan c old new
HasBegun (CheckOf c) old new = HasBegunCheck c old new
