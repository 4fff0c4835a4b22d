-- What stays true while a run reads and counts.
use Rattle.std.proofs.Common.{◌≡◌, ℕ, Bool, Option}
use Rattle.jet_file.specs.Outside.{Told}
use Rattle.jet_lines.specs.LinesValue.{LinesValue}
use Rattle.jet_cli.specs.inner.Progress.{Progress}
use Rattle.jet_cli.specs.Words.{WindowCommand}
use Rattle.jet_cli.specs.declared.counter.WindowCounter.{WindowCounter}

-- the run has come so far since the file was opened, and no call has failed
pub record SoFar {S : Type 0} (told : S → Option Told) (opened : S → ℕ → Bool) (steady : S → Bool) (faults : S → ℕ) (c : WindowCommand) (file : ℕ) (start now : S) (lines : LinesValue) (w : WindowCounter) : Type 0 where
  pub progress : Progress c file (told start) (told now) lines w
  pub opened_same : opened now ≡ opened start
  pub steady_same : steady now ≡ steady start
  pub faults_same : faults now ≡ faults start
