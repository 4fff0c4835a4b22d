-- The words as they were read.
use Rattle.std.specs.Prelude.{◌<◌, ◌≤◌, ◌^◌, ◌≡◌, Some, ⊤}
use Rattle.jet_items.specs.Ranges.{most_time}
use Rattle.jet_plan.specs.Texts.{text_at}
use Rattle.jet_cli.specs.JobWords.{JobCommand}
use Rattle.jet_cli.specs.Words.{WindowCommand, JetCommand, WindowOf, RunOf, PlanOf, CheckOf}
use Rattle.jet_cli.specs.declared.job_words.JobWords.{JobWords}
use Rattle.jet_cli.specs.declared.words.WindowWords.{WindowWords}
use Rattle.jet_cli.specs.declared.words.Command.{Command}
use Rattle.jet_cli.specs.declared.words.Command.TheVariants.{Window, Run, Plan, Check}

-- what was read behind `window`
abbrev pub window_in : WindowWords → WindowCommand
window_in w = record { size = w.size; slide = w.slide; lag = w.lag; file = w.file.now }

-- what was read behind `run`, `plan` or `check`
abbrev pub job_read : JobWords → JobCommand
job_read w = record { job = w.job.now; options = w.options }

-- the command that was read
abbrev pub command_in : Command → JetCommand
command_in (Window w) = WindowOf (window_in w)
command_in (Run w) = RunOf (job_read w)
command_in (Plan w) = PlanOf (job_read w)
command_in (Check w) = CheckOf (job_read w)

-- sizes have at most sixteen digits, the lag is at most 10 ^ 15, and the file's name is a text
abbrev pub AreSmall : WindowWords → Type 0
AreSmall w = (w.size < 10 ^ 16) × (w.slide < 10 ^ 16) × (w.lag ≤ most_time) × (text_at w.file.now ≡ Some w.file.now)

-- so it is where the command is `window`
abbrev pub IsSmall : Command → Type 0
IsSmall (Window w) = AreSmall w
IsSmall (Run w) = ⊤
IsSmall (Plan w) = ⊤
IsSmall (Check w) = ⊤
