-- What the answer of turns says of a tasklet of any kind that is a task of a worker.
use Rattle.std.specs.Prelude.{◌≡◌, ◌⊎◌}
use Rattle.jet_crew.specs.declared.end.EpochEnd.{EpochEnd}
use Rattle.jet_crew.specs.declared.end.EpochEnd.TheVariants.{Moved, Idle, Done, NoMemory}
use Rattle.jet_wire.specs.declared.progress.Progress.TheVariants as progress
use Rattle.jet_tasklet.specs.declared.any.AnyTasklet.{AnyTasklet}
use Rattle.jet_tasklet.specs.Any.{AnyHasEnded, AnyMayWant}
use Rattle.jet_tasklet.specs.Turns.{AnyWent, AnySaid}
use Rattle.jet_tasklet.specs.Views.{step_of}
use Rattle.jet_tasklet.specs.Wanting.{IsWanting}

-- its processor is one that may want memory, and did in one of the turns: the call stood pending after that turn
pub record WantedMemory (t u : AnyTasklet) : Type 0 where
  pub may : AnyMayWant t
  pub at : AnyTasklet
  pub went : AnyWent t at
  pub pending : IsWanting (step_of at)
  pub since : (u ≡ at) ⊎ AnyWent at u

-- it had not ended before
abbrev pub WasOpen : AnyTasklet → Type 0
WasOpen t = AnyHasEnded t → ⊥

-- what the tasklet says of its progress, or that it wanted memory; one that had ended answers only Done
abbrev pub TaskSaid : EpochEnd → AnyTasklet → AnyTasklet → Type 0
TaskSaid Moved t u = WasOpen t × AnySaid progress.Moved t u
TaskSaid Idle t u = WasOpen t × AnySaid progress.Idle t u
TaskSaid Done t u = AnySaid progress.Done t u
TaskSaid NoMemory t u = WasOpen t × WantedMemory t u
