-- The call that wanted memory.
use Rattle.jet_tasklet.specs.declared.step.Step.{Step}
use Rattle.jet_tasklet.specs.declared.step.Step.TheVariants as step
use Rattle.jet_tasklet.specs.declared.step.Pending.{Pending}
use Rattle.jet_tasklet.specs.declared.step.Pending.TheVariants as call

-- a call that may want memory: any but that for the end of a queue
abbrev pub MayWant : Pending → Type 0
MayWant (call.Accept a) = Unit {0}
MayWant (call.Close port q then) = ⊥
MayWant (call.Tell t) = Unit {0}
MayWant call.Finish = Unit {0}

-- such a call is to be made, for the first time or again
abbrev pub IsWanting : Step → Type 0
IsWanting step.Poll = ⊥
IsWanting (step.Make c) = MayWant c
IsWanting step.End = ⊥
IsWanting step.Ended = ⊥
