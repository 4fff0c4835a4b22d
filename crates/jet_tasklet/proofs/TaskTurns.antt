-- The answers of turns in a row of a tasklet that is a task of a worker.
use Rattle.std.proofs.Common.{subst, inl, inr}
use Rattle.jet_crew.specs.declared.end.EpochEnd.{EpochEnd}
use Rattle.jet_crew.specs.declared.end.EpochEnd.TheVariants.{Moved, Idle, Done, NoMemory}
use Rattle.jet_crew.specs.Turns.{joined}
use Rattle.jet_wire.specs.declared.progress.Progress.TheVariants as progress
use Rattle.jet_tasklet.specs.declared.any.AnyTasklet.{AnyTasklet}
use Rattle.jet_tasklet.specs.declared.any.AnyTasklet.TheVariants as any
use Rattle.jet_tasklet.specs.Any.{AnyTurned, AnyMayWant}
use Rattle.jet_tasklet.specs.Crew.{WantedMemory, TaskSaid}
use Rattle.jet_tasklet.specs.Turns.{AnyWent}
use Rattle.jet_tasklet.proofs.AnyRows.{any_went_trans, any_said_joined}

-- what may want memory after turns could before, since it is of the same kind
could_want : (t u : AnyTasklet) → AnyTurned t u → AnyMayWant u → AnyMayWant t
could_want (any.Stamp t) (any.Stamp u) w m = m
could_want (any.Map t) (any.Map u) w m = m
could_want (any.Filter t) (any.Filter u) w m = m
could_want (any.Flat t) (any.Flat u) w m = m
could_want (any.Join t) (any.Join u) w m = m
could_want (any.Frame t) (any.Frame u) w m = m
could_want (any.Combine t) (any.Combine u) w m = m
could_want (any.Send t) (any.Send u) w m = m
could_want (any.Receive t) (any.Receive u) w m = m
could_want t u w m = absurd w

-- turns before the one that wanted memory, and turns after it
wanted_later : (t u v : AnyTasklet) → AnyWent t u → WantedMemory u v → WantedMemory t v
wanted_later t u v w h = record { may = could_want t u w.turned h.may; at = h.at; went = any_went_trans t u h.at w h.went; pending = h.pending; since = h.since }

wanted_before : (t u v : AnyTasklet) → WantedMemory t u → AnyWent u v → WantedMemory t v
wanted_before t u v h w = record { may = h.may; at = h.at; went = h.went; pending = h.pending; since = inr since }
  where
    since : AnyWent h.at v
    since =
        elim h.since [
          | inl is ↦ subst (λ (x : AnyTasklet). AnyWent x v) is w
          | inr on ↦ any_went_trans h.at u v on w
        ]

pub task_said : (p q : EpochEnd) (t u v : AnyTasklet) → AnyWent t u → AnyWent u v → TaskSaid p t u → TaskSaid q u v → TaskSaid (joined p q) t v
task_said Moved Moved t u v w x s r = (s.0, any_said_joined progress.Moved progress.Moved t u v w x s.1 r.1)
task_said Moved Idle t u v w x s r = (s.0, any_said_joined progress.Moved progress.Idle t u v w x s.1 r.1)
task_said Moved Done t u v w x s r = (s.0, any_said_joined progress.Moved progress.Done t u v w x s.1 r)
task_said Moved NoMemory t u v w x s r = (s.0, wanted_later t u v w r.1)
task_said Idle Moved t u v w x s r = (s.0, any_said_joined progress.Idle progress.Moved t u v w x s.1 r.1)
task_said Idle Idle t u v w x s r = (s.0, any_said_joined progress.Idle progress.Idle t u v w x s.1 r.1)
task_said Idle Done t u v w x s r = any_said_joined progress.Idle progress.Done t u v w x s.1 r
task_said Idle NoMemory t u v w x s r = (s.0, wanted_later t u v w r.1)
task_said Done Moved t u v w x s r = absurd (r.0 s.1)
task_said Done Idle t u v w x s r = absurd (r.0 s.1)
task_said Done Done t u v w x s r = any_said_joined progress.Done progress.Done t u v w x s r
task_said Done NoMemory t u v w x s r = absurd (r.0 s.1)
task_said NoMemory q t u v w x s r = (s.0, wanted_before t u v s.1 x)
