use Rattle.jet_crew.proofs.Places.{SoFar}
use Rattle.jet_crew.proofs.worker.all_turns.Given as goal

abbrev pub invariant-loop-task : goal.invariant-loop-task
invariant-loop-task g l = SoFar g.T.Turns.went g.T.Turns.said l.turns l.end l.initial.tasks l.tasks l.task-index
