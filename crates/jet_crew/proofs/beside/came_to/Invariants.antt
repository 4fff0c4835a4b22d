use Rattle.std.proofs.Common.{map, take}
use Rattle.jet_crew.specs.Turns.{Together}
use Rattle.jet_crew.proofs.beside.came_to.Given as goal

abbrev pub invariant-loop-worker : goal.invariant-loop-worker
invariant-loop-worker g l = Together (map (λ w. w.end) (take l.worker-index l.workers)) l.end
