use Rattle.std.proofs.Common.{◌+◌, map, take, sym, subst}
use Rattle.jet_crew.specs.declared.end.EpochEnd.{EpochEnd}
use Rattle.jet_crew.specs.declared.worker.Worker.{Worker}
use Rattle.jet_crew.specs.Turns.{Together}
use Rattle.jet_crew.proofs.Joining.{together_none, together_next}
use Rattle.jet_crew.proofs.beside.came_to.Goals as goal

pub loop-worker-init : goal.loop-worker-init
loop-worker-init g c = together_none

pub loop-worker-preserved : goal.loop-worker-preserved
loop-worker-preserved g c =
    subst (λ (e : EpochEnd). Together (map (λ w. w.end) (take (c.loop-worker.worker-index + 1) c.args.workers.now)) e) (sym c.worse-end.ensures)
    (together_next (λ (w : Worker g.row.T.Denot). w.end) c.args.workers.now c.loop-worker.worker-index c.worker-item.result c.loop-worker.end c.loop-worker-test.true c.worker-item.is c.loop-worker.invariant)
