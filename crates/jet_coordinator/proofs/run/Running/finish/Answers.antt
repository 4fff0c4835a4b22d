use Rattle.std.proofs.Common.{◌∙◌}
use Rattle.jet_worker.specs.declared.stop.Stop.TheVariants.{NoMemory}
use Rattle.jet_coordinator.proofs.Steps.{on_then, stop_then, stops_for_memory}
use Rattle.jet_coordinator.proofs.run.Running.finish.Goals as goal

pub returns-in-Ok-true-clause-came : goal.returns-in-Ok-true-clause-came
returns-in-Ok-true-clause-came g c =
    on_then c.args.self.now c.epochs.self c.step.new.self (g.O.Outside.told c.args.out.now) (g.O.Outside.told c.epochs.out) (g.O.Outside.told c.step.new.out) c.epochs.invariant.came c.in-Ok-true.ensures.came

pub returns-in-Err-clause-stop : goal.returns-in-Err-clause-stop
returns-in-Err-clause-stop g c =
    stop_then c.args.self.now c.epochs.self c.in-Err.stop (g.O.Outside.told c.args.out.now) (g.O.Outside.told c.epochs.out) (g.O.Outside.told c.step.new.out) c.epochs.invariant.came c.in-Err.ensures.stop

pub epochs-preserved : goal.epochs-preserved
epochs-preserved g c = record {
  fit = c.in-Ok-false.ensures.fit;
  came = on_then c.args.self.now c.epochs.self c.step.new.self (g.O.Outside.told c.args.out.now) (g.O.Outside.told c.epochs.out) (g.O.Outside.told c.step.new.out) c.epochs.invariant.came c.in-Ok-false.ensures.came;
  opened_same = c.in-Ok-false.ensures.outcome.opened_same ∙ c.epochs.invariant.opened_same;
  steady_same = c.in-Ok-false.ensures.outcome.steady_same ∙ c.epochs.invariant.steady_same;
  faults_same = c.in-Ok-false.ensures.outcome.cause ∙ c.epochs.invariant.faults_same;
}

pub returns-clause-stop : goal.returns-clause-stop
returns-clause-stop g c =
    let t = g.O.Outside.told c.epochs.out in
    stop_then c.args.self.now c.epochs.self NoMemory (g.O.Outside.told c.args.out.now) t t c.epochs.invariant.came (stops_for_memory c.epochs.self t)
