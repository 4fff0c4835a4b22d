use Rattle.jet_worker.specs.declared.stop.Stop.TheVariants.{NoMemory}
use Rattle.jet_coordinator.proofs.Steps.{stop_then, stops_for_memory}
use Rattle.jet_coordinator.proofs.run.Running.step.Goals as goal

pub returns-in-NoMemory-clause-stop : goal.returns-in-NoMemory-clause-stop
returns-in-NoMemory-clause-stop g c =
    let t = g.O.Outside.told c.tend.new.out in
    stop_then c.args.self.now c.tend.new.self NoMemory (g.O.Outside.told c.args.out.now) t t c.in-Ok.ensures.came (stops_for_memory c.tend.new.self t)
