use Rattle.std.proofs.Common.{◌≡◌}
use Rattle.jet_file.specs.Outside.{WhereTold}
use Rattle.jet_coordinator.specs.Going.{CanGo}
use Rattle.jet_coordinator.specs.Progress.{ComesOn}
use Rattle.jet_coordinator.proofs.run.Running.finish.Given as goal

abbrev pub invariant-epochs : goal.invariant-epochs
invariant-epochs g l = record {
  fit : CanGo (g.O.Outside.opened l.out) l.self;
  came : WhereTold (ComesOn l.initial.self l.self) (g.O.Outside.told l.initial.out) (g.O.Outside.told l.out);
  opened_same : g.O.Outside.opened l.out ≡ g.O.Outside.opened l.initial.out;
  steady_same : g.O.Outside.steady l.out ≡ g.O.Outside.steady l.initial.out;
  faults_same : g.O.Outside.faults l.out ≡ g.O.Outside.faults l.initial.out;
}
