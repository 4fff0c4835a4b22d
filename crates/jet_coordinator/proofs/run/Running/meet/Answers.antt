use Rattle.std.proofs.Common.{refl}
use Rattle.jet_coordinator.proofs.Steps.{met_on}
use Rattle.jet_coordinator.proofs.run.Running.meet.Goals as goal

pub returns-clause-came : goal.returns-clause-came
returns-clause-came c = λ told. met_on c.args.self.now (record c.args.self.now { job = c.meet.new.self }) told c.meet.ensures.feeds c.meet.ensures.sink refl refl
