use Rattle.jet_window.proofs.Calling.{close_call}
use Rattle.jet_window.proofs.combine.CombinePProcessor.close_queue.Goals as goal

pub returns-clause-call : goal.returns-clause-call
returns-clause-call c = close_call c.args.self.now c.args._port c.args._queue c.args._out.now
