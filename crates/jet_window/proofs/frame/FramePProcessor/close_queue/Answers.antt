use Rattle.jet_window.proofs.FrameCalls.{close_call}
use Rattle.jet_window.proofs.frame.FramePProcessor.close_queue.Goals as goal

pub returns-clause-call : goal.returns-clause-call
returns-clause-call c = close_call c.args.self.now c.args._port c.args._queue c.args._out.now
