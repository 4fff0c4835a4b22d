use Rattle.jet_tasklet.proofs.Keeping.{next_smaller}
use Rattle.jet_tasklet.proofs.tasklet.Tasklet.advance.Goals as goal

pub returns-in-Make-clause-smaller : goal.returns-in-Make-clause-smaller
returns-in-Make-clause-smaller g c = λ e. next_smaller c.in-Make.pending c.args.self.now.step c.make.new.self.step c.in-Make.is (c.make.ensures.next e)
