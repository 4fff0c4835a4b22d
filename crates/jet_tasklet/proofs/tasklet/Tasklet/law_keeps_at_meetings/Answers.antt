use Rattle.jet_tasklet.proofs.Meeting.{input_keeps, output_keeps}
use Rattle.jet_tasklet.proofs.tasklet.Tasklet.law_keeps_at_meetings.Goals as goal

pub returns : goal.returns
returns g c = record {
  input = λ came gave n q was w k at met. input_keeps g.P.Processor.stands g.P.Processor.amid g.P.Processor.takes c.args.self.now came gave n q was w at met k;
  output = λ came gave n d was w k at met. output_keeps g.P.Processor.stands g.P.Processor.amid g.P.Processor.takes c.args.self.now came gave n d was w at met k;
}
