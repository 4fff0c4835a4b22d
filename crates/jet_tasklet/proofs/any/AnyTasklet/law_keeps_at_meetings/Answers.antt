use Rattle.jet_tasklet.proofs.AnyMeeting.{any_input_keeps, any_output_keeps}
use Rattle.jet_tasklet.proofs.any.AnyTasklet.law_keeps_at_meetings.Goals as goal

pub returns : goal.returns
returns c = record {
  input = λ runs came gave n q was w k at met. any_input_keeps c.args.self.now came gave n q was w runs k at met;
  output = λ runs came gave n d was w k at met. any_output_keeps c.args.self.now came gave n d was w runs k at met;
}
