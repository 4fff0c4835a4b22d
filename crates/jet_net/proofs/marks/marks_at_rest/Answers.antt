use Rattle.jet_net.proofs.Passing.{marks_pass, idle_marks_pass, marks_stay}
use Rattle.jet_net.proofs.marks.marks_at_rest.Goals as goal

pub returns-clause-pass : goal.returns-clause-pass
returns-clause-pass c = marks_pass

pub returns-clause-pass_idle : goal.returns-clause-pass_idle
returns-clause-pass_idle c = idle_marks_pass

pub returns-clause-bound : goal.returns-clause-bound
returns-clause-bound c = marks_stay
