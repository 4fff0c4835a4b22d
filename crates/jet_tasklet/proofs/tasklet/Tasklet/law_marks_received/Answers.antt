use Rattle.jet_tasklet.proofs.MarksGiven.{marks_entered, marks_sent}
use Rattle.jet_tasklet.proofs.tasklet.Tasklet.law_marks_received.Goals as goal

pub returns-clause-entered : goal.returns-clause-entered
returns-clause-entered g c = λ came gave k law law_amid.
    marks_entered g.P.Processor.marks g.P.Processor.marks_amid g.P.Processor.takes c.args.self.now came gave (c.law_keeps.ensures.marks came gave k) law law_amid

pub returns-clause-sent : goal.returns-clause-sent
returns-clause-sent g c = λ came gave k law law_amid.
    marks_sent g.P.Processor.marks g.P.Processor.marks_amid g.P.Processor.takes c.args.self.now came gave (c.law_keeps.ensures.marks came gave k) law law_amid
