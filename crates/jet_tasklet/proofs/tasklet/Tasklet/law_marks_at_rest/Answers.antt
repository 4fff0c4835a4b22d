use Rattle.jet_tasklet.proofs.MarksGiven.{marks_rest, marks_pass}
use Rattle.jet_tasklet.proofs.tasklet.Tasklet.law_marks_at_rest.Goals as goal

pub returns-clause-last : goal.returns-clause-last
returns-clause-last g c = λ came gave k law r o.
    marks_rest g.P.Processor.marks g.P.Processor.marks_amid g.P.Processor.takes c.args.self.now came gave (c.law_keeps.ensures.marks came gave k) law r o

pub returns-clause-passes : goal.returns-clause-passes
returns-clause-passes g c = λ s came gave k law r o all.
    marks_pass g.P.Processor.marks g.P.Processor.marks_amid g.P.Processor.takes c.args.self.now came gave (c.law_keeps.ensures.marks came gave k) law r o s all
