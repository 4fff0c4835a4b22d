use Rattle.jet_tasklet.proofs.Fresh.{keeps_as}
use Rattle.jet_tasklet.proofs.tasklet.Tasklet.law_keeps.Goals as goal

pub returns : goal.returns
returns g c = record {
  bag = λ came gave k. keeps_as g.P.Processor.stands g.P.Processor.bag g.P.Processor.amid g.P.Processor.bag_amid g.P.Processor.takes g.met.P.Processor.bag_law g.met.P.Processor.bag_law_amid c.args.self.now came gave k;
  marks = λ came gave k. keeps_as g.P.Processor.stands g.P.Processor.marks g.P.Processor.amid g.P.Processor.marks_amid g.P.Processor.takes g.met.P.Processor.marks_law g.met.P.Processor.marks_law_amid c.args.self.now came gave k;
}
