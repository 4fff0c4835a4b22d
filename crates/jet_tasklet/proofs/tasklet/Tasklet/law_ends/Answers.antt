use Rattle.jet_tasklet.specs.Inputs.{inputs_view}
use Rattle.jet_tasklet.specs.Over.{told_of, IsTold}
use Rattle.jet_tasklet.proofs.Over.{is_told, is_over}
use Rattle.jet_tasklet.proofs.tasklet.Tasklet.law_ends.Goals as goal

pub returns : goal.returns
returns g c = λ came gave k e.
    let t = c.args.self.now in
    let P = g.P.Processor in
    let is : IsTold (inputs_view t.inputs.items) (told_of t came) = is_told (inputs_view t.inputs.items) t.coalescer came t.step k.takes_in (λ behind. c.law_told_in_order.ensures.sound behind came gave k) (c.law_told_in_order.ensures.closed came gave k) in
    is_over P.stands P.bag P.marks P.amid P.takes g.met.P.Processor.bag_law g.met.P.Processor.marks_law g.met.P.Processor.open_law t came gave k e is
