use Rattle.jet_items.specs.declared.item.Item.{Item}
use Rattle.std.proofs.Common.{List}
use Rattle.jet_tasklet.specs.Inputs.{inputs_view}
use Rattle.jet_tasklet.specs.Keeps.{Keeps}
use Rattle.jet_tasklet.specs.Over.{told_of, IsTold}
use Rattle.jet_tasklet.specs.declared.arrival.Arrival.{Arrival}
use Rattle.jet_tasklet.proofs.Over.{is_told, gave_so_far}
use Rattle.jet_tasklet.proofs.tasklet.Tasklet.law_gives_so_far.Goals as goal

pub returns-clause-bag : goal.returns-clause-bag
returns-clause-bag g c = λ came gave k.
    let t = c.args.self.now in
    let P = g.P.Processor in
    let is : IsTold (inputs_view t.inputs.items) (told_of t came) = is_told (inputs_view t.inputs.items) t.coalescer came t.step k.takes_in (λ behind. c.law_told_in_order.ensures.sound behind came gave k) (c.law_told_in_order.ensures.closed came gave k) in
    gave_so_far P.bag P.bag_amid P.takes t came gave (c.law_keeps.ensures.bag came gave k) is

pub returns-clause-marks : goal.returns-clause-marks
returns-clause-marks g c = λ came gave k.
    let t = c.args.self.now in
    let P = g.P.Processor in
    let is : IsTold (inputs_view t.inputs.items) (told_of t came) = is_told (inputs_view t.inputs.items) t.coalescer came t.step k.takes_in (λ behind. c.law_told_in_order.ensures.sound behind came gave k) (c.law_told_in_order.ensures.closed came gave k) in
    gave_so_far P.marks P.marks_amid P.takes t came gave (c.law_keeps.ensures.marks came gave k) is
