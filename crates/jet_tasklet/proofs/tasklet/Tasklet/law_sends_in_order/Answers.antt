use Rattle.jet_items.specs.Order.{Sound, Closed}
use Rattle.jet_tasklet.specs.Outputs.{outputs_view}
use Rattle.jet_tasklet.proofs.GenericLaws.{sends}
use Rattle.jet_tasklet.proofs.Sending.{sound_passing, closed_passing}
use Rattle.jet_tasklet.proofs.tasklet.Tasklet.law_sends_in_order.Goals as goal

pub returns-clause-sound : goal.returns-clause-sound
returns-clause-sound g c = λ behind came gave k premise.
    let t = c.args.self.now in
    sends (Sound behind) (sound_passing behind) gave t.outbox.items (outputs_view t.outputs.items) k.gives_out (c.law_enters_in_order.ensures.sound behind came gave k premise)

pub returns-clause-closed : goal.returns-clause-closed
returns-clause-closed g c = λ came gave k premise.
    let t = c.args.self.now in
    sends Closed closed_passing gave t.outbox.items (outputs_view t.outputs.items) k.gives_out (c.law_enters_in_order.ensures.closed came gave k premise)
