use Rattle.std.proofs.Common.{◌++◌}
use Rattle.jet_items.specs.Order.{Each, Sound, Closed}
use Rattle.jet_boxes.specs.Entry.{NotDone, items_of}
use Rattle.jet_boxes.specs.declared.port.Port.TheVariants.{Stream}
use Rattle.jet_tasklet.specs.Inputs.{inputs_view, queue_count}
use Rattle.jet_tasklet.specs.Keeps.{told}
use Rattle.jet_tasklet.proofs.GenericLaws.{working_law}
use Rattle.jet_tasklet.proofs.Sending.{sound_done, closed_done, told_open}
use Rattle.jet_tasklet.proofs.tasklet.Tasklet.law_enters_in_order.Goals as goal

pub returns-clause-sound : goal.returns-clause-sound
returns-clause-sound g c = λ behind came gave k premise.
    let t = c.args.self.now in
    working_law g.P.Processor.stands g.P.Processor.amid g.P.Processor.takes (g.P.Processor.sound_if t.processor behind) (Sound behind) t.processor
    (λ taken given h e. g.met.P.Processor.sound_law behind t.processor taken given h e)
    (λ taken entry given h e. g.met.P.Processor.sound_law_amid behind t.processor taken entry given h e)
    (λ taken given h e s. sound_done behind given s)
    t.step (told t.step (queue_count Stream (inputs_view t.inputs.items)) came) (gave ++ t.outbox.items) k.works premise

pub returns-clause-closed : goal.returns-clause-closed
returns-clause-closed g c = λ came gave k premise.
    let t = c.args.self.now in
    working_law g.P.Processor.stands g.P.Processor.amid g.P.Processor.takes (λ taken. g.P.Processor.closed_if t.processor taken × Each NotDone (items_of taken)) Closed t.processor
    (λ taken given h e. g.met.P.Processor.closed_law t.processor taken given h e.0)
    (λ taken entry given h e. g.met.P.Processor.closed_law_amid t.processor taken entry given h e.0)
    (λ taken given h e s. closed_done given (g.met.P.Processor.open_law t.processor taken given h e.1) s)
    t.step (told t.step (queue_count Stream (inputs_view t.inputs.items)) came) (gave ++ t.outbox.items) k.works
    (λ taken more is. (premise taken more is, told_open t.step (queue_count Stream (inputs_view t.inputs.items)) came taken more is))
