use Rattle.jet_tasklet.proofs.Carrying.{KeepsSound, KeepsClosed, KeepsData, of_ends, sound_kept, closed_kept, data_kept}
use Rattle.jet_tasklet.proofs.any.AnyTasklet.law_link_keeps_order.Goals as goal

pub returns-clause-sound : goal.returns-clause-sound
returns-clause-sound c = of_ends KeepsSound c.in-Send.is c.in-Receive.is (sound_kept c.in-Send.from c.in-Receive.to c.receivers_give_what_was_sent.ensures.front c.receivers_give_what_was_sent.ensures.next c.law_passes_in_order.ensures.sound_sent)

pub returns-clause-closed : goal.returns-clause-closed
returns-clause-closed c = of_ends KeepsClosed c.in-Send.is c.in-Receive.is (closed_kept c.in-Send.from c.in-Receive.to c.receivers_give_what_was_sent.ensures.front c.receivers_give_what_was_sent.ensures.next c.law_passes_in_order.ensures.closed_sent)

pub returns-clause-data : goal.returns-clause-data
returns-clause-data c = of_ends KeepsData c.in-Send.is c.in-Receive.is (data_kept c.in-Send.from c.in-Receive.to c.links_end.ensures.over c.law_takes_from_all.ensures)
