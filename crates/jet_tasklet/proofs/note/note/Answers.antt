use Rattle.std.proofs.Common.{◌<◌, length, refl, sym, subst}
use Rattle.jet_tasklet.specs.declared.arrival.Arrival.{Arrival}
use Rattle.jet_tasklet.specs.declared.step.Step.{Step}
use Rattle.jet_tasklet.specs.inner.Noting.{Notes}
use Rattle.jet_tasklet.proofs.Heard.{note_data, note_mark, note_done, data_unless}
use Rattle.jet_tasklet.proofs.note.note.Goals as goal

pub returns-in-Stream : goal.returns-in-Stream
returns-in-Stream c =
    let a : Arrival = c.args.arrival in
    let lt : a.queue < length c.args.coalescer.now.queues = let r = c.requires c.in-Stream.is in r.0 in
    subst (λ (next : Step). Notes c.args.coalescer.now c.observe.new.self a next) (sym c.tell.ensures)
    (note_mark c.args.coalescer.now c.observe.new.self a c.in-Mark.mark c.observe.result c.in-Stream.is c.in-Mark.is lt c.observe.ensures.heard c.observe.ensures.risen)

pub returns-in-Done : goal.returns-in-Done
returns-in-Done c = note_done c.args.arrival.port c.args.coalescer.now c.end.new.coalescer c.args.arrival c.end.result refl c.in-Done.is (λ e. let r = c.requires e in r.0) c.end.ensures

pub returns-in_default : goal.returns-in_default
returns-in_default c = note_data c.args.coalescer.now c.args.arrival (data_unless c.args.arrival.item c.in_default.not-Mark c.in_default.not-Done)
