use Rattle.std.proofs.Common.{refl, ◌∙◌, ap}
use Rattle.jet_stages.specs.Stamping.{told_by}
use Rattle.jet_stages.proofs.Knowing.{end_step, notes_closed}
use Rattle.jet_stages.proofs.stamp.Stamp.end.Goals as goal

pub returns-clause-notes : goal.returns-clause-notes
returns-clause-notes c = λ taken knows.
    let s = c.args.self.now in
    let went = c.done.ensures in
    notes_closed s.lag s.grain s.markers.items s.queues c.done.new.self taken c.args.queue c.raised.result c.requires.marker
    (record { value = went.value; least = went.least; reaches = went.reaches; went = end_step s.queues c.done.new.self _ c.raised.result _ refl went.low went.least (c.raised.ensures ∙ ap told_by went.answer) }) knows
