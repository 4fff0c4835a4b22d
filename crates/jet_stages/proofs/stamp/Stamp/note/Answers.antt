use Rattle.std.proofs.Common.{rules, ◌≡◌, subst, sym, refl, to_z, of_z, w64}
use Rattle.jet_items.specs.declared.item.Item.{Item}
use Rattle.jet_boxes.specs.declared.port.Port.TheVariants.{Stream}
use Rattle.jet_boxes.specs.Entry.{Given}
use Rattle.jet_stages.specs.Stamping.{Notes}
use Rattle.jet_stages.proofs.Knowing.{notes_idle, notes_other}
use Rattle.jet_stages.proofs.Queues.{step}
use Rattle.jet_stages.proofs.stamp.Stamp.note.Goals as goal

pub returns-in-Event-clause-notes : goal.returns-in-Event-clause-notes
returns-in-Event-clause-notes c = λ taken knows.
    let s = c.args.self.now in
    let at : c.in-Event.event.ts ≡ to_z w64 (of_z w64 c.event.inside.ts) = search rules in
    subst (λ (x : Item). Notes s.lag s.grain s.markers.items s.queues c.see.new.self.markers.items c.see.new.self.queues taken (Given Stream c.args.queue x) c.see.result) (sym c.in-Event.is)
    (c.see.ensures.notes taken c.in-Event.event at knows)

pub returns-in-Idle-clause-notes : goal.returns-in-Idle-clause-notes
returns-in-Idle-clause-notes c = λ taken knows.
    let s = c.args.self.now in
    let went = c.idle.ensures in
    subst (λ (x : Item). Notes s.lag s.grain s.markers.items s.queues s.markers.items c.idle.new.self taken (Given Stream c.args.queue x) c.idle.result) (sym c.in-Idle.is)
    (notes_idle s.lag s.grain s.markers.items s.queues c.idle.new.self taken c.args.queue c.idle.result c.requires.marker
    (record { value = went.value; least = went.least; reaches = went.reaches; went = step _ _ _ _ went.low went.answer }) knows)

pub returns-in_default : goal.returns-in_default
returns-in_default c =
    let s = c.args.self.now in
    record {
      settings = (refl, refl, refl);
      notes = λ taken knows. notes_other s.lag s.grain s.markers.items s.queues taken c.args.queue c.args.item.now c.in_default.not-Event c.in_default.not-Idle knows;
    }
