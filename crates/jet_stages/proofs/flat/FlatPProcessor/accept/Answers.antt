use Rattle.std.proofs.Common.{◌≡◌, true, Ok, sym, subst}
use Rattle.jet_items.specs.declared.item.Item.{Item}
use Rattle.jet_boxes.specs.Entry.{Given}
use Rattle.jet_boxes.specs.Calls.{Call}
use Rattle.jet_stages.specs.declared.flat.FlatP.{FlatP}
use Rattle.jet_stages.specs.Flat.{FlatStands, FlatAmid}
use Rattle.jet_stages.proofs.Flats.{flat_call}
use Rattle.jet_stages.proofs.flat.FlatPProcessor.accept.Goals as goal

pub returns-in-Event : goal.returns-in-Event
returns-in-Event c =
    let e = c.give_legs.ensures in
    subst (λ (x : Item). Call (λ (f : FlatP) taken given. FlatStands f.legs.items f.next taken given) (λ (f : FlatP) taken entry given. FlatAmid f.legs.items f.next taken entry given) (λ f g. g.legs ≡ f.legs) true c.args.self.now (Given c.args._port c.args._queue x) c.args.out.now (Ok c.give_legs.result) c.give_legs.new.self c.give_legs.new.out) (sym c.in-Event.is)
    (flat_call c.args.self.now c.give_legs.new.self c.args._port c.args._queue c.in-Event.event c.args.out.now c.give_legs.new.out c.give_legs.result e.legs e.room e.all e.some e.full)
