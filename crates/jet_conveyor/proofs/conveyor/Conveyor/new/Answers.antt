use Rattle.std.proofs.Common.{List, map, refl, rules}
use Rattle.jet_items.specs.declared.item.Item.{Item}
use Rattle.jet_ring.specs.Ring as ring
use Rattle.jet_ring.specs.declared.ends.Rx.{Rx}
use Rattle.jet_conveyor.specs.Conveyor.{View}
use Rattle.jet_conveyor.proofs.Views.{closed_new}
use Rattle.jet_conveyor.proofs.conveyor.Conveyor.new.Goals as goal

pub returns-clause-closed : goal.returns-clause-closed
returns-clause-closed c =
    let xs : List (Rx Item) = c.args.queues.items in
    let v : View =
    record {
      rings = map ring.rx_ring xs;
      received = map ring.received xs;
      known = map ring.known_items xs;
      done = c.in_ok-closed.closed.items;
      cursor = 0;
    } in
    closed_new v xs (record { rings = refl; received = refl; known = refl; done = search rules; cursor = refl })
