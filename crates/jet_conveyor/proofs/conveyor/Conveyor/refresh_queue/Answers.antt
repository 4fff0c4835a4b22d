use Rattle.std.proofs.Common.{◌≡◌, ◌<◌, ◌+◌, sym, subst, refl, length, [], List, ℕ}
use Rattle.std.proofs.lemmas.Option.{slice_get_within}
use Rattle.jet_items.specs.declared.item.Item.{Item}
use Rattle.jet_ring.specs.declared.ends.Rx.{Rx}
use Rattle.jet_ring.specs.Ring as ring
use Rattle.jet_ring.proofs.Lists.{within_map, map_kept, at_same, at_other, append_along, at_map, prefix_both}
use Rattle.jet_conveyor.proofs.Views.{sees_refreshed}
use Rattle.jet_conveyor.proofs.conveyor.Conveyor.refresh_queue.Goals as goal

pub returns-clause-view : goal.returns-clause-view
returns-clause-view c =
    let v = c.index_mut.ensures.value in
    record {
      rings = map_kept ring.rx_ring _ _ _ _ v c.refresh.ensures.rx_ring;
      received = map_kept ring.received _ _ _ _ v c.refresh.ensures.received;
      others = λ k ne. at_other ring.known_items _ _ k _ [] ne;
      done = refl;
      cursor = refl;
    }

pub returns-clause-all : goal.returns-clause-all
returns-clause-all c =
    let xs : List (Rx Item) = c.args.self.now.queues.items in
    let lt : c.args.queue < length xs = within_map ring.rx_ring xs c.args.queue (slice_get_within _ _ _ c.requires) in
    append_along
    (at_same ring.received xs c.args.queue c.refresh.new.rx [] lt)
    (at_same ring.known_items xs c.args.queue c.refresh.new.rx [] lt)
    c.refresh.ensures.all

pub returns-clause-free : goal.returns-clause-free
returns-clause-free c =
    let xs : List (Rx Item) = c.args.self.now.queues.items in
    let lt : c.args.queue < length xs = within_map ring.rx_ring xs c.args.queue (slice_get_within _ _ _ c.requires) in
    let P : List Item → Type 0 = λ w. ring.known_free c.refresh.new.tx + length w ≡ ring.tx_cap c.refresh.new.tx in
    subst P (sym (at_same ring.known_items xs c.args.queue c.refresh.new.rx [] lt)) c.refresh.ensures.free

pub returns-clause-seen : goal.returns-clause-seen
returns-clause-seen c =
    let xs : List (Rx Item) = c.args.self.now.queues.items in
    let q : ℕ = c.args.queue in
    let v = c.index_mut.ensures.value in
    let lt : q < length xs = within_map ring.rx_ring xs q (slice_get_within _ _ _ c.requires) in
    let r = at_map ring.received xs q c.index_mut.result.now [] lt v in
    let k = at_map ring.known_items xs q c.index_mut.result.now [] lt v in
    let s = at_same ring.received xs q c.refresh.new.rx [] lt in
    let m = at_same ring.known_items xs q c.refresh.new.rx [] lt in
    sees_refreshed _ _ q (returns-clause-view c) (prefix_both r k (sym s) (sym m) c.refresh.ensures.seen)
