use Rattle.std.proofs.Common.{◌<◌, ◌∙◌, sym, subst, refl, length, [], List, ℕ, arith, rules}
use Rattle.jet_items.specs.declared.item.Item.{Item}
use Rattle.jet_ring.specs.declared.ends.Rx.{Rx}
use Rattle.jet_ring.specs.Ring as ring
use Rattle.jet_ring.proofs.Lists.{within_map, map_kept, at_map, at_same, at_other, prefix_between}
use Rattle.jet_conveyor.proofs.Views.{same_view, open_at}
use Rattle.jet_conveyor.proofs.conveyor.Conveyor.look.Goals as goal

pub returns-then-not-index-clause-found : goal.returns-then-not-index-clause-found
returns-then-not-index-clause-found c = λ yes.
    let xs : List (Rx Item) = c.args.self.now.queues.items in
    let q : ℕ = c.args.queue in
    let v = c.index_mut.ensures.value in
    let lt : q < length xs = within_map ring.rx_ring xs q c.requires in
    let now = at_same ring.known_items xs q c.has_item.new.self [] lt in
    record {
      item = record {
        is_open = open_at c.args.self.now.closed.items q c.index.result.now (omega (arith, c.args.self.now.one_each, lt, c.args.self.now.closed.ok.0, c.args.self.now.queues.ok.0)) c.index.ensures (search rules);
        some = subst (λ (w : List Item). 0 < length w) (sym now) (c.has_item.ensures.answer.0 yes);
      };
      known = prefix_between (at_map ring.known_items xs q c.index_mut.result.now [] lt v) (sym now) c.has_item.ensures.known;
      same = record {
        rings = map_kept ring.rx_ring _ _ _ _ v c.has_item.ensures.ring;
        received = map_kept ring.received _ _ _ _ v c.has_item.ensures.received;
        others = λ k ne. at_other ring.known_items _ _ k _ [] ne;
        done = refl;
        cursor = refl;
      };
    }

pub returns-then-not-index-clause-nothing : goal.returns-then-not-index-clause-nothing
returns-then-not-index-clause-nothing c = λ no.
    let v = c.index_mut.ensures.value in
    let none = c.has_item.ensures.none no in
    same_view
    (map_kept ring.rx_ring _ _ _ _ v c.has_item.ensures.ring)
    (map_kept ring.received _ _ _ _ v c.has_item.ensures.received)
    (map_kept ring.known_items _ _ _ _ v (none.0 ∙ sym none.1))
    refl
    refl
