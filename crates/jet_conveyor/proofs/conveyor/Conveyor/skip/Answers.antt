use Rattle.std.proofs.Common.{◌≡◌, ◌<◌, ◌∙◌, sym, ap, refl, length, set, [], ◌∷◌, ◌++◌, List, ℕ, append-nil}
use mathlib.Core.List.{IsPrefix}
use Rattle.jet_items.specs.declared.item.Item.{Item}
use Rattle.jet_items.specs.Done.{is_done}
use Rattle.jet_ring.specs.declared.ends.Rx.{Rx}
use Rattle.jet_ring.specs.Ring as ring
use Rattle.jet_ring.proofs.Lists.{within_map, at_map, map_kept, map_changed, at_same, at_other, prefix_between}
use Rattle.jet_conveyor.specs.Conveyor.{view, known_at}
use Rattle.jet_conveyor.proofs.Going.{some_going, left_counted}
use Rattle.jet_conveyor.proofs.Views.{same_head, has_queue, inside_received, inside_done, sees_took, closed_took}
use Rattle.jet_conveyor.proofs.conveyor.Conveyor.skip.Goals as goal

pub returns-clause-taken : goal.returns-clause-taken
returns-clause-taken c = λ x first.
    let xs : List (Rx Item) = c.args.self.now.queues.items in
    let q : ℕ = c.args.queue in
    let v = c.index_mut.ensures.value in
    let lt : q < length xs = within_map ring.rx_ring xs q (has_queue c.args.self.now q c.requires) in
    let was = at_map ring.known_items xs q c.index_mut.result.now [] lt v in
    let front : IsPrefix (x ∷ []) (ring.known_items c.index_mut.result.now) = prefix_between {a = x ∷ []} refl (sym was) first in
    let same : c.front.result.now ≡ x = same_head c.front.result.now x (known_at (view c.args.self.now) q) c.front.ensures first in
    record {
      rings = map_kept ring.rx_ring _ _ _ _ v c.skip.ensures.ring;
      was_open = c.requires.is_open;
      received = map_changed ring.received _ _ _ _ (c.skip.ensures.taken x front ∙ ap (λ w. w ++ x ∷ []) (at_map ring.received _ _ _ [] lt v));
      known = (
        [],
        append-nil (known_at (view c.args.self.now) q) ∙ (sym was ∙ (c.skip.ensures.known x front ∙ ap (λ w. x ∷ w) (sym (at_same ring.known_items _ _ c.skip.new.self [] lt)))),
      );
      others = λ k ne. at_other ring.known_items _ _ k _ [] ne;
      done = ap (λ b. set c.args.self.now.closed.items c.args.queue b) (c.is_done-done.ensures ∙ ap is_done same);
      cursor = refl;
    }

pub returns-clause-seen : goal.returns-clause-seen
returns-clause-seen c =
    sees_took (view c.args.self.now) _ c.args.queue c.front.result.now (returns-clause-taken c c.front.result.now c.front.ensures)
    (inside_received c.args.self.now c.args.queue (has_queue c.args.self.now c.args.queue c.requires))

pub returns-clause-closed : goal.returns-clause-closed
returns-clause-closed c =
    closed_took (view c.args.self.now) _ c.args.queue c.front.result.now (returns-clause-taken c c.front.result.now c.front.ensures)
    (inside_received c.args.self.now c.args.queue (has_queue c.args.self.now c.args.queue c.requires))
    (inside_done c.args.self.now c.args.queue (has_queue c.args.self.now c.args.queue c.requires))

pub left_going-self-requires : goal.left_going-self-requires
left_going-self-requires c =
    some_going c.args.self.now.closed.items c.args.queue c.args.self.now.going (inside_done c.args.self.now c.args.queue (has_queue c.args.self.now c.args.queue c.requires)) c.requires.is_open c.args.self.now.counted

pub invariant_of-self-clause-counted : goal.invariant_of-self-clause-counted
invariant_of-self-clause-counted c =
    left_counted c.args.self.now.closed.items c.args.queue c.is_done-done.result c.args.self.now.going c.left_going-self.result (inside_done c.args.self.now c.args.queue (has_queue c.args.self.now c.args.queue c.requires)) c.requires.is_open c.args.self.now.counted c.left_going-self.ensures
