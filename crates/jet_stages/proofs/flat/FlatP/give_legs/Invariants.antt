use Rattle.std.proofs.Common.{◌≡◌, map, drop, length, ◌-◌}
use Rattle.jet_items.specs.declared.item.Item.TheVariants as item
use Rattle.jet_stages.specs.Flat.{legs_give, Progress}
use Rattle.jet_stages.proofs.flat.FlatP.give_legs.Given as goal

abbrev pub invariant-loop-self : goal.invariant-loop-self
invariant-loop-self l = record {
  legs : l.self.legs ≡ l.initial.self.legs;
  room : l.out.room ≡ l.initial.out.room;
  moved : Progress l.initial.out.items (map item.Event (legs_give (drop l.initial.self.next l.initial.self.legs.items) l.event)) l.out.items (map item.Event (legs_give (drop l.self.next l.initial.self.legs.items) l.event));
}

abbrev pub decreases-loop-self : goal.decreases-loop-self
decreases-loop-self l = length l.initial.self.legs.items - l.self.next
