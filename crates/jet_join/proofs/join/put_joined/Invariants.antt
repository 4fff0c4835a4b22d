use Rattle.std.proofs.Common.{◌≡◌, ◌-◌, length}
use Rattle.jet_join.specs.Stands.{items_over}
use Rattle.jet_join.proofs.Giving.{Progress}
use Rattle.jet_join.proofs.join.put_joined.Given as goal

abbrev pub invariant-loop-next : goal.invariant-loop-next
invariant-loop-next l = record {
  room : l.out.room ≡ l.initial.out.room;
  moved : Progress (items_over l.setting l.rows l.event) l.initial.next l.initial.out.items l.next l.out.items;
}

abbrev pub decreases-loop-next : goal.decreases-loop-next
decreases-loop-next l = length l.rows - l.next
