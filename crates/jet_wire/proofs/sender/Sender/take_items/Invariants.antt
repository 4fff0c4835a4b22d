use Rattle.std.proofs.Common.{◌≤◌, ◌<◌, ◌+◌}
use Rattle.jet_wire.specs.Sender.{sender_view}
use Rattle.jet_wire.specs.SenderSteps.{Went}
use Rattle.jet_wire.specs.SenderTurn.{received_count}
use Rattle.jet_wire.proofs.sender.Sender.take_items.Given as goal

abbrev pub invariant-items : goal.invariant-items
invariant-items l = record {
  went : Went (sender_view l.fn.self) (sender_view l.self);
  some : received_count (sender_view l.fn.self).queues < received_count (sender_view l.self).queues;
  few : received_count (sender_view l.self).queues ≤ received_count (sender_view l.fn.self).queues + l._taken;
}
