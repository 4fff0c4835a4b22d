use Rattle.std.proofs.Common.{◌≡◌, take}
use Rattle.jet_items.specs.Totals.{total}
use Rattle.jet_window.specs.Tables.{IsTable, brings}
use Rattle.jet_window.proofs.plain.PlainWindow.table_until.Given as goal

abbrev pub invariant-loop-event : goal.invariant-loop-event
invariant-loop-event l = record {
  items : l.event-items ≡ l.fn.self.events;
  table : IsTable l.fn.self.vertex (λ e key. total (brings l.fn.self.size l.fn.self.slide l.fn.self.closed l.fn.upto e key) (take l.event-index l.event-items)) l.table;
}
