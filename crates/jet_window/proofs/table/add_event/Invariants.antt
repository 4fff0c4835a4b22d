use Rattle.std.proofs.Common.{ℕ, ◌+◌, ◌-◌, ℤ, ◌+ℤ◌, ◌-ℤ◌, ◌≤ℤ◌, ◌<ℤ◌, List, Option}
use Rattle.jet_items.specs.Grid.{IsMultiple}
use Rattle.jet_items.specs.Totals.{both}
use Rattle.jet_items.specs.Values.{AccValue}
use Rattle.jet_window.specs.Tables.{IsTable, stepped}
use borrow.Author.Differences.{up, down}
use Rattle.jet_window.proofs.table.add_event.Given as goal

abbrev pub invariant-loop-end : goal.invariant-loop-end
invariant-loop-end l = record {
  multiple : IsMultiple l.fn.slide l.end;
  start : l.fn.first ≤ℤ l.end;
  near : l.fn.first <ℤ l.end → l.end ≤ℤ (l.fn.last +ℤ l.fn.slide);
  table : (known : ℤ → List ℕ → Option AccValue) → IsTable l.fn.vertex known l.initial.table → IsTable l.fn.vertex (λ e key. both (known e key) (stepped l.fn.slide l.fn.first (l.end -ℤ l.fn.slide) l.fn.event e key)) l.table;
}

abbrev pub decreases-loop-end : goal.decreases-loop-end
decreases-loop-end l = 4000000000000000 + down l.end - up l.end
