use Rattle.jet_window.proofs.Placing.{rows_in_order}
use Rattle.jet_window.proofs.ordered.OrderedRows.put.Goals as goal

pub returns-in_err-add-clause-order : goal.returns-in_err-add-clause-order
returns-in_err-add-clause-order c = rows_in_order c.add.new.rows.entries c.add.ensures.order.rising

pub returns-clause-order : goal.returns-clause-order
returns-clause-order c = rows_in_order c.add.new.rows.entries c.add.ensures.order.rising
