use Rattle.jet_sink.proofs.Printing.{prints_more}
use Rattle.jet_sink.proofs.rows.print_due.Goals as goal

pub loop-row-preserved : goal.loop-row-preserved
loop-row-preserved c =
    prints_more c.args.windows.now c.args.rows.now c.loop-row.rows c.next.new.self c.in-Some.row c.args.to.now.items c.loop-row.to.items c.print_row.new.to.items
    c.loop-row.invariant c.in-Some.ensures.given c.in-Some.ensures.let_out c.in_ok-print_row.ensures
