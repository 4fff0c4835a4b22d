use Rattle.jet_worker.proofs.SideLemmas.{refused_by, took_by, took_no_row}
use Rattle.jet_worker.proofs.side_tally.SideTally.take.Goals as goal

pub returns-in-Ok-Some-clause-took : goal.returns-in-Ok-Some-clause-took
returns-in-Ok-Some-clause-took c = took_by c.laws_of_lines.ensures.sides c.args.number c.args.line.now c.in-Ok-Some.row c.args.self.now c.count.new.self c.count.result (rw c.in-Ok-Some.field-0-is at c.in-Ok-Some.ensures) c.count.ensures.counts

pub returns-in-Ok-Some-clause-refused : goal.returns-in-Ok-Some-clause-refused
returns-in-Ok-Some-clause-refused c = refused_by c.args.number c.args.line.now c.in-Ok-Some.row c.args.self.now c.count.result (rw c.in-Ok-Some.field-0-is at c.in-Ok-Some.ensures) c.count.ensures.refused

pub returns-in-Ok-None-clause-took : goal.returns-in-Ok-None-clause-took
returns-in-Ok-None-clause-took c = took_no_row c.laws_of_lines.ensures.sides c.args.number c.args.line.now c.args.self.now (rw c.in-Ok-None.field-0-is at c.in-Ok-None.ensures)
