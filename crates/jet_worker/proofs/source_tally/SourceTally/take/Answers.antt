use Rattle.jet_worker.proofs.SourceLemmas.{entry_refuses, took_entry}
use Rattle.jet_worker.proofs.source_tally.SourceTally.take.Goals as goal

pub returns-in-Ok-clause-took : goal.returns-in-Ok-clause-took
returns-in-Ok-clause-took c = took_entry c.laws_of_lines.ensures.events c.args.number c.args.line.now c.in-Ok.entry c.args.self.now c.enter.new.self c.in-Ok.ensures c.enter.ensures.counts

pub returns-in-Err-clause-refused : goal.returns-in-Err-clause-refused
returns-in-Err-clause-refused c = entry_refuses c.args.number c.args.line.now c.args.self.now c.in-Err.refused c.in-Err.ensures
