use Rattle.jet_sink.proofs.Telling.{told_stop}
use Rattle.jet_sink.proofs.sink.Sink.drain.Goals as goal

pub returns-in-Err-clause-told : goal.returns-in-Err-clause-told
returns-in-Err-clause-told g c = told_stop c.collect.new.self.row_lines.items c.collect.new.self.late_lines.items (g.O.Outside.told c.args.out.now)
