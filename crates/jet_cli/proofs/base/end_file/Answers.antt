use Rattle.std.proofs.Common.{subst, OnOk, Result}
use Rattle.jet_cli.specs.inner.Ending.{Ends}
use Rattle.jet_worker.specs.declared.stop.Stop.{Stop}
use Rattle.jet_cli.proofs.LineLemmas.{wrote_end, end_stops, on_ok_from}
use Rattle.jet_cli.proofs.base.end_file.Goals as goal

pub returns-in-Ok-clause-ends : goal.returns-in-Ok-clause-ends
returns-in-Ok-clause-ends g c = on_ok_from c.write.result (λ d is command events table counts prints no_rows no_notes.
    subst (λ (r : Result (Unit {0}) Stop). OnOk r (Ends command events table (g.O.Outside.told c.args.out.now) (g.O.Outside.told c.write.new.out))) is
    (wrote_end command events table (g.O.Outside.told c.args.out.now) (g.O.Outside.told c.write.new.out) c.args.counter.now c.finish.new.self
    (c.in-Ok.ensures.finished command events table counts prints) no_rows no_notes c.write.result c.write.ensures.told))

pub returns-in-Ok-clause-stop : goal.returns-in-Ok-clause-stop
returns-in-Ok-clause-stop g c =
    end_stops c.finish.new.self.rows.items c.finish.new.self.notes.items (g.O.Outside.told c.args.out.now) (g.O.Outside.told c.write.new.out) c.write.result c.write.ensures.told c.write.ensures.no_bad_line
