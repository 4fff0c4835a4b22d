use Rattle.std.proofs.Common.{◌≡◌, ℕ, ◌<◌, Some, sym, subst, OnOk, All, Ok, Result}
use Rattle.jet_items.specs.Values.{EventValue}
use Rattle.jet_lines.specs.Readings.{event_line}
use Rattle.jet_cli.specs.inner.Progress.{TookLine}
use Rattle.jet_worker.specs.declared.stop.Stop.{Stop}
use Rattle.jet_cli.proofs.LineLemmas.{wrote_event, write_stops, wrote_nothing, on_ok_from}
use Rattle.jet_cli.proofs.base.take_line.Goals as goal

pub returns-in-Ok-clause-took : goal.returns-in-Ok-clause-took
returns-in-Ok-clause-took g c = on_ok_from c.write.result (λ d is command events table counts prints before no_rows no_notes.
    let old = c.args.counter.now in
    let mid = c.take.new.self in
    let new = c.write.new.self in
    let e : EventValue = c.in-Ok-Some.event in
    let read : event_line 0 c.args.number c.args.line.now ≡ Ok (Some e) = rw c.in-Ok-Some.field-0-is at c.in-Ok-Some.ensures in
    let line : e.line ≡ c.args.number = c.laws_of_lines.ensures.line 0 c.args.number c.args.line.now e read in
    let before_e : All (λ (x : EventValue). x.line < e.line) events = subst (λ (n : ℕ). All (λ (x : EventValue). x.line < n) events) (sym line) before in
    subst (λ (r : Result (Unit {0}) Stop). OnOk r (TookLine command events table c.args.number c.args.line.now (g.O.Outside.told c.args.out.now) (g.O.Outside.told c.write.new.out) new)) is
    (wrote_event command events e table c.args.number c.args.line.now (g.O.Outside.told c.args.out.now) (g.O.Outside.told c.write.new.out) old mid new
    read (c.in-Ok.ensures.took command events table counts prints before_e) prints no_rows no_notes c.in-Ok.ensures.size c.in-Ok.ensures.name
    c.write.ensures.marker c.write.ensures.window c.write.ensures.size c.write.ensures.name
    c.write.result c.write.ensures.told c.write.ensures.rows c.write.ensures.notes))

pub returns-in-Ok-clause-stop : goal.returns-in-Ok-clause-stop
returns-in-Ok-clause-stop g c =
    write_stops c.take.new.self.rows.items c.take.new.self.notes.items c.args.number c.args.line.now (g.O.Outside.told c.args.out.now) (g.O.Outside.told c.write.new.out) c.write.result
    c.write.ensures.told c.write.ensures.no_bad_line

pub returns-in-Ok-None-clause-took : goal.returns-in-Ok-None-clause-took
returns-in-Ok-None-clause-took g c = λ command events table counts prints before no_rows no_notes.
    wrote_nothing command events table c.args.number c.args.line.now (g.O.Outside.told c.args.out.now) c.args.counter.now (rw c.in-Ok-None.field-0-is at c.in-Ok-None.ensures) counts prints no_rows no_notes
