use Rattle.std.proofs.Common.{rules, ◌≡◌, true, false, None, Ok, sym, subst}
use Rattle.std.specs.Prelude.{is_some}
use Rattle.jet_boxes.specs.declared.port.Port.{Port}
use Rattle.jet_boxes.specs.declared.port.Port.TheVariants.{Stream}
use Rattle.jet_boxes.specs.Entry.{QueueClosed}
use Rattle.jet_boxes.specs.Calls.{Call}
use Rattle.jet_stages.specs.declared.stamp.Stamp.{Stamp}
use Rattle.jet_stages.specs.Stamping.{Stands, Amid, Same}
use Rattle.jet_stages.proofs.Stamps.{Ready, ready, end_comes, call_begins, call_goes_on, none_by, some_by, count_stays, same_box}
use Rattle.jet_stages.proofs.stamp.StampProcessor.close_queue.Goals as goal

pub returns-then-is_some : goal.returns-then-is_some
returns-then-is_some c =
    let p = c.args.self.now in
    let some : is_some p.owed ≡ true = search rules in
    let owed = some_by p.owed some in
    call_goes_on p c.settle.new.self (QueueClosed c.args._port c.args.queue) c.args.out.now c.settle.new.out owed.0 c.settle.result owed.1 c.settle.ensures.settled c.settle.ensures.waits

pub end-self-requires-clause-going : goal.end-self-requires-clause-going
end-self-requires-clause-going c =
    let p = c.args.self.now in
    let none : is_some p.owed ≡ false = search rules in
    let may = c.requires.3 in
    (ready p c.args._port c.args.queue c.requires.0 (QueueClosed c.args._port c.args.queue) c.requires.1 (none_by p.owed none) c.requires.2 may.1.0 may.1.1 may.2).going

pub returns : goal.returns
returns c =
    let p = c.args.self.now in
    let none : is_some p.owed ≡ false = search rules in
    let no_mark : p.owed ≡ None = none_by p.owed none in
    let may = c.requires.3 in
    let open_queue : Ready p c.args.queue = ready p c.args._port c.args.queue c.requires.0 (QueueClosed c.args._port c.args.queue) c.requires.1 no_mark c.requires.2 may.1.0 may.1.1 may.2 in
    let q : Stamp = record c.end-self.new.self { owed = c.end-self.result } in
    subst (λ (port : Port). Call Stands Amid Same true p (QueueClosed port c.args.queue) c.args.out.now (Ok c.settle-2.result) c.settle-2.new.self c.settle-2.new.out) (sym may.1.0)
    (call_begins p q c.settle-2.new.self (QueueClosed Stream c.args.queue) c.args.out.now c.args.out.now c.settle-2.new.out c.settle-2.result no_mark tt (end_comes p c.args.queue open_queue) (c.end-self.ensures.settings.0, c.end-self.ensures.settings.1) c.end-self.ensures.notes
    (count_stays p q c.requires.0 (QueueClosed Stream c.args.queue) c.requires.1 no_mark (subst (λ (port : Port). Amid p c.requires.0 (QueueClosed port c.args.queue) c.requires.1) may.1.0 c.requires.2) c.end-self.ensures.notes) (same_box c.args.out.now) c.settle-2.ensures.settled c.settle-2.ensures.waits)
