use Rattle.std.proofs.Common.{◌≡◌, true, false, Ok, ◌∙◌, ap}
use Rattle.jet_window.specs.Driven.{entry_of}
use Rattle.jet_window.proofs.Driving.{may_call, called, called_again, ready_again}
use Rattle.bench_windows.proofs.tell.Goals as goal

pub loop-init : goal.loop-init
loop-init g c = called g.P.Processor.stands g.P.Processor.amid g.P.Processor.takes g.P.Processor.same g.P.Processor.frugal g.met.P.Processor.begins c.args.processor.now (entry_of c.args.item.now) c.requires

pub call-requires : goal.call-requires
call-requires g c = may_call g.P.Processor.stands g.P.Processor.amid g.P.Processor.takes g.P.Processor.same g.P.Processor.frugal c.loop.processor c.args.item.now c.loop.invariant

pub returns-then-done : goal.returns-then-done
returns-then-done g c = λ plain.
    ready_again g.P.Processor.stands g.P.Processor.amid g.P.Processor.takes g.P.Processor.same g.P.Processor.frugal g.met.P.Processor.takes_stays c.loop.processor c.call.new.processor (entry_of c.args.item.now) c.loop.out c.call.new.out c.call.result
    (c.in-Ok.is ∙ ap Ok c.if-done.true) c.call.ensures c.loop.invariant plain

pub loop-preserved : goal.loop-preserved
loop-preserved g c =
    called_again g.P.Processor.stands g.P.Processor.amid g.P.Processor.takes g.P.Processor.same g.P.Processor.frugal g.met.P.Processor.takes_stays c.loop.processor c.call.new.processor (entry_of c.args.item.now) c.loop.out c.call.new.out c.call.result
    (c.in-Ok.is ∙ ap Ok c.if-done.false) c.call.ensures c.loop.invariant
