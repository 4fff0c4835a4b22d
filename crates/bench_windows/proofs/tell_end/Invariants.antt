use Rattle.jet_window.specs.Driven.{IsReady}
use Rattle.bench_windows.proofs.tell_end.Given as goal

abbrev pub invariant-loop-place : goal.invariant-loop-place
invariant-loop-place g l = IsReady g.P.Processor.stands g.P.Processor.takes l.processor
