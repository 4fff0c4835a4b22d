use Rattle.jet_window.specs.Driven.{entry_of, IsCalled}
use Rattle.bench_windows.proofs.tell.Given as goal

abbrev pub invariant-loop : goal.invariant-loop
invariant-loop g l = IsCalled g.P.Processor.amid g.P.Processor.takes l.processor (entry_of l.item)
