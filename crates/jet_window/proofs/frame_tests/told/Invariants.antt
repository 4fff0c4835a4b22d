use Rattle.jet_window.specs.Driven.{IsReady}
use Rattle.jet_window.proofs.frame_tests.told.Given as goal

abbrev pub invariant-loop-item : goal.invariant-loop-item
invariant-loop-item g l = IsReady g.P.Processor.stands g.P.Processor.takes l.processor
