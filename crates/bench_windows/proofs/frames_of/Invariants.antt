use Rattle.jet_window.specs.Driven.{IsReady}
use Rattle.jet_window.specs.FrameCalls.{Stands}
use Rattle.bench_windows.proofs.frames_of.Given as goal

abbrev pub invariant-loop-line : goal.invariant-loop-line
invariant-loop-line l = IsReady Stands (λ p port queue. Unit {0}) l.vertex
