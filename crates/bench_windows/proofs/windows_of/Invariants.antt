use Rattle.jet_window.specs.Driven.{IsReady}
use Rattle.jet_window.specs.CombineCalls.{Stands}
use Rattle.bench_windows.proofs.windows_of.Given as goal

abbrev pub invariant-loop-number : goal.invariant-loop-number
invariant-loop-number l = IsReady Stands (λ p port queue. Unit {0}) l.vertex
