use Rattle.std.proofs.Common.{◌+◌, ◌-◌, ◌*◌, length, cond}
use Rattle.jet_cli.specs.WordsView.{window_in}
use Rattle.jet_cli.proofs.LoopFacts.{SoFar}
use Rattle.jet_cli.proofs.base.run_window.Given as goal

abbrev pub invariant-cuts : goal.invariant-cuts
invariant-cuts g l = SoFar g.O.Outside.told g.O.Outside.opened g.O.Outside.steady g.O.Outside.faults (window_in l.words) l.file l.initial.out l.out l.lines l.counter

abbrev pub decreases-cuts : goal.decreases-cuts
decreases-cuts g l = (l.lines.most - l.lines.number) * 5002 + (5000 - length l.lines.rest) + cond l.lines.ended 0 1
