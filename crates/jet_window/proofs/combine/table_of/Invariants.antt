use Rattle.std.proofs.Common.{take}
use Rattle.jet_window.specs.Combining.{TableOf}
use Rattle.jet_window.proofs.combine.table_of.Given as goal

abbrev pub invariant-loop-frame : goal.invariant-loop-frame
invariant-loop-frame l = TableOf (take l.frame-index l.frames) l.held
