use Rattle.std.proofs.Common.{◌≡◌, length}
use Rattle.jet_window.specs.inner.FrameMoves.{Moved}
use Rattle.jet_window.specs.FrameView.{held_by}
use Rattle.jet_window.proofs.frame.FrameP.give_closed.Given as goal

abbrev pub invariant-loop-frame : goal.invariant-loop-frame
invariant-loop-frame l = record {
  vertex : l.self.vertex ≡ l.initial.self.vertex;
  times : l.self.times ≡ l.initial.self.times;
  room : l.out.room ≡ l.initial.out.room;
  moved : Moved l.initial.self.vertex l.t (held_by l.initial.self) l.initial.out.items (held_by l.self) l.out.items;
}

abbrev pub decreases-loop-frame : goal.decreases-loop-frame
decreases-loop-frame l = length (held_by l.self)
