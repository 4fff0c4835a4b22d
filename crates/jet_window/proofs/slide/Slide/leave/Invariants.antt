use Rattle.std.proofs.Common.{◌≡◌, length}
use Rattle.jet_window.specs.Slides.{pairs_above}
use Rattle.jet_window.proofs.slide.Slide.leave.Given as goal

abbrev pub invariant-loop-first : goal.invariant-loop-first
invariant-loop-first l = pairs_above l.end l.self ≡ pairs_above l.end l.initial.self

abbrev pub decreases-loop-first : goal.decreases-loop-first
decreases-loop-first l = length l.self
