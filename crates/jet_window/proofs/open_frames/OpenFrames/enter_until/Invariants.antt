use Rattle.jet_window.specs.inner.Reached.{Enters}
use Rattle.jet_window.proofs.open_frames.OpenFrames.enter_until.Given as goal

abbrev pub invariant-loop-place : goal.invariant-loop-place
invariant-loop-place l = Enters l.end l.last l.self l.slides.entries l.place-iterator
