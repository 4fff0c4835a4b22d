use Rattle.jet_window.proofs.Extremes.{LookedBack}
use Rattle.jet_window.proofs.slide.look_back.Given as goal

abbrev pub invariant-loop-place : goal.invariant-loop-place
invariant-loop-place l = LookedBack l.initial.entries.items l.entries.items l.place l.least l.greatest

abbrev pub decreases-loop-place : goal.decreases-loop-place
decreases-loop-place l = l.place
