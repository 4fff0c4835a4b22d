use Rattle.jet_window.proofs.Reaching.{none_entered}
use Rattle.jet_window.proofs.held_frames.before.Goals as goal

pub returns-then-ends_above-clause-tracks : goal.returns-then-ends_above-clause-tracks
returns-then-ends_above-clause-tracks c = λ held h. none_entered held c.clear.new.self.entries c.clear.ensures.empty
