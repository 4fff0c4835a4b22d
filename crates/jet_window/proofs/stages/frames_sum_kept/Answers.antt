use Rattle.jet_window.proofs.Staging.{frames_sum_kept}
use Rattle.jet_window.proofs.stages.frames_sum_kept.Goals as goal

pub returns : goal.returns
returns c = frames_sum_kept
