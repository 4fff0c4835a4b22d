use Rattle.jet_window.proofs.Counts.{few_frames}
use Rattle.jet_window.proofs.stages.few_frames.Goals as goal

pub returns : goal.returns
returns c = few_frames
