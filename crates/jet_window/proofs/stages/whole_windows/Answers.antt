use Rattle.jet_window.proofs.Counts.{whole_windows}
use Rattle.jet_window.proofs.stages.whole_windows.Goals as goal

pub returns : goal.returns
returns c = whole_windows
