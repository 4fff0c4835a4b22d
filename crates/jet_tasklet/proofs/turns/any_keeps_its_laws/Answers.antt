use Rattle.jet_tasklet.proofs.AnyMeeting.{any_kept, any_keeps}
use Rattle.jet_tasklet.proofs.turns.any_keeps_its_laws.Goals as goal

pub returns : goal.returns
returns c = record { lawful = any_kept c.args.tasklet.now; keeps = any_keeps c.args.tasklet.now }
