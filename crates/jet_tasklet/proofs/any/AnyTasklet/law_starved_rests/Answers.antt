use Rattle.jet_tasklet.proofs.AnyRests.{starved_rest}
use Rattle.jet_tasklet.proofs.any.AnyTasklet.law_starved_rests.Goals as goal

pub returns : goal.returns
returns c = starved_rest c.args.self.now
