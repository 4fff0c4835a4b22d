use Rattle.jet_plan.proofs.Ranges.{ranged}
use Rattle.jet_plan.proofs.laws.valid_jobs_keep_their_ranges.Goals as goal

pub returns : goal.returns
returns c = ranged c.args.dag.now c.args.settings.now c.requires
