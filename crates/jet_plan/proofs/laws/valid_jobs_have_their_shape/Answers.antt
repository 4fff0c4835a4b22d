use Rattle.jet_plan.proofs.ShapeLaws.{job_shape}
use Rattle.jet_plan.proofs.laws.valid_jobs_have_their_shape.Goals as goal

pub returns : goal.returns
returns c = job_shape c.args.dag.now c.args.settings.now c.requires
