use Rattle.jet_deploy.proofs.Faults.{vertices_in_range}
use Rattle.jet_deploy.proofs.laws.valid_vertices_keep_their_ranges.Goals as goal

pub returns : goal.returns
returns c = vertices_in_range c.args.dag.now c.args.settings.now c.requires
