use Rattle.jet_plan.proofs.CheckLaws.{valid_shaped, valid_acyclic}
use Rattle.jet_plan.proofs.Depths.{depth_below, depth_rises}
use Rattle.jet_plan.proofs.laws.edges_lead_deeper.Goals as goal

pub returns-clause-deeper : goal.returns-clause-deeper
returns-clause-deeper c =
    depth_rises c.args.dag.now (valid_shaped c.args.dag.now c.args.settings.now c.requires).known (valid_acyclic c.args.dag.now c.args.settings.now c.requires)

pub returns-clause-below : goal.returns-clause-below
returns-clause-below c = depth_below c.args.dag.now (valid_acyclic c.args.dag.now c.args.settings.now c.requires)
