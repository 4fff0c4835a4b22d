use Rattle.jet_layout.proofs.Counting.{has_counted}
use Rattle.jet_layout.proofs.laws.layouts_have_what_is_counted.Goals as goal

pub returns : goal.returns
returns c = has_counted c.args.dag.now c.args.settings.now c.args.layout.now c.requires
