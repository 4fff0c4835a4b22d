use Rattle.jet_sink.proofs.Sizes.{all_sized}
use Rattle.jet_sink.proofs.plan.valid_windows_have_sizes.Goals as goal

pub returns : goal.returns
returns c = all_sized c.args.dag.now c.args.settings.now c.requires
