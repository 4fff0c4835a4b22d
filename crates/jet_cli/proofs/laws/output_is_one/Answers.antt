use Rattle.jet_cli.proofs.OneOutput.{output_is_one}
use Rattle.jet_cli.proofs.laws.output_is_one.Goals as goal

pub returns : goal.returns
returns c = output_is_one c.events_as_bags.ensures c.rows_are_one.ensures c.rows_stay_by_order.ensures
