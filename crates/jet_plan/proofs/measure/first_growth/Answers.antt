use Rattle.std.proofs.Common.{not}
use Rattle.jet_plan.proofs.MeasureLaws.{known_kept}
use Rattle.jet_plan.proofs.measure.first_growth.Goals as goal

pub first_beyond-requires-clause-known : goal.first_beyond-requires-clause-known
first_beyond-requires-clause-known c = rw (c.items.ensures, c.items-2.ensures) (known_kept (λ e. not e.build) c.args.dag.now.vertices c.args.dag.now.edges c.requires)
