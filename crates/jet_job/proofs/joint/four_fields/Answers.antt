use Rattle.std.proofs.Common.{arith}
use Rattle.std.proofs.lemmas.Bool.Decides.{nat_tests}
use Rattle.jet_job.proofs.Loops.{not_four}
use Rattle.jet_job.proofs.joint.four_fields.Goals as goal

pub returns-in_default : goal.returns-in_default
returns-in_default c = not_four c.args.items.now (let h = c.in_default.len_below in grind (arith, nat_tests))

pub returns-in_default-2 : goal.returns-in_default-2
returns-in_default-2 c = not_four c.args.items.now (let h = c.in_default.len_at_least in grind (arith, nat_tests))
