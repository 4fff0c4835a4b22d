use Rattle.std.proofs.Common.{FitsSigned, to_z-of_z, w64}
use Rattle.jet_window.proofs.combine.CombineP.take_up.Goals as goal

pub returns-clause-rows : goal.returns-clause-rows
returns-clause-rows c =
    let fits : FitsSigned w64 c.args.end = c.ranges.end in
    let rows = simp to_z-of_z at c.in_ok-self.ensures.rows in
    rows c.args.self.now.policy.size c.requires.reaches
