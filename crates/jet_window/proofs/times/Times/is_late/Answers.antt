use Rattle.std.proofs.Common.{◌∙◌, ap, ℤ, Option, FitsSigned, to_z-of_z, w64}
use Rattle.jet_window.specs.LateEvents.{is_below}
use Rattle.jet_window.proofs.Timing.{below_late}
use Rattle.jet_window.proofs.times.Times.is_late.Goals as goal

pub returns-clause-value : goal.returns-clause-value
returns-clause-value c =
    let fits : FitsSigned w64 c.args.ts = c.ranges.ts in
    let tested = simp to_z-of_z at c.is_below.ensures in
    rw (← c.self.view_is) (tested ∙ (ap (λ (o : Option ℤ). is_below o c.args.ts) c.self.invariant.floor_is ∙ below_late c.self.inside.policy.slide c.self.inside.begun c.self.inside.last c.args.ts))

pub returns-clause-policy : goal.returns-clause-policy
returns-clause-policy c = rw (← c.self.view_is) c.self.invariant.policy_is
