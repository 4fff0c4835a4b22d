use Rattle.std.proofs.Common.{arith, ◌≡◌, ℤ, ◌+ℤ◌, ◌-ℤ◌, sym, subst, to_z, of_z, w64}
use Rattle.std.proofs.lemmas.Int.{ints}
use Rattle.jet_items.specs.Ranges.{IsWithin, most_frame_end}
use Rattle.jet_policy.specs.Policy.{IsPolicy, IsLastEnd}
use Rattle.jet_policy.proofs.LastEnd.{last_end_is}
use Rattle.jet_policy.proofs.policy.WinPolicy.last_end.Goals as goal

value : (size slide end : ℤ) → IsPolicy size slide → IsWithin most_frame_end end → to_z w64 (of_z w64 (to_z w64 (of_z w64 (to_z w64 (of_z w64 end) +ℤ to_z w64 (of_z w64 size))) -ℤ to_z w64 (of_z w64 slide))) ≡ (end +ℤ size) -ℤ slide
value size slide end policy within =
    let low = within.0 in
    let high = within.1 in
    omega (arith, ints, policy.size_low, policy.size_high, policy.slide_low, policy.slide_high)

pub returns-clause-value : goal.returns-clause-value
returns-clause-value c = rw (← c.self.view_is) (value c.self.inside.size c.self.inside.slide c.args.end c.self.invariant c.requires)

pub returns-clause-last : goal.returns-clause-last
returns-clause-last c =
    rw (← c.self.view_is) (λ is. subst (λ (r : ℤ). IsLastEnd c.self.inside.size c.self.inside.slide c.args.end r) (sym (value c.self.inside.size c.self.inside.slide c.args.end c.self.invariant c.requires)) (last_end_is c.self.inside.size c.self.inside.slide c.args.end c.self.invariant is))
