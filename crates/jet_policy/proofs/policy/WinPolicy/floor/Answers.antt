use Rattle.std.proofs.Common.{rules, arith, ◌≡◌, ℤ, ◌-ℤ◌, to_z-of_z, to_z, of_z, w64, sym, subst, FitsSigned}
use Rattle.std.proofs.lemmas.Int.{ints}
use Rattle.std.specs.Int.{int_rem_euclid}
use Rattle.jet_items.proofs.GridLemmas.{floor_is, rem_bounds}
use Rattle.jet_items.specs.Grid.{IsFloor, floor_to}
use Rattle.jet_policy.proofs.policy.WinPolicy.floor.Goals as goal

value : (c : goal.After-rem_euclid) → to_z w64 (of_z w64 (to_z w64 (of_z w64 c.args.t) -ℤ to_z w64 (of_z w64 c.rem_euclid.result))) ≡ floor_to c.self.inside.slide c.args.t
value c =
    let fits : FitsSigned w64 c.self.inside.slide = search rules in
    let fits_t : FitsSigned w64 c.args.t = c.ranges.t in
    let is : c.rem_euclid.result ≡ int_rem_euclid c.args.t c.self.inside.slide = simp to_z-of_z at c.rem_euclid.ensures.value in
    omega (arith, ints, is, rem_bounds c.args.t c.self.inside.slide c.self.invariant.slide_low)

pub returns-clause-value : goal.returns-clause-value
returns-clause-value c = rw (← c.self.view_is) (value c)

pub returns-clause-greatest : goal.returns-clause-greatest
returns-clause-greatest c =
    rw (← c.self.view_is) (subst (λ (r : ℤ). IsFloor c.self.inside.slide c.args.t r) (sym (value c)) (floor_is c.self.inside.slide c.args.t c.self.invariant.slide_low))
