use Rattle.std.proofs.Common.{arith, ◌≡◌, ℤ, pos, ◌+ℤ◌, ◌≤ℤ◌, sym, subst, ap, to_z, of_z, w64, to_z-of_z, FitsSigned}
use Rattle.std.proofs.lemmas.Int.{ints}
use Rattle.jet_items.proofs.GridLemmas.{frame_end_is, rem_bounds}
use Rattle.jet_items.specs.Grid.{IsFrameEnd, floor_to}
use Rattle.jet_policy.specs.Policy.{PolicyValue}
use Rattle.jet_policy.proofs.policy.WinPolicy.frame_end.Goals as goal

pub returns-clause-least : goal.returns-clause-least
returns-clause-least c =
    let fits_ts : FitsSigned w64 c.args.ts = c.ranges.ts in
    let same : c.self.inside.slide ≡ c.args.self.now.slide = ap (λ (p : PolicyValue). p.slide) c.self.view_is in
    let low : pos 1 ≤ℤ c.args.self.now.slide = omega (arith, ints, same) in
    let floor : c.floor.result ≡ floor_to c.args.self.now.slide c.args.ts = simp to_z-of_z at c.floor.ensures.value in
    let value : to_z w64 (of_z w64 (to_z w64 (of_z w64 c.floor.result) +ℤ to_z w64 (of_z w64 c.self.inside.slide))) ≡ floor_to c.args.self.now.slide c.args.ts +ℤ c.args.self.now.slide
    = omega (arith, ints, same, floor, rem_bounds c.args.ts c.args.self.now.slide low) in
    subst (λ (r : ℤ). IsFrameEnd c.args.self.now.slide c.args.ts r) (sym value) (frame_end_is c.args.self.now.slide c.args.ts low)
