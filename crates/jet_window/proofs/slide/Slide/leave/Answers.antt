use Rattle.std.proofs.Common.{rules, arith, ◌≡◌, ℤ, List, Some, sym, ◌∙◌, subst, ◌≤ℤ◌, ◌<ℤ◌, FitsSigned, to_z, of_z, w64}
use Rattle.std.proofs.lemmas.Int.{ints}
use Rattle.jet_window.specs.Slides.{Pair, first_end, pairs_above}
use Rattle.jet_window.proofs.Sliding.{all_above, first_leaves}
use Rattle.jet_window.proofs.slide.Slide.leave.Goals as goal

pub loop-first-preserved : goal.loop-first-preserved
loop-first-preserved c =
    let fits : FitsSigned w64 c.in-Some.first = search rules in
    let fits_end : FitsSigned w64 c.args.end = c.ranges.end in
    let end : ℤ = to_z w64 (of_z w64 c.args.end) in
    let le : c.in-Some.first ≤ℤ end = omega (arith, ints) in
    let is : first_end c.loop-first.self ≡ Some c.in-Some.first = sym c.first_end.ensures.first ∙ c.in-Some.is in
    subst (λ (ps : List Pair). pairs_above end ps ≡ pairs_above end c.args.self.now) (sym c.leave_first.ensures) (first_leaves end c.in-Some.first c.loop-first.self is le ∙ c.loop-first.invariant)

pub returns-then-end-first : goal.returns-then-end-first
returns-then-end-first c =
    let fits : FitsSigned w64 c.in-Some.first = search rules in
    let fits_end : FitsSigned w64 c.args.end = c.ranges.end in
    let end : ℤ = to_z w64 (of_z w64 c.args.end) in
    let same : end ≡ c.args.end = omega (arith, ints) in
    let lt : end <ℤ c.in-Some.first = omega (arith, ints) in
    let is : first_end c.loop-first.self ≡ Some c.in-Some.first = sym c.first_end.ensures.first ∙ c.in-Some.is in
    subst (λ (z : ℤ). c.loop-first.self ≡ pairs_above z c.args.self.now) same (sym (all_above end c.in-Some.first c.loop-first.self is c.first_end.ensures.rising lt) ∙ c.loop-first.invariant)
