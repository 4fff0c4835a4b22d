use Rattle.std.proofs.Common.{arith, ◌≡◌, false, ℤ, Option, refl, sym, subst, pos, ◌-ℤ◌, ◌≤ℤ◌, ◌<ℤ◌, FitsSigned, to_z, of_z, w64}
use Rattle.std.proofs.lemmas.Int.{ints}
use Rattle.jet_items.specs.Grid.{IsFrameEnd}
use Rattle.jet_window.specs.Taken.{is_due}
use Rattle.jet_window.specs.inner.NextEnds.{IsEndAbove}
use Rattle.jet_window.proofs.Ending.{above_end, above_passed, due_false}
use Rattle.jet_window.proofs.held.end_above.Goals as goal

pub returns-in_default : goal.returns-in_default
returns-in_default c =
    let fits_end : FitsSigned w64 c.args.end = c.ranges.end in
    let fits_result : FitsSigned w64 c.frame_end.result = record { sfits = c.frame_end.type_inv } in
    let start : to_z w64 (of_z w64 (to_z w64 (of_z w64 c.args.end) -ℤ pos 1)) ≡ c.args.end -ℤ pos 1 = omega (arith, ints) in
    let is : c.frame_end.result ≡ to_z w64 (of_z w64 c.frame_end.result) = omega (arith, ints) in
    let frame : IsFrameEnd c.args.policy.now.slide (c.args.end -ℤ pos 1) c.frame_end.result = subst (λ (z : ℤ). IsFrameEnd c.args.policy.now.slide z c.frame_end.result) start c.frame_end.ensures.least in
    let later : is_due c.args.passed c.args.end ≡ false = rw c.in_default.is refl in
    subst (λ (z : ℤ). IsEndAbove c.args.policy.now.slide c.args.passed c.args.end z) is (above_end c.args.policy.now.slide c.args.passed c.args.end c.frame_end.result c.frame_end.ensures.policy.slide_low frame later)

pub returns-then-mark-end : goal.returns-then-mark-end
returns-then-mark-end c =
    let fits_end : FitsSigned w64 c.args.end = c.ranges.end in
    let fits_result : FitsSigned w64 c.frame_end-then-mark-end.result = record { sfits = c.frame_end-then-mark-end.type_inv } in
    let start : to_z w64 (of_z w64 (to_z w64 (of_z w64 c.args.end) -ℤ pos 1)) ≡ c.args.end -ℤ pos 1 = omega (arith, ints) in
    let is : c.frame_end-then-mark-end.result ≡ to_z w64 (of_z w64 c.frame_end-then-mark-end.result) = omega (arith, ints) in
    let frame : IsFrameEnd c.args.policy.now.slide (c.args.end -ℤ pos 1) c.frame_end-then-mark-end.result = subst (λ (z : ℤ). IsFrameEnd c.args.policy.now.slide z c.frame_end-then-mark-end.result) start c.frame_end-then-mark-end.ensures.least in
    let mark : c.mark.inside.t ≡ c.in-Some.mark = c.mark.view_is in
    let lt : c.in-Some.mark <ℤ c.args.end = omega (arith, ints) in
    let later : is_due c.args.passed c.args.end ≡ false = rw c.in-Some.is (due_false c.in-Some.mark c.args.end lt) in
    subst (λ (z : ℤ). IsEndAbove c.args.policy.now.slide c.args.passed c.args.end z) is (above_end c.args.policy.now.slide c.args.passed c.args.end c.frame_end-then-mark-end.result c.frame_end-then-mark-end.ensures.policy.slide_low frame later)

pub returns : goal.returns
returns c =
    let fits_end : FitsSigned w64 c.args.end = c.ranges.end in
    let fits_result : FitsSigned w64 c.frame_end-2.result = record { sfits = c.frame_end-2.type_inv } in
    let mark : c.mark.inside.t ≡ c.in-Some.mark = c.mark.view_is in
    let start : to_z w64 (of_z w64 c.mark.inside.t) ≡ c.in-Some.mark = omega (arith, ints) in
    let is : c.frame_end-2.result ≡ to_z w64 (of_z w64 c.frame_end-2.result) = omega (arith, ints) in
    let frame : IsFrameEnd c.args.policy.now.slide c.in-Some.mark c.frame_end-2.result = subst (λ (z : ℤ). IsFrameEnd c.args.policy.now.slide z c.frame_end-2.result) start c.frame_end-2.ensures.least in
    let le : c.args.end ≤ℤ c.in-Some.mark = omega (arith, ints) in
    subst (λ (z : ℤ). IsEndAbove c.args.policy.now.slide c.args.passed c.args.end z) is
    (subst (λ (o : Option ℤ). IsEndAbove c.args.policy.now.slide o c.args.end c.frame_end-2.result) (sym c.in-Some.is) (above_passed c.args.policy.now.slide c.args.end c.in-Some.mark c.frame_end-2.result c.frame_end-2.ensures.policy.slide_low frame le))
