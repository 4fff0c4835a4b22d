use Rattle.std.proofs.Common.{rules, arith, ◌≡◌, ℤ, Option, Some, sym, subst, ◌∙◌, ap, FitsSigned, w64, to_z-of_z, ◌≤ℤ◌}
use Rattle.std.proofs.lemmas.Int.{ints}
use Rattle.jet_items.specs.Grid.{IsFrameEnd}
use Rattle.jet_window.specs.Tables.{IsFirstEnd}
use Rattle.jet_window.proofs.Ends.{first_above}
use Rattle.jet_window.proofs.plain.first_end.Goals as goal

pub returns : goal.returns
returns c =
    let fits_ts : FitsSigned w64 c.args.ts = c.ranges.ts in
    let fits_t : FitsSigned w64 c.mark.inside.t = search rules in
    let fits_r : FitsSigned w64 c.frame_end-2.result = record { sfits = c.frame_end-2.type_inv } in
    let le : c.args.ts ≤ℤ c.mark.inside.t = omega (arith, ints) in
    let end : IsFrameEnd c.args.policy.now.slide c.mark.inside.t c.frame_end-2.result = subst (λ (t : ℤ). IsFrameEnd c.args.policy.now.slide t c.frame_end-2.result) (to_z-of_z fits_t) c.frame_end-2.ensures.least in
    let first : IsFirstEnd c.args.policy.now.slide (Some c.mark.inside.t) c.args.ts c.frame_end-2.result = first_above c.args.policy.now.slide c.mark.inside.t c.args.ts c.frame_end-2.result le end in
    let is : Some c.mark.inside.t ≡ c.args.after.now = ap Some c.mark.view_is ∙ sym c.in-Some.is in
    subst (λ (r : ℤ). IsFirstEnd c.args.policy.now.slide c.args.after.now c.args.ts r) (sym (to_z-of_z fits_r))
    (subst (λ (o : Option ℤ). IsFirstEnd c.args.policy.now.slide o c.args.ts c.frame_end-2.result) is first)
