use Rattle.std.proofs.Common.{rules, ℤ, List, pos, get_or, set, ap, ◌∙◌}
use Rattle.std.proofs.Math.Facts.{to_z-of_z}
use mir.Syntax.{w64}
use mir.Val.{SFits}
use Rattle.jet_coalescer.specs.inner.Tournaments.{places}
use Rattle.jet_coalescer.proofs.Ranks.{rank_settled, rank_kept, same_bits}
use Rattle.jet_coalescer.proofs.tournament.settle.Goals as goal

pub returns-clause-settled : goal.returns-clause-settled
returns-clause-settled c =
    let rs : List ℤ = c.args.ranks.now in
    let h : SFits w64 c.least_of_eight-least.result = search rules in
    ap (λ (z : ℤ). places (set rs c.args.at z)) (to_z-of_z h)
    ∙ rank_settled rs c.args.at c.least_of_eight-least.result c.least_of_eight-least.ensures

pub returns-clause-kept : goal.returns-clause-kept
returns-clause-kept c = λ same.
    let rs : List ℤ = c.args.ranks.now in
    let here : ℤ = get_or rs c.args.at (pos 0) in
    let f : SFits w64 here = search rules in
    let h : SFits w64 c.least_of_eight-least.result = search rules in
    ap (λ (z : ℤ). places (set rs c.args.at z)) (to_z-of_z h)
    ∙ rank_kept rs c.args.at c.least_of_eight-least.result (same_bits c.least_of_eight-least.result here h f same)
