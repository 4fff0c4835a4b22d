use Rattle.std.proofs.Common.{rules, ◌+◌, ℤ, List, pos, get_or, ap, ◌∙◌}
use Rattle.std.proofs.Math.Facts.{to_z-of_z}
use mir.Syntax.{w64}
use mir.Val.{SFits, of_z, to_z}
use Rattle.jet_coalescer.specs.inner.Standings.{standing_at}
use Rattle.jet_coalescer.proofs.Ranks.{pair_is}
use Rattle.jet_coalescer.proofs.tournament.least_of_two.Goals as goal

pub returns : goal.returns
returns c =
    let rs : List ℤ = c.args.ranks.now in
    let one : ℤ = get_or rs c.args.at (pos 0) in
    let two : ℤ = get_or rs (c.args.at + 1) (pos 0) in
    let f : SFits w64 one = search rules in
    let g : SFits w64 two = search rules in
    let h : SFits w64 c.lesser_rank.result = search rules in
    ap standing_at (to_z-of_z h)
    ∙ pair_is rs c.args.at (to_z w64 (of_z w64 one)) (to_z w64 (of_z w64 two)) c.lesser_rank.result c.requires.inside (to_z-of_z f) (to_z-of_z g) c.lesser_rank.ensures
