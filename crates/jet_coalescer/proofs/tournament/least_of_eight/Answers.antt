use Rattle.std.proofs.Common.{rules, ℤ, ap, ◌∙◌}
use Rattle.std.proofs.Math.Facts.{to_z-of_z}
use mir.Syntax.{w64}
use mir.Val.{SFits, of_z, to_z}
use Rattle.jet_coalescer.specs.inner.Standings.{standing_at}
use Rattle.jet_coalescer.proofs.Ranks.{halves_are}
use Rattle.jet_coalescer.proofs.tournament.least_of_eight.Goals as goal

pub returns : goal.returns
returns c =
    let f : SFits w64 c.least_of_four.result = search rules in
    let g : SFits w64 c.least_of_four-2.result = search rules in
    let h : SFits w64 c.lesser_rank.result = search rules in
    let one : ℤ = to_z w64 (of_z w64 c.least_of_four.result) in
    let two : ℤ = to_z w64 (of_z w64 c.least_of_four-2.result) in
    ap standing_at (to_z-of_z h)
    ∙ halves_are c.args.ranks.now c.args.at 4 one two c.lesser_rank.result (ap standing_at (to_z-of_z f) ∙ c.least_of_four.ensures) (ap standing_at (to_z-of_z g) ∙ c.least_of_four-2.ensures) c.lesser_rank.ensures
