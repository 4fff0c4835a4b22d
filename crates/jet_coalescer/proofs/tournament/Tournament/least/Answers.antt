use Rattle.std.proofs.Common.{rules, ◌<◌, length, ap, sym, ◌∙◌, arith}
use Rattle.std.proofs.lemmas.List.{get_or-map, length-map}
use Rattle.std.proofs.Math.Facts.{to_z-of_z}
use mir.Syntax.{w64}
use mir.Val.{SFits}
use Rattle.jet_coalescer.specs.declared.standing.Standing.TheVariants as standing
use Rattle.jet_coalescer.specs.inner.Standings.{least_of, mark_of, standing_at}
use Rattle.jet_coalescer.specs.inner.Tournaments.{places}
use Rattle.jet_coalescer.proofs.Playing.{top}
use Rattle.jet_coalescer.proofs.tournament.Tournament.least.Goals as goal

pub returns : goal.returns
returns c =
    let some : 0 < length c.self.inside.ranks.items = omega (arith, c.self.invariant.0, length-map c.self.inside.ranks.items standing_at) in
    let fits : SFits w64 c.index.result.now = search rules in
    c.mark_at.ensures
    ∙ ap mark_of (ap standing_at (to_z-of_z fits ∙ c.index.ensures) ∙ (sym (get_or-map standing_at c.self.inside.ranks.items 0 c.index.result.now standing.Passes some)
    ∙ (top (places c.self.inside.ranks.items) c.self.inside.first c.self.invariant ∙ ap least_of c.self.view_is)))
