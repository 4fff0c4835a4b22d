use Rattle.std.proofs.Common.{rules, ◌+◌, ℤ, List, drop, slice_set, sym, subst, ap, ◌∙◌, arith}
use Rattle.std.proofs.Math.Facts.{to_z-of_z}
use mir.Syntax.{w64}
use mir.Val.{SFits, of_z, to_z}
use Rattle.std.proofs.lemmas.List.{with_items_is}
use Rattle.std.specs.Vec.{with_item}
use Rattle.jet_coalescer.specs.declared.standing.Standing.{Standing}
use Rattle.jet_coalescer.specs.inner.Tournaments.{places, IsTournamentBut}
use Rattle.jet_coalescer.proofs.Ranks.{rank_set, rank_changed}
use Rattle.jet_coalescer.proofs.tournament.Tournament.set.Goals as goal

pub play-requires-clause-played : goal.play-requires-clause-played
play-requires-clause-played c =
    let first = c.self.inside.first in
    subst (λ (rs : List ℤ). IsTournamentBut first (places rs) (first + c.args.at)) (sym c.deref_mut.ensures.value)
    (rank_changed c.self.inside.ranks.items first (first + c.args.at) (to_z w64 (of_z w64 c.rank.result)) c.self.invariant (omega arith))

pub returns : goal.returns
returns c =
    let first = c.self.inside.first in
    let put : ℤ = to_z w64 (of_z w64 c.rank.result) in
    let fits : SFits w64 c.rank.result = search rules in
    let before = with_item c.self.inside.ranks (first + c.args.at) put in
    ap (λ (rs : List ℤ). drop first (places rs)) (with_items_is before c.play.new.ranks (c.play.auto.ranks ∙ c.deref_mut.ensures.len))
    ∙ (c.play.ensures.queues
    ∙ (ap (λ (rs : List ℤ). drop first (places rs)) c.deref_mut.ensures.value
    ∙ (rank_set c.self.inside.ranks.items first c.args.at c.rank.result put c.args.standing (to_z-of_z fits) c.rank.ensures
    ∙ ap (λ (ss : List Standing). slice_set ss c.args.at c.args.standing) c.self.view_is)))
