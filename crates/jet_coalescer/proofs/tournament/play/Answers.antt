use Rattle.std.proofs.Common.{rules, ◌≡◌, ◌+◌, ◌*◌, ◌-◌, ◌/◌, ◌<◌, List, length, drop, ap, sym, subst, ◌∙◌, arith}
use Rattle.std.proofs.lemmas.List.{length-map, drop-set-lt}
use Rattle.jet_coalescer.specs.declared.standing.Standing.{Standing}
use Rattle.jet_coalescer.specs.inner.Standings.{standing_at}
use Rattle.jet_coalescer.specs.inner.Tournaments.{places, below, IsTournamentBut}
use Rattle.jet_coalescer.proofs.Playing.{settled, settled_before, at_top}
use Rattle.jet_coalescer.proofs.tournament.play.Goals as goal

pub loop-at-preserved : goal.loop-at-preserved
loop-at-preserved c =
    let up = (c.loop-at.at - 1) / 8 in
    let low : up < c.args.first = omega (arith, c.loop-at.invariant.inside, c.loop-at-test.true) in
    let ps : List Standing = places c.loop-at.ranks in
    let long : length ps ≡ 8 * c.args.first + 1 = length-map c.loop-at.ranks standing_at ∙ c.loop-at.invariant.sized in
    record {
      inside = omega (arith, low);
      sized = c.settle.ensures.sized ∙ c.loop-at.invariant.sized;
      played = subst (λ (qs : List Standing). IsTournamentBut c.args.first qs up) (sym c.settle.ensures.settled) (settled ps c.args.first up c.loop-at.at c.loop-at.invariant.played long (omega (arith, c.loop-at-test.true)) (omega (arith, c.loop-at-test.true)) low);
      queues = ap (drop c.args.first) c.settle.ensures.settled ∙ (drop-set-lt c.args.first ps up (below ps up) low ∙ c.loop-at.invariant.queues);
    }

pub returns-then-not-settle-clause-tournament : goal.returns-then-not-settle-clause-tournament
returns-then-not-settle-clause-tournament c =
    let up = (c.loop-at.at - 1) / 8 in
    let low : up < c.args.first = omega (arith, c.loop-at.invariant.inside, c.loop-at-test.true) in
    settled_before (places c.loop-at.ranks) (places c.settle.new.ranks) c.args.first up c.loop-at.at c.loop-at.invariant.played (length-map c.loop-at.ranks standing_at ∙ c.loop-at.invariant.sized) (omega (arith, c.loop-at-test.true)) (omega (arith, c.loop-at-test.true)) low
    c.settle.ensures.settled (c.settle.ensures.kept (search rules))

pub returns-then-not-settle-clause-queues : goal.returns-then-not-settle-clause-queues
returns-then-not-settle-clause-queues c =
    let up = (c.loop-at.at - 1) / 8 in
    let low : up < c.args.first = omega (arith, c.loop-at.invariant.inside, c.loop-at-test.true) in
    let ps : List Standing = places c.loop-at.ranks in
    ap (drop c.args.first) c.settle.ensures.settled ∙ (drop-set-lt c.args.first ps up (below ps up) low ∙ c.loop-at.invariant.queues)

pub returns-clause-tournament : goal.returns-clause-tournament
returns-clause-tournament c = at_top (places c.loop-at.ranks) c.args.first c.loop-at.at c.loop-at.invariant.played (length-map c.loop-at.ranks standing_at ∙ c.loop-at.invariant.sized) (omega (arith, c.loop-at-test.false))
