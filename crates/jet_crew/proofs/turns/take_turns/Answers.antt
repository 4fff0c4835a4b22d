use Rattle.std.proofs.Common.{◌≡◌, ℕ, ◌+◌, sym, subst, arith}
use Rattle.jet_crew.specs.declared.end.EpochEnd.{EpochEnd}
use Rattle.jet_crew.specs.Turns.{Took}
use Rattle.jet_crew.proofs.Rows.{took_none, took_more}
use Rattle.jet_crew.proofs.turns.take_turns.Goals as goal

pub loop-init : goal.loop-init
loop-init g c = (c.requires.keeps, took_none g.T.Turns.went g.T.Turns.said c.args.task.now)

pub take_turn-next-requires : goal.take_turn-next-requires
take_turn-next-requires g c = record { keeps = c.loop.invariant.0 }

pub loop-preserved : goal.loop-preserved
loop-preserved g c =
    let to = c.take_turn-next.new.self in (
      c.law_turns_in_a_row.ensures.keeps c.loop.task to c.loop.invariant.0 c.take_turn-next.ensures.went,
      subst (λ (e : EpochEnd). Took g.T.Turns.went g.T.Turns.said (c.loop.counter + 1) e c.args.task.now to) (sym c.worse-end.ensures)
          (took_more g.T.Turns.went g.T.Turns.said c.loop.counter c.loop.end c.take_turn-next.result c.args.task.now c.loop.task to c.loop.invariant.1 c.take_turn-next.ensures.went c.take_turn-next.ensures.said),
    )

pub returns : goal.returns
returns g c =
    let all : c.loop.counter ≡ c.args.turns = omega arith in
    subst (λ (n : ℕ). Took g.T.Turns.went g.T.Turns.said n c.loop.end c.args.task.now c.loop.task) all c.loop.invariant.1
