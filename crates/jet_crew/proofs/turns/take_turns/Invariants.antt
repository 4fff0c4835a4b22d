use Rattle.jet_crew.specs.Turns.{Took}
use Rattle.jet_crew.proofs.turns.take_turns.Given as goal

-- what has to hold before each turn, and the turns that were taken
abbrev pub invariant-loop : goal.invariant-loop
invariant-loop g l = g.T.Turns.keeps l.task × Took g.T.Turns.went g.T.Turns.said l.counter l.end l.initial.task l.task
