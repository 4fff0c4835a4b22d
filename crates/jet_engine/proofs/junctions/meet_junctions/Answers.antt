use Rattle.std.proofs.Common.{◌≡◌, List, take, refl, ◌∙◌, subst, arith}
use Rattle.std.proofs.lemmas.List.{take_all}
use Rattle.jet_crew.specs.Gather.{gather}
use Rattle.jet_engine.specs.declared.places.Junction.{Junction}
use Rattle.jet_engine.specs.Looking.{Met}
use Rattle.jet_engine.proofs.Sweeping.{none_swept, one_swept, joined_at, givers_of, takers_of}
use Rattle.jet_engine.proofs.junctions.meet_junctions.Goals as goal

abbrev nowhere : Junction
nowhere = record { giver = record { task = 0; output = 0; dest = 0 }; taker = record { task = 0; input = 0; queue = 0 } }

pub loop-junction-init : goal.loop-junction-init
loop-junction-init c = (c.requires.placed, refl, none_swept c.args.junctions.now (gather c.args.workers.now.items c.args.order.now.items))

pub meet_junction-requires-clause-placed : goal.meet_junction-requires-clause-placed
meet_junction-requires-clause-placed c = c.loop-junction.invariant.0

pub meet_junction-requires-clause-joined : goal.meet_junction-requires-clause-joined
meet_junction-requires-clause-joined c =
    joined_at c.args.junctions.now (gather c.args.workers.now.items c.args.order.now.items) (gather c.loop-junction.workers.items c.args.order.now.items)
    c.loop-junction.junction-index nowhere c.requires.joined c.loop-junction-test.true c.loop-junction.invariant.2

pub loop-junction-preserved : goal.loop-junction-preserved
loop-junction-preserved c = (
  c.meet_junction.ensures.placed,
  c.meet_junction.ensures.epochs ∙ c.loop-junction.invariant.1,
  one_swept c.args.junctions.now (gather c.args.workers.now.items c.args.order.now.items) (gather c.loop-junction.workers.items c.args.order.now.items)
      (gather c.meet_junction.new.workers.items c.args.order.now.items) c.loop-junction.junction-index nowhere c.requires.apart c.loop-junction-test.true c.loop-junction.invariant.2
      c.meet_junction.ensures.met c.meet_junction.ensures.others,
)

pub returns-clause-met : goal.returns-clause-met
returns-clause-met c = λ k d l.
    c.loop-junction.invariant.2.met k d (let n = c.loop-junction-test.false in omega (arith, n, l))

pub returns-clause-others : goal.returns-clause-others
returns-clause-others c =
    let js = c.args.junctions.now in
    let all : take c.loop-junction.junction-index js ≡ js = take_all c.loop-junction.junction-index js (let n = c.loop-junction-test.false in omega (arith, n)) in
    subst (λ (xs : List Junction). Met (gather c.args.workers.now.items c.args.order.now.items) (gather c.loop-junction.workers.items c.args.order.now.items) (givers_of xs) (takers_of xs)) all c.loop-junction.invariant.2.others

pub returns-clause-placed : goal.returns-clause-placed
returns-clause-placed c = c.loop-junction.invariant.0

pub returns-clause-epochs : goal.returns-clause-epochs
returns-clause-epochs c = c.loop-junction.invariant.1
