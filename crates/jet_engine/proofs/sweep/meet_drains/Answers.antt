use Rattle.std.proofs.Common.{List, [], refl, ◌∙◌, subst, arith}
use Rattle.std.proofs.lemmas.List.{take_all}
use Rattle.jet_conveyor.specs.Conveyor.{view}
use Rattle.jet_crew.specs.Gather.{gather}
use Rattle.jet_engine.specs.declared.places.DestAt.{DestAt}
use Rattle.jet_engine.specs.Looking.{Met}
use Rattle.jet_engine.proofs.Feeding.{none_drained, drained_at, one_drained}
use Rattle.jet_engine.proofs.sweep.meet_drains.Goals as goal

abbrev nowhere : DestAt
nowhere = record { task = 0; output = 0; dest = 0 }

pub loop-queue-init : goal.loop-queue-init
loop-queue-init c = (c.requires.placed, refl, none_drained c.args.drains.now (gather c.args.workers.now.items c.args.order.now.items) (view c.args.sink.now))

pub meet_drain-requires-clause-placed : goal.meet_drain-requires-clause-placed
meet_drain-requires-clause-placed c = c.loop-queue.invariant.0

pub meet_drain-requires-clause-joined : goal.meet_drain-requires-clause-joined
meet_drain-requires-clause-joined c =
    drained_at c.args.drains.now (gather c.args.workers.now.items c.args.order.now.items) (gather c.loop-queue.workers.items c.args.order.now.items) (view c.args.sink.now) (view c.loop-queue.sink)
    c.loop-queue.queue nowhere c.requires.drained c.loop-queue-test.true c.loop-queue.invariant.2

pub loop-queue-preserved : goal.loop-queue-preserved
loop-queue-preserved c = (
  c.meet_drain.ensures.placed,
  c.meet_drain.ensures.epochs ∙ c.loop-queue.invariant.1,
  one_drained c.args.drains.now (gather c.args.workers.now.items c.args.order.now.items) (gather c.loop-queue.workers.items c.args.order.now.items) (gather c.meet_drain.new.workers.items c.args.order.now.items)
      (view c.args.sink.now) (view c.loop-queue.sink) (view c.meet_drain.new.conveyor) c.loop-queue.queue nowhere c.requires.apart c.loop-queue-test.true c.loop-queue.invariant.2
      c.meet_drain.ensures.met c.meet_drain.ensures.conveyor c.meet_drain.ensures.seen c.meet_drain.ensures.others,
)

pub returns-clause-met : goal.returns-clause-met
returns-clause-met c = record { each = λ k e l. c.loop-queue.invariant.2.met k e (let n = c.loop-queue-test.false in omega (arith, n, l)) }

pub returns-clause-sink : goal.returns-clause-sink
returns-clause-sink c = c.loop-queue.invariant.2.sink

pub returns-clause-others : goal.returns-clause-others
returns-clause-others c =
    subst (λ (ds : List DestAt). Met (gather c.args.workers.now.items c.args.order.now.items) (gather c.loop-queue.workers.items c.args.order.now.items) ds [])
    (take_all c.loop-queue.queue c.args.drains.now (let n = c.loop-queue-test.false in omega (arith, n))) c.loop-queue.invariant.2.others

pub returns-clause-placed : goal.returns-clause-placed
returns-clause-placed c = c.loop-queue.invariant.0

pub returns-clause-epochs : goal.returns-clause-epochs
returns-clause-epochs c = c.loop-queue.invariant.1
