use Rattle.std.proofs.Common.{refl, ◌∙◌, arith}
use Rattle.jet_crew.specs.Gather.{gather}
use Rattle.jet_engine.specs.declared.places.LinkAt.{LinkAt}
use Rattle.jet_engine.proofs.Linking.{none_linked, one_linked}
use Rattle.jet_engine.proofs.sweep.meet_links.Goals as goal

abbrev nowhere : LinkAt
nowhere = record { sender = 0; receiver = 0 }

pub loop-link-init : goal.loop-link-init
loop-link-init c = (c.requires.placed, refl, none_linked c.args.links.now (gather c.args.workers.now.items c.args.order.now.items) c.requires.joined)

pub meet_link_at-requires-clause-placed : goal.meet_link_at-requires-clause-placed
meet_link_at-requires-clause-placed c = c.loop-link.invariant.0

pub meet_link_at-requires-clause-joined : goal.meet_link_at-requires-clause-joined
meet_link_at-requires-clause-joined c = c.loop-link.invariant.2.joined c.loop-link.link-index nowhere c.loop-link-test.true

pub loop-link-preserved : goal.loop-link-preserved
loop-link-preserved c = (
  c.meet_link_at.ensures.placed,
  c.meet_link_at.ensures.epochs ∙ c.loop-link.invariant.1,
  one_linked c.args.links.now (gather c.args.workers.now.items c.args.order.now.items) (gather c.loop-link.workers.items c.args.order.now.items) (gather c.meet_link_at.new.workers.items c.args.order.now.items)
      c.loop-link.link-index nowhere c.requires.apart c.loop-link-test.true c.loop-link.invariant.2 c.meet_link_at.ensures.joined c.meet_link_at.ensures.met c.meet_link_at.ensures.others,
)

pub returns-clause-joined : goal.returns-clause-joined
returns-clause-joined c = c.loop-link.invariant.2.joined

pub returns-clause-met : goal.returns-clause-met
returns-clause-met c = λ k d l. c.loop-link.invariant.2.met k d (let n = c.loop-link-test.false in omega (arith, n, l))

pub returns-clause-looked : goal.returns-clause-looked
returns-clause-looked c = c.loop-link.invariant.2.looked

pub returns-clause-placed : goal.returns-clause-placed
returns-clause-placed c = c.loop-link.invariant.0

pub returns-clause-epochs : goal.returns-clause-epochs
returns-clause-epochs c = c.loop-link.invariant.1
