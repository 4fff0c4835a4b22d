use Rattle.std.proofs.Common.{◌<◌, length, subst, sym, ap, ◌∙◌, arith, slice_set, List}
use Rattle.jet_coalescer.specs.declared.standing.Standing.{Standing}
use Rattle.jet_coalescer.specs.inner.Tournaments.{IsOf}
use Rattle.jet_coalescer.proofs.OfQueues.{as_many, of_set}
use Rattle.jet_coalescer.proofs.queues.Queues.set.Goals as goal

pub set-requires : goal.set-requires
set-requires c = omega (arith, as_many c.self.inside.queues.items c.self.inside.tournament c.self.invariant, ap length c.self.view_is)

pub invariant_of-self : goal.invariant_of-self
invariant_of-self c =
    let inside : c.args.at < length c.self.inside.queues.items = omega (arith, ap length c.self.view_is) in
    let now : List Standing = slice_set c.self.inside.tournament c.args.at c.standing.result in
    subst (IsOf (slice_set c.self.inside.queues.items c.args.at c.args.queue)) (sym (c.set.ensures ∙ ap (slice_set c.self.inside.tournament c.args.at) c.standing.ensures))
    (of_set c.self.inside.queues.items c.self.inside.tournament c.args.at c.args.queue c.self.invariant inside)
