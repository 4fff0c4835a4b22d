use Rattle.jet_coalescer.proofs.OfQueues.{filled, of_new}
use Rattle.std.specs.Vec.{vec_len}
use Rattle.jet_coalescer.proofs.queues.Queues.new.Goals as goal

pub invariant_of-result : goal.invariant_of-result
invariant_of-result c =
    of_new c.resize.new.self.items c.in_ok-tournament.tournament c.args.count
    (filled c.resize.new.self.items c.new-queues.result.items c.args.count (vec_len c.new-queues.result) c.new-queues.ensures.items c.new-queues.ensures.len c.in_ok-resize.ensures.items)
    c.in_ok-tournament.ensures.queues c.in_ok-tournament.ensures.behind
