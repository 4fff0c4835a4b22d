use Rattle.std.proofs.Common.{ap}
use Rattle.jet_items.specs.Done.{is_done}
use Rattle.jet_sink.specs.View.{view}
use Rattle.jet_sink.proofs.Noting.{row_put}
use Rattle.jet_sink.proofs.Taking.{done_same, done_marked, done_ended, not_done}
use Rattle.jet_sink.proofs.sink.Sink.take.Goals as goal

pub returns-in-Row-clause-done : goal.returns-in-Row-clause-done
returns-in-Row-clause-done c = done_same c.args.self.now.coalescer.queues c.args.queue c.args.item.now c.requires.exists c.requires.open (ap is_done c.in-Row.is)

pub returns-in-Row-clause-noted : goal.returns-in-Row-clause-noted
returns-in-Row-clause-noted c = row_put c.put.result (view c.args.self.now) c.args.queue c.in-Row.row c.args.item.now c.put.new.self c.in-Row.is c.put.ensures.ok c.put.ensures.order

pub returns-in-Late-clause-done : goal.returns-in-Late-clause-done
returns-in-Late-clause-done c = done_same c.args.self.now.coalescer.queues c.args.queue c.args.item.now c.requires.exists c.requires.open (ap is_done c.in-Late.is)

pub returns-in-Mark-clause-done : goal.returns-in-Mark-clause-done
returns-in-Mark-clause-done c = done_marked c.args.self.now.coalescer.queues c.observe.new.self.queues c.args.queue c.in-Mark.mark c.args.item.now c.observe.ensures.value c.requires.open (ap is_done c.in-Mark.is)

pub returns-in-Done-clause-done : goal.returns-in-Done-clause-done
returns-in-Done-clause-done c = done_ended c.args.self.now.coalescer.queues c.done.new.self.queues c.args.queue c.args.item.now c.done.ensures.value (ap is_done c.in-Done.is)

pub returns-in_default-clause-done : goal.returns-in_default-clause-done
returns-in_default-clause-done c = done_same c.args.self.now.coalescer.queues c.args.queue c.args.item.now c.requires.exists c.requires.open (not_done c.args.item.now c.in_default.not-Done)
