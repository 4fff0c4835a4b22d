use Rattle.std.proofs.Common.{sym, ap, subst, List}
use Rattle.jet_coalescer.specs.View as coalescer
use Rattle.jet_coalescer.specs.declared.queue.Queue.{Queue}
use Rattle.jet_sink.specs.Alike.{AreAlike}
use Rattle.jet_sink.proofs.Taking.{alike_new}
use Rattle.jet_sink.proofs.sink.Sink.new.Goals as goal

pub returns-clause-alike : goal.returns-clause-alike
returns-clause-alike c = λ v rings new is.
    subst (λ (queues : List Queue). AreAlike queues v) (sym (ap (λ (s : coalescer.View). s.queues) c.in_ok-coalescer.ensures.value)) (alike_new c.args.queues v rings new is)
