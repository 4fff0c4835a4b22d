use Rattle.std.proofs.Common.{◌≡◌, sym, ap, ◌∙◌, subst, ℕ}
use Rattle.std.specs.Prelude.{replicate}
use Rattle.jet_coalescer.specs.Low.{HasHeard, unheard}
use Rattle.jet_wire.specs.Noting.{items_in}
use Rattle.jet_wire.specs.Passing.{begun}
use Rattle.jet_wire.specs.Sender.{sender_view}
use Rattle.jet_wire.proofs.Fresh.{fresh_keeps, some_begun}
use Rattle.jet_wire.proofs.sender.Sender.new.Goals as goal
use Rattle.jet_wire.proofs.sender.Sender.new.Goals.{then-queues-eq0, else-queues-eq0}

pub returns-clause-keeps : goal.returns-clause-keeps
returns-clause-keeps c =
    let n : ℕ = c.queues-queues.result in
    let first : items_in c.if-queues-eq0.hand ≡ begun n = elim c.if-queues-eq0.branch [
      | then-queues-eq0 w ↦ ap items_in w.hand-is ∙ sym (ap begun w.if-queues-eq0.true)
      | else-queues-eq0 w ↦ ap items_in w.hand-is ∙ sym (some_begun n w.if-queues-eq0.false)
    ] in
    fresh_keeps (sender_view (record { conveyor = c.args.inputs; coalescer = c.in_ok-coalescer.coalescer; hand = c.if-queues-eq0.hand; end = c.args.end })) c.requires.unread c.requires.new
    (subst (λ (k : ℕ). HasHeard c.in_ok-coalescer.coalescer (replicate k unheard)) c.queues-queues.ensures.count c.in_ok-coalescer.ensures.heard)
    (first ∙ ap begun c.queues-queues.ensures.count)
