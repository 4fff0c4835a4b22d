use Rattle.std.proofs.Common.{◌∙◌, ap, length, sym}
use Rattle.std.proofs.lemmas.List.{length-map}
use Rattle.jet_ring.specs.Ring.{rx_ring}
use Rattle.jet_conveyor.specs.Conveyor.{view as lanes}
use Rattle.jet_coordinator.proofs.BeginLemmas.{if_ok_then}
use Rattle.jet_coordinator.proofs.beginning.sink_for.Goals as goal

pub returns-in-Ok-clause-alike : goal.returns-in-Ok-clause-alike
returns-in-Ok-clause-alike c =
    if_ok_then c.new-in-Ok.result c.new-in-Ok.ensures.alike (λ s h queues new.
    h (lanes c.args.rings.now) queues new (sym (length-map queues rx_ring) ∙ ap length (sym new.rings) ∙ sym c.queues.ensures.count))
