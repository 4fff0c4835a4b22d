use Rattle.jet_ring.specs.Ring.{rx_ring}
use Rattle.jet_tasklet.specs.Any.{any_with_output}
use Rattle.jet_tasklet.specs.Kinds.{outputs_of}
use Rattle.jet_tasklet.proofs.Chaining.{out_first, lawful_met, any_output_ends}
use Rattle.jet_tasklet.proofs.tests.meet_sink.Goals as goal

pub refresh_dest-requires : goal.refresh_dest-requires
refresh_dest-requires c = out_first (outputs_of c.args.giver.now) c.output.result.now (rx_ring c.args.sink.now) c.output.ensures.value c.requires.joined

pub returns-clause-giver : goal.returns-clause-giver
returns-clause-giver c =
    let was = c.output.result.now in
    let now = c.refresh_dest.new.self in
    lawful_met c.args.giver.now (any_with_output c.args.giver.now 0 was now) (λ came gave k. c.output.ensures.meets came gave 0 now k c.refresh_dest.ensures.view) c.requires.giver

pub returns-clause-gives : goal.returns-clause-gives
returns-clause-gives c = any_output_ends c.args.giver.now 0 c.output.result.now c.refresh_dest.new.self c.output.ensures.value c.refresh_dest.ensures.view
