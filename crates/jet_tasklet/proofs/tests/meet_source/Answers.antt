use Rattle.jet_ring.specs.Ring.{tx_ring}
use Rattle.jet_tasklet.specs.Views.{ins}
use Rattle.jet_tasklet.proofs.Chaining.{first_queue, taker_ends, lawful_met}
use Rattle.jet_tasklet.proofs.tests.meet_source.Goals as goal

pub meet_source-requires : goal.meet_source-requires
meet_source-requires c = record { joined = first_queue (ins c.args.taker.now) (tx_ring c.args.source.now) c.requires.joined }

pub returns : goal.returns
returns c = record {
  taker = lawful_met c.args.taker.now c.meet_source.new.taker c.meet_source.ensures.taker.keeps c.requires.taker;
  ring = c.meet_source.ensures.ring;
  takes = taker_ends c.args.taker.now c.meet_source.new.taker 0 c.meet_source.ensures.taker;
}
