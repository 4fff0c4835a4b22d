use Rattle.std.proofs.Common.{◌≡◌, ◌∙◌, sym}
use Rattle.jet_tasklet.specs.Views.{ins, outs}
use Rattle.jet_tasklet.proofs.Chaining.{first_end, first_queue, giver_ends, taker_ends, lawful_met}
use Rattle.jet_tasklet.proofs.tests.meet.Goals as goal

pub meet-requires : goal.meet-requires
meet-requires c =
    let tx = first_end (outs c.args.giver.now) c.requires.joined.0 c.requires.joined.1 in
    let rx = first_queue (ins c.args.taker.now) c.requires.joined.0 c.requires.joined.2 in
    record { joined = (tx.0, rx.0, tx.1, rx.1, rx.2 ∙ sym tx.2) }

pub returns : goal.returns
returns c = record {
  giver = lawful_met c.args.giver.now c.meet.new.giver c.meet.ensures.giver.keeps c.requires.giver;
  taker = lawful_met c.args.taker.now c.meet.new.taker c.meet.ensures.taker.keeps c.requires.taker;
  gives = giver_ends c.args.giver.now c.meet.new.giver 0 c.meet.ensures.giver;
  takes = taker_ends c.args.taker.now c.meet.new.taker 0 c.meet.ensures.taker;
}
