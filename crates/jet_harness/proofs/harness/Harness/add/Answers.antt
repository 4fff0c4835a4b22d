use Rattle.std.proofs.Common.{refl}
use Rattle.jet_ring.specs.Ring.{tx_ring}
use Rattle.jet_harness.proofs.Growing.{adds_one, fresh_sender, fresh_receiver}
use Rattle.jet_harness.proofs.harness.Harness.add.Goals as goal

pub returns : goal.returns
returns c = adds_one c.args.capacity c.args.self.now (record { txs = c.push.new.self; rxs = c.push-2.new.self }) c.args.channel
    (tx_ring c.in_ok-tx.tx) (record { giver = c.args.channel.giver; tx = c.in_ok-tx.tx }) (record { taker = c.args.channel.taker; rx = c.in_ok-tx.rx })
    (record {
      txs = c.in_ok-push.ensures.items;
      rxs = c.in_ok-push-2.ensures.items;
      giver = refl;
      taker = refl;
      tx = fresh_sender c.in_ok-tx.tx c.args.capacity c.in_ok-tx.ensures.sender.0 c.in_ok-tx.ensures.sender.1 c.in_ok-tx.ensures.cap.0;
      rx = fresh_receiver c.in_ok-tx.rx (tx_ring c.in_ok-tx.tx) c.in_ok-tx.ensures.pair c.in_ok-tx.ensures.receiver.0 c.in_ok-tx.ensures.receiver.1;
      size = c.in_ok-tx.ensures.cap.0;
    })
