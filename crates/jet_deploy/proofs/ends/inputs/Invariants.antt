use Rattle.std.proofs.Common.{◌≡◌, ◌≢◌, ◌<◌, ◌++◌, ℕ, [], drop}
use Rattle.jet_harness.specs.Harness.{txs_of, rxs_of}
use Rattle.jet_harness.specs.declared.channel.Giver.{Giver}
use Rattle.jet_layout.specs.declared.wire.Taker.{Taker}
use Rattle.jet_tasklet.specs.Inputs.{inputs_view}
use Rattle.jet_deploy.specs.Ends.{input_at, inputs_from}
use Rattle.jet_deploy.proofs.ends.inputs.Given as goal

abbrev pub invariant-loop-number : goal.invariant-loop-number
invariant-loop-number l = record {
  views : inputs_view l.inputs.items ++ inputs_from l.fn.harness l.task l.number (drop l.number l.ports) ≡ inputs_from l.fn.harness l.task 0 l.ports;
  gone : (n : ℕ) → n < l.number → rxs_of l.harness (input_at l.task n) ≡ [];
  others : (t : Taker) → ((n : ℕ) → n < l.number → t ≢ input_at l.task n) → rxs_of l.harness t ≡ rxs_of l.fn.harness t;
  givers : (g : Giver) → txs_of l.harness g ≡ txs_of l.fn.harness g;
}
