use Rattle.std.proofs.Common.{◌≡◌, ◌≢◌, ◌<◌, ◌++◌, ℕ, [], map, drop}
use Rattle.jet_harness.specs.Harness.{txs_of, rxs_of}
use Rattle.jet_harness.specs.declared.channel.Giver.{Giver}
use Rattle.jet_layout.specs.declared.wire.Taker.{Taker}
use Rattle.jet_router.specs.Router.{view}
use Rattle.jet_deploy.specs.Ends.{output_at, outputs_from, FitAll}
use Rattle.jet_deploy.proofs.ends.outputs.Given as goal

abbrev pub invariant-loop-number : goal.invariant-loop-number
invariant-loop-number l = record {
  views : map view l.routers.items ++ outputs_from l.fn.harness l.task l.members l.member l.number (drop l.number l.joints) ≡ outputs_from l.fn.harness l.task l.members l.member 0 l.joints;
  fit : FitAll l.fn.harness l.task l.members l.member l.number (drop l.number l.joints);
  gone : (n : ℕ) → n < l.number → txs_of l.harness (output_at l.task n) ≡ [];
  others : (g : Giver) → ((n : ℕ) → n < l.number → g ≢ output_at l.task n) → txs_of l.harness g ≡ txs_of l.fn.harness g;
  takers : (t : Taker) → rxs_of l.harness t ≡ rxs_of l.fn.harness t;
}
