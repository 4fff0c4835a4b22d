use Rattle.std.proofs.Common.{◌≡◌, not, map}
use Rattle.std.specs.Prelude.{filter}
use Rattle.jet_harness.specs.Channels.{same_giver}
use Rattle.jet_harness.proofs.harness.part_txs.Given as goal

abbrev pub invariant-loop-end : goal.invariant-loop-end
invariant-loop-end l = (l.taken.items ≡ map (λ e. e.tx) (filter (λ e. same_giver l.giver e.giver) l.yielded)) × (l.rest.items ≡ filter (λ e. not (same_giver l.giver e.giver)) l.yielded)
