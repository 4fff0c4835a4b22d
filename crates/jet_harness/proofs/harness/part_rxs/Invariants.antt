use Rattle.std.proofs.Common.{◌≡◌, not, map}
use Rattle.std.specs.Prelude.{filter}
use Rattle.jet_harness.specs.Channels.{same_taker}
use Rattle.jet_harness.proofs.harness.part_rxs.Given as goal

abbrev pub invariant-loop-end : goal.invariant-loop-end
invariant-loop-end l = (l.taken.items ≡ map (λ e. e.rx) (filter (λ e. same_taker l.taker e.taker) l.yielded)) × (l.rest.items ≡ filter (λ e. not (same_taker l.taker e.taker)) l.yielded)
