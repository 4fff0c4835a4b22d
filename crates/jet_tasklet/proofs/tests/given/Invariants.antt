use Rattle.jet_ring.specs.Ring.{tx_ring, rx_ring}
use Rattle.jet_tasklet.specs.inner.Chain.{IsChain}
use Rattle.jet_tasklet.proofs.tests.given.Given as goal

abbrev pub invariant-rounds : goal.invariant-rounds
invariant-rounds l = IsChain (tx_ring l.chain.source) l.chain.tasklets.items (rx_ring l.chain.sink)

abbrev pub invariant-turns : goal.invariant-turns
invariant-turns l = IsChain (tx_ring l.chain.source) l.chain.tasklets.items (rx_ring l.chain.sink)
