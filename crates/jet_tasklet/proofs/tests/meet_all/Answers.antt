use Rattle.std.proofs.Common.{List, set, sym, subst, arith}
use Rattle.jet_ring.specs.Ring.{Ring, tx_ring, rx_ring}
use Rattle.jet_tasklet.specs.declared.any.AnyTasklet.{AnyTasklet}
use Rattle.jet_tasklet.specs.inner.Chain.{IsChain}
use Rattle.jet_tasklet.proofs.Chaining.{chain_put, each_get, last_gives}
use Rattle.jet_tasklet.proofs.tests.meet_all.Goals as goal

pub meet_next-requires-clause-chain : goal.meet_next-requires-clause-chain
meet_next-requires-clause-chain c =
    let from : Ring = tx_ring c.args.chain.now.source in
    let to : Ring = rx_ring c.args.chain.now.sink in
    let three = c.requires.three in
    let begun : IsChain from (set c.args.chain.now.tasklets.items 0 c.meet_source.new.taker) to = chain_put from to c.args.chain.now.tasklets.items 0 c.index_mut.result.now c.meet_source.new.taker (omega (arith, three)) c.index_mut.ensures.value c.requires (λ l. c.meet_source.ensures.taker) c.meet_source.ensures.takes in
    (from, to, begun)

pub meet_next-requires-2-clause-inside : goal.meet_next-requires-2-clause-inside
meet_next-requires-2-clause-inside c =
    let from : Ring = tx_ring c.args.chain.now.source in
    let to : Ring = rx_ring c.args.chain.now.sink in
    let three = c.requires.three in
    let begun : IsChain from (set c.args.chain.now.tasklets.items 0 c.meet_source.new.taker) to = chain_put from to c.args.chain.now.tasklets.items 0 c.index_mut.result.now c.meet_source.new.taker (omega (arith, three)) c.index_mut.ensures.value c.requires (λ l. c.meet_source.ensures.taker) c.meet_source.ensures.takes in
    let met : IsChain from c.meet_next.new.tasklets.items to = c.meet_next.ensures from to begun in
    let still = met.three in
    omega (arith, still)

pub meet_next-requires-2-clause-chain : goal.meet_next-requires-2-clause-chain
meet_next-requires-2-clause-chain c =
    let from : Ring = tx_ring c.args.chain.now.source in
    let to : Ring = rx_ring c.args.chain.now.sink in
    let three = c.requires.three in
    let begun : IsChain from (set c.args.chain.now.tasklets.items 0 c.meet_source.new.taker) to = chain_put from to c.args.chain.now.tasklets.items 0 c.index_mut.result.now c.meet_source.new.taker (omega (arith, three)) c.index_mut.ensures.value c.requires (λ l. c.meet_source.ensures.taker) c.meet_source.ensures.takes in
    (from, to, c.meet_next.ensures from to begun)

pub index_mut-requires-2 : goal.index_mut-requires-2
index_mut-requires-2 c =
    let from : Ring = tx_ring c.args.chain.now.source in
    let to : Ring = rx_ring c.args.chain.now.sink in
    let three = c.requires.three in
    let begun : IsChain from (set c.args.chain.now.tasklets.items 0 c.meet_source.new.taker) to = chain_put from to c.args.chain.now.tasklets.items 0 c.index_mut.result.now c.meet_source.new.taker (omega (arith, three)) c.index_mut.ensures.value c.requires (λ l. c.meet_source.ensures.taker) c.meet_source.ensures.takes in
    let xs : List AnyTasklet = c.meet_next-2.new.tasklets.items in
    let chain : IsChain from xs to = c.meet_next-2.ensures from to (c.meet_next.ensures from to begun) in
    let still = chain.three in
    let len = c.meet_next-2.new.tasklets.ok.0 in
    omega (arith, still, len)

pub meet_sink-requires-clause-giver : goal.meet_sink-requires-clause-giver
meet_sink-requires-clause-giver c =
    let from : Ring = tx_ring c.args.chain.now.source in
    let to : Ring = rx_ring c.args.chain.now.sink in
    let three = c.requires.three in
    let begun : IsChain from (set c.args.chain.now.tasklets.items 0 c.meet_source.new.taker) to = chain_put from to c.args.chain.now.tasklets.items 0 c.index_mut.result.now c.meet_source.new.taker (omega (arith, three)) c.index_mut.ensures.value c.requires (λ l. c.meet_source.ensures.taker) c.meet_source.ensures.takes in
    let xs : List AnyTasklet = c.meet_next-2.new.tasklets.items in
    let chain : IsChain from xs to = c.meet_next-2.ensures from to (c.meet_next.ensures from to begun) in
    let still = chain.three in
    each_get xs 2 c.index_mut-2.result.now (omega (arith, still)) c.index_mut-2.ensures.value chain.lawful

pub meet_sink-requires-clause-joined : goal.meet_sink-requires-clause-joined
meet_sink-requires-clause-joined c =
    let from : Ring = tx_ring c.args.chain.now.source in
    let to : Ring = rx_ring c.args.chain.now.sink in
    let three = c.requires.three in
    let begun : IsChain from (set c.args.chain.now.tasklets.items 0 c.meet_source.new.taker) to = chain_put from to c.args.chain.now.tasklets.items 0 c.index_mut.result.now c.meet_source.new.taker (omega (arith, three)) c.index_mut.ensures.value c.requires (λ l. c.meet_source.ensures.taker) c.meet_source.ensures.takes in
    let xs : List AnyTasklet = c.meet_next-2.new.tasklets.items in
    let chain : IsChain from xs to = c.meet_next-2.ensures from to (c.meet_next.ensures from to begun) in
    let still = chain.three in
    last_gives from to xs c.index_mut-2.result.now c.index_mut-2.ensures.value chain

pub returns : goal.returns
returns c =
    let from : Ring = tx_ring c.args.chain.now.source in
    let to : Ring = rx_ring c.args.chain.now.sink in
    let three = c.requires.three in
    let begun : IsChain from (set c.args.chain.now.tasklets.items 0 c.meet_source.new.taker) to = chain_put from to c.args.chain.now.tasklets.items 0 c.index_mut.result.now c.meet_source.new.taker (omega (arith, three)) c.index_mut.ensures.value c.requires (λ l. c.meet_source.ensures.taker) c.meet_source.ensures.takes in
    let xs : List AnyTasklet = c.meet_next-2.new.tasklets.items in
    let chain : IsChain from xs to = c.meet_next-2.ensures from to (c.meet_next.ensures from to begun) in
    let still = chain.three in
    let put : IsChain from (set xs 2 c.meet_sink.new.giver) to = chain_put from to xs 2 c.index_mut-2.result.now c.meet_sink.new.giver (omega (arith, still)) c.index_mut-2.ensures.value chain (λ l. c.meet_sink.ensures.giver) c.meet_sink.ensures.gives in
    subst (λ (r : Ring). IsChain r (set xs 2 c.meet_sink.new.giver) (rx_ring c.meet_sink.new.sink)) (sym c.meet_source.ensures.ring)
    (subst (λ (r : Ring). IsChain from (set xs 2 c.meet_sink.new.giver) r) (sym c.meet_sink.ensures.ring) put)
