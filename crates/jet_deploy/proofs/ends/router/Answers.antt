use Rattle.std.proofs.Common.{arith, ap, map}
use Rattle.jet_plan.specs.Kinds.{is_partitioned}
use Rattle.jet_ring.specs.Ring.{tx_view}
use Rattle.jet_deploy.proofs.Fresh.{router_is}
use Rattle.jet_deploy.proofs.ends.router.Goals as goal

pub partitioned-requires-clause-aimed : goal.partitioned-requires-clause-aimed
partitioned-requires-clause-aimed c = λ k lt.
    let keyed = ap is_partitioned c.in-Partitioned.is in
    let below = c.in_ok-table-in-Partitioned.ensures.below (c.requires.fits.here keyed) k 0 (omega (arith, lt, c.in_ok-table-in-Partitioned.table.ok.0)) in
    omega (arith, below, c.requires.fits.each keyed)

pub returns-in_ok-table-in-Partitioned : goal.returns-in_ok-table-in-Partitioned
returns-in_ok-table-in-Partitioned c =
    router_is c.partitioned.result c.args.members c.args.joint.now c.args.across c.args.member c.in_ok-table-in-Partitioned.table.items (map tx_view c.args.txs.items)
    c.in-Partitioned.is c.in_ok-table-in-Partitioned.ensures.table c.partitioned.ensures
