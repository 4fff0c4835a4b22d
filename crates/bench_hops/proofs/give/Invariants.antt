use Rattle.std.proofs.Common.{◌≡◌, true}
use Rattle.jet_router.specs.Router.{view, IsInHand}
use Rattle.bench_hops.proofs.give.Given as goal

abbrev pub invariant-loop : goal.invariant-loop
invariant-loop l = (view l.router).busy ≡ true → IsInHand (view l.router) l.item
