use Rattle.std.proofs.Common.{◌≡◌, true}
use Rattle.jet_router.specs.Router.{view, IsInHand}
use Rattle.jet_router.proofs.tests.gifts.Given as goal

abbrev pub invariant-loop-number : goal.invariant-loop-number
invariant-loop-number l = (view l.router).busy ≡ true → IsInHand (view l.router) l.item
