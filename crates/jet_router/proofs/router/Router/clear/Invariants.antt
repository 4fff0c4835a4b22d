use Rattle.std.proofs.Common.{◌≡◌, map}
use Rattle.jet_router.specs.Dest.{dest_view, unserved}
use Rattle.jet_ring.proofs.InPlace.{changed_up_to}
use Rattle.jet_router.proofs.router.Router.clear.Given as goal

abbrev pub invariant-loop-dest : goal.invariant-loop-dest
invariant-loop-dest l = map dest_view l.dest-items ≡ changed_up_to unserved l.dest-index (map dest_view l.initial.dest-items)
