use Rattle.std.proofs.Common.{◌≡◌, ◌≤◌, ◌*◌, ◌^◌, take}
use Rattle.std.specs.Prelude.{sum_by}
use Rattle.jet_ring.specs.Ring.{known_free}
use Rattle.jet_router.proofs.router.Router.free.Given as goal

abbrev pub invariant-loop-dest : goal.invariant-loop-dest
invariant-loop-dest l = (l.free ≡ sum_by (λ d. known_free d.tx) (take l.dest-index l.dest-items)) × (l.free ≤ l.dest-index * 2 ^ 64)
