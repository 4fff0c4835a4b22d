use Rattle.jet_router.specs.Dest.{dest_view}
use Rattle.jet_ring.proofs.InPlace.{changed_more}
use Rattle.jet_router.proofs.router.Router.clear.Goals as goal

pub loop-dest-preserved : goal.loop-dest-preserved
loop-dest-preserved c =
    changed_more _ dest_view c.deref_mut-dest-items.result.now c.loop-dest.dest-items c.loop-dest.dest-index c.dest-item.result c.clear.new.self c.loop-dest.invariant c.loop-dest-test.true c.clear.ensures
