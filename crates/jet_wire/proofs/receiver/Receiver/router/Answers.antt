use Rattle.std.proofs.Common.{refl}
use Rattle.jet_router.specs.Router as routers
use Rattle.jet_wire.specs.Receiver.{receiver_view}
use Rattle.jet_wire.proofs.Lent.{dests_met}
use Rattle.jet_wire.proofs.receiver.Receiver.router.Goals as goal

pub returns : goal.returns
returns c = (
  (refl, λ w. refl),
  record {
    writes_back = tt;
    value = refl;
    meets = λ w d r. dests_met (receiver_view c.args.self.now) (routers.view w) d r;
    rest = λ w. refl;
  },
)
