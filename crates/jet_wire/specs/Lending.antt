-- What a sender and a receiver end as once a part that was lent comes back.
use Rattle.jet_conveyor.specs.declared.conveyor.Conveyor.{Conveyor}
use Rattle.jet_router.specs.declared.router.Router.{Router}
use Rattle.jet_wire.specs.declared.receiver.Receiver.{Receiver}
use Rattle.jet_wire.specs.declared.sender.Sender.{Sender}

-- the queues of a sender, and s with others
abbrev pub conveyor_of : Sender → Conveyor
conveyor_of s = s.conveyor

abbrev pub with_conveyor : Sender → Conveyor → Sender
with_conveyor s w = record s { conveyor = w }

-- the destinations of a receiver, and r with others
abbrev pub router_of : Receiver → Router
router_of r = r.router

abbrev pub with_router : Receiver → Router → Receiver
with_router r w = record r { router = w }
