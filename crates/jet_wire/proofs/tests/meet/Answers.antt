use Rattle.std.proofs.Common.{◌*◌, ◌≤◌, sym, ap, subst}
use Rattle.jet_ring.specs.Ring.{Ring, tx_ring, rx_ring}
use Rattle.jet_conveyor.specs.Conveyor as conveyor
use Rattle.jet_conveyor.specs.declared.conveyor.Conveyor.{Conveyor}
use Rattle.jet_router.specs.Router as router
use Rattle.jet_router.specs.declared.router.Router.{Router}
use Rattle.jet_link.specs.Views.{RecvView}
use Rattle.jet_wire.specs.Edge.{TakesFrom, GivesInto}
use Rattle.jet_wire.specs.Lending.{with_conveyor, with_router}
use Rattle.jet_wire.specs.Receiver.{ReceiverView, receiver_view, IsPaced}
use Rattle.jet_wire.specs.Sender.{SenderView, sender_view}
use Rattle.jet_wire.proofs.Edges.{takes_stays, gives_stays}
use Rattle.jet_wire.proofs.tests.meet.Goals as goal

pub returns : goal.returns
returns c =
    let from : Ring = tx_ring c.args.edge.now.source in
    let to : Ring = rx_ring c.args.edge.now.sink in
    let s : SenderView = sender_view c.args.edge.now.sender in
    let fed : SenderView = sender_view (with_conveyor c.args.edge.now.sender c.refresh_queue.new.self) in
    let met : SenderView = sender_view c.refresh_link.new.sender in
    let r : ReceiverView = receiver_view c.args.edge.now.receiver in
    let linked : ReceiverView = receiver_view c.refresh_link.new.receiver in
    let drained : ReceiverView = receiver_view (with_router c.refresh_link.new.receiver c.refresh_dest.new.self) in
    let queues : conveyor.Refreshed s.queues fed.queues 0 = subst (λ (q : Conveyor). conveyor.Refreshed (conveyor.view q) fed.queues 0) c.conveyor.ensures.value c.refresh_queue.ensures.view in
    let first : TakesFrom from fed = takes_stays from s fed (c.conveyor.ensures.meets c.refresh_queue.new.self 0 queues) queues.rings c.requires.takes in
    let takes : TakesFrom from met = takes_stays from fed met c.refresh_link.ensures.sent (ap (λ (v : SenderView). v.queues.rings) c.refresh_link.ensures.only_end) first in
    let paced : IsPaced linked = subst (λ (e : RecvView). e.part ≤ e.turns * 65536) (sym c.refresh_link.ensures.receiver.is) c.requires.gives.lawful.paced in
    let second : GivesInto linked to = gives_stays to r linked c.refresh_link.ensures.given paced (ap (λ (v : ReceiverView). router.rings v.router) c.refresh_link.ensures.only_its_end) c.requires.gives in
    let dests : router.Refreshed linked.router drained.router 0 = subst (λ (d : Router). router.Refreshed (router.view d) drained.router 0) c.router.ensures.value c.refresh_dest.ensures.view in
    let gives : GivesInto drained to = gives_stays to linked drained (c.router.ensures.meets c.refresh_dest.new.self 0 dests) paced dests.same.rings_kept second in
    record {
      takes = subst (λ (f : Ring). TakesFrom f met) (sym c.refresh_queue.ensures.ring) takes;
      link = c.refresh_link.ensures.link;
      gives = subst (λ (f : Ring). GivesInto drained f) (sym c.refresh_dest.ensures.ring) gives;
    }
