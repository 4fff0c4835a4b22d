use Rattle.std.proofs.Common.{◌≡◌, List, sym, ◌∙◌, ap, subst}
use Rattle.std.specs.Prelude.{Some, slice_get}
use Rattle.jet_ring.specs.Ring.{Ring, rx_ring}
use Rattle.jet_router.specs.Router as router
use Rattle.jet_router.specs.declared.router.Router.{Router}
use Rattle.jet_wire.specs.Lending.{with_router}
use Rattle.jet_wire.specs.Receiver.{ReceiverView, receiver_view, ReceiverStays}
use Rattle.bench_links.proofs.receive.Goals as goal

pub returns-clause-gives : goal.returns-clause-gives
returns-clause-gives c =
    let was : ReceiverView = receiver_view c.args.far.now.receiver in
    let turned : ReceiverView = receiver_view c.turn.new.self in
    let met : ReceiverView = receiver_view (with_router c.turn.new.self c.refresh_dest.new.self) in
    let dests : router.Refreshed turned.router met.router 0 = subst (λ (r : Router). router.Refreshed (router.view r) met.router 0) c.router.ensures.value c.refresh_dest.ensures.view in
    let stays : ReceiverStays turned met = c.router.ensures.meets c.refresh_dest.new.self 0 dests in
    let rings : router.rings met.router ≡ router.rings was.router = dests.same.rings_kept ∙ c.turn.ensures.turned.router.same.rings_kept in
    let sink : rx_ring c.drain.new.rx ≡ rx_ring c.args.far.now.sink = c.drain.ensures ∙ c.refresh_dest.ensures.ring in
    record {
      lawful = record { given = c.turn.ensures.lawful.given; keeps = stays.stays c.turn.ensures.lawful.given c.turn.ensures.lawful.keeps; paced = c.turn.ensures.lawful.paced };
      dest = ap (λ (rs : List Ring). slice_get rs 0) rings ∙ (c.requires.dest ∙ ap Some (sym sink));
    }
