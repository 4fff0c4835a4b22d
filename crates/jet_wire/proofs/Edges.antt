-- An edge in tests stays one.
use Rattle.std.proofs.Common.{◌≡◌, List, sym, ◌∙◌, ap}
use Rattle.std.specs.Prelude.{Some, slice_get}
use Rattle.jet_ring.specs.Ring.{Ring}
use Rattle.jet_router.specs.Router as router
use Rattle.jet_link.specs.Meeting.{IsLink}
use Rattle.jet_link.specs.Receiving.{SameRecv}
use Rattle.jet_link.specs.Sending.{SameSend}
use Rattle.jet_link.specs.Views.{SendView, RecvView}
use Rattle.jet_wire.specs.Edge.{TakesFrom, GivesInto}
use Rattle.jet_wire.specs.Receiver.{ReceiverView, ReceiverIsLawful, IsPaced, ReceiverStays}
use Rattle.jet_wire.specs.Sender.{SenderView, IsLawful, Stays}

first_kept : (rs ss : List Ring) {from : Ring} → ss ≡ rs → slice_get rs 0 ≡ Some from → slice_get ss 0 ≡ Some from
first_kept rs ss e h = ap (λ (xs : List Ring). slice_get xs 0) e ∙ h

pub lawful_stays : (a b : SenderView) → Stays a b → IsLawful a → IsLawful b
lawful_stays a b s l = record { came = l.came; sent = l.sent; keeps = s.stays l.came l.sent l.keeps }

pub lawful_still : (a b : ReceiverView) → ReceiverStays a b → IsPaced b → ReceiverIsLawful a → ReceiverIsLawful b
lawful_still a b s p l = record { given = l.given; keeps = s.stays l.given l.keeps; paced = p }

pub takes_stays : (from : Ring) (a b : SenderView) → Stays a b → b.queues.rings ≡ a.queues.rings → TakesFrom from a → TakesFrom from b
takes_stays from a b s e t = record { lawful = lawful_stays a b s t.lawful; queue = first_kept a.queues.rings b.queues.rings e t.queue }

pub takes_turned : (from : Ring) (a b : SenderView) → IsLawful b → b.queues.rings ≡ a.queues.rings → TakesFrom from a → TakesFrom from b
takes_turned from a b l e t = record { lawful = l; queue = first_kept a.queues.rings b.queues.rings e t.queue }

pub gives_stays : (to : Ring) (a b : ReceiverView) → ReceiverStays a b → IsPaced b → router.rings b.router ≡ router.rings a.router → GivesInto a to → GivesInto b to
gives_stays to a b s p e g = record { lawful = lawful_still a b s p g.lawful; dest = first_kept (router.rings a.router) (router.rings b.router) e g.dest }

pub gives_turned : (to : Ring) (a b : ReceiverView) → ReceiverIsLawful b → router.rings b.router ≡ router.rings a.router → GivesInto a to → GivesInto b to
gives_turned to a b l e g = record { lawful = l; dest = first_kept (router.rings a.router) (router.rings b.router) e g.dest }

pub link_sent : (a b : SendView) (r : RecvView) → SameSend a b → IsLink a r → IsLink b r
link_sent a b r s l = record { shape = s.shape ∙ l.shape; packets = s.packets ∙ l.packets; acks = l.acks ∙ sym s.acks }

pub link_received : (s : SendView) (a b : RecvView) → SameRecv a b → IsLink s a → IsLink s b
link_received s a b r l = record { shape = l.shape ∙ sym r.shape; packets = l.packets ∙ sym r.packets; acks = r.acks ∙ l.acks }
