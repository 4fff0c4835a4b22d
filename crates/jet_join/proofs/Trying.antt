-- Calls of a join, made again until they answer true.
use Rattle.std.proofs.Common.{ℕ, true, false, [], ◌∷◌, ◌++◌, Ok}
use Rattle.jet_items.specs.declared.item.Item.{Item}
use Rattle.jet_items.proofs.Orders.{Each-append}
use Rattle.jet_boxes.specs.Entry.{CallEntry, Given, NotFinish, NotClosed, IsData}
use Rattle.jet_boxes.specs.Held.{BoxView}
use Rattle.jet_boxes.specs.declared.port.Port.{Port}
use Rattle.jet_join.specs.declared.join.JoinP.{JoinP}
use Rattle.jet_join.specs.Calls.{Stands, JoinCall, JoinMayCall}
use Rattle.jet_join.specs.inner.Histories.{IsOpen, IsAmid}
use Rattle.jet_join.specs.JoinLaws.{join_begins}

pub first_call : (p : JoinP) (entry : CallEntry) → IsOpen p → IsAmid p entry
first_call p entry h = record { taken = h.taken; given = h.given; amid = join_begins p.setting p.rows p.next h.taken entry h.given h.stands; goes_on = h.goes_on }

pub may_take : (p : JoinP) (port : Port) (queue : ℕ) (x : Item) → IsData x → IsAmid p (Given port queue x) → JoinMayCall p (Given port queue x)
may_take p port queue x data_item h = (h.taken, h.given, h.amid, (h.goes_on.unfinished, tt, data_item, h.goes_on.unclosed port queue))

pub next_call : (p q : JoinP) (entry : CallEntry) (before after : BoxView) → JoinCall p entry before (Ok false) q after → IsAmid p entry → IsAmid q entry
next_call p q entry before after c h = record { taken = h.taken; given = h.given ++ c.put; amid = c.keeps h.taken h.given h.amid; goes_on = h.goes_on }

pub last_call : (p q : JoinP) (port : Port) (queue : ℕ) (x : Item) (before after : BoxView) → JoinCall p (Given port queue x) before (Ok true) q after → IsAmid p (Given port queue x) → IsOpen q
last_call p q port queue x before after c h = record {
  taken = h.taken ++ Given port queue x ∷ [];
  given = h.given ++ c.put;
  stands = c.keeps h.taken h.given h.amid;
  goes_on = record {
    unfinished = Each-append NotFinish h.taken (Given port queue x ∷ []) h.goes_on.unfinished (tt, tt);
    unclosed = λ port' queue'. Each-append (NotClosed port' queue') h.taken (Given port queue x ∷ []) (h.goes_on.unclosed port' queue') (tt, tt);
  };
}

pub new_open : (p : JoinP) → Stands p [] [] → IsOpen p
new_open p h = record { taken = []; given = []; stands = h; goes_on = record { unfinished = tt; unclosed = λ port queue. tt } }
