-- What a sender sends, of all that came.
use Rattle.std.specs.Prelude.{◌≡◌, List, ◌++◌, map, None}
use Rattle.jet_items.specs.declared.item.Item.{Item}
use Rattle.jet_items.specs.Kinds.{data_of}
use Rattle.jet_wire.specs.Noting.{items_in}
use Rattle.jet_wire.specs.Passing.{Taken, passed}
use Rattle.jet_wire.specs.Sender.{SenderView, queue_count, SenderKeeps}

-- the data that was sent, packed or stands in hand is the data that came, in its order
abbrev pub PassesData : SenderView → Type 0
PassesData v = (came : List Taken) (sent : List Item) (k : SenderKeeps v came sent)
    → data_of (sent ++ k.sends.written ++ items_in v.hand) ≡ data_of (map (λ a. a.item) came)

-- where nothing is held, all was sent
abbrev pub SendsAll : SenderView → Type 0
SendsAll v = (came : List Taken) (sent : List Item) → SenderKeeps v came sent → v.hand ≡ None → v.end.work ≡ None → sent ≡ passed (queue_count v) came
