-- What is said of the lists that a sender takes and of the one that it passes on.
use Rattle.std.specs.Prelude.{◌≡◌, ℕ, ◌<◌, ℤ, ◌≤ℤ◌, false, List, ◌++◌, Option, None, length}
use Rattle.std.specs.List.{Contains, last_or, reduce}
use Rattle.std.specs.Option.{IsSomeAnd}
use Rattle.std.specs.Int.{int_max}
use Rattle.jet_items.specs.declared.item.Item.{Item}
use Rattle.jet_items.specs.Bag.{all_of}
use Rattle.jet_items.specs.Kinds.{data_of, marks_of}
use Rattle.jet_coalescer.specs.Low.{low}
use Rattle.jet_conveyor.specs.Conveyor as conveyor
use Rattle.jet_wire.specs.Noting.{items_in}
use Rattle.jet_wire.specs.Passing.{Taken, histories}
use Rattle.jet_wire.specs.Sender.{SenderView, SenderKeeps}

-- what a sender holds: the items in the packet that is being filled, and the one in hand
abbrev pub held : (v : SenderView) (came : List Taken) (sent : List Item) → SenderKeeps v came sent → List Item
held v came sent k = k.sends.written ++ items_in v.hand

-- all that it passed on: what it sent and what it holds
abbrev pub passed_on : (v : SenderView) (came : List Taken) (sent : List Item) → SenderKeeps v came sent → List Item
passed_on v came sent k = sent ++ k.sends.written ++ items_in v.hand

-- P holds of the list that each queue received
abbrev pub EachReceived : (List Item → Type 0) → conveyor.View → Type 0
EachReceived P queues = (q : ℕ) → q < length queues.rings → P (conveyor.received_at queues q)

-- a queue received the mark
pub record IsReceived (queues : conveyor.View) (t : ℤ) : Type 0 where
  pub queue : ℕ
  pub exists : queue < length queues.rings
  pub stands : Contains (marks_of (conveyor.received_at queues queue)) t

-- a queue is not done
pub record HasOpen (queues : conveyor.View) : Type 0 where
  pub queue : ℕ
  pub exists : queue < length queues.rings
  pub still : conveyor.is_done_at queues queue ≡ false

-- the last mark of a list, and its greatest, if there is one
abbrev pub last_mark : List Item → Option ℤ
last_mark xs = last_or None (marks_of xs)

abbrev pub greatest_mark : List Item → Option ℤ
greatest_mark xs = reduce int_max (marks_of xs)

-- the least of the greatest marks that the queues received which are not done
abbrev pub low_received : conveyor.View → Option ℤ
low_received queues = low (histories (length queues.rings) (λ q. conveyor.received_at queues q))

-- each queue that is not done received a mark that is not below s
abbrev pub AllReached : conveyor.View → ℤ → Type 0
AllReached queues s = (q : ℕ) → q < length queues.rings → conveyor.is_done_at queues q ≡ false → IsSomeAnd (greatest_mark (conveyor.received_at queues q)) (λ m. s ≤ℤ m)

-- the data that the queues received, queue by queue
abbrev pub data_received : conveyor.View → List Item
data_received queues = all_of (length queues.rings) (λ q. data_of (conveyor.received_at queues q))
