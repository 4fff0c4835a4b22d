-- What a sender keeps, whatever it is given.
use Rattle.std.specs.Prelude.{◌≡◌, ℕ, ◌<◌, List, [], ◌++◌, length, false, Option, Some, None}
use Rattle.std.specs.List.{AllByRecursion}
use Rattle.jet_items.specs.Fits.{ItemFits}
use Rattle.jet_items.specs.declared.item.Item.{Item}
use Rattle.jet_pool.specs.Pool.{BufValue}
use Rattle.jet_spell.specs.Spelling.{spellings}
use Rattle.jet_conveyor.specs.Conveyor as conveyor
use Rattle.jet_coalescer.specs.Low.{HasHeard}
use Rattle.jet_coalescer.specs.View as coalescer
use Rattle.jet_link.specs.Packets.{packed}
use Rattle.jet_link.specs.Views.{SendView, send_view}
use Rattle.jet_wire.specs.declared.sender.Sender.{Sender}
use Rattle.jet_wire.specs.Noting.{items_in}
use Rattle.jet_wire.specs.Passing.{Taken, InOrder, of_queue, has_ended, heard, passed}

-- what a contract sees of a sender: its queues, their watermark, the item in hand and its end of the link
pub record SenderView : Type 0 where
  pub queues : conveyor.View
  pub lows : coalescer.View
  pub hand : Option Item
  pub end : SendView

abbrev pub sender_view : Sender → SenderView
sender_view s = record { queues = conveyor.view s.conveyor; lows = s.coalescer; hand = s.hand; end = send_view s.end }

-- how many queues it has
abbrev pub queue_count : SenderView → ℕ
queue_count v = length v.queues.rings

-- the bytes of the packet that is being filled
abbrev pub work_bytes : Option BufValue → List ℕ
work_bytes None = []
work_bytes (Some b) = b.bytes

-- these items, each with its queue, came in this order: what each queue received is what came of it, the queue is done where that holds Done, after which nothing came of it, and the coalescer heard it
pub record HasTaken (queues : conveyor.View) (lows : coalescer.View) (came : List Taken) : Type 0 where
  pub received_each : length queues.received ≡ length queues.rings
  pub done_each : length queues.done ≡ length queues.rings
  pub received_is : (q : ℕ) → q < length queues.rings → conveyor.received_at queues q ≡ of_queue q came
  pub done_is : (q : ℕ) → q < length queues.rings → conveyor.is_done_at queues q ≡ has_ended (of_queue q came)
  pub in_order : InOrder (length queues.rings) came
  pub heard_is : HasHeard lows (heard (length queues.rings) came)

-- these items were sent in packets, others stand in the packet that is being filled, and one may be in hand: together what is passed on of what came
pub record HasSent (v : SenderView) (came : List Taken) (sent : List Item) : Type 0 where
  pub packets : packed v.end.packets.sent ≡ spellings sent
  pub written : List Item
  pub work : work_bytes v.end.work ≡ spellings written
  pub fits : AllByRecursion ItemFits (sent ++ written)
  pub follows : sent ++ written ++ items_in v.hand ≡ passed (queue_count v) came

-- a sender to which these items came and which sent these
pub record SenderKeeps (v : SenderView) (came : List Taken) (sent : List Item) : Type 0 where
  pub takes_in : HasTaken v.queues v.lows came
  pub sends : HasSent v came sent

-- there are items that came and that were sent of which the sender keeps this
pub record IsLawful (v : SenderView) : Type 0 where
  pub came : List Taken
  pub sent : List Item
  pub keeps : SenderKeeps v came sent

-- whatever came and was sent before, nothing came and nothing was sent since, and the sender keeps the same
pub record Stays (a b : SenderView) : Type 0 where
  pub stays : (came : List Taken) (sent : List Item) → SenderKeeps a came sent → SenderKeeps b came sent

-- whatever came and was sent before, more may have come and been sent since, and the sender keeps the same
pub record Goes (a b : SenderView) : Type 0 where
  pub goes : (came : List Taken) (sent : List Item) → SenderKeeps a came sent → (more : List Taken) × (given : List Item) × SenderKeeps b (came ++ more) (sent ++ given)

-- nothing was received of these queues, and none is done
pub record IsUnread (v : conveyor.View) : Type 0 where
  pub received_each : length v.received ≡ length v.rings
  pub done_each : length v.done ≡ length v.rings
  pub received : (q : ℕ) → conveyor.received_at v q ≡ []
  pub done : (q : ℕ) → q < length v.rings → conveyor.is_done_at v q ≡ false
