-- The steps of a sender's turn.
use Rattle.std.specs.Prelude.{◌≡◌, ◌⊎◌, ◌+◌, ◌≤◌, ◌∷◌, List, [], ◌++◌, length, None, IsSome}
use Rattle.jet_items.specs.declared.item.Item.{Item}
use Rattle.jet_conveyor.specs.Conveyor as conveyor
use Rattle.jet_link.specs.Sending.{Packs}
use Rattle.jet_wire.specs.Passing.{Taken}
use Rattle.jet_wire.specs.Sender.{SenderView, SenderKeeps, Goes}
use Rattle.jet_wire.specs.SenderTurn.{QueuesGo, received_count, SenderIsBarred, SenderIsFull}

-- items may have been written and packets pushed, and no item was taken; where no packet was pushed, nothing was sent
pub record Sends (a b : SenderView) : Type 0 where
  pub queues : b.queues ≡ a.queues
  pub lows : b.lows ≡ a.lows
  pub packs : Packs a.end b.end
  pub fewer : b.end.packets.free ≤ a.end.packets.free
  pub sends : (came : List Taken) (sent : List Item) → SenderKeeps a came sent → (given : List Item) × SenderKeeps b came (sent ++ given)
  pub stays : b.end.packets.free ≡ a.end.packets.free → (came : List Taken) (sent : List Item) → SenderKeeps a came sent → SenderKeeps b came sent

-- one item was taken
pub record Takes (a b : SenderView) : Type 0 where
  pub end : b.end ≡ a.end
  pub queues : QueuesGo a.queues b.queues
  pub count : received_count b.queues ≡ received_count a.queues + 1
  pub takes : (came : List Taken) (sent : List Item) → SenderKeeps a came sent → (x : Taken) × SenderKeeps b (came ++ x ∷ []) sent

-- no queue that is not done has a known item
abbrev pub HasNothing : conveyor.View → Type 0
HasNothing queues = conveyor.NoneKnown queues 0 (length queues.rings)

-- nothing is in hand and a packet is being filled
pub record IsReady (v : SenderView) : Type 0 where
  pub hand : v.hand ≡ None
  pub work : IsSome v.end.work

-- no packet may begin, or the one that is ready finds no slot
abbrev pub IsStuck : SenderView → Type 0
IsStuck v = SenderIsBarred v ⊎ SenderIsFull v

-- nothing is in hand, and what was in work was pushed or finds no slot
pub record IsFlushed (v : SenderView) : Type 0 where
  pub hand : v.hand ≡ None
  pub work : (v.end.work ≡ None) ⊎ SenderIsFull v

-- items may have been taken, written and pushed
pub record Went (a b : SenderView) : Type 0 where
  pub queues : QueuesGo a.queues b.queues
  pub packs : Packs a.end b.end
  pub fewer : b.end.packets.free ≤ a.end.packets.free
  pub goes : Goes a b

-- why items were not taken: the sender is stuck, or nothing is known and what it held was pushed
pub data TookNone (v : SenderView) : Type 0 where
  Stuck : IsStuck v → TookNone v
  Empty : HasNothing v.queues → IsFlushed v → TookNone v
