-- Where Done stands in what a sender passes on.
use Rattle.std.specs.Prelude.{◌≡◌, true, All, List, ◌++◌}
use Rattle.jet_items.specs.declared.item.Item.{Item}
use Rattle.jet_conveyor.specs.Conveyor as conveyor
use Rattle.jet_conveyor.specs.Conveyor.{EndsIn}
use Rattle.jet_wire.specs.Noting.{items_in}
use Rattle.jet_wire.specs.Passing.{Taken, has_ended}
use Rattle.jet_wire.specs.Sender.{SenderView, SenderKeeps}

-- Done stands nowhere in the list but at its end; and it is there exactly where every queue is done
pub record DoneLast (queues : conveyor.View) (xs : List Item) : Type 0 where
  pub last : EndsIn (has_ended xs) xs
  pub over : has_ended xs ≡ true → All (λ d. d ≡ true) queues.done
  pub given : All (λ d. d ≡ true) queues.done → has_ended xs ≡ true

-- so of what was sent, with what stands in the packet in work and the item in hand
abbrev pub SendsDoneLast : SenderView → Type 0
SendsDoneLast v = (came : List Taken) (sent : List Item) (keeps : SenderKeeps v came sent) → DoneLast v.queues (sent ++ keeps.sends.written ++ items_in v.hand)
