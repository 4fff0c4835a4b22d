-- Cases of a poll's answer.
use Rattle.std.specs.Prelude.{ℕ}
use Rattle.jet_items.specs.declared.item.Item.{Item}
use Rattle.jet_conveyor.specs.declared.conveyor.Polled.{Polled}
use Rattle.jet_conveyor.specs.declared.conveyor.Polled.TheVariants.{Taken, Nothing}

abbrev pub IfTaken : Polled → (ℕ → Item → Type 0) → Type 0
IfTaken (Taken q x) P = P q x
IfTaken Nothing P = Unit {0}

abbrev pub OnNothing : Polled → Type 0 → Type 0
OnNothing (Taken q x) P = Unit {0}
OnNothing Nothing P = P
