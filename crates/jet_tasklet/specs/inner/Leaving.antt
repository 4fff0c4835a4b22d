-- Items that leave the outbox.
use Rattle.std.specs.Prelude.{◌≡◌, List, [], ◌∷◌, ◌++◌}
use Rattle.jet_items.specs.declared.item.Item.{Item}
use Rattle.jet_tasklet.specs.Outputs.{OutputView, Giving, SomeBlocked}

-- some of the items at the front of the outbox have left it, each given whole to all outputs
abbrev pub Leaves : List Item → List OutputView → List Item → List OutputView → Type 0
Leaves items outputs left after = (gave : List Item) → Giving gave items outputs → (more : List Item) × (items ≡ more ++ left) × Giving (gave ++ more) left after

-- nothing is left in the outbox, or its front is owed to a destination that has no known free slot
abbrev pub IsStopped : List Item → List OutputView → Type 0
IsStopped [] outputs = Unit {0}
IsStopped (x ∷ xs) outputs = SomeBlocked x outputs
