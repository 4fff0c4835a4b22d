-- What a coalescer has heard once one item more came, and what is passed on of that.
use Rattle.std.specs.Prelude.{◌≡◌, List, [], ◌∷◌, ◌++◌, Option, Some, None, length}
use Rattle.jet_items.specs.declared.item.Item.{Item}
use Rattle.jet_coalescer.specs.declared.coalescer.Coalescer.{Coalescer}
use Rattle.jet_coalescer.specs.Low.{HasHeard}
use Rattle.jet_wire.specs.Passing.{Taken, heard, passes}

-- an item, if there is one, as a list
abbrev pub items_in : Option Item → List Item
items_in None = []
items_in (Some x) = x ∷ []

-- whatever came before, the coalescer has heard one item more, and this is passed on of it
pub record Passes (co new : Coalescer) (a : Taken) (out : Option Item) : Type 0 where
  pub hears : (came : List Taken) → HasHeard co (heard (length co.queues) came) → HasHeard new (heard (length co.queues) (came ++ a ∷ []))
  pub gives : (came : List Taken) → HasHeard co (heard (length co.queues) came) → items_in out ≡ passes (length co.queues) came a
