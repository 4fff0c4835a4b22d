-- The idle notes of a list of items.
use Rattle.std.specs.Prelude.{List, [], ◌∷◌}
use Rattle.std.specs.List.{flat_map}
use Rattle.jet_items.specs.declared.item.Item.{Item}
use Rattle.jet_items.specs.declared.item.Item.TheVariants as item

abbrev pub as_idle : Item → List Item
as_idle (item.Event e) = []
as_idle (item.Side s) = []
as_idle (item.Frame f) = []
as_idle (item.Row r) = []
as_idle (item.Late l) = []
as_idle item.Idle = item.Idle ∷ []
as_idle (item.Mark m) = []
as_idle item.Done = []

abbrev pub idles_of : List Item → List Item
idles_of xs = flat_map as_idle xs
