-- How what a join gives follows from what it took.
use Rattle.std.specs.Prelude.{◌≡◌, List, ◌++◌}
use Rattle.std.specs.List.{flat_map}
use Rattle.jet_items.specs.Bag.{SameBag}
use Rattle.jet_items.specs.Joins.{Joining, joined}
use Rattle.jet_items.specs.Kinds.{events_of, sides_of, frames_of, rows_of, lates_of}
use Rattle.jet_items.specs.declared.item.Item.{Item}
use Rattle.jet_boxes.specs.Entry.{CallEntry, items_of}
use Rattle.jet_boxes.specs.Ports.{stream_events, build_rows, build_events, stream_sides, BuildFirst}

-- each event of the stream gives what it gives over all rows, if those came first; all other data passes unchanged, in its order
pub record JoinBag (j : Joining) (taken : List CallEntry) (given : List Item) : Type 0 where
  pub events : BuildFirst taken → SameBag (events_of given) (flat_map (joined j (build_rows taken)) (stream_events taken) ++ build_events taken)
  pub sides : sides_of given ≡ stream_sides taken
  pub frames : frames_of given ≡ frames_of (items_of taken)
  pub rows : rows_of given ≡ rows_of (items_of taken)
  pub lates : lates_of given ≡ lates_of (items_of taken)
