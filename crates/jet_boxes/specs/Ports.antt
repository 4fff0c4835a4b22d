-- What was taken, by the port through which it came.
use Rattle.std.specs.Prelude.{◌≡◌, List, [], ◌∷◌, ◌++◌}
use Rattle.std.specs.List.{flat_map}
use Rattle.jet_items.specs.Values.{EventValue, SideValue}
use Rattle.jet_items.specs.Kinds.{events_of, sides_of}
use Rattle.jet_items.specs.declared.item.Item.{Item}
use Rattle.jet_boxes.specs.Entry.{CallEntry, Given, MarkTold, QueueClosed, Finish}
use Rattle.jet_boxes.specs.declared.port.Port.TheVariants.{Stream, Build}

-- the item of an entry, where it comes with the stream, and where it comes with the side rows
abbrev pub stream_items : CallEntry → List Item
stream_items (Given Stream queue x) = x ∷ []
stream_items (Given Build queue x) = []
stream_items (MarkTold t) = []
stream_items (QueueClosed port queue) = []
stream_items Finish = []

abbrev pub build_items : CallEntry → List Item
build_items (Given Stream queue x) = []
build_items (Given Build queue x) = x ∷ []
build_items (MarkTold t) = []
build_items (QueueClosed port queue) = []
build_items Finish = []

-- the events of the stream, and the rows of the build port
abbrev pub stream_events : List CallEntry → List EventValue
stream_events taken = flat_map (λ e. events_of (stream_items e)) taken

abbrev pub build_rows : List CallEntry → List SideValue
build_rows taken = flat_map (λ e. sides_of (build_items e)) taken

-- what no vertex treats: events that come with the side rows, and side rows that come with the stream
abbrev pub build_events : List CallEntry → List EventValue
build_events taken = flat_map (λ e. events_of (build_items e)) taken

abbrev pub stream_sides : List CallEntry → List SideValue
stream_sides taken = flat_map (λ e. sides_of (stream_items e)) taken

-- each side row of the build port was taken before the first event of the stream port: up to some entry there is no such event, and from there on no such row
pub record BuildFirst (taken : List CallEntry) : Type 0 where
  pub front : List CallEntry
  pub back : List CallEntry
  pub parts : taken ≡ front ++ back
  pub no_event : stream_events front ≡ []
  pub no_row : build_rows back ≡ []
