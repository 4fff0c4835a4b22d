-- The items of one kind in a list, in their order.
use Rattle.std.specs.Prelude.{ℤ, List, [], ◌∷◌, map}
use Rattle.std.specs.List.{flat_map}
use Rattle.jet_items.specs.Values.{EventValue, SideValue, FrameValue, RowValue, LateValue}
use Rattle.jet_items.specs.declared.item.Item.{Item}
use Rattle.jet_items.specs.declared.item.Item.TheVariants as item

abbrev pub as_event : Item → List EventValue
as_event (item.Event e) = e ∷ []
as_event (item.Side s) = []
as_event (item.Frame f) = []
as_event (item.Row r) = []
as_event (item.Late l) = []
as_event item.Idle = []
as_event (item.Mark m) = []
as_event item.Done = []

abbrev pub as_side : Item → List SideValue
as_side (item.Event e) = []
as_side (item.Side s) = s ∷ []
as_side (item.Frame f) = []
as_side (item.Row r) = []
as_side (item.Late l) = []
as_side item.Idle = []
as_side (item.Mark m) = []
as_side item.Done = []

abbrev pub as_frame : Item → List FrameValue
as_frame (item.Event e) = []
as_frame (item.Side s) = []
as_frame (item.Frame f) = f ∷ []
as_frame (item.Row r) = []
as_frame (item.Late l) = []
as_frame item.Idle = []
as_frame (item.Mark m) = []
as_frame item.Done = []

abbrev pub as_row : Item → List RowValue
as_row (item.Event e) = []
as_row (item.Side s) = []
as_row (item.Frame f) = []
as_row (item.Row r) = r ∷ []
as_row (item.Late l) = []
as_row item.Idle = []
as_row (item.Mark m) = []
as_row item.Done = []

abbrev pub as_late : Item → List LateValue
as_late (item.Event e) = []
as_late (item.Side s) = []
as_late (item.Frame f) = []
as_late (item.Row r) = []
as_late (item.Late l) = l ∷ []
as_late item.Idle = []
as_late (item.Mark m) = []
as_late item.Done = []

abbrev pub as_mark : Item → List ℤ
as_mark (item.Event e) = []
as_mark (item.Side s) = []
as_mark (item.Frame f) = []
as_mark (item.Row r) = []
as_mark (item.Late l) = []
as_mark item.Idle = []
as_mark (item.Mark m) = m ∷ []
as_mark item.Done = []

-- data that is no event: neither a mark nor the end either
abbrev pub as_other : Item → List Item
as_other (item.Event e) = []
as_other (item.Side s) = item.Side s ∷ []
as_other (item.Frame f) = item.Frame f ∷ []
as_other (item.Row r) = item.Row r ∷ []
as_other (item.Late l) = item.Late l ∷ []
as_other item.Idle = item.Idle ∷ []
as_other (item.Mark m) = []
as_other item.Done = []

-- data alone: neither a mark nor the end
abbrev pub as_data : Item → List Item
as_data (item.Event e) = item.Event e ∷ []
as_data (item.Side s) = item.Side s ∷ []
as_data (item.Frame f) = item.Frame f ∷ []
as_data (item.Row r) = item.Row r ∷ []
as_data (item.Late l) = item.Late l ∷ []
as_data item.Idle = item.Idle ∷ []
as_data (item.Mark m) = []
as_data item.Done = []

abbrev pub events_of : List Item → List EventValue
events_of xs = flat_map as_event xs

abbrev pub sides_of : List Item → List SideValue
sides_of xs = flat_map as_side xs

abbrev pub frames_of : List Item → List FrameValue
frames_of xs = flat_map as_frame xs

abbrev pub rows_of : List Item → List RowValue
rows_of xs = flat_map as_row xs

abbrev pub lates_of : List Item → List LateValue
lates_of xs = flat_map as_late xs

abbrev pub data_of : List Item → List Item
data_of xs = flat_map as_data xs

-- the data but the events
abbrev pub others_of : List Item → List Item
others_of xs = flat_map as_other xs

-- the times of the marks
abbrev pub marks_of : List Item → List ℤ
marks_of xs = flat_map as_mark xs

-- the events that late items name
abbrev pub late_events : List Item → List EventValue
late_events xs = map (λ l. l.event) (lates_of xs)
