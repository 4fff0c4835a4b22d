-- How a join is set, in the words of joins.
use Rattle.std.specs.Prelude.{◌≤◌, Bool, true, false, List, map}
use Rattle.jet_items.specs.Joins.{Pick, OfEvent, OfSide, Joining}
use Rattle.jet_join.specs.declared.mode.Mode.{Mode}
use Rattle.jet_join.specs.declared.mode.Mode.TheVariants.{Inner, Left}
use Rattle.jet_join.specs.declared.take.Take.{Take}
use Rattle.jet_join.specs.declared.take.Take.TheVariants.{Event, Side}

-- a left join gives an event without a matching row as it is
abbrev pub is_left : Mode → Bool
is_left Inner = false
is_left Left = true

-- where a field that is taken over is from
abbrev pub pick_of : Take → Pick
pick_of (Event field) = OfEvent field
pick_of (Side field) = OfSide field

-- an event and a side row have the fields 0 to 3
abbrev pub IsField : Take → Type 0
IsField (Event field) = field ≤ 3
IsField (Side field) = field ≤ 3

-- a mode, whether the label becomes the key, and the fields taken over
abbrev pub joining : Mode → Bool → List Take → Joining
joining mode rekey fields = record { left = is_left mode; rekey = rekey; picks = map pick_of fields }
