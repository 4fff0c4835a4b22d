-- What a hash join gives for an event: one event for each side row with its key.
use Rattle.std.specs.Prelude.{ℕ, ℤ, pos, Bool, true, false, List, [], ◌∷◌, map, filter, bytes_eq, slice_index_or, if◌then◌else◌}
use Rattle.jet_items.specs.Values.{EventValue, SideValue}

-- where a joined event has a value from: a field of the event or of the side row, from 0 on
pub data Pick : Type 0 where
  OfEvent : ℕ → Pick
  OfSide : ℕ → Pick

-- how a join is set: whether it gives an event without a matching row as it is, whether the label becomes the key, and where the values are from
pub record Joining : Type 0 where
  pub left : Bool
  pub rekey : Bool
  pub picks : List Pick

-- the value that is there
abbrev pub joint_field : EventValue → SideValue → Pick → ℤ
joint_field e s (OfEvent n) = slice_index_or e.v n (pos 0)
joint_field e s (OfSide n) = slice_index_or s.v n (pos 0)

-- the event that an event and a row give together
abbrev pub joined_with : Joining → EventValue → SideValue → EventValue
joined_with j e s = record e { key = if j.rekey then s.label else e.key; v = map (joint_field e s) j.picks }

-- the rows with this key, in their order
abbrev pub rows_with : List ℕ → List SideValue → List SideValue
rows_with key rows = filter (λ s. bytes_eq s.key key) rows

-- where no row matches, a left join gives the event itself and an inner join nothing
abbrev pub or_itself : Bool → EventValue → List EventValue → List EventValue
or_itself left e (x ∷ xs) = x ∷ xs
or_itself true e [] = e ∷ []
or_itself false e [] = []

-- the events that an event gives over these rows
abbrev pub joined : Joining → List SideValue → EventValue → List EventValue
joined j rows e = or_itself j.left e (map (joined_with j e) (rows_with e.key rows))
