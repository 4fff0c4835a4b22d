-- How an item is spelled: one byte that tells its kind, and then its fields. Numbers are big-endian, signed ones in two's
-- complement.
use Rattle.std.specs.Prelude.{ℕ, ℤ, List, [], ◌∷◌, ◌++◌, length}
use Rattle.std.specs.List.{flat_map}
use Rattle.std.specs.Int.{Width, w16, w32, w64, w128, to_be_bytes, cast_unsigned}
use Rattle.jet_items.specs.Values.{EventValue, SideValue, AccValue}
use Rattle.jet_items.specs.declared.item.Item.{Item}
use Rattle.jet_items.specs.declared.item.Item.TheVariants as item

-- a signed number
abbrev pub signed_bytes : Width → ℤ → List ℕ
signed_bytes w z = to_be_bytes w (cast_unsigned w z)

-- a key: its length in one byte, and then its bytes
abbrev pub key_bytes : List ℕ → List ℕ
key_bytes k = length k ∷ k

-- the values of an event or a side row
abbrev pub values_bytes : List ℤ → List ℕ
values_bytes v = flat_map (signed_bytes w64) v

-- ---- the fields of each kind, in their order

abbrev pub event_bytes : EventValue → List ℕ
event_bytes e = to_be_bytes w16 e.part ++ (to_be_bytes w32 e.line ++ (signed_bytes w64 e.ts ++ (key_bytes e.key ++ values_bytes e.v)))

abbrev pub side_bytes : SideValue → List ℕ
side_bytes s = to_be_bytes w32 s.line ++ (key_bytes s.key ++ (key_bytes s.label ++ values_bytes s.v))

abbrev pub acc_bytes : AccValue → List ℕ
acc_bytes a = to_be_bytes w64 a.count ++ (signed_bytes w128 a.sum ++ (signed_bytes w64 a.min ++ signed_bytes w64 a.max))

-- a frame or a row: its vertex in one byte, its end, its key and what is known of its events
abbrev pub span_bytes : ℕ → ℤ → List ℕ → AccValue → List ℕ
span_bytes vertex end k a = vertex ∷ (signed_bytes w64 end ++ (key_bytes k ++ acc_bytes a))

-- the spelling of an item
unfoldable pub spelling : Item → List ℕ
spelling (item.Event e) = 1 ∷ event_bytes e
spelling (item.Side s) = 2 ∷ side_bytes s
spelling (item.Frame f) = 3 ∷ span_bytes f.vertex f.end f.key f.acc
spelling (item.Row r) = 4 ∷ span_bytes r.vertex r.end r.key r.acc
spelling (item.Late l) = 5 ∷ (l.vertex ∷ event_bytes l.event)
spelling (item.Mark t) = 6 ∷ signed_bytes w64 t
spelling item.Done = 7 ∷ []
spelling item.Idle = 8 ∷ []

-- the bytes of items, one spelling after another
abbrev pub spellings : List Item → List ℕ
spellings items = flat_map spelling items
