-- Kinds of items, each told by a byte.
use Rattle.std.specs.Prelude.{ℕ, ◌==◌, if◌then◌else◌, Option, Some, None}
use Rattle.jet_items.specs.declared.item.Item.{Item}
use Rattle.jet_items.specs.declared.item.Item.TheVariants as item
use Rattle.jet_spell.specs.declared.tag.Tag.{Tag}
use Rattle.jet_spell.specs.declared.tag.Tag.TheVariants as tag

-- the kind of an item
abbrev pub tag_of : Item → Tag
tag_of (item.Event e) = tag.Event
tag_of (item.Side s) = tag.Side
tag_of (item.Frame f) = tag.Frame
tag_of (item.Row r) = tag.Row
tag_of (item.Late l) = tag.Late
tag_of (item.Mark t) = tag.Mark
tag_of item.Done = tag.Done
tag_of item.Idle = tag.Idle

-- the byte that tells a kind
abbrev pub tag_byte : Tag → ℕ
tag_byte tag.Event = 1
tag_byte tag.Side = 2
tag_byte tag.Frame = 3
tag_byte tag.Row = 4
tag_byte tag.Late = 5
tag_byte tag.Mark = 6
tag_byte tag.Done = 7
tag_byte tag.Idle = 8

-- the kind that a byte tells
abbrev pub tag_at : ℕ → Option Tag
tag_at b =
    if b == 1 then Some tag.Event
    else if b == 2 then Some tag.Side
    else if b == 3 then Some tag.Frame
    else if b == 4 then Some tag.Row
    else if b == 5 then Some tag.Late
    else if b == 6 then Some tag.Mark
    else if b == 7 then Some tag.Done
    else if b == 8 then Some tag.Idle
    else None
