-- The partition of a key, which says to which instance of a consumer it goes.
use Rattle.std.specs.Prelude.{ℕ, ◌+◌, ◌*◌, ◌%◌, ◌^◌, List, [], fold, Option, Some, None}
use Rattle.jet_items.specs.declared.item.Item.{Item}
use Rattle.jet_items.specs.declared.item.Item.TheVariants as item

-- the hash of bytes: from 0 on, each byte is added to 31 times the hash, modulo 2 ^ 32
abbrev pub key_hash : List ℕ → ℕ
key_hash bytes = fold (λ hash byte. (hash * 31 + byte) % 2 ^ 32) 0 bytes

-- the number of partitions of keys
abbrev pub partitions : ℕ
partitions = 271

-- the partition of a key
abbrev pub key_partition : List ℕ → ℕ
key_partition key = key_hash key % partitions

-- the key by which a data item is routed; an idle note has no key, and goes to the partition of no bytes, which is 0; a mark and Done are no data
abbrev pub item_key : Item → Option (List ℕ)
item_key (item.Event e) = Some e.key
item_key (item.Side s) = Some s.key
item_key (item.Frame f) = Some f.key
item_key (item.Row r) = Some r.key
item_key (item.Late l) = Some l.event.key
item_key item.Idle = Some []
item_key (item.Mark m) = None
item_key item.Done = None
