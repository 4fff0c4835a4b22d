-- What the bytes of a packet are: spellings, one after another.
use Rattle.std.specs.Prelude.{◌≡◌, ℕ, ◌<◌, ◌≤◌, List, length, take}
use Rattle.std.specs.List.{AllByRecursion}
use Rattle.jet_items.specs.Fits.{ItemFits}
use Rattle.jet_items.specs.declared.item.Item.{Item}
use Rattle.jet_spell.specs.Spelling.{spellings}

-- the bytes are the spellings of these items
pub record AreSpelled (items : List Item) (bytes : List ℕ) : Type 0 where
  pub fits : AllByRecursion ItemFits items
  pub spelled : bytes ≡ spellings items

-- the bytes are a list of whole spellings, or no bytes; a fact of a kind that a type's ghost field can keep
abbrev pub IsSpelled : List ℕ → Type 0
IsSpelled bytes = ∥ ((items : List Item) × AreSpelled items bytes) ∥₁

-- a packet has one spelling or more
abbrev pub IsPacket : List ℕ → Type 0
IsPacket bytes = (0 < length bytes) × IsSpelled bytes

-- the bytes are no packet, and the longest prefix that is a list of whole spellings ends at `at`
pub record IsMalformed (at : ℕ) (bytes : List ℕ) : Type 0 where
  pub no_packet : IsPacket bytes → ⊥
  pub within : at ≤ length bytes
  pub whole : IsSpelled (take at bytes)
  pub longest : (n : ℕ) → n ≤ length bytes → IsSpelled (take n bytes) → n ≤ at
