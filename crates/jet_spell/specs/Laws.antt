-- What spellings and reading have to do with each other.
use Rattle.std.specs.Prelude.{◌≡◌, ℕ, ◌≤◌, ◌<◌, ◌^◌, List, [], ◌∷◌, ◌++◌, length, slice_index, Some}
use Rattle.std.specs.List.{AllByRecursion}
use mathlib.Core.List.{IsPrefix}
use Rattle.jet_items.specs.Fits.{ItemFits}
use Rattle.jet_items.specs.declared.item.Item.{Item}
use Rattle.jet_spell.specs.Packets.{AreSpelled}
use Rattle.jet_spell.specs.Spelling.{spelling, spellings}
use Rattle.jet_spell.specs.Reading.{item_at}

-- numbers below 256
abbrev pub AreBytes : List ℕ → Type 0
AreBytes bytes = (i : ℕ) → slice_index bytes i < 2 ^ 8

-- what is spelled is read, whatever follows
abbrev pub ReadsBack : Type 0
ReadsBack = (x : Item) (rest : List ℕ) → ItemFits x → item_at (spelling x ++ rest) ≡ Some (x, rest)

-- what is read is spelled so, and lies in the ranges of its types
abbrev pub IsSpelledSo : Type 0
IsSpelledSo = (bytes : List ℕ) (x : Item) (rest : List ℕ) → AreBytes bytes → item_at bytes ≡ Some (x, rest)
    → (bytes ≡ spelling x ++ rest) × ItemFits x

-- bytes that begin with the spellings of two items begin with one: each item has one spelling, and none begins another
abbrev pub OneSpelling : Type 0
OneSpelling = (x y : Item) (a b : List ℕ) → ItemFits x → ItemFits y → spelling x ++ a ≡ spelling y ++ b → (x ≡ y) × (a ≡ b)

-- a spelling has 1 to 119 bytes
abbrev pub SpellingsAreShort : Type 0
SpellingsAreShort = (x : Item) → ItemFits x → (1 ≤ length (spelling x)) × (length (spelling x) ≤ 119)

-- where the bytes of one list of items begin those of another, so do its items
abbrev pub FrontOf : Type 0
FrontOf = (xs ys : List Item) (rest : List ℕ) → AllByRecursion ItemFits xs → AllByRecursion ItemFits ys
    → spellings xs ++ rest ≡ spellings ys → IsPrefix xs ys

-- bytes are the spellings of one list of items alone
abbrev pub OneList : Type 0
OneList = (xs ys : List Item) (bytes : List ℕ) → AreSpelled xs bytes → AreSpelled ys bytes → xs ≡ ys

-- one spelling more is that of one item more; no bytes are the spellings of no items
pub record SpelledOn : Type 0 where
  pub none : AreSpelled [] []
  pub more : (xs : List Item) (bytes : List ℕ) (x : Item) → AreSpelled xs bytes → ItemFits x → AreSpelled (xs ++ x ∷ []) (bytes ++ spelling x)

-- what is read of spellings is the first item, and the rest is spelled by the others
abbrev pub FirstIsRead : Type 0
FirstIsRead = (x : Item) (xs : List Item) (bytes : List ℕ) → AreSpelled (x ∷ xs) bytes
    → (item_at bytes ≡ Some (x, spellings xs)) × AreSpelled xs (spellings xs)
