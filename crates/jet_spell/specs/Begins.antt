-- What bytes begin with.
use Rattle.std.specs.Prelude.{◌≡◌, ℕ, ◌≤◌, List, ◌++◌, length, take, drop}
use Rattle.jet_items.specs.Fits.{ItemFits}
use Rattle.jet_items.specs.declared.item.Item.{Item}
use Rattle.jet_spell.specs.Packets.{AreSpelled}
use Rattle.jet_spell.specs.Spelling.{spelling}

-- the bytes begin with the spelling of x, which has n bytes
pub record BeginsWith (x : Item) (n : ℕ) (bytes : List ℕ) : Type 0 where
  pub fits : ItemFits x
  pub len : n ≡ length (spelling x)
  pub begins : bytes ≡ spelling x ++ drop n bytes

-- no item's spelling begins the bytes
abbrev pub BeginsNone : List ℕ → Type 0
BeginsNone bytes = (x : Item) (rest : List ℕ) → ItemFits x → bytes ≡ spelling x ++ rest → ⊥

-- the bytes begin with the spellings of these items, up to `at`, and no further item is spelled from there on
pub record IsLongest (items : List Item) (at : ℕ) (bytes : List ℕ) : Type 0 where
  pub within : at ≤ length bytes
  pub spelled : AreSpelled items (take at bytes)
  pub none : BeginsNone (drop at bytes)
