-- The opened files of an outside in memory.
use Rattle.std.specs.Prelude.{◌≡◌, ◌≢◌, ℕ, ◌+◌, List, [], length, Option, Some, None, slice_get}
use Rattle.jet_file.specs.Contents.{content_in}
use Rattle.jet_file.specs.Outside.{Place, rest_from}
use Rattle.jet_file.specs.declared.stored.StoredFile.{StoredFile}
use Rattle.jet_file.specs.declared.stored.OpenedFile.{OpenedFile}

-- the place of a number that no file has, which means nothing
abbrev pub no_place : Place
no_place = record { name = []; taken = 0 }

-- the place that an opened file stands at
abbrev pub place_from : Option OpenedFile → Place
place_from None = no_place
place_from (Some o) = record { name = o.name.items; taken = o.taken }

-- the place of an opened file, whose number is its index
abbrev pub place_in : List OpenedFile → ℕ → Place
place_in opened file = place_from (slice_get opened file)

-- the bytes of a file that are not taken yet
abbrev pub rest_in : List StoredFile → Place → List ℕ
rest_in files place = rest_from (content_in files place.name) place.taken

-- one more file stands behind the others, and nothing of it is taken
pub record PushesPlace (name : List ℕ) (old new : List OpenedFile) : Type 0 where
  pub len : length new ≡ length old + 1
  pub place : place_in new (length old) ≡ record { name = name; taken = 0 }
  pub others : (other : ℕ) → other ≢ length old → place_in new other ≡ place_in old other

-- n more bytes of a file are taken
pub record Takes (file n : ℕ) (old new : List OpenedFile) : Type 0 where
  pub len : length new ≡ length old
  pub place : place_in new file ≡ record (place_in old file) { taken = (place_in old file).taken + n }
  pub others : (other : ℕ) → other ≢ file → place_in new other ≡ place_in old other
