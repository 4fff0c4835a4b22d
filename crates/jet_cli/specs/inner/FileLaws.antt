-- What the laws of files say to the reading of a file.
use Rattle.std.specs.Prelude.{◌≡◌, ◌≤◌, ◌++◌, ℕ, List, length, take, Some}
use Rattle.jet_file.specs.Outside.{Told, OpensFile, ReadsFile, rest_of}
use Rattle.jet_file.specs.Reading.{HasRead, HasReadAll}

pub record FileLaws : Type 0 where
  pub opened : (name content : List ℕ) (file : ℕ) (old now : Told) → old.content name ≡ Some content → OpensFile name file old now → rest_of now file ≡ content
  pub more : (file : ℕ) (bytes buffer : List ℕ) (n : ℕ) (old now next : Told) → n ≤ length buffer → HasRead file bytes old now
      → ReadsFile file buffer n now next → HasRead file (bytes ++ take n buffer) old next
  pub end : (file : ℕ) (bytes buffer : List ℕ) (n : ℕ) (old now next : Told) → n ≡ 0 → HasRead file bytes old now
      → ReadsFile file buffer n now next → HasReadAll file bytes old next
