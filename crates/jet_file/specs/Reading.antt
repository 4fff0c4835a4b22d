-- What a run of reads of one file did.
use Rattle.std.specs.Prelude.{◌≡◌, ◌≢◌, ℕ, ◌+◌, List, [], ◌++◌, length, map, sum}
use Rattle.jet_file.specs.Outside.{Told, Read, rest_of}

-- these bytes of the file were taken, in reads of these counts; all else stays
pub record HasRead (file : ℕ) (bytes : List ℕ) (old now : Told) : Type 0 where
  pub counts : List ℕ
  pub sum : sum counts ≡ length bytes
  pub rest : rest_of old file ≡ bytes ++ rest_of now file
  pub content : now.content ≡ old.content
  pub written : now.written ≡ old.written
  pub name : (now.place file).name ≡ (old.place file).name
  pub taken : (now.place file).taken ≡ (old.place file).taken + length bytes
  pub others : (other : ℕ) → other ≢ file → now.place other ≡ old.place other
  pub trace : now.trace ≡ old.trace ++ map (Read file) counts

-- and nothing is left
pub record HasReadAll (file : ℕ) (bytes : List ℕ) (old now : Told) : Type 0 where
  pub read : HasRead file bytes old now
  pub end : rest_of now file ≡ []
