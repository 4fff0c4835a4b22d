-- Frames that have entered the slides of their keys.
use Rattle.std.specs.Prelude.{◌≡◌, ℕ, ℤ, ◌<ℤ◌, ◌≤ℤ◌, Bool, true, false, cond, drop, List, [], ◌∷◌, ◌++◌, Option, Some, None, bytes_eq}
use Rattle.std.specs.List.{flat_map}
use Rattle.std.specs.Map.{lookup}
use Rattle.std.specs.BTreeMap.{is_at}
use Rattle.std.specs.Ordering.{nat_cmp, is_le}
use Rattle.std.specs.Cmp.Lexicographic.{slice_cmp}
use Rattle.std.specs.declared.ops.Bound.{Bound}
use Rattle.std.specs.declared.ops.Bound.TheVariants.{Excluded, Unbounded}
use Rattle.jet_items.specs.Frames.{only}
use Rattle.jet_items.specs.Totals.{total}
use Rattle.jet_items.specs.Values.{AccValue}
use Rattle.jet_items.specs.Order.{Each}
use Rattle.jet_window.specs.FrameTables.{Table}
use Rattle.jet_window.specs.Slides.{Pair, joined_pairs}
use Rattle.jet_window.specs.Tables.{Place, place_cmp}
use Rattle.jet_window.specs.inner.WindowOf.{KeysRise}

-- the pair of a frame, where it is one of this key
abbrev pub pair_of : List ℕ → Place × AccValue → List Pair
pair_of key f = cond (bytes_eq f.0.1 key) ((f.0.0, f.1) ∷ []) []

-- the pairs of a key's frames
abbrev pub pairs_of : List ℕ → Table → List Pair
pairs_of key frames = flat_map (pair_of key) frames

-- slides by key
abbrev pub SlidesByKey : Type 0
SlidesByKey = List (List ℕ × List Pair)

abbrev pub pairs_or_none : Option (List Pair) → List Pair
pairs_or_none None = []
pairs_or_none (Some pairs) = pairs

-- the pairs in the slide of a key, none where it has no slide
abbrev pub pairs_at : SlidesByKey → List ℕ → List Pair
pairs_at slides key = pairs_or_none (lookup (is_at (slice_cmp nat_cmp key)) slides)

-- no slide is without a pair
abbrev pub NoneEmpty : SlidesByKey → Type 0
NoneEmpty slides = (key : List ℕ) → lookup (is_at (slice_cmp nat_cmp key)) slides ≡ Some [] → ⊥

-- a frame has entered, and no slide was left without a pair
pub record Gains (old new : SlidesByKey) (f : Place × AccValue) : Type 0 where
  pub pairs : (key : List ℕ) → pairs_at new key ≡ pairs_at old key ++ pair_of key f
  pub filled : NoneEmpty old → NoneEmpty new

-- the first frame of a key has left, and no slide was left without a pair
pub record Loses (old new : SlidesByKey) (key : List ℕ) : Type 0 where
  pub pairs : (k : List ℕ) → pairs_at new k ≡ drop (cond (bytes_eq key k) 1 0) (pairs_at old k)
  pub filled : NoneEmpty old → NoneEmpty new

-- whether there is a place, and this one stands at it or before it
abbrev pub is_up_to : Option Place → Place → Bool
is_up_to None p = false
is_up_to (Some r) p = is_le (place_cmp p r)

-- where the places behind one begin, all where there is none
abbrev pub bound_behind : Option Place → Bound Place
bound_behind None = Unbounded
bound_behind (Some r) = Excluded r

-- the first frames, which stand up to a place, have entered the slides of their keys, and the others stand behind it; there
-- is no slide without a frame
pub record HaveEntered (reached : Option Place) (held : Table) (slides : SlidesByKey) (front back : Table) : Type 0 where
  pub split : held ≡ front ++ back
  pub upto : Each (λ f. is_up_to reached f.0 ≡ true) front
  pub behind : Each (λ f. is_up_to reached f.0 ≡ false) back
  pub pairs : (key : List ℕ) → pairs_at slides key ≡ pairs_of key front
  pub filled : NoneEmpty slides

-- the frames up to a place, and no others, have entered
pub record Tracks (reached : Option Place) (held : Table) (slides : SlidesByKey) : Type 0 where
  pub front : Table
  pub back : Table
  pub entered : HaveEntered reached held slides front back

-- all that end at most here have entered but those that are left
pub record Enters (end : ℤ) (reached : Option Place) (held : Table) (slides : SlidesByKey) (left : Table) : Type 0 where
  pub front : Table
  pub entered : HaveEntered reached held slides front left
  pub low : Each (λ f. f.0.0 ≤ℤ end) front

-- exactly those that end at most here have entered
pub record EnteredUntil (end : ℤ) (reached : Option Place) (held : Table) (slides : SlidesByKey) : Type 0 where
  pub back : Table
  pub enters : Enters end reached held slides back
  pub high : Each (λ f. end <ℤ f.0.0) back

-- rows by rising key that the slides join to
pub record JoinedByKey (slides : SlidesByKey) (rows : List (List ℕ × AccValue)) : Type 0 where
  pub each : (key : List ℕ) → total (λ (p : List ℕ × AccValue). only (bytes_eq p.0 key) p.1) rows ≡ joined_pairs (pairs_at slides key)
  pub rising : KeysRise rows
