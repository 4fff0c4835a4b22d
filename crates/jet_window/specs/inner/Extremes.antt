-- The entries of a slide: pairs, and what the first of them know of those behind.
use Rattle.std.specs.Prelude.{◌≡◌, ℕ, length, ℤ, pos, ◌-ℤ◌, List, [], ◌∷◌, ◌++◌, map}
use Rattle.std.specs.Int.{int_min, int_max}
use Rattle.jet_items.specs.Fits.{AccFits}
use Rattle.jet_items.specs.Order.{Each}
use Rattle.jet_window.specs.Slides.{Pair}
use Rattle.jet_window.specs.declared.slide.Entry.{Entry}

-- the pairs of entries
abbrev pub pair_in : Entry → Pair
pair_in e = (e.end, e.acc)

abbrev pub pairs_in : List Entry → List Pair
pairs_in entries = map pair_in entries

-- the least and the greatest value; where there is none, what no value is above, or below
abbrev pub least_of : List Pair → ℤ
least_of [] = pos 9223372036854775807
least_of (p ∷ ps) = int_min p.1.min (least_of ps)

abbrev pub greatest_of : List Pair → ℤ
greatest_of [] = pos 0 -ℤ pos 9223372036854775808
greatest_of (p ∷ ps) = int_max p.1.max (greatest_of ps)

-- each entry knows the extremes from itself on
abbrev pub Know : List Entry → Type 0
Know [] = Unit {0}
Know (e ∷ es) = ((e.least ≡ least_of (pairs_in (e ∷ es))) × (e.greatest ≡ greatest_of (pairs_in (e ∷ es)))) × Know es

-- the first entries, so many as are known, know the extremes from themselves on up to the last of these; the others have
-- these extremes, and there are none where no entry is known
pub record KnowsExtremes (entries : List Entry) (known : ℕ) (least greatest : ℤ) : Type 0 where
  pub front : List Entry
  pub back : List Entry
  pub split : entries ≡ front ++ back
  pub counted : known ≡ length front
  pub fronts : Know front
  pub least_is : least ≡ least_of (pairs_in back)
  pub greatest_is : greatest ≡ greatest_of (pairs_in back)
  pub none_alone : known ≡ 0 → back ≡ []
  pub fits : Each (λ (p : Pair). AccFits p.1) (pairs_in entries)
