-- When one more time raises the mark.
use Rattle.std.proofs.Common.{◌≡◌, arith, ℤ, pos, ◌+ℤ◌, ◌-ℤ◌, ◌≤ℤ◌, ◌<ℤ◌, List, [], ◌∷◌, ◌++◌, Option, Some, None, IfSome, int_lt, true, false, refl, sym, ap, ◌∙◌, subst, to_z-of_z, to_z, of_z, w64, FitsSigned}
use Rattle.std.specs.Int.{int_max}
use Rattle.std.specs.List.{reduce}
use Rattle.std.proofs.lemmas.Int.{ints, clamps, by_lt_z}
use Rattle.jet_items.specs.Grid.{floor_to}
use Rattle.jet_items.specs.Marks.{mark_at, mark_of}
use Rattle.jet_items.specs.Ranges.{IsWithin, most_time}
use Rattle.jet_items.proofs.GridLemmas.{floor_is, frame_end_is}
use Rattle.jet_items.proofs.Covering.{Decides-int_lt, false_from}
use Rattle.jet_policy.proofs.Greatest.{greatest_push}
use Rattle.jet_policy.specs.MarkerValue.{IsRaised, greatest_with, rise_at}

-- up to the next multiple the greatest one stays
floor_stays : (grain t u : ℤ) → pos 1 ≤ℤ grain → t ≤ℤ u → u <ℤ (floor_to grain t +ℤ grain) → floor_to grain u ≡ floor_to grain t
floor_stays grain t u low le lt =
    let old = floor_is grain t low in
    let new = floor_is grain u low in
    let end = frame_end_is grain t low in
    let up : floor_to grain t ≤ℤ floor_to grain u = new.greatest (floor_to grain t) old.multiple (omega (arith, ints, old.at_most)) in
    let down : floor_to grain u ≤ℤ floor_to grain t = old.greatest (floor_to grain u) new.multiple (not_above (floor_to grain u) (λ above. end.least (floor_to grain u) new.multiple above) (omega (arith, ints, new.at_most))) in
    omega (arith, ints, up, down)
  where
    not_above : (m : ℤ) → (t <ℤ m → (floor_to grain t +ℤ grain) ≤ℤ m) → m <ℤ (floor_to grain t +ℤ grain) → m ≤ℤ t
    not_above m h below = by_lt_z t m (λ above. let at : (floor_to grain t +ℤ grain) ≤ℤ m = h above in absurd (omega (arith, ints))) (λ le. le)

-- from there on it is that one or a later one
floor_rises : (grain t u : ℤ) → pos 1 ≤ℤ grain → (floor_to grain t +ℤ grain) ≤ℤ u → floor_to grain t <ℤ floor_to grain u
floor_rises grain t u low le =
    let up = (floor_is grain u low).greatest (floor_to grain t +ℤ grain) (frame_end_is grain t low).multiple le in
    omega (arith, ints, up)

module _ (lag grain ts : ℤ) (low : pos 1 ≤ℤ grain) (within : IsWithin most_time ts) where
  stays_at : (g : ℤ) → ts <ℤ rise_at lag grain (Some g) → floor_to grain (int_max g ts -ℤ lag) ≡ floor_to grain (g -ℤ lag)
  stays_at g lt =
      by_lt_z g ts
      (λ above. let is : int_max g ts ≡ ts = omega (arith, ints, clamps) in
      ap (λ (m : ℤ). floor_to grain (m -ℤ lag)) is ∙ floor_stays grain (g -ℤ lag) (ts -ℤ lag) low (omega (arith, ints)) (omega (arith, ints, lt)))
      (λ le. let is : int_max g ts ≡ g = omega (arith, ints, clamps) in ap (λ (m : ℤ). floor_to grain (m -ℤ lag)) is)

  pub rise_stays : (g : Option ℤ) → ts <ℤ rise_at lag grain g → rise_at lag grain (greatest_with g ts) ≡ rise_at lag grain g
  rise_stays None lt = absurd (omega (arith, ints, within.0))
  rise_stays (Some g) lt = ap (λ (m : ℤ). (m +ℤ grain) +ℤ lag) (stays_at g lt)

  pub not_raised : (g : Option ℤ) → ts <ℤ rise_at lag grain g → IsRaised (mark_at lag grain g) (mark_at lag grain (greatest_with g ts)) None
  not_raised None lt = absurd (omega (arith, ints, within.0))
  not_raised (Some g) lt =
      let still : int_lt (floor_to grain (g -ℤ lag)) (floor_to grain (int_max g ts -ℤ lag)) ≡ false =
      false_from (int_lt (floor_to grain (g -ℤ lag)) (floor_to grain (int_max g ts -ℤ lag))) (Decides-int_lt (floor_to grain (g -ℤ lag)) (floor_to grain (int_max g ts -ℤ lag))) (λ more. omega (arith, ints, stays_at g lt, more)) in
      rw still refl

  pub greatest_rises : (g : Option ℤ) → rise_at lag grain g ≤ℤ ts → greatest_with g ts ≡ Some ts
  greatest_rises None le = refl
  greatest_rises (Some g) le =
      let above = (frame_end_is grain (g -ℤ lag) low).above in
      let is : int_max g ts ≡ ts = omega (arith, ints, clamps, above, le) in
      ap Some is

  pub is_raised : (g : Option ℤ) → rise_at lag grain g ≤ℤ ts → IsRaised (mark_at lag grain g) (mark_at lag grain (greatest_with g ts)) (Some (floor_to grain (ts -ℤ lag)))
  is_raised None le = refl
  is_raised (Some g) le =
      let above = (frame_end_is grain (g -ℤ lag) low).above in
      let is : int_max g ts ≡ ts = omega (arith, ints, clamps, above, le) in
      let more : int_lt (floor_to grain (g -ℤ lag)) (floor_to grain (ts -ℤ lag)) ≡ true =
      (Decides-int_lt (floor_to grain (g -ℤ lag)) (floor_to grain (ts -ℤ lag))).1 (floor_rises grain (g -ℤ lag) (ts -ℤ lag) low (omega (arith, ints, le))) in
      rw (is, more) refl

-- the greatest time as it is stored
pub stored : (r ts : ℤ) (g : Option ℤ) → FitsSigned w64 r → Some r ≡ greatest_with g ts → Some (to_z w64 (of_z w64 r)) ≡ greatest_with g ts
stored r ts g fits is = ap Some (to_z-of_z fits) ∙ is

-- the same of the times seen
pub told_of : {lag grain own_lag own_grain : ℤ} {g : Option ℤ} (ts : ℤ) (times : List ℤ) (told : Option ℤ) → lag ≡ own_lag → grain ≡ own_grain → g ≡ reduce int_max times
    → IsRaised (mark_at lag grain g) (mark_at lag grain (greatest_with g ts)) told → IsRaised (mark_of own_lag own_grain times) (mark_of own_lag own_grain (times ++ ts ∷ [])) told
told_of {lag} {grain} {own_lag} {own_grain} {g} ts times told same_lag same_grain is h =
    let own : IsRaised (mark_at own_lag own_grain g) (mark_at own_lag own_grain (greatest_with g ts)) told =
    subst (λ (l : ℤ). IsRaised (mark_at l own_grain g) (mark_at l own_grain (greatest_with g ts)) told) same_lag
    (subst (λ (n : ℤ). IsRaised (mark_at lag n g) (mark_at lag n (greatest_with g ts)) told) same_grain h) in
    subst (λ (o : Option ℤ). IsRaised (mark_of own_lag own_grain times) (mark_at own_lag own_grain o) told) (sym (greatest_push times ts))
    (subst (λ (o : Option ℤ). IsRaised (mark_at own_lag own_grain o) (mark_at own_lag own_grain (greatest_with o ts)) told) is own)

-- times stay within their range
pub greatest_within : (g : Option ℤ) (ts : ℤ) → IfSome g (IsWithin most_time) → IsWithin most_time ts → IfSome (greatest_with g ts) (IsWithin most_time)
greatest_within None ts h within = within
greatest_within (Some g) ts h within = by_lt_z g ts
    (λ above. let is : int_max g ts ≡ ts = omega (arith, ints, clamps) in subst (IsWithin most_time) (sym is) within)
    (λ le. let is : int_max g ts ≡ g = omega (arith, ints, clamps) in subst (IsWithin most_time) (sym is) h)
