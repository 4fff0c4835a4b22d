-- How a watermark goes on by one time more.
use Rattle.std.proofs.Common.{◌≡◌, Bool, true, false, ℤ, pos, ◌≤ℤ◌, ◌-ℤ◌, List, [], ◌∷◌, ◌++◌, refl, ap, sym, ◌∙◌, subst, arith, Option, Some, None, rules}
use Rattle.std.specs.Prelude.{int_lt, if◌then◌else◌, IfSome, option_to_list}
use Rattle.std.specs.List.{reduce}
use Rattle.std.specs.Int.{int_max}
use Rattle.std.proofs.lemmas.Int.{ints, clamps}
use Rattle.jet_items.specs.Grid.{IsFloor, floor_to}
use Rattle.jet_items.specs.Marks.{mark_at, mark_of}
use Rattle.jet_items.proofs.GridLemmas.{floor_is}
use Rattle.jet_policy.specs.MarkerValue.{MarkerValue, HasSeen, IsRaised, greatest_with}

-- the new watermark is the one told, and else the old one
abbrev pub StepsTo : Option ℤ → Option ℤ → Option ℤ → Type 0
StepsTo old new None = new ≡ old
StepsTo old new (Some t) = (new ≡ Some t) × IfSome old (λ s. s ≤ℤ t)

floor_mono : (grain a b : ℤ) → pos 1 ≤ℤ grain → a ≤ℤ b → floor_to grain a ≤ℤ floor_to grain b
floor_mono grain a b step le =
    let x : IsFloor grain a (floor_to grain a) = floor_is grain a step in
    let y : IsFloor grain b (floor_to grain b) = floor_is grain b step in
    y.greatest (floor_to grain a) x.multiple (omega (arith, ints, x.at_most, le))

seen_one : (g : Option ℤ) → g ≡ reduce int_max (option_to_list g)
seen_one None = refl
seen_one (Some g) = refl

seen_more : (g : Option ℤ) (ts : ℤ) → reduce int_max (option_to_list g ++ ts ∷ []) ≡ greatest_with g ts
seen_more None ts = refl
seen_more (Some g) ts = refl

raised_if : (o n : ℤ) (told : Option ℤ) (b : Bool) → int_lt o n ≡ b → o ≤ℤ n → told ≡ (if b then Some n else None) → StepsTo (Some o) (Some n) told
raised_if o n None true is le h = absurd (cc)
raised_if o n (Some t) true is le h = let same : t ≡ n = cc h in (ap Some (sym same), subst (λ (z : ℤ). o ≤ℤ z) (sym same) le)
raised_if o n None false is le h = let same : n ≡ o = grind (arith, ints, rules, is, le) in ap Some same
raised_if o n (Some t) false is le h = absurd (cc)

max_above : (g ts : ℤ) → g ≤ℤ int_max g ts
max_above g ts = omega (arith, ints, clamps)

stepped : (lag grain ts : ℤ) (g told : Option ℤ) → pos 1 ≤ℤ grain → IsRaised (mark_at lag grain g) (mark_at lag grain (greatest_with g ts)) told
    → StepsTo (mark_at lag grain g) (mark_at lag grain (greatest_with g ts)) told
stepped lag grain ts None None step h = absurd (cc)
stepped lag grain ts None (Some t) step h = (sym h, tt)
stepped lag grain ts (Some g) told step h =
    raised_if (floor_to grain (g -ℤ lag)) (floor_to grain (int_max g ts -ℤ lag)) told _ refl
    (floor_mono grain (g -ℤ lag) (int_max g ts -ℤ lag) step (omega (arith, ints, max_above g ts))) h

-- what a marker answers at one time more
pub sees : (old new : MarkerValue) (ts : ℤ) (told : Option ℤ) → pos 1 ≤ℤ old.grain
    → ((times : List ℤ) → HasSeen old times → HasSeen new (times ++ ts ∷ []))
    → new.lag ≡ old.lag → new.grain ≡ old.grain
    → ((times : List ℤ) → HasSeen old times → IsRaised (mark_of old.lag old.grain times) (mark_of old.lag old.grain (times ++ ts ∷ [])) told)
    → StepsTo (mark_at old.lag old.grain old.greatest) (mark_at new.lag new.grain new.greatest) told
sees old new ts told step seen lag grain raised =
    let times : List ℤ = option_to_list old.greatest in
    let one : HasSeen old times = seen_one old.greatest in
    let after : new.greatest ≡ greatest_with old.greatest ts = seen times one ∙ seen_more old.greatest ts in
    let up : IsRaised (mark_at old.lag old.grain old.greatest) (mark_at old.lag old.grain (greatest_with old.greatest ts)) told =
    subst (λ (g : Option ℤ). IsRaised (mark_at old.lag old.grain old.greatest) (mark_at old.lag old.grain g) told) (seen_more old.greatest ts)
    (subst (λ (g : Option ℤ). IsRaised (mark_at old.lag old.grain g) (mark_of old.lag old.grain (times ++ ts ∷ [])) told) (sym one) (raised times one)) in
    let goes : StepsTo (mark_at old.lag old.grain old.greatest) (mark_at old.lag old.grain (greatest_with old.greatest ts)) told = stepped old.lag old.grain ts old.greatest told step up in
    let same : mark_at new.lag new.grain new.greatest ≡ mark_at old.lag old.grain (greatest_with old.greatest ts) =
    ap (λ (l : ℤ). mark_at l new.grain new.greatest) lag ∙ ap (λ (g : ℤ). mark_at old.lag g new.greatest) grain ∙ ap (mark_at old.lag old.grain) after in
    subst (λ (m : Option ℤ). StepsTo (mark_at old.lag old.grain old.greatest) m told) (sym same) goes
