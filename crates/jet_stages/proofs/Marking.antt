-- Marks of lists of times: how they grow, and what stands behind them.
use Rattle.std.proofs.Common.{◌≡◌, ℕ, ◌<◌, Bool, true, false, cond, ℤ, pos, ◌≤ℤ◌, ◌<ℤ◌, ◌-ℤ◌, List, [], ◌∷◌, ◌++◌, map, Option, Some, None, refl, ap, sym, ◌∙◌, subst, arith, rules}
use Rattle.std.specs.Prelude.{int_lt, nat_lt, filter}
use Rattle.std.specs.List.{fold}
use Rattle.std.specs.Option.{IsSomeAnd, option_map_or}
use Rattle.std.specs.Int.{int_max}
use Rattle.std.proofs.lemmas.Int.{ints, clamps, fold-int_max_bounds}
use Rattle.std.proofs.lemmas.List.{map-append}
use Rattle.std.proofs.lemmas.List.Sums.{fold-append}
use Rattle.std.proofs.lemmas.List.Elements.{filter-append}
use Rattle.jet_items.specs.Values.{EventValue}
use Rattle.jet_items.specs.Order.{Each}
use Rattle.jet_items.specs.Grid.{IsFloor, floor_to}
use Rattle.jet_items.specs.Marks.{mark_of, times_before, is_behind, is_under}
use Rattle.jet_items.proofs.GridLemmas.{floor_is}
use Rattle.jet_stages.specs.Stamp.{StandsIn}

pub floor_mono : (grain a b : ℤ) → pos 1 ≤ℤ grain → a ≤ℤ b → floor_to grain a ≤ℤ floor_to grain b
floor_mono grain a b step le =
    let x : IsFloor grain a (floor_to grain a) = floor_is grain a step in
    let y : IsFloor grain b (floor_to grain b) = floor_is grain b step in
    y.greatest (floor_to grain a) x.multiple (omega (arith, ints, x.at_most, le))

-- there is a mark, and it has reached w
abbrev pub Reaches : ℤ → Option ℤ → Type 0
Reaches w mark = IsSomeAnd mark (λ m. w ≤ℤ m)

le_trans : (a b c : ℤ) → a ≤ℤ b → b ≤ℤ c → a ≤ℤ c
le_trans a b c h k = omega (arith, ints, h, k)

pub reaches_less : (a b : ℤ) (mark : Option ℤ) → a ≤ℤ b → Reaches b mark → Reaches a mark
reaches_less a b None le h = h
reaches_less a b (Some m) le h = le_trans a b m le h

fold_from : (a : ℤ) (xs : List ℤ) → a ≤ℤ fold int_max a xs
fold_from a xs = (fold-int_max_bounds a xs (fold int_max a xs) refl).0

reaches_at : (lag grain w a b : ℤ) → pos 1 ≤ℤ grain → a ≤ℤ b → w ≤ℤ floor_to grain (a -ℤ lag) → w ≤ℤ floor_to grain (b -ℤ lag)
reaches_at lag grain w a b step le h = le_trans w (floor_to grain (a -ℤ lag)) (floor_to grain (b -ℤ lag)) h (floor_mono grain (a -ℤ lag) (b -ℤ lag) step (omega (arith, ints, le)))

-- more times do not lower the mark
pub grows : (lag grain w : ℤ) (xs ys : List ℤ) → pos 1 ≤ℤ grain → Reaches w (mark_of lag grain xs) → Reaches w (mark_of lag grain (xs ++ ys))
grows lag grain w [] ys step h = absurd h
grows lag grain w (x ∷ xs) ys step h =
    reaches_at lag grain w (fold int_max x xs) (fold int_max x (xs ++ ys)) step
    (subst (λ (z : ℤ). fold int_max x xs ≤ℤ z) (sym (fold-append int_max x xs ys)) (fold_from (fold int_max x xs) ys)) h

max_second : (a y : ℤ) → y ≤ℤ int_max a y
max_second a y = omega (arith, ints, clamps)

fold_above : (a y : ℤ) (front back : List ℤ) → y ≤ℤ fold int_max a (front ++ y ∷ back)
fold_above a y [] back = le_trans y (int_max a y) (fold int_max (int_max a y) back) (max_second a y) (fold_from (int_max a y) back)
fold_above a y (x ∷ front) back = fold_above (int_max a x) y front back

-- the mark of times has reached that of each of them
one_reaches : (lag grain y : ℤ) (front back : List ℤ) → pos 1 ≤ℤ grain → Reaches (floor_to grain (y -ℤ lag)) (mark_of lag grain (front ++ y ∷ back))
one_reaches lag grain y [] back step = floor_mono grain (y -ℤ lag) (fold int_max y back -ℤ lag) step (omega (arith, ints, fold_from y back))
one_reaches lag grain y (x ∷ front) back step =
    floor_mono grain (y -ℤ lag) (fold int_max x (front ++ y ∷ back) -ℤ lag) step (omega (arith, ints, fold_above x y front back))

-- what holds of both holds of the one that is picked
pub one_of : (P : ℤ → Type 0) (b : Bool) (a x : ℤ) → P a → P x → P (cond b a x)
one_of P true a x p q = p
one_of P false a x p q = q

fold_each : (P : ℤ → Type 0) (a : ℤ) (xs : List ℤ) → P a → Each P xs → P (fold int_max a xs)
fold_each P a [] p h = p
fold_each P a (x ∷ xs) p h = fold_each P (int_max a x) xs (one_of P (int_lt x a) a x p h.0) h.1

-- what the marks of all times of a list have not passed, its mark has not passed
all_reach : (lag grain w : ℤ) (xs : List ℤ) (mark : Option ℤ) → Each (λ x. Reaches (floor_to grain (x -ℤ lag)) mark) xs → Reaches w (mark_of lag grain xs) → Reaches w mark
all_reach lag grain w [] mark each h = absurd h
all_reach lag grain w (x ∷ xs) mark each h =
    reaches_less w (floor_to grain (fold int_max x xs -ℤ lag)) mark h (fold_each (λ z. Reaches (floor_to grain (z -ℤ lag)) mark) x xs each.0 each.1)

-- an event of the file on an earlier line
earlier_is : (d : EventValue) (line : ℕ) (front back : List EventValue) → nat_lt d.line line ≡ true → times_before line (front ++ d ∷ back) ≡ times_before line front ++ d.ts ∷ times_before line back
earlier_is d line front back is =
    ap (map (λ (x : EventValue). x.ts)) (filter-append (λ (x : EventValue). nat_lt x.line line) front (d ∷ back)
    ∙ ap (λ (b : Bool). filter (λ (x : EventValue). nat_lt x.line line) front ++ cond b (d ∷ filter (λ (x : EventValue). nat_lt x.line line) back) (filter (λ (x : EventValue). nat_lt x.line line) back)) is)
    ∙ map-append (λ (x : EventValue). x.ts) (filter (λ (x : EventValue). nat_lt x.line line) front) (d ∷ filter (λ (x : EventValue). nat_lt x.line line) back)

earlier_reaches : (lag grain : ℤ) (file : List EventValue) (d : EventValue) (line : ℕ) → pos 1 ≤ℤ grain → StandsIn file d → d.line < line → Reaches (floor_to grain (d.ts -ℤ lag)) (mark_of lag grain (times_before line file))
earlier_reaches lag grain file d line step stands before =
    let is : nat_lt d.line line ≡ true = grind (arith, before) in
    subst (λ (ts : List ℤ). Reaches (floor_to grain (d.ts -ℤ lag)) (mark_of lag grain ts)) (sym (ap (times_before line) stands.2 ∙ earlier_is d line stands.0 stands.1 is))
    (one_reaches lag grain d.ts (times_before line stands.0) (times_before line stands.1) step)

all_earlier : (lag grain : ℤ) (file events : List EventValue) (line : ℕ) → pos 1 ≤ℤ grain → Each (StandsIn file) events → Each (λ d. d.line < line) events → Each (λ x. Reaches (floor_to grain (x -ℤ lag)) (mark_of lag grain (times_before line file))) (map (λ d. d.ts) events)
all_earlier lag grain file [] line step inside before = tt
all_earlier lag grain file (d ∷ events) line step inside before =
    (earlier_reaches lag grain file d line step inside.0 before.0, all_earlier lag grain file events line step inside.1 before.1)

is_below : (ts w : ℤ) (mark : Option ℤ) → ts <ℤ w → Reaches w mark → option_map_or (λ m. int_lt ts m) mark false ≡ true
is_below ts w None below h = absurd h
is_below ts w (Some m) below h = let lt : ts <ℤ m = omega (arith, ints, below, h) in grind (arith, ints, rules, lt)

-- an event below the mark of earlier events of its file is behind
pub stands_behind : (lag grain : ℤ) (file events : List EventValue) (e : EventValue) (w : ℤ) → pos 1 ≤ℤ grain → Each (StandsIn file) events → Each (λ d. d.line < e.line) events → Reaches w (mark_of lag grain (map (λ d. d.ts) events)) → e.ts <ℤ w → is_behind lag grain file e ≡ true
stands_behind lag grain file events e w step inside before h below =
    is_below e.ts w (mark_of lag grain (times_before e.line file)) below
    (all_reach lag grain w (map (λ d. d.ts) events) (mark_of lag grain (times_before e.line file)) (all_earlier lag grain file events e.line step inside before) h)

-- the same of all events of a file
among_reaches : (lag grain : ℤ) (file : List EventValue) (d : EventValue) → pos 1 ≤ℤ grain → StandsIn file d → Reaches (floor_to grain (d.ts -ℤ lag)) (mark_of lag grain (map (λ x. x.ts) file))
among_reaches lag grain file d step stands =
    subst (λ (ts : List ℤ). Reaches (floor_to grain (d.ts -ℤ lag)) (mark_of lag grain ts)) (sym (ap (map (λ (x : EventValue). x.ts)) stands.2 ∙ map-append (λ (x : EventValue). x.ts) stands.0 (d ∷ stands.1)))
    (one_reaches lag grain d.ts (map (λ x. x.ts) stands.0) (map (λ x. x.ts) stands.1) step)

all_among : (lag grain : ℤ) (file events : List EventValue) → pos 1 ≤ℤ grain → Each (StandsIn file) events → Each (λ x. Reaches (floor_to grain (x -ℤ lag)) (mark_of lag grain (map (λ y. y.ts) file))) (map (λ d. d.ts) events)
all_among lag grain file [] step inside = tt
all_among lag grain file (d ∷ events) step inside = (among_reaches lag grain file d step inside.0, all_among lag grain file events step inside.1)

-- an event below the mark of some events of a file is below that of all of them
pub stands_under : (lag grain : ℤ) (file events : List EventValue) (e : EventValue) (w : ℤ) → pos 1 ≤ℤ grain → Each (StandsIn file) events → Reaches w (mark_of lag grain (map (λ d. d.ts) events)) → e.ts <ℤ w → is_under lag grain file e ≡ true
stands_under lag grain file events e w step inside h below =
    is_below e.ts w (mark_of lag grain (map (λ d. d.ts) file)) below
    (all_reach lag grain w (map (λ d. d.ts) events) (mark_of lag grain (map (λ d. d.ts) file)) (all_among lag grain file events step inside) h)
