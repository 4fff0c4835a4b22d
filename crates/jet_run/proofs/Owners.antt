-- Joins whose tasklets own keys: over the rows of its own keys a tasklet joins its events as over all rows.
use Rattle.std.proofs.Common.{◌≡◌, ℕ, ◌<◌, ◌==◌, Bool, true, false, cond, List, [], ◌∷◌, ◌++◌, map, refl, ◌∙◌, ap, subst, inl, inr}
use Rattle.std.specs.Prelude.{filter, bytes_eq}
use Rattle.std.specs.List.{flat_map}
use Rattle.std.proofs.lemmas.Bool.Decides.{Decides-eqb}
use Rattle.std.proofs.lemmas.Slice.Eq.{bytes_eq-Decides}
use Rattle.jet_items.specs.Bag.{SameBag}
use Rattle.jet_items.specs.Joins.{Joining, joined, joined_with, rows_with, or_itself}
use Rattle.jet_items.specs.Order.{Each}
use Rattle.jet_items.specs.Values.{EventValue, SideValue}
use Rattle.jet_tasklet.specs.declared.any.AnyTasklet.{AnyTasklet}
use Rattle.jet_run.specs.Flows.{rows_at, events_at, HaveRows}
use Rattle.jet_run.proofs.Bags.{flat_bags}
use Rattle.jet_run.proofs.Ended.{joined_bags}

-- ---- rows of another owner do not match
no_match : (owner : List ℕ → ℕ) (i : ℕ) (key : List ℕ) (s : SideValue) (rest : List SideValue) → owner key ≡ i → (owner s.key == i) ≡ false → (b : Bool) → bytes_eq s.key key ≡ b → rest ≡ cond b (s ∷ rest) rest
no_match owner i key s rest is other true m = absurd (let own : (owner s.key == i) ≡ true = (Decides-eqb (owner s.key) i).1 (ap owner ((bytes_eq-Decides s.key key).0 m) ∙ is) in cc)
no_match owner i key s rest is other false m = refl

row_own : (owner : List ℕ → ℕ) (i : ℕ) (key : List ℕ) (s : SideValue) (rows : List SideValue) → owner key ≡ i → rows_with key (filter (λ r. owner r.key == i) rows) ≡ rows_with key rows → (b : Bool) → (owner s.key == i) ≡ b
    → rows_with key (cond b (s ∷ filter (λ r. owner r.key == i) rows) (filter (λ r. owner r.key == i) rows)) ≡ cond (bytes_eq s.key key) (s ∷ rows_with key rows) (rows_with key rows)
row_own owner i key s rows is ih true own = ap (λ (ss : List SideValue). cond (bytes_eq s.key key) (s ∷ ss) ss) ih
row_own owner i key s rows is ih false own = ih ∙ no_match owner i key s (rows_with key rows) is own (bytes_eq s.key key) refl

rows_own : (owner : List ℕ → ℕ) (i : ℕ) (key : List ℕ) (rows : List SideValue) → owner key ≡ i → rows_with key (filter (λ s. owner s.key == i) rows) ≡ rows_with key rows
rows_own owner i key [] is = refl
rows_own owner i key (s ∷ rows) is = row_own owner i key s rows is (rows_own owner i key rows is) (owner s.key == i) refl

-- ---- events of owned keys
joined_own : (j : Joining) (owner : List ℕ → ℕ) (i : ℕ) (rows : List SideValue) (e : EventValue) → owner e.key ≡ i → joined j (filter (λ s. owner s.key == i) rows) e ≡ joined j rows e
joined_own j owner i rows e is = ap (λ (ss : List SideValue). or_itself j.left e (map (joined_with j e) ss)) (rows_own owner i e.key rows is)

all_own : (j : Joining) (owner : List ℕ → ℕ) (i : ℕ) (rows : List SideValue) (es : List EventValue) → Each (λ e. owner e.key ≡ i) es → flat_map (joined j (filter (λ s. owner s.key == i) rows)) es ≡ flat_map (joined j rows) es
all_own j owner i rows [] own = refl
all_own j owner i rows (e ∷ es) own =
    ap (λ (ds : List EventValue). ds ++ flat_map (joined j (filter (λ s. owner s.key == i) rows)) es) (joined_own j owner i rows e own.0)
    ∙ ap (λ (ds : List EventValue). joined j rows e ++ ds) (all_own j owner i rows es own.1)

-- what a tasklet joined is what its events give over all rows
pub over_all : (j : Joining) (n : ℕ) (tasklets : ℕ → AnyTasklet) (rows : List SideValue) → HaveRows n tasklets rows → (i : ℕ) → i < n → SameBag (flat_map (joined j (rows_at (tasklets i))) (events_at (tasklets i))) (flat_map (joined j rows) (events_at (tasklets i)))
over_all j n tasklets rows (inl all) i lt = flat_bags (joined j (rows_at (tasklets i))) (joined j rows) (joined_bags j (rows_at (tasklets i)) rows (all i lt)) (events_at (tasklets i))
over_all j n tasklets rows (inr own) i lt =
    let mine : List SideValue = filter (λ s. own.0 s.key == i) rows in
    subst (λ (es : List EventValue). SameBag (flat_map (joined j (rows_at (tasklets i))) (events_at (tasklets i))) es) (all_own j own.0 i rows (events_at (tasklets i)) (own.1.events i lt))
    (flat_bags (joined j (rows_at (tasklets i))) (joined j mine) (joined_bags j (rows_at (tasklets i)) mine (own.1.sides i lt)) (events_at (tasklets i)))
