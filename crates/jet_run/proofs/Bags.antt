-- Bags of the data of lists, kind by kind.
use Rattle.std.proofs.Common.{◌≡◌, ℕ, ℤ, List, [], ◌∷◌, ◌++◌, sum_by, refl, sym, ◌∙◌, ap, subst, arith}
use Rattle.std.specs.List.{flat_map}
use Rattle.std.proofs.lemmas.List.Sums.{sum_by-cons}
use Rattle.std.proofs.lemmas.List.Concat.{flat_map-append}
use Rattle.jet_items.specs.declared.item.Item.{Item}
use Rattle.jet_items.specs.declared.item.Item.TheVariants as item
use Rattle.jet_items.specs.Bag.{SameBag}
use Rattle.jet_items.specs.Kinds.{sides_of, frames_of, rows_of, lates_of, others_of, data_of}
use Rattle.jet_items.proofs.Bags.{SameBag-flat_map, sum_by-flat_map}

pub empty_bag : {X : Type 0} (xs : List X) → SameBag xs [] → xs ≡ []
empty_bag [] h = refl
empty_bag (x ∷ xs) h = absurd (omega (arith, h.weighs (λ y. 1), sum_by-cons (λ y. 1) x xs))

-- what marks and the end bring none of is brought by the data
pub data_same : {X : Type 0} (f : Item → List X) → ((m : ℤ) → f (item.Mark m) ≡ []) → f item.Done ≡ [] → (xs : List Item) → flat_map f (data_of xs) ≡ flat_map f xs
data_same f mark done [] = refl
data_same {X} f mark done (item.Event e ∷ xs) = ap (λ (ys : List X). f (item.Event e) ++ ys) (data_same f mark done xs)
data_same {X} f mark done (item.Side s ∷ xs) = ap (λ (ys : List X). f (item.Side s) ++ ys) (data_same f mark done xs)
data_same {X} f mark done (item.Frame g ∷ xs) = ap (λ (ys : List X). f (item.Frame g) ++ ys) (data_same f mark done xs)
data_same {X} f mark done (item.Row r ∷ xs) = ap (λ (ys : List X). f (item.Row r) ++ ys) (data_same f mark done xs)
data_same {X} f mark done (item.Late l ∷ xs) = ap (λ (ys : List X). f (item.Late l) ++ ys) (data_same f mark done xs)
data_same {X} f mark done (item.Idle ∷ xs) = ap (λ (ys : List X). f item.Idle ++ ys) (data_same f mark done xs)
data_same {X} f mark done (item.Mark m ∷ xs) = data_same f mark done xs ∙ ap (λ (ys : List X). ys ++ flat_map f xs) (sym (mark m))
data_same {X} f mark done (item.Done ∷ xs) = data_same f mark done xs ∙ ap (λ (ys : List X). ys ++ flat_map f xs) (sym done)

-- the items of one kind are those of the data
pub kind_bag : {X : Type 0} (f : Item → List X) → ((m : ℤ) → f (item.Mark m) ≡ []) → f item.Done ≡ [] → (xs ys : List Item) → SameBag (data_of xs) ys → SameBag (flat_map f xs) (flat_map f ys)
kind_bag {X} f mark done xs ys h = subst (λ (zs : List X). SameBag zs (flat_map f ys)) (data_same f mark done xs) (SameBag-flat_map f h)

pub flat_flat : {X Y Z : Type 0} (g : Y → List Z) (f : X → List Y) (xs : List X) → flat_map g (flat_map f xs) ≡ flat_map (λ x. flat_map g (f x)) xs
flat_flat g f [] = refl
flat_flat {X} {Y} {Z} g f (x ∷ xs) = flat_map-append g (f x) (flat_map f xs) ∙ ap (λ (zs : List Z). flat_map g (f x) ++ zs) (flat_flat g f xs)

sum_each : {X : Type 0} (v w : X → ℕ) → ((x : X) → v x ≡ w x) → (xs : List X) → sum_by v xs ≡ sum_by w xs
sum_each v w h [] = refl
sum_each v w h (x ∷ xs) = omega (arith, sum_by-cons v x xs, sum_by-cons w x xs, h x, sum_each v w h xs)

pub flat_bags : {X Y : Type 0} (f g : X → List Y) → ((x : X) → SameBag (f x) (g x)) → (xs : List X) → SameBag (flat_map f xs) (flat_map g xs)
flat_bags f g h xs = record { weighs = λ w. sum_by-flat_map w f xs ∙ (sum_each (λ x. sum_by w (f x)) (λ x. sum_by w (g x)) (λ x. (h x).weighs w) xs ∙ sym (sum_by-flat_map w g xs)) }

-- nothing else than events came
pub record EventsAlone (xs : List Item) : Type 0 where
  pub sides : sides_of xs ≡ []
  pub frames : frames_of xs ≡ []
  pub rows : rows_of xs ≡ []
  pub lates : lates_of xs ≡ []

pub none_else : (xs : List Item) → others_of xs ≡ [] → EventsAlone xs
none_else [] h = record { sides = refl; frames = refl; rows = refl; lates = refl }
none_else (item.Event e ∷ xs) h = let r = none_else xs h in record { sides = r.sides; frames = r.frames; rows = r.rows; lates = r.lates }
none_else (item.Side s ∷ xs) h = absurd (cc)
none_else (item.Frame f ∷ xs) h = absurd (cc)
none_else (item.Row r ∷ xs) h = absurd (cc)
none_else (item.Late l ∷ xs) h = absurd (cc)
none_else (item.Idle ∷ xs) h = absurd (cc)
none_else (item.Mark m ∷ xs) h = let r = none_else xs h in record { sides = r.sides; frames = r.frames; rows = r.rows; lates = r.lates }
none_else (item.Done ∷ xs) h = let r = none_else xs h in record { sides = r.sides; frames = r.frames; rows = r.rows; lates = r.lates }
