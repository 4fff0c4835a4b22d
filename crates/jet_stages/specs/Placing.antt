-- Where a mark stands in two lists joined.
use Rattle.std.proofs.Common.{◌≡◌, ℤ, List, [], ◌∷◌, ◌++◌, refl, ap, sym, ◌∙◌}
use Rattle.std.proofs.lemmas.List.Concat.{flat_map-append}
use Rattle.jet_items.specs.declared.item.Item.{Item}
use Rattle.jet_items.specs.declared.item.Item.TheVariants as item
use Rattle.jet_items.specs.Kinds.{as_mark, marks_of}

-- the mark stands in the first list, or in the second
pub data Half (xs ys before after : List Item) (t : ℤ) : Type 0 where
  First : (rest : List Item) → xs ≡ before ++ item.Mark t ∷ rest → Half xs ys before after t
  Second : (front : List Item) → before ≡ xs ++ front → ys ≡ front ++ item.Mark t ∷ after → Half xs ys before after t

head_is : (x y : Item) (xs ys : List Item) → x ∷ xs ≡ y ∷ ys → x ≡ y
head_is x y xs ys h = cc

pub tail_is : (x y : Item) (xs ys : List Item) → x ∷ xs ≡ y ∷ ys → xs ≡ ys
tail_is x y xs ys h = cc

pub half : (xs ys before after : List Item) (t : ℤ) → xs ++ ys ≡ before ++ item.Mark t ∷ after → Half xs ys before after t
half [] ys before after t h = Second before refl h
half (x ∷ xs) ys [] after t h = First xs (ap (λ y. y ∷ xs) (head_is x (item.Mark t) (xs ++ ys) after h))
half (x ∷ xs) ys (b ∷ before) after t h = further (half xs ys before after t (tail_is x b (xs ++ ys) (before ++ item.Mark t ∷ after) h))
  where
    same : x ≡ b
    same = head_is x b (xs ++ ys) (before ++ item.Mark t ∷ after) h

    further : Half xs ys before after t → Half (x ∷ xs) ys (b ∷ before) after t
    further (First rest is) = First rest (ap (λ zs. x ∷ zs) is ∙ ap (λ y. y ∷ before ++ item.Mark t ∷ rest) same)
    further (Second front is at) = Second front (ap (λ zs. b ∷ zs) is ∙ ap (λ y. y ∷ xs ++ front) (sym same)) at

-- no mark stands in a list without marks
pub nowhere : (xs before after : List Item) (t : ℤ) → marks_of xs ≡ [] → xs ≡ before ++ item.Mark t ∷ after → ⊥
nowhere xs before after t none at = some (marks_of before) (sym none ∙ (ap marks_of at ∙ flat_map-append as_mark before (item.Mark t ∷ after)))
  where
    some : (ts : List ℤ) → [] ≡ ts ++ t ∷ marks_of after → ⊥
    some [] h = cc
    some (s ∷ ts) h = cc
