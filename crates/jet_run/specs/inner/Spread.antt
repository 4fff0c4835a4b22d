-- What a stage makes of events, each by itself.
use Rattle.std.specs.Prelude.{◌≡◌, List, [], ◌++◌}
use Rattle.jet_items.specs.Bag.{SameBag}
use Rattle.jet_items.specs.Values.{EventValue}

-- what f makes of several events is made of each by itself
pub record IsSpread (f : List EventValue → List EventValue) : Type 0 where
  pub none : f [] ≡ []
  pub both : (xs ys : List EventValue) → f (xs ++ ys) ≡ f xs ++ f ys
  pub bags : (xs ys : List EventValue) → SameBag xs ys → SameBag (f xs) (f ys)
