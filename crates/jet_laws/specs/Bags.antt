-- Two ways to say that lists hold the same, each element as often.
use Rattle.std.specs.Prelude.{◌↔◌, List, IsPermutation}
use Rattle.jet_items.specs.Bag.{SameBag}
use Rattle.jet_items.specs.Values.{EventValue, LateValue}

-- lists of events hold the same exactly where one is the other in some order
abbrev pub EventsAsBags : Type 0
EventsAsBags = (xs ys : List EventValue) → SameBag xs ys ↔ IsPermutation xs ys

-- and so do lists of late events
abbrev pub LatesAsBags : Type 0
LatesAsBags = (xs ys : List LateValue) → SameBag xs ys ↔ IsPermutation xs ys
