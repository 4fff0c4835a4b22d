-- What is asked of the order of the items in a list: that late is said of no event wrongly, and that what a mark closes stays closed.
use Rattle.std.specs.Prelude.{◌≡◌, ℕ, ℤ, Bool, true, List, [], ◌∷◌, ◌<ℤ◌}
use Rattle.jet_items.specs.declared.item.Item.{Item}
use Rattle.jet_items.specs.declared.item.Item.TheVariants as item

-- P holds of each element
abbrev pub Each : {X : Type 0} → (X → Type 0) → List X → Type 0
Each P [] = Unit {0}
Each P (x ∷ xs) = P x × Each P xs

-- R holds of each element and each later one
abbrev pub EachPair : {X : Type 0} → (X → X → Type 0) → List X → Type 0
EachPair R [] = Unit {0}
EachPair R (x ∷ xs) = Each (R x) xs × EachPair R xs

-- an item after a mark: an event is not below it, unless the event of its part and line is behind
abbrev pub SoundBelow : (ℕ → ℕ → Bool) → ℤ → Item → Type 0
SoundBelow behind w (item.Event e) = e.ts <ℤ w → behind e.part e.line ≡ true
SoundBelow behind w (item.Side s) = Unit {0}
SoundBelow behind w (item.Frame f) = Unit {0}
SoundBelow behind w (item.Row r) = Unit {0}
SoundBelow behind w (item.Late l) = Unit {0}
SoundBelow behind w item.Idle = Unit {0}
SoundBelow behind w (item.Mark v) = Unit {0}
SoundBelow behind w item.Done = Unit {0}

abbrev pub SoundAfter : (ℕ → ℕ → Bool) → Item → Item → Type 0
SoundAfter behind (item.Mark w) y = SoundBelow behind w y
SoundAfter behind (item.Event d) y = Unit {0}
SoundAfter behind (item.Side s) y = Unit {0}
SoundAfter behind (item.Frame f) y = Unit {0}
SoundAfter behind (item.Row r) y = Unit {0}
SoundAfter behind (item.Late l) y = Unit {0}
SoundAfter behind item.Idle y = Unit {0}
SoundAfter behind item.Done y = Unit {0}

-- a late item names an event that is behind
abbrev pub LateIsBehind : (ℕ → ℕ → Bool) → Item → Type 0
LateIsBehind behind (item.Event e) = Unit {0}
LateIsBehind behind (item.Side s) = Unit {0}
LateIsBehind behind (item.Frame f) = Unit {0}
LateIsBehind behind (item.Row r) = Unit {0}
LateIsBehind behind (item.Late l) = behind l.event.part l.event.line ≡ true
LateIsBehind behind item.Idle = Unit {0}
LateIsBehind behind (item.Mark m) = Unit {0}
LateIsBehind behind item.Done = Unit {0}

-- each event that stands after a mark above it is behind, and each late item names an event that is behind
pub record Sound (behind : ℕ → ℕ → Bool) (xs : List Item) : Type 0 where
  pub after : EachPair (SoundAfter behind) xs
  pub lates : Each (LateIsBehind behind) xs

-- an item after a mark: a frame or a row ends above it, and a mark is above it
abbrev pub IsAbove : ℤ → Item → Type 0
IsAbove w (item.Event e) = Unit {0}
IsAbove w (item.Side s) = Unit {0}
IsAbove w (item.Frame f) = w <ℤ f.end
IsAbove w (item.Row r) = w <ℤ r.end
IsAbove w (item.Late l) = Unit {0}
IsAbove w item.Idle = Unit {0}
IsAbove w (item.Mark v) = w <ℤ v
IsAbove w item.Done = Unit {0}

-- what a mark closes stays closed, and nothing follows the end
abbrev pub ClosedAfter : Item → Item → Type 0
ClosedAfter (item.Mark w) y = IsAbove w y
ClosedAfter (item.Event d) y = Unit {0}
ClosedAfter (item.Side s) y = Unit {0}
ClosedAfter (item.Frame f) y = Unit {0}
ClosedAfter (item.Row r) y = Unit {0}
ClosedAfter (item.Late l) y = Unit {0}
ClosedAfter item.Idle y = Unit {0}
ClosedAfter item.Done y = ⊥

-- each frame and row after a mark ends above it, the marks rise, and nothing follows the end
pub record Closed (xs : List Item) : Type 0 where
  pub after : EachPair ClosedAfter xs
