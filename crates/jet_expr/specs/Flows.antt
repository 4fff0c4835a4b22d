-- What the vertices map, filter and flat of a job make of one event.
use Rattle.std.specs.Prelude.{ℕ, ℤ, pos, Bool, List, [], ◌∷◌, map, filter, slice_index_or, Option, Some, None}
use Rattle.std.specs.Option.{option_map_or}
use Rattle.jet_items.specs.Values.{EventValue}
use Rattle.jet_expr.specs.Term.{Term}
use Rattle.jet_expr.specs.Value.{value, is_true}

-- what field i becomes: the value of its expression, where there is one, on the event that came in
abbrev pub field_set : List (Option Term) → EventValue → ℕ → ℤ
field_set set e i = option_map_or (λ expression. value expression e) (slice_index_or set i None) (slice_index_or e.v i (pos 0))

-- the event with each of its four fields set
abbrev pub mapped : List (Option Term) → EventValue → EventValue
mapped set e = record e { v = map (field_set set e) (0 ∷ 1 ∷ 2 ∷ 3 ∷ []) }

-- the test has a value other than 0 on the event
abbrev pub passes : Term → EventValue → Bool
passes test e = is_true (value test e)

-- a leg of a flat: its test, its value, and its tag, where there is one
pub record LegValue : Type 0 where
  pub test : Term
  pub value : Term
  pub tag : Option (List ℕ)

-- a key with the tag, where there is one, behind it; `join` says how the two are joined
abbrev pub tagged : (List ℕ → List ℕ → List ℕ) → Option (List ℕ) → List ℕ → List ℕ
tagged join None key = key
tagged join (Some tag) key = join key tag

-- the event with the leg's value as its first field, and the leg's tag behind its key
abbrev pub leg_event : (List ℕ → List ℕ → List ℕ) → EventValue → LegValue → EventValue
leg_event join e leg = record (mapped (Some leg.value ∷ []) e) { key = tagged join leg.tag e.key }

-- such an event for each leg whose test has a value other than 0
abbrev pub flattened : (List ℕ → List ℕ → List ℕ) → List LegValue → EventValue → List EventValue
flattened join legs e = map (leg_event join e) (filter (λ leg. passes leg.test e) legs)
