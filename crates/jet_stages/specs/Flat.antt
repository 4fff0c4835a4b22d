-- What a flat gives.
use Rattle.std.specs.Prelude.{◌≡◌, ℕ, List, [], ◌∷◌, ◌++◌, map, drop, take}
use Rattle.std.specs.List.{flat_map}
use Rattle.jet_items.specs.Values.{EventValue}
use Rattle.jet_items.specs.declared.item.Item.{Item}
use Rattle.jet_items.specs.declared.item.Item.TheVariants as item
use Rattle.jet_boxes.specs.Entry.{CallEntry, Given, MarkTold, QueueClosed, Finish}
use Rattle.jet_expr.specs.Flows.{LegValue, flattened}
use Rattle.jet_stages.specs.declared.leg.Leg.{Leg}
use Rattle.jet_stages.specs.Stage.{gives, StageStands, StageBag}

abbrev pub leg_value : Leg → LegValue
leg_value leg = record { test = leg.test; value = leg.value; tag = leg.tag }

-- a key with a tag behind it, as far as a key goes
abbrev pub joined_key : List ℕ → List ℕ → List ℕ
joined_key key tag = take 40 (key ++ tag)

-- for one event: an event for each leg whose test holds, in order
abbrev pub legs_give : List Leg → EventValue → List EventValue
legs_give legs e = flattened joined_key (map leg_value legs) e

abbrev pub FlatStands : List Leg → ℕ → List CallEntry → List Item → Type 0
FlatStands legs next taken given = (next ≡ 0) × StageStands (legs_give legs) taken given

-- in the middle of an event, what is given and what the legs from `next` on give is what the whole event gives; nothing
-- is given for any other entry before its call ends
abbrev pub FlatAmid : List Leg → ℕ → List CallEntry → CallEntry → List Item → Type 0
FlatAmid legs next taken (Given port queue (item.Event e)) given =
    given ++ map item.Event (legs_give (drop next legs) e) ≡ flat_map (gives (legs_give legs)) taken ++ map item.Event (legs_give legs e)
FlatAmid legs next taken (Given port queue (item.Side s)) given = FlatStands legs next taken given
FlatAmid legs next taken (Given port queue (item.Frame f)) given = FlatStands legs next taken given
FlatAmid legs next taken (Given port queue (item.Row r)) given = FlatStands legs next taken given
FlatAmid legs next taken (Given port queue (item.Late l)) given = FlatStands legs next taken given
FlatAmid legs next taken (Given port queue item.Idle) given = FlatStands legs next taken given
FlatAmid legs next taken (Given port queue (item.Mark m)) given = FlatStands legs next taken given
FlatAmid legs next taken (Given port queue item.Done) given = FlatStands legs next taken given
FlatAmid legs next taken (MarkTold t) given = FlatStands legs next taken given
FlatAmid legs next taken (QueueClosed port queue) given = FlatStands legs next taken given
FlatAmid legs next taken Finish given = FlatStands legs next taken given

-- The bag law in the middle of an entry: with what the call still has to put, this entry too has given all.
pub record FlatBagAmid (flow : List EventValue → List EventValue) (taken : List CallEntry) (entry : CallEntry) (given : List Item) : Type 0 where
  pub held : List Item
  pub bag : StageBag flow (taken ++ entry ∷ []) (given ++ held)

-- some items were put, and with what is left they are what was left before
pub record Progress (before left after still : List Item) : Type 0 where
  pub put : List Item
  pub puts : after ≡ before ++ put
  pub rest : put ++ still ≡ left
