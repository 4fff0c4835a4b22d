-- What a join stands for: each entry gives what it gives over the rows that were taken before it.
use Rattle.std.specs.Prelude.{◌≡◌, ℕ, ◌≤◌, ◌-◌, Bool, true, false, List, [], ◌∷◌, ◌++◌, length, map, take}
use Rattle.std.specs.List.{flat_map}
use Rattle.jet_items.specs.Values.{EventValue, SideValue}
use Rattle.jet_items.specs.Joins.{Joining, joined_with, or_itself, rows_with}
use Rattle.jet_items.specs.Kinds.{sides_of}
use Rattle.jet_items.specs.declared.item.Item.{Item}
use Rattle.jet_items.specs.declared.item.Item.TheVariants as item
use Rattle.jet_boxes.specs.Entry.{CallEntry, Given, MarkTold, QueueClosed, Finish}
use Rattle.jet_boxes.specs.declared.port.Port.TheVariants.{Stream, Build}
use Rattle.jet_join.specs.declared.side_rows.SideRows.{SideRows}
use Rattle.jet_join.specs.Kept.{kept_with}
use Rattle.jet_boxes.specs.Ports.{build_items, build_rows}

-- what an event gives over the rows of its key
abbrev pub items_over : Joining → List SideValue → EventValue → List Item
items_over j rows e = map item.Event (or_itself j.left e (map (joined_with j e) rows))

-- what an item of the stream gives over these rows, and what one of the build port gives
abbrev pub stream_gives : Joining → List SideValue → Item → List Item
stream_gives j rows (item.Event e) = items_over j (rows_with e.key rows) e
stream_gives j rows x = x ∷ []

abbrev pub build_gives : Item → List Item
build_gives (item.Side s) = []
build_gives x = x ∷ []

-- what an entry gives over the rows that were taken before it
abbrev pub gives : Joining → List SideValue → CallEntry → List Item
gives j rows (Given Stream queue x) = stream_gives j rows x
gives j rows (Given Build queue x) = build_gives x
gives j rows (MarkTold t) = item.Mark t ∷ []
gives j rows (QueueClosed port queue) = []
gives j rows Finish = []

-- each entry with the rows that were taken before it, after these
abbrev pub with_rows : List SideValue → List CallEntry → List (List SideValue × CallEntry)
with_rows rows [] = []
with_rows rows (e ∷ es) = (rows, e) ∷ with_rows (rows ++ sides_of (build_items e)) es

-- what they all give, one after another
abbrev pub all_given : Joining → List SideValue → List CallEntry → List Item
all_given j rows taken = flat_map (λ p. gives j p.0 p.1) (with_rows rows taken)

-- the rows are kept by their keys
abbrev pub KeepsRows : SideRows → List SideValue → Type 0
KeepsRows kept rows = (key : List ℕ) → kept_with key kept ≡ rows_with key rows

-- between two calls no event is in hand, and what was given is what the entries give
pub record JoinStands (j : Joining) (kept : SideRows) (next : ℕ) (taken : List CallEntry) (given : List Item) : Type 0 where
  pub keeps : KeepsRows kept (build_rows taken)
  pub start : next ≡ 0
  pub gave : given ≡ all_given j [] taken

-- in the middle of an entry as many items were put as `next` says
pub record JoinAmid (j : Joining) (kept : SideRows) (next : ℕ) (taken : List CallEntry) (entry : CallEntry) (given : List Item) : Type 0 where
  pub keeps : KeepsRows kept (build_rows taken)
  pub place : next ≤ length (gives j (build_rows taken) entry) - 1
  pub gave : given ≡ all_given j [] taken ++ take next (gives j (build_rows taken) entry)

-- some of these items were put, from a place on: all the others, or up to the next one
pub record Puts (all : List Item) (from : ℕ) (before : List Item) (whole : Bool) (next : ℕ) (after : List Item) : Type 0 where
  pub put : List Item
  pub puts : after ≡ before ++ put
  pub ended : whole ≡ true → (next ≡ 0) × (take from all ++ put ≡ all)
  pub broken : whole ≡ false → (next ≤ length all - 1) × (take from all ++ put ≡ take next all)
