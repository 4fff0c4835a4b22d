-- The items that came to a sender, and those that it passes on: data as it came, the marks of all its queues together, and
-- one Done at the end.
use Rattle.std.specs.Prelude.{◌≡◌, ℕ, zero, suc, ◌<◌, ◌==◌, Bool, true, false, cond, ℤ, List, [], ◌∷◌, ◌++◌, Option, Some, None}
use Rattle.std.specs.List.{flat_map, list_any}
use Rattle.jet_items.specs.declared.item.Item.{Item}
use Rattle.jet_items.specs.declared.item.Item.TheVariants as item
use Rattle.jet_items.specs.Done.{is_done}
use Rattle.jet_items.specs.Kinds.{marks_of}
use Rattle.jet_items.specs.Order.{Each, EachPair}
use Rattle.jet_coalescer.specs.declared.change.Change.{Change}
use Rattle.jet_coalescer.specs.declared.change.Change.TheVariants as change
use Rattle.jet_coalescer.specs.Low.{History, low, all_done, risen, change_of}

-- an item, and the queue that it came from
pub record Taken : Type 0 where
  pub queue : ℕ
  pub item : Item

-- b may come after a: nothing comes from a queue after its Done
abbrev pub MayFollow : Taken → Taken → Type 0
MayFollow a b = is_done a.item ≡ true → (a.queue == b.queue) ≡ false

-- each item came from one of this many queues, and after those that it may follow
pub record InOrder (queues : ℕ) (came : List Taken) : Type 0 where
  pub inside : Each (λ a. a.queue < queues) came
  pub follows : EachPair MayFollow came

-- what came from one queue, in its order
abbrev pub of_queue : ℕ → List Taken → List Item
of_queue q came = flat_map (λ a. cond (a.queue == q) (a.item ∷ []) []) came

-- a queue gave its Done
abbrev pub has_ended : List Item → Bool
has_ended xs = list_any is_done xs

-- the marks that came from one queue, and whether its Done
abbrev pub history : List Item → History
history xs = record { marks = marks_of xs; done = has_ended xs }

-- the same of the queues with the numbers below n
abbrev pub histories : ℕ → (ℕ → List Item) → List History
histories zero lists = []
histories (suc n) lists = history (lists 0) ∷ histories n (λ q. lists (suc q))

abbrev pub heard : ℕ → List Taken → List History
heard n came = histories n (λ q. of_queue q came)

-- a mark that rose is passed on
abbrev pub mark_items : Option ℤ → List Item
mark_items None = []
mark_items (Some t) = item.Mark t ∷ []

-- and so is the end of all queues
abbrev pub change_items : Change → List Item
change_items change.Unchanged = []
change_items (change.Raised t) = item.Mark t ∷ []
change_items change.AllDone = item.Done ∷ []

-- what is passed on of one item, by what was heard before it and with it
abbrev pub passed_of : Item → List History → List History → List Item
passed_of (item.Event e) before now = item.Event e ∷ []
passed_of (item.Side s) before now = item.Side s ∷ []
passed_of (item.Frame f) before now = item.Frame f ∷ []
passed_of (item.Row r) before now = item.Row r ∷ []
passed_of (item.Late l) before now = item.Late l ∷ []
passed_of item.Idle before now = item.Idle ∷ []
passed_of (item.Mark t) before now = mark_items (risen (low before) (low now))
passed_of item.Done before now = change_items (change_of (all_done now) (low before) (low now))

abbrev pub passes : ℕ → List Taken → Taken → List Item
passes n before a = passed_of a.item (heard n before) (heard n (before ++ a ∷ []))

abbrev pub passed_after : ℕ → List Taken → List Taken → List Item
passed_after n before [] = []
passed_after n before (a ∷ came) = passes n before a ++ passed_after n (before ++ a ∷ []) came

-- without a queue the end is there at once
abbrev pub begun : ℕ → List Item
begun zero = item.Done ∷ []
begun (suc n) = []

-- all that is passed on of what came from n queues
abbrev pub passed : ℕ → List Taken → List Item
passed n came = begun n ++ passed_after n [] came
