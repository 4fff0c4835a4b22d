-- What each kind of tasklet has given so far, in whatever state it is, against what its queues received.
use Rattle.std.specs.Prelude.{◌≡◌, ℕ, ◌+◌, ◌≤◌, Bool, true, ℤ, List, [], ◌++◌, length, map, filter, sum_by}
use Rattle.std.specs.List.{flat_map}
use Rattle.jet_items.specs.declared.item.Item.{Item}
use Rattle.jet_items.specs.Bag.{SameBag}
use Rattle.jet_items.specs.Joins.{Joining, joined}
use Rattle.jet_items.specs.Kinds.{events_of, sides_of, frames_of, rows_of, lates_of, others_of}
use Rattle.jet_items.specs.Order.{Closed}
use Rattle.jet_items.specs.Values.{EventValue, SideValue, FrameValue, RowValue}
use Rattle.jet_boxes.specs.declared.port.Port.TheVariants.{Stream, Build}
use Rattle.jet_expr.specs.Flows.{mapped, passes}
use Rattle.jet_join.specs.Calls.{setting_of}
use Rattle.jet_stages.specs.Flat.{legs_give}
use Rattle.jet_stages.specs.Stamp.{but_idle}
use Rattle.jet_tasklet.specs.declared.any.AnyTasklet.{AnyTasklet}
use Rattle.jet_tasklet.specs.declared.any.AnyTasklet.TheVariants as any
use Rattle.jet_tasklet.specs.Inputs.{InputView, inputs_view, all_done}
use Rattle.jet_tasklet.specs.Merging.{data_received}
use Rattle.jet_tasklet.specs.Sending.{EachReceived}
use Rattle.jet_window.specs.WindowRows.{RowsAre}
use Rattle.jet_run.specs.Ended.{all_data}

-- each element of the one list stands at least as often in the other: whatever the elements weigh, it weighs no more
pub record SubBag {X : Type 0} (xs ys : List X) : Type 0 where
  pub weighs : (w : X → ℕ) → sum_by w xs ≤ sum_by w ys

-- no event but those that f makes of all events that came, none more often, and no other data but what came
pub record StageGives (f : List EventValue → List EventValue) (inputs : List InputView) (given : List Item) : Type 0 where
  pub events : SubBag (events_of given) (f (events_of (all_data inputs)))
  pub others : SubBag (others_of given) (others_of (all_data inputs))

-- no event but those that came, none more often, and no other data but what came, idle notes left out
pub record StampGives (inputs : List InputView) (given : List Item) : Type 0 where
  pub events : SubBag (events_of given) (events_of (all_data inputs))
  pub others : SubBag (others_of given) (others_of (but_idle (all_data inputs)))

-- no event but those that all events of the stream queues give over these rows, and of the results no others than came
pub record JoinGives (j : Joining) (rows : List SideValue) (inputs : List InputView) (given : List Item) : Type 0 where
  pub events : SubBag (events_of given) (flat_map (joined j rows) (events_of (data_received Stream inputs)))
  pub frames : SubBag (frames_of given) (frames_of (all_data inputs))
  pub results : SubBag (rows_of given) (rows_of (all_data inputs))
  pub lates : SubBag (lates_of given) (lates_of (all_data inputs))

-- a second stage, which began with these frames or with none: of the rows none but those that came and its own, which are the rows
-- of some windows over its first frames and frames that came
pub record CombineGives (vertex : ℕ) (size slide : ℤ) (start : List FrameValue) (inputs : List InputView) (given : List Item) : Type 0 where
  pub own : List RowValue
  pub frames : List FrameValue
  pub due : ℤ → Bool
  pub results : SubBag (rows_of given) (rows_of (all_data inputs) ++ own)
  pub rows : EachReceived Closed inputs → RowsAre vertex size slide due (start ++ frames) own
  pub took : SubBag frames (frames_of (all_data inputs))
  pub lates : SubBag (lates_of given) (lates_of (all_data inputs))

-- how many events, side rows, frames, rows and late items there are
abbrev pub load : List Item → ℕ
load xs = length (events_of xs) + (length (sides_of xs) + (length (frames_of xs) + (length (rows_of xs) + length (lates_of xs))))

-- what a tasklet of any kind of processor has given. A join takes no event before every build queue is done, so it joins with all rows
-- where these have come by then. A first stage gives no more than came.
abbrev pub GivesByKind : AnyTasklet → List Item → Type 0
GivesByKind (any.Stamp t) given = StampGives (inputs_view t.inputs.items) given
GivesByKind (any.Map t) given = StageGives (map (mapped t.processor.set)) (inputs_view t.inputs.items) given
GivesByKind (any.Filter t) given = StageGives (filter (passes t.processor.test)) (inputs_view t.inputs.items) given
GivesByKind (any.Flat t) given = StageGives (flat_map (legs_give t.processor.legs.items)) (inputs_view t.inputs.items) given
GivesByKind (any.Join t) given =
    (rows : List SideValue) → events_of (data_received Build (inputs_view t.inputs.items)) ≡ []
    → (all_done Build (inputs_view t.inputs.items) ≡ true → SameBag (sides_of (data_received Build (inputs_view t.inputs.items))) rows)
    → JoinGives (setting_of t.processor) rows (inputs_view t.inputs.items) given
GivesByKind (any.Frame t) given = load given ≤ load (all_data (inputs_view t.inputs.items))
GivesByKind (any.Combine t) given = CombineGives t.processor.vertex t.processor.policy.size t.processor.policy.slide t.processor.start.items (inputs_view t.inputs.items) given
GivesByKind t given = ⊥
