-- What each kind of tasklet has given once it has ended, by what its queues received.
use Rattle.std.specs.Prelude.{◌≡◌, ℕ, Bool, true, ℤ, Option, List, [], ◌++◌, map, filter}
use Rattle.std.specs.List.{flat_map}
use Rattle.jet_items.specs.declared.item.Item.{Item}
use Rattle.jet_items.specs.Bag.{SameBag}
use Rattle.jet_items.specs.Frames.{FramesSum}
use Rattle.jet_items.specs.Joins.{Joining, joined}
use Rattle.jet_items.specs.Kinds.{events_of, sides_of, frames_of, rows_of, lates_of, late_events, others_of}
use Rattle.jet_items.specs.Order.{Each, Closed}
use Rattle.jet_items.specs.Values.{EventValue, FrameValue}
use Rattle.jet_boxes.specs.declared.port.Port.TheVariants.{Stream, Build}
use Rattle.jet_expr.specs.Flows.{mapped, passes}
use Rattle.jet_join.specs.Calls.{setting_of}
use Rattle.jet_stages.specs.Flat.{legs_give}
use Rattle.jet_stages.specs.Stamp.{but_idle}
use Rattle.jet_window.specs.Later.{newly}
use Rattle.jet_window.specs.WindowRows.{RowsAre}
use Rattle.jet_tasklet.specs.declared.any.AnyTasklet.{AnyTasklet}
use Rattle.jet_tasklet.specs.declared.any.AnyTasklet.TheVariants as any
use Rattle.jet_tasklet.specs.Inputs.{InputView, inputs_view}
use Rattle.jet_tasklet.specs.Merging.{data_received}
use Rattle.jet_tasklet.specs.Sending.{EachReceived}

-- the data of all queues
abbrev pub all_data : List InputView → List Item
all_data inputs = data_received Stream inputs ++ data_received Build inputs

-- it gave what f makes of the events, and all other data that came
pub record StageEnded (f : List EventValue → List EventValue) (inputs : List InputView) (given : List Item) : Type 0 where
  pub events : SameBag (events_of given) (f (events_of (all_data inputs)))
  pub others : SameBag (others_of given) (others_of (all_data inputs))

-- a source or a side vertex: all data that came but idle notes
pub record StampEnded (inputs : List InputView) (given : List Item) : Type 0 where
  pub events : SameBag (events_of given) (events_of (all_data inputs))
  pub others : SameBag (others_of given) (others_of (but_idle (all_data inputs)))

-- a join: what each event of the stream queues gives over all rows of the build queues
pub record JoinEnded (j : Joining) (inputs : List InputView) (given : List Item) : Type 0 where
  pub events : SameBag (events_of given) (flat_map (joined j (sides_of (data_received Build inputs))) (events_of (data_received Stream inputs)))
  pub lates : SameBag (lates_of given) (lates_of (all_data inputs))
  pub rows : SameBag (rows_of given) (rows_of (all_data inputs))
  pub frames : SameBag (frames_of given) (frames_of (all_data inputs))

-- the first stage of a window: each event is late or kept, once, and the frames sum those that were kept
pub record FrameEnded (vertex : ℕ) (slide : ℤ) (inputs : List InputView) (given : List Item) : Type 0 where
  pub kept : List EventValue
  pub parts : SameBag (events_of (all_data inputs)) (late_events given ++ kept)
  pub sums : FramesSum slide (frames_of given) kept
  pub vertices : Each (λ l. l.vertex ≡ vertex) (lates_of given)
  pub rows : rows_of given ≡ []
  pub events : events_of given ≡ []

-- the second stage, which began with this mark and these frames or with none: the rows of all windows that end above that mark,
-- over its first frames and those that came
pub record CombineEnded (vertex : ℕ) (size slide : ℤ) (begun : Option ℤ) (start : List FrameValue) (inputs : List InputView) (given : List Item) : Type 0 where
  pub frames : List FrameValue
  pub took : SameBag frames (frames_of (all_data inputs))
  pub dues : ℤ → Bool
  pub all_due : (e : ℤ) → dues e ≡ newly begun (λ d. true) e
  pub rows : RowsAre vertex size slide dues (start ++ frames) (rows_of given)
  pub lates : SameBag (lates_of given) (lates_of (all_data inputs))

-- what a tasklet of any kind of processor gave: a join where no event came by a build queue, a first stage where only events came, a second
-- stage where no row came and what each queue received is closed
abbrev pub EndedByKind : AnyTasklet → List Item → Type 0
EndedByKind (any.Stamp t) given = StampEnded (inputs_view t.inputs.items) given
EndedByKind (any.Map t) given = StageEnded (map (mapped t.processor.set)) (inputs_view t.inputs.items) given
EndedByKind (any.Filter t) given = StageEnded (filter (passes t.processor.test)) (inputs_view t.inputs.items) given
EndedByKind (any.Flat t) given = StageEnded (flat_map (legs_give t.processor.legs.items)) (inputs_view t.inputs.items) given
EndedByKind (any.Join t) given = events_of (data_received Build (inputs_view t.inputs.items)) ≡ [] → JoinEnded (setting_of t.processor) (inputs_view t.inputs.items) given
EndedByKind (any.Frame t) given = others_of (all_data (inputs_view t.inputs.items)) ≡ [] → FrameEnded t.processor.vertex t.processor.times.policy.slide (inputs_view t.inputs.items) given
EndedByKind (any.Combine t) given =
    EachReceived Closed (inputs_view t.inputs.items) → rows_of (all_data (inputs_view t.inputs.items)) ≡ []
    → CombineEnded t.processor.vertex t.processor.policy.size t.processor.policy.slide t.processor.begun t.processor.start.items (inputs_view t.inputs.items) given
EndedByKind t given = ⊥
