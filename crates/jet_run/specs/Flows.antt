-- What all tasklets of a vertex gave together, against the flow of the job.
use Rattle.std.specs.Prelude.{◌≡◌, ℕ, ◌<◌, ◌==◌, ◌⊎◌, ℤ, List, [], ◌++◌, map, filter}
use Rattle.jet_items.specs.declared.item.Item.{Item}
use Rattle.jet_items.specs.Bag.{SameBag, all_of}
use Rattle.jet_items.specs.Frames.{FramesSum}
use Rattle.jet_items.specs.Kinds.{events_of, sides_of, frames_of, late_events, others_of}
use Rattle.jet_items.specs.Order.{Each}
use Rattle.jet_items.specs.Values.{EventValue, SideValue}
use Rattle.jet_boxes.specs.declared.port.Port.TheVariants.{Stream, Build}
use Rattle.jet_join.specs.Calls.{setting_of}
use Rattle.jet_stages.specs.Flat as flat
use Rattle.jet_plan.specs.declared.dag.Dag.{Dag}
use Rattle.jet_plan.specs.declared.kind.Kind.{Kind}
use Rattle.jet_plan.specs.declared.kind.Kind.TheVariants.{Source, Side, Map, Filter, Flat, Join, Accumulate, Combine, Sink}
use Rattle.jet_flow.specs.Flow.{Contents, leg_value, joining, build_rows, incoming}
use Rattle.jet_tasklet.specs.declared.any.AnyTasklet.{AnyTasklet}
use Rattle.jet_tasklet.specs.declared.any.AnyTasklet.TheVariants as any
use Rattle.jet_tasklet.specs.Merging.{data_received}
use Rattle.jet_tasklet.specs.Views.{ins}
use Rattle.jet_run.specs.Ended.{all_data}

-- the tasklet is of this kind of vertex, with its settings
abbrev pub IsFor : Kind → AnyTasklet → Type 0
IsFor (Source names lag) (any.Stamp t) = Unit {0}
IsFor (Side file) (any.Stamp t) = Unit {0}
IsFor (Map set) (any.Map t) = t.processor.set ≡ set
IsFor (Filter test) (any.Filter t) = t.processor.test ≡ test
IsFor (Flat legs) (any.Flat t) = map flat.leg_value t.processor.legs.items ≡ map leg_value legs
IsFor (Join mode rekey fields) (any.Join t) = setting_of t.processor ≡ joining mode rekey fields
IsFor (Accumulate size slide) (any.Frame t) = t.processor.times.policy.slide ≡ slide
IsFor Combine (any.Combine t) = Unit {0}
IsFor kind t = ⊥

-- all n tasklets together received these events
abbrev pub Receive : ℕ → (ℕ → AnyTasklet) → List EventValue → Type 0
Receive n tasklets events = SameBag (all_of n (λ i. events_of (all_data (ins (tasklets i))))) events

-- the side rows that came to a tasklet of a join, by its build queues
abbrev pub rows_at : AnyTasklet → List SideValue
rows_at t = sides_of (data_received Build (ins t))

-- the events that came to it, by its stream queues
abbrev pub events_at : AnyTasklet → List EventValue
events_at t = events_of (data_received Stream (ins t))

-- of these side rows each came to the one of n tasklets that owns its key, and so did each event
pub record AreByOwner (owner : List ℕ → ℕ) (n : ℕ) (tasklets : ℕ → AnyTasklet) (rows : List SideValue) : Type 0 where
  pub sides : (i : ℕ) → i < n → SameBag (rows_at (tasklets i)) (filter (λ s. owner s.key == i) rows)
  pub events : (i : ℕ) → i < n → Each (λ e. owner e.key ≡ i) (events_at (tasklets i))

-- the tasklets of a join have the rows that their events ask for: each has all, or they own keys
abbrev pub HaveRows : ℕ → (ℕ → AnyTasklet) → List SideValue → Type 0
HaveRows n tasklets rows =
    ((i : ℕ) → i < n → SameBag (rows_at (tasklets i)) rows)
    ⊎ ((owner : List ℕ → ℕ) × AreByOwner owner n tasklets rows)

-- what came to the n tasklets of a vertex: to a source the events of its files, to a side vertex no event, and to any other
-- all that flows into it, however it was dealt; to those of a join the side rows too, all to each or by key, and no event by
-- a build queue; to a window events alone
abbrev pub AreFed : Contents → Dag → List ℕ → Kind → ℕ → (ℕ → AnyTasklet) → Type 0
AreFed files dag name (Source names lag) n tasklets = Receive n tasklets (files.events name)
AreFed files dag name (Side file) n tasklets = Receive n tasklets []
AreFed files dag name (Map set) n tasklets = Receive n tasklets (incoming files dag name)
AreFed files dag name (Filter test) n tasklets = Receive n tasklets (incoming files dag name)
AreFed files dag name (Flat legs) n tasklets = Receive n tasklets (incoming files dag name)
AreFed files dag name (Join mode rekey fields) n tasklets =
    SameBag (all_of n (λ i. events_at (tasklets i))) (incoming files dag name)
    × ((i : ℕ) → i < n → events_of (data_received Build (ins (tasklets i))) ≡ [])
    × HaveRows n tasklets (build_rows files dag name)
AreFed files dag name (Accumulate size slide) n tasklets =
    Receive n tasklets (incoming files dag name)
    × ((i : ℕ) → i < n → others_of (all_data (ins (tasklets i))) ≡ [])
AreFed files dag name Combine n tasklets = Unit {0}
AreFed files dag name Sink n tasklets = Unit {0}

-- the events that n tasklets gave together are these
abbrev pub GaveTogether : ℕ → (ℕ → List Item) → List EventValue → Type 0
GaveTogether n given events = SameBag (all_of n (λ i. events_of (given i))) events

-- of these events each was given as late or kept, once, and the frames of each tasklet sum those that it kept
pub record KeptTogether (slide : ℤ) (n : ℕ) (given : ℕ → List Item) (events : List EventValue) : Type 0 where
  pub kept : ℕ → List EventValue
  pub parts : SameBag events (all_of n (λ i. late_events (given i) ++ kept i))
  pub sums : (i : ℕ) → i < n → FramesSum slide (frames_of (given i)) (kept i)

-- what leaves the tasklets of a vertex is the flow out of it; out of a window flows what came in, as frames and late items
abbrev pub GiveFlow : Kind → ℕ → (ℕ → List Item) → List EventValue → Type 0
GiveFlow (Source names lag) n given events = GaveTogether n given events
GiveFlow (Side file) n given events = GaveTogether n given events
GiveFlow (Map set) n given events = GaveTogether n given events
GiveFlow (Filter test) n given events = GaveTogether n given events
GiveFlow (Flat legs) n given events = GaveTogether n given events
GiveFlow (Join mode rekey fields) n given events = GaveTogether n given events
GiveFlow (Accumulate size slide) n given events = KeptTogether slide n given events
GiveFlow Combine n given events = Unit {0}
GiveFlow Sink n given events = Unit {0}
