-- What runs an instance of a vertex.
use Rattle.std.specs.Prelude.{◌≡◌, ℕ, ℤ, pos, [], length, None}
use Rattle.jet_boxes.specs.declared.port.Port.TheVariants.{Stream}
use Rattle.jet_plan.specs.declared.dag.Dag.{Dag}
use Rattle.jet_plan.specs.declared.kind.Kind.{Kind}
use Rattle.jet_plan.specs.declared.kind.Kind.TheVariants.{Source, Side, Accumulate, Combine}
use Rattle.jet_plan.specs.declared.vertex.Vertex.{Vertex}
use Rattle.jet_stages.specs.declared.stamp.Stamp.{Stamp}
use Rattle.jet_tasklet.specs.declared.any.AnyTasklet.{AnyTasklet}
use Rattle.jet_tasklet.specs.declared.any.AnyTasklet.TheVariants as any
use Rattle.jet_tasklet.specs.declared.tasklet.Tasklet.{Tasklet}
use Rattle.jet_tasklet.specs.Inputs.{inputs_view, queue_count}
use Rattle.jet_window.specs.declared.frame.FrameP.{FrameP}
use Rattle.jet_window.specs.declared.combine.CombineP.{CombineP}
use Rattle.jet_deploy.specs.Windows.{IsNamed, HasSizes}

-- it marks by this lag and grain, each of its queues by itself
pub record Marks (lag grain : ℤ) (t : Tasklet Stamp) : Type 0 where
  pub lag_is : t.processor.lag ≡ lag
  pub grain_is : t.processor.grain ≡ grain
  pub markers : length t.processor.markers.items ≡ queue_count Stream (inputs_view t.inputs.items)

-- it gathers frames for windows of this size, under the number of the combine vertex behind, and has taken no mark
pub record Gathers (dag : Dag) (v : Vertex) (size : ℤ) (p : FrameP) : Type 0 where
  pub named : IsNamed dag v p.vertex
  pub size_is : p.times.policy.size ≡ size
  pub begun : p.times.begun ≡ None

-- it makes rows under its own number, of the sizes of the accumulate vertex before it, and has taken no mark and no frame
pub record Combines (dag : Dag) (n : ℕ) (v : Vertex) (p : CombineP) : Type 0 where
  pub named : p.vertex ≡ n
  pub sizes : HasSizes dag v p.policy.size p.policy.slide
  pub begun : p.begun ≡ None
  pub start : p.start.items ≡ []

-- What a tasklet of the vertex v of this kind, with the number n, has beside the settings of the kind: a source marks by its lag
-- and the grain of the job, and a side vertex by no lag.
abbrev pub HasMore : Dag → ℤ → ℕ → Vertex → Kind → AnyTasklet → Type 0
HasMore dag grain n v (Source names lag) (any.Stamp t) = Marks lag grain t
HasMore dag grain n v (Side file) (any.Stamp t) = Marks (pos 0) grain t
HasMore dag grain n v (Accumulate size slide) (any.Frame t) = Gathers dag v size t.processor
HasMore dag grain n v Combine (any.Combine t) = Combines dag n v t.processor
HasMore dag grain n v kind t = Unit {0}
