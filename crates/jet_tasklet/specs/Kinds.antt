-- What a contract sees of a tasklet of any kind.
use Rattle.std.specs.Prelude.{ℕ, Bool, false, List, [], ◌∷◌}
use Rattle.jet_items.specs.declared.item.Item.{Item}
use Rattle.jet_boxes.specs.declared.port.Port.{Port}
use Rattle.jet_boxes.specs.declared.port.Port.TheVariants.{Stream}
use Rattle.jet_boxes.specs.Entry.{CallEntry}
use Rattle.jet_stages.specs.declared.stamp.Stamp.{Stamp}
use Rattle.jet_stages.specs.declared.map.MapP.{MapP}
use Rattle.jet_stages.specs.declared.filter.FilterP.{FilterP}
use Rattle.jet_stages.specs.declared.flat.FlatP.{FlatP}
use Rattle.jet_join.specs.declared.join.JoinP.{JoinP}
use Rattle.jet_window.specs.declared.frame.FrameP.{FrameP}
use Rattle.jet_window.specs.declared.combine.CombineP.{CombineP}
use Rattle.jet_wire.specs.Lending.{conveyor_of, router_of}
use Rattle.jet_wire.specs.declared.receiver.Receiver.{Receiver}
use Rattle.jet_wire.specs.declared.sender.Sender.{Sender}
use Rattle.jet_stages.specs.contracts.stamp.StampProcessor.TheImpl as stamp
use Rattle.jet_stages.specs.contracts.map.MapPProcessor.TheImpl as map
use Rattle.jet_stages.specs.contracts.filter.FilterPProcessor.TheImpl as filter
use Rattle.jet_stages.specs.contracts.flat.FlatPProcessor.TheImpl as flat
use Rattle.jet_join.specs.contracts.join.JoinPProcessor.TheImpl as join
use Rattle.jet_window.specs.contracts.frame.FramePProcessor.TheImpl as frame
use Rattle.jet_window.specs.contracts.combine.CombinePProcessor.TheImpl as combine
use Rattle.jet_tasklet.specs.declared.tasklet.Tasklet.{Tasklet}
use Rattle.jet_tasklet.specs.declared.any.AnyTasklet.{AnyTasklet}
use Rattle.jet_tasklet.specs.declared.any.AnyTasklet.TheVariants as any
use Rattle.jet_tasklet.specs.declared.input.Input.{Input}
use Rattle.jet_tasklet.specs.declared.output.Output.{Output}

-- what a kind of processor says of itself: what it stands for between two calls and in the middle of one, from which queues it takes, when two of it have the same settings, whether it never wants memory,
-- what its data and its marks follow from, and what it asks for so that what it gives is in order
pub record Kind (P : Type 0) : Type 1 where
  pub stands : P → List CallEntry → List Item → Type 0
  pub amid : P → List CallEntry → CallEntry → List Item → Type 0
  pub takes : P → Port → ℕ → Type 0
  pub same : P → P → Type 0
  pub frugal : Bool
  pub bag : P → List CallEntry → List Item → Type 0
  pub bag_amid : P → List CallEntry → CallEntry → List Item → Type 0
  pub marks : P → List CallEntry → List Item → Type 0
  pub marks_amid : P → List CallEntry → CallEntry → List Item → Type 0
  pub sound_if : P → (ℕ → ℕ → Bool) → List CallEntry → Type 0
  pub closed_if : P → List CallEntry → Type 0

-- the seven kinds of processors
abbrev pub stamps : Kind Stamp
stamps = record {
  stands = (stamp.ghosts).stands;
  amid = (stamp.ghosts).amid;
  takes = (stamp.ghosts).takes;
  same = (stamp.ghosts).same;
  frugal = (stamp.ghosts).frugal;
  bag = (stamp.ghosts).bag;
  bag_amid = (stamp.ghosts).bag_amid;
  marks = (stamp.ghosts).marks;
  marks_amid = (stamp.ghosts).marks_amid;
  sound_if = (stamp.ghosts).sound_if;
  closed_if = (stamp.ghosts).closed_if;
}

abbrev pub maps : Kind MapP
maps = record {
  stands = (map.ghosts).stands;
  amid = (map.ghosts).amid;
  takes = (map.ghosts).takes;
  same = (map.ghosts).same;
  frugal = (map.ghosts).frugal;
  bag = (map.ghosts).bag;
  bag_amid = (map.ghosts).bag_amid;
  marks = (map.ghosts).marks;
  marks_amid = (map.ghosts).marks_amid;
  sound_if = (map.ghosts).sound_if;
  closed_if = (map.ghosts).closed_if;
}

abbrev pub filters : Kind FilterP
filters = record {
  stands = (filter.ghosts).stands;
  amid = (filter.ghosts).amid;
  takes = (filter.ghosts).takes;
  same = (filter.ghosts).same;
  frugal = (filter.ghosts).frugal;
  bag = (filter.ghosts).bag;
  bag_amid = (filter.ghosts).bag_amid;
  marks = (filter.ghosts).marks;
  marks_amid = (filter.ghosts).marks_amid;
  sound_if = (filter.ghosts).sound_if;
  closed_if = (filter.ghosts).closed_if;
}

abbrev pub flats : Kind FlatP
flats = record {
  stands = (flat.ghosts).stands;
  amid = (flat.ghosts).amid;
  takes = (flat.ghosts).takes;
  same = (flat.ghosts).same;
  frugal = (flat.ghosts).frugal;
  bag = (flat.ghosts).bag;
  bag_amid = (flat.ghosts).bag_amid;
  marks = (flat.ghosts).marks;
  marks_amid = (flat.ghosts).marks_amid;
  sound_if = (flat.ghosts).sound_if;
  closed_if = (flat.ghosts).closed_if;
}

abbrev pub joins : Kind JoinP
joins = record {
  stands = (join.ghosts).stands;
  amid = (join.ghosts).amid;
  takes = (join.ghosts).takes;
  same = (join.ghosts).same;
  frugal = (join.ghosts).frugal;
  bag = (join.ghosts).bag;
  bag_amid = (join.ghosts).bag_amid;
  marks = (join.ghosts).marks;
  marks_amid = (join.ghosts).marks_amid;
  sound_if = (join.ghosts).sound_if;
  closed_if = (join.ghosts).closed_if;
}

abbrev pub frames : Kind FrameP
frames = record {
  stands = (frame.ghosts).stands;
  amid = (frame.ghosts).amid;
  takes = (frame.ghosts).takes;
  same = (frame.ghosts).same;
  frugal = (frame.ghosts).frugal;
  bag = (frame.ghosts).bag;
  bag_amid = (frame.ghosts).bag_amid;
  marks = (frame.ghosts).marks;
  marks_amid = (frame.ghosts).marks_amid;
  sound_if = (frame.ghosts).sound_if;
  closed_if = (frame.ghosts).closed_if;
}

abbrev pub combines : Kind CombineP
combines = record {
  stands = (combine.ghosts).stands;
  amid = (combine.ghosts).amid;
  takes = (combine.ghosts).takes;
  same = (combine.ghosts).same;
  frugal = (combine.ghosts).frugal;
  bag = (combine.ghosts).bag;
  bag_amid = (combine.ghosts).bag_amid;
  marks = (combine.ghosts).marks;
  marks_amid = (combine.ghosts).marks_amid;
  sound_if = (combine.ghosts).sound_if;
  closed_if = (combine.ghosts).closed_if;
}

-- what is said of tasklets of every kind, said of one: of one that runs a processor, of a sender and of a receiver
abbrev pub OfKind : ((P : Type 0) → Kind P → Tasklet P → Type 0) → (Sender → Type 0) → (Receiver → Type 0) → AnyTasklet → Type 0
OfKind C S R (any.Stamp t) = C Stamp stamps t
OfKind C S R (any.Map t) = C MapP maps t
OfKind C S R (any.Filter t) = C FilterP filters t
OfKind C S R (any.Flat t) = C FlatP flats t
OfKind C S R (any.Join t) = C JoinP joins t
OfKind C S R (any.Frame t) = C FrameP frames t
OfKind C S R (any.Combine t) = C CombineP combines t
OfKind C S R (any.Send s) = S s
OfKind C S R (any.Receive r) = R r

-- what is said of two tasklets of the same kind, said of two that are so
abbrev pub OfKinds : ((P : Type 0) → Kind P → Tasklet P → Tasklet P → Type 0) → (Sender → Sender → Type 0) → (Receiver → Receiver → Type 0) → AnyTasklet → AnyTasklet → Type 0
OfKinds C S R (any.Stamp t) (any.Stamp u) = C Stamp stamps t u
OfKinds C S R (any.Map t) (any.Map u) = C MapP maps t u
OfKinds C S R (any.Filter t) (any.Filter u) = C FilterP filters t u
OfKinds C S R (any.Flat t) (any.Flat u) = C FlatP flats t u
OfKinds C S R (any.Join t) (any.Join u) = C JoinP joins t u
OfKinds C S R (any.Frame t) (any.Frame u) = C FrameP frames t u
OfKinds C S R (any.Combine t) (any.Combine u) = C CombineP combines t u
OfKinds C S R (any.Send s) (any.Send t) = S s t
OfKinds C S R (any.Receive r) (any.Receive s) = R r s
OfKinds C S R t u = ⊥

-- what is said of tasklets that run a processor, said of one that does
abbrev pub OfProcessor : ((P : Type 0) → Kind P → Tasklet P → Type 0) → AnyTasklet → Type 0
OfProcessor C t = OfKind C (λ s. ⊥) (λ r. ⊥) t

-- a tasklet runs a processor: it is no end of a link
abbrev pub RunsProcessor : AnyTasklet → Type 0
RunsProcessor t = OfProcessor (λ P k u. Unit {0}) t

-- what is said of a sender and a receiver, said of two tasklets that are so
abbrev pub OfLink : (Sender → Receiver → Type 0) → AnyTasklet → AnyTasklet → Type 0
OfLink C (any.Send s) (any.Receive r) = C s r
OfLink C t u = ⊥

-- a change that tasklets of every kind can undergo, of one
abbrev pub changed : ((P : Type 0) → Tasklet P → Tasklet P) → (Sender → Sender) → (Receiver → Receiver) → AnyTasklet → AnyTasklet
changed f g h (any.Stamp t) = any.Stamp (f Stamp t)
changed f g h (any.Map t) = any.Map (f MapP t)
changed f g h (any.Filter t) = any.Filter (f FilterP t)
changed f g h (any.Flat t) = any.Flat (f FlatP t)
changed f g h (any.Join t) = any.Join (f JoinP t)
changed f g h (any.Frame t) = any.Frame (f FrameP t)
changed f g h (any.Combine t) = any.Combine (f CombineP t)
changed f g h (any.Send s) = any.Send (g s)
changed f g h (any.Receive r) = any.Receive (h r)

-- what a contract sees of a tasklet of any kind
abbrev pub seen : {X : Type 0} → ((P : Type 0) → Tasklet P → X) → (Sender → X) → (Receiver → X) → AnyTasklet → X
seen f g h (any.Stamp t) = f Stamp t
seen f g h (any.Map t) = f MapP t
seen f g h (any.Filter t) = f FilterP t
seen f g h (any.Flat t) = f FlatP t
seen f g h (any.Join t) = f JoinP t
seen f g h (any.Frame t) = f FrameP t
seen f g h (any.Combine t) = f CombineP t
seen f g h (any.Send s) = g s
seen f g h (any.Receive r) = h r

-- the inputs of a tasklet of any kind, and its outputs: a sender has one input, of the stream, and no output, and a receiver one output and no input
abbrev pub inputs_of : AnyTasklet → List Input
inputs_of t = seen (λ P u. u.inputs.items) (λ s. record { port = Stream; conveyor = conveyor_of s } ∷ []) (λ r. []) t

abbrev pub outputs_of : AnyTasklet → List Output
outputs_of t = seen (λ P u. u.outputs.items) (λ s. []) (λ r. record { router = router_of r; had = false } ∷ []) t
