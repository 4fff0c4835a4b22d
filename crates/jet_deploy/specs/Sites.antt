-- Where the two ends of each ring stand among the tasklets of a job.
use Rattle.std.specs.Prelude.{◌≡◌, ◌≢◌, ℕ, ◌+◌, Bool, true, false, List, count_by, take, length, Some, slice_get}
use Rattle.jet_engine.specs.declared.places.DestAt.{DestAt}
use Rattle.jet_engine.specs.declared.places.LinkAt.{LinkAt}
use Rattle.jet_engine.specs.declared.places.QueueAt.{QueueAt}
use Rattle.jet_engine.specs.declared.places.Junction.{Junction}
use Rattle.jet_engine.specs.declared.wiring.Wiring.{Wiring}
use Rattle.jet_harness.specs.declared.channel.Channel.{Channel}
use Rattle.jet_harness.specs.declared.channel.Giver.{Giver}
use Rattle.jet_harness.specs.declared.channel.Giver.TheVariants.{Output, File}
use Rattle.jet_harness.specs.Places.{place_at_giver, place_at_taker}
use Rattle.jet_layout.specs.declared.task.Link.{Link}
use Rattle.jet_layout.specs.declared.task.Task.{Task}
use Rattle.jet_layout.specs.declared.task.Task.TheVariants.{Send}
use Rattle.jet_layout.specs.declared.wire.Taker.{Taker}
use Rattle.jet_layout.specs.declared.wire.Taker.TheVariants.{Input, Sink}
use Rattle.jet_deploy.specs.Ends.{output_at, input_at}

-- a ring between two tasklets
abbrev pub joins_tasklets : Giver → Taker → Bool
joins_tasklets (Output p) (Input q) = true
joins_tasklets (Output p) Sink = false
joins_tasklets File taker = false

abbrev pub is_between : Channel → Bool
is_between c = joins_tasklets c.giver c.taker

-- how many of the first n rings are between two tasklets
abbrev pub place_between : List Channel → ℕ → ℕ
place_between cs n = count_by is_between (take n cs)

-- no file leads straight to the sink
abbrev pub NoFileToSink : List Channel → Type 0
NoFileToSink cs = (n : ℕ) (c : Channel) → slice_get cs n ≡ Some c → c.giver ≡ File → c.taker ≢ Sink

-- the ring with the number n leads from this destination of a tasklet
pub record GivesAt (cs : List Channel) (n : ℕ) (c : Channel) (p : DestAt) : Type 0 where
  pub at : slice_get cs n ≡ Some c
  pub giver : c.giver ≡ output_at p.task p.output
  pub place : place_at_giver cs n c.giver ≡ p.dest

-- it leads to this queue of a tasklet
pub record TakesAt (cs : List Channel) (n : ℕ) (c : Channel) (p : QueueAt) : Type 0 where
  pub at : slice_get cs n ≡ Some c
  pub taker : c.taker ≡ input_at p.task p.input
  pub place : place_at_taker cs n c.taker ≡ p.queue

-- the junction of this ring, which is that of the place k among those between tasklets
pub record IsJunction (cs : List Channel) (k n : ℕ) (c : Channel) (j : Junction) : Type 0 where
  pub gives : GivesAt cs n c j.giver
  pub takes : TakesAt cs n c j.taker
  pub place : place_between cs n ≡ k

-- the queue to which the ring of the file k leads
pub record IsFeed (cs : List Channel) (k n : ℕ) (c : Channel) (p : QueueAt) : Type 0 where
  pub takes : TakesAt cs n c p
  pub file : c.giver ≡ File
  pub place : place_at_giver cs n File ≡ k

-- the destination from which the ring leads that is queue k of the sink
pub record IsDrain (cs : List Channel) (k n : ℕ) (c : Channel) (p : DestAt) : Type 0 where
  pub gives : GivesAt cs n c p
  pub sink : c.taker ≡ Sink
  pub place : place_at_taker cs n Sink ≡ k

-- each element of the list has a ring for which this is told of it and of its place
abbrev pub EachOf : {X : Type 0} → (ℕ → ℕ → Channel → X → Type 0) → List X → Type 0
EachOf {X} Is xs = (k : ℕ) → (x : X) → slice_get xs k ≡ Some x → (n : ℕ) × (c : Channel) × Is k n c x

-- Junctions, feeds and drains are those of all these rings, each once.
pub record AreSites (cs : List Channel) (w : Wiring) : Type 0 where
  pub junctions : EachOf (IsJunction cs) w.junctions.items
  pub feeds : EachOf (IsFeed cs) w.feeds.items
  pub drains : EachOf (IsDrain cs) w.drains.items
  pub all_junctions : length w.junctions.items ≡ place_between cs (length cs)
  pub all_feeds : length w.feeds.items ≡ place_at_giver cs (length cs) File
  pub all_drains : length w.drains.items ≡ place_at_taker cs (length cs) Sink

-- tests whether a tasklet sends over a link
abbrev pub sends : Task → Bool
sends (Send l) = true
sends task = false

-- the link k has its sender at the place of a tasklet that sends, with k of these before it, and its receiver behind that
pub record IsLinkAt (tasks : List Task) (k : ℕ) (l : LinkAt) : Type 0 where
  pub link : Link
  pub at : slice_get tasks l.sender ≡ Some (Send link)
  pub place : count_by sends (take l.sender tasks) ≡ k
  pub behind : l.receiver ≡ l.sender + 1

-- these are all links, each once
pub record EachLink (tasks : List Task) (links : List LinkAt) : Type 0 where
  pub each : (k : ℕ) (l : LinkAt) → slice_get links k ≡ Some l → IsLinkAt tasks k l
  pub all : length links ≡ count_by sends tasks
