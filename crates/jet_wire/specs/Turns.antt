-- Turns in a row of one sender, and of one receiver: what they leave, what their answers say together, and how much moved.
use Rattle.std.specs.Prelude.{◌≡◌, ℕ, ◌<◌}
use Rattle.jet_wire.specs.declared.progress.Progress.{Progress}
use Rattle.jet_wire.specs.declared.progress.Progress.TheVariants as progress
use Rattle.jet_wire.specs.Receiver.{ReceiverView, IsPaced, Gives, ReceiverStays}
use Rattle.jet_wire.specs.ReceiverTurn.{ReceiverTurned, ReceiverIsStill, ReceiverRests, ReceiverHasEnded, moved_count}
use Rattle.jet_wire.specs.Sender.{SenderView, Goes, Stays}
use Rattle.jet_wire.specs.SenderTurn.{SenderTurned, SenderIsStill, SenderRests, SenderHasEnded, move_count}

-- what the answers of two turns in a row say together
abbrev pub joined : Progress → Progress → Progress
joined progress.Moved then = progress.Moved
joined progress.Idle then = then
joined progress.Done then = then

-- the count has risen where something moved, and else it is the same
abbrev pub Counts : Progress → ℕ → ℕ → Type 0
Counts progress.Moved before after = before < after
Counts progress.Idle before after = after ≡ before
Counts progress.Done before after = after ≡ before

-- ---- a sender
-- it has gone on, and its ends stay those of their rings
pub record SenderWent (a b : SenderView) : Type 0 where
  pub goes : Goes a b
  pub turned : SenderTurned a b

-- nothing moved, nothing came and nothing was sent
pub record SenderRested (a b : SenderView) : Type 0 where
  pub still : SenderIsStill a b
  pub stays : Stays a b

-- Moved: the count has risen. Idle: it rests, for one of its causes. Done: it rests, and has ended
abbrev pub SenderSaid : Progress → SenderView → SenderView → Type 0
SenderSaid progress.Moved a b = move_count a < move_count b
SenderSaid progress.Idle a b = SenderRested a b × SenderRests b
SenderSaid progress.Done a b = SenderRested a b × SenderHasEnded b

-- ---- a receiver
pub record ReceiverWent (a b : ReceiverView) : Type 0 where
  pub gives : Gives a b
  pub turned : ReceiverTurned a b
  pub paced : IsPaced b

pub record ReceiverRested (a b : ReceiverView) : Type 0 where
  pub still : ReceiverIsStill a b
  pub stays : ReceiverStays a b

abbrev pub ReceiverSaid : Progress → ReceiverView → ReceiverView → Type 0
ReceiverSaid progress.Moved a b = moved_count a < moved_count b
ReceiverSaid progress.Idle a b = ReceiverRested a b × ReceiverRests b
ReceiverSaid progress.Done a b = ReceiverRested a b × ReceiverHasEnded b
