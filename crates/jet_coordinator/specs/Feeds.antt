-- All data files of a job, each read piece by piece and fed into its ring.
use Rattle.std.specs.Prelude.{◌≡◌, ◌≢◌, ℕ, ◌≤◌, List, [], ◌++◌, length, slice_get, All, Option, Some, None, Result, Ok, Err, IsSome, ⊤}
use Rattle.std.specs.List.{Contains}
use Rattle.jet_items.specs.declared.item.Item.{Item}
use Rattle.jet_ring.specs.Ring.{TxView}
use Rattle.jet_file.specs.Outside.{CallMade, Read, Told, Tried}
use Rattle.jet_flow.specs.DataFiles.{file_name}
use Rattle.jet_worker.specs.Calls.{most_piece}
use Rattle.jet_worker.specs.CheckText.{Checks}
use Rattle.jet_worker.specs.Opening.{IsUnread, Opened, pair_of}
use Rattle.jet_worker.specs.Stopping.{IsCallIn, LastIs}
use Rattle.jet_worker.specs.declared.stop.Call.{Call}
use Rattle.jet_worker.specs.declared.stop.Spot.{Spot}
use Rattle.jet_worker.specs.declared.stop.Spot.TheVariants.{Part}
use Rattle.jet_worker.specs.declared.stop.Stop.{Stop}
use Rattle.jet_feed.specs.Fed.{IsBadOf, IsFed}
use Rattle.jet_feed.specs.declared.feed.Feed.{Feed}

-- what an opened file holds, where that is told
abbrev pub content_in : Option Told → Opened → Option (List ℕ)
content_in None o = None
content_in (Some told) o = told.content (file_name o.file)

-- the file is there, and nothing is taken of it
pub record IsThere (told : Told) (o : Opened) : Type 0 where
  pub there : IsSome (told.content (file_name o.file))
  pub unread : IsUnread told o

-- these are so, where that is told
abbrev pub WhereThere : Option Told → List Opened → Type 0
WhereThere None opened = ⊤
WhereThere (Some told) opened = All (IsThere told) opened

-- it is fed, and nothing of it was sent
abbrev pub StartsFed : Checks → Option Told → Opened → Feed → Type 0
StartsFed c told o feed = IsFed c (pair_of o) o.at (content_in told o) told [] feed

-- Each opened file has its feed, and its ring was sent what the feed says. What the files hold is what was told when the
-- feeding began.
pub record AreFed (c : Checks) (opened : List Opened) (began told : Option Told) (txs : List (TxView Item)) (feeds : List Feed) : Type 0 where
  pub count : length feeds ≡ length opened
  pub rings : length txs ≡ length opened
  pub each : (k : ℕ) (o : Opened) (tx : TxView Item) (feed : Feed) → slice_get opened k ≡ Some o → slice_get txs k ≡ Some tx → slice_get feeds k ≡ Some feed
      → IsFed c (pair_of o) o.at (content_in began o) told tx.sent feed

-- where the stop is for a bad line, it is the first one of one of these files
abbrev pub IsBadAmong : Checks → List Opened → Option Told → Stop → Type 0
IsBadAmong c opened began stop = (o : Opened) × Contains opened o × IsBadOf c (pair_of o) (content_in began o) stop

-- the call is a read of a piece of a file of these feeds
abbrev pub IsReadOf : List Feed → CallMade → Type 0
IsReadOf feeds (Read at n) = (n ≤ most_piece) × ((feed : Feed) × Contains feeds feed × (feed.file ≡ at))
IsReadOf feeds call = ⊥

-- the call that failed is a read of the file of one of these feeds, which it names by its number
abbrev pub IsReadAmong : List Feed → Call → Spot → Tried → Type 0
IsReadAmong feeds call spot tried = (feed : Feed) × Contains feeds feed × IsCallIn (Part feed.part) feed.file call spot tried

-- the last call of a step that stopped is the one that failed, if any
abbrev pub IsLastRead : {T : Type 0} → List Feed → Result T Stop → List CallMade → Type 0
IsLastRead feeds (Ok done) last = last ≡ []
IsLastRead feeds (Err stop) last = LastIs (IsReadAmong feeds) stop last

-- nothing was done but reads of these files, and last one that failed
pub record HaveRead {T : Type 0} (feeds : List Feed) (result : Result T Stop) (old new : Told) : Type 0 where
  pub content : new.content ≡ old.content
  pub written : new.written ≡ old.written
  pub others : (other : ℕ) → All (λ feed. feed.file ≢ other) feeds → new.place other ≡ old.place other
  pub names : (at : ℕ) → (new.place at).name ≡ (old.place at).name
  pub calls : List CallMade
  pub reads : All (IsReadOf feeds) calls
  pub last : List CallMade
  pub end : IsLastRead feeds result last
  pub trace : new.trace ≡ old.trace ++ calls ++ last
