-- What a feed has read of its file, and what it has given to the ring.
use Rattle.std.specs.Prelude.{◌≡◌, ◌≢◌, ◌⊎◌, ⊤, ℕ, ◌+◌, ◌*◌, ◌-◌, ◌≤◌, ◌<◌, Bool, true, false, ◌||◌, cond, pos, List, [], ◌∷◌, ◌++◌, length, map, Option, Some, None, IsSome, Result, Ok, Err, option_to_list, is_ok}
use Rattle.std.specs.List.{list_all}
use Rattle.jet_items.specs.Kinds.{events_of}
use Rattle.jet_items.specs.declared.item.Item.{Item}
use Rattle.jet_items.specs.declared.item.Item.TheVariants as item
use Rattle.jet_policy.specs.MarkerValue.{HasSeen}
use Rattle.jet_lines.specs.Cutting.{MayCome}
use Rattle.jet_lines.specs.Files.{are_good, items_in, readings_in}
use Rattle.jet_lines.specs.Lines.{lines_of}
use Rattle.jet_lines.specs.Readings.{event_line, side_line}
use Rattle.jet_lines.specs.declared.fault.LineFault.{LineFault}
use Rattle.jet_file.specs.Outside.{CallMade, Read, Told, WhereTold, rest_of}
use Rattle.jet_flow.specs.DataFiles.{DataFile, SourceFile, SideFile}
use Rattle.jet_flow.specs.SideFiles.{rows_with}
use Rattle.jet_worker.specs.Calls.{ArePieces}
use Rattle.jet_worker.specs.CheckText.{Checks, first_bad}
use Rattle.jet_worker.specs.Stopping.{IsCallIn, LastIs}
use Rattle.jet_worker.specs.SideRows.{side_after, side_rows}
use Rattle.jet_worker.specs.declared.stop.Spot.{Spot}
use Rattle.jet_worker.specs.declared.stop.Spot.TheVariants.{Part}
use Rattle.jet_worker.specs.declared.stop.Stop.{Stop}
use Rattle.jet_worker.specs.declared.stop.Stop.TheVariants.{BadLine, Outside, NoMemory}
use Rattle.jet_feed.specs.Bodies.{may_go_on}
use Rattle.jet_feed.specs.Counted.{rows_at}
use Rattle.jet_feed.specs.FileItems.{source_line}
use Rattle.jet_feed.specs.declared.body.Body.{Body}
use Rattle.jet_feed.specs.declared.body.Body.TheVariants.{Source, Side}
use Rattle.jet_feed.specs.declared.feed.Feed.{Feed}
use Rattle.jet_feed.specs.declared.leave.Leave.{Leave}

-- ---- the parts of a feed

abbrev pub unread_in : Option ℕ → List ℕ → List (List ℕ)
unread_in None line = []
unread_in (Some n) line = line ∷ []

-- the line that was cut and is not read yet
abbrev pub unread : Feed → List (List ℕ)
unread feed = unread_in feed.unread feed.lines.line

-- the item that waits for a slot
abbrev pub waiting : Feed → List Item
waiting feed = option_to_list feed.waiting

abbrev pub done_where : Bool → List Item
done_where false = []
done_where true = item.Done ∷ []

-- the line that is not read yet has this number
abbrev pub Named : Option ℕ → ℕ → Type 0
Named None number = ⊤
Named (Some n) number = n ≡ number

-- ---- the lines that were read

-- none of these lines of a file with its number is bad
abbrev pub AreGood : Checks → ℕ × DataFile → List (List ℕ) → Type 0
AreGood c (p, SourceFile name lag) given = (are_good (event_line p) c.most given ≡ true) × (are_good (source_line p) c.most given ≡ true)
AreGood c (p, SideFile name) given = list_all is_ok (side_after [] (readings_in side_line c.most given)) ≡ true

-- the items of good lines
abbrev pub line_items : Checks → ℕ × DataFile → List (List ℕ) → List Item
line_items c (p, SourceFile name lag) given = items_in (source_line p) c.most given
line_items c (p, SideFile name) given = map item.Side (side_rows c.most given)

-- the marker has seen the times of the events that were sent, and no others; each key has the rows of the lines that were read
abbrev pub IsSoFar : Checks → ℕ × DataFile → List (List ℕ) → List Item → Body → Type 0
IsSoFar c (p, SourceFile name lag) given sent (Source m) = (m.lag ≡ lag) × (m.grain ≡ pos c.unit) × HasSeen m (map (λ e. e.ts) (events_of sent))
IsSoFar c (p, SideFile name) given sent (Side rows) = (key : List ℕ) → rows_at key rows ≡ rows_with key (side_rows c.most given)
IsSoFar c p given sent body = ⊥

-- these bytes of the content were taken, where it is told, and what is left of the opened file is the rest, nothing where it has ended
abbrev pub IsLeft : ℕ → Option (List ℕ) → List ℕ → Bool → Option Told → Type 0
IsLeft at None bytes ended told = ⊤
IsLeft at (Some content) bytes ended None = ⊥
IsLeft at (Some content) bytes ended (Some told) = (content ≡ bytes ++ rest_of told at) × (ended ≡ true → rest_of told at ≡ [])

-- the item says that its source is quiet
abbrev pub is_idle : Item → Bool
is_idle (item.Event e) = false
is_idle (item.Side s) = false
is_idle (item.Frame f) = false
is_idle (item.Row r) = false
is_idle (item.Late l) = false
is_idle (item.Mark m) = false
is_idle item.Idle = true
is_idle item.Done = false

-- the last of these items is an idle note
abbrev pub ends_idle : List Item → Bool
ends_idle [] = false
ends_idle (i ∷ []) = is_idle i
ends_idle (i ∷ j ∷ items) = ends_idle (j ∷ items)

-- The file with its number and this content is open under a number. A front of it was taken, and cut into lines. The items of
-- these but an unread one were sent, and then the waiting one is to be; Done comes behind all where the file has ended.
pub record IsFed (c : Checks) (p : ℕ × DataFile) (at : ℕ) (content : Option (List ℕ)) (told : Option Told) (sent : List Item) (feed : Feed) : Type 0 where
  pub part : feed.part ≡ p.0
  pub file : feed.file ≡ at
  pub most : feed.lines.most ≡ c.most
  pub bytes : List ℕ
  pub given : List (List ℕ)
  pub number : feed.lines.number ≡ length given + length (unread feed)
  pub named : Named feed.unread feed.lines.number
  pub few : feed.lines.number ≤ c.most
  pub cut : (more : List ℕ) → MayCome feed.lines.ended more → lines_of (bytes ++ more) ≡ given ++ (unread feed ++ lines_of (feed.lines.rest ++ more))
  pub good : AreGood c p given
  pub left : IsLeft at content bytes feed.lines.ended told
  pub items : sent ++ waiting feed ≡ line_items c p given ++ done_where feed.ended
  pub body : IsSoFar c p given sent feed.body
  pub idle : feed.is_idle ≡ ends_idle sent
  pub end : feed.ended ≡ true → (feed.lines.ended ≡ true) × (feed.lines.rest ≡ []) × (feed.unread ≡ None)

-- the file was read to its end, and all its items and Done were given
pub record IsOver (feed : Feed) : Type 0 where
  pub ended : feed.ended ≡ true
  pub given : feed.waiting ≡ None

-- ---- steps

-- the feed goes on, with nothing read and nothing sent
abbrev pub Keeps : Feed → Feed → Type 0
Keeps old new = (c : Checks) (p : ℕ × DataFile) (at : ℕ) (content : Option (List ℕ)) (told : Option Told) (sent : List Item)
    → IsFed c p at content told sent old → IsFed c p at content told sent new

-- this is the number of the first bad line, and its fault, where the content is told
abbrev pub IsFirstBad : Checks → ℕ × DataFile → Option (List ℕ) → ℕ → LineFault → Type 0
IsFirstBad c p None n why = ⊤
IsFirstBad c p (Some content) n why = first_bad c p content ≡ Some (n, why)

-- where the stop is for a bad line, it is the first one of the file of this number
abbrev pub IsBadOf : Checks → ℕ × DataFile → Option (List ℕ) → Stop → Type 0
IsBadOf c p content (BadLine part n why) = (part ≡ p.0) × IsFirstBad c p content n why
IsBadOf c p content (Outside call spot) = ⊤
IsBadOf c p content NoMemory = ⊤

-- the same of any file that is fed so
abbrev pub IsBadIn : Feed → Option Told → List Item → Stop → Type 0
IsBadIn feed told sent stop = (c : Checks) (p : ℕ × DataFile) (at : ℕ) (content : Option (List ℕ)) → IsFed c p at content told sent feed → IsBadOf c p content stop

-- how many steps there are at most until an item waits or bytes are wanted
abbrev pub steps_left : Feed → ℕ
steps_left feed = (feed.lines.most - feed.lines.number) * 2 + length (unread feed) + cond feed.ended 0 1

-- bytes are wanted: nothing waits, no line is unread, and the file has not ended
pub record IsOpen (feed : Feed) : Type 0 where
  pub waiting : feed.waiting ≡ None
  pub unread : feed.unread ≡ None
  pub ended : feed.ended ≡ false
  pub more : feed.lines.ended ≡ false

-- the feed goes on, and these items were sent then
abbrev pub Gives : Feed → Feed → List Item → List Item → Type 0
Gives old new before now = (c : Checks) (p : ℕ × DataFile) (at : ℕ) (content : Option (List ℕ)) (told : Option Told) → IsFed c p at content told before old → IsFed c p at content told now new

-- the feed goes on, and this is told then
abbrev pub ReadsOn : Option Told → Option Told → Feed → Feed → Type 0
ReadsOn before now old new = (c : Checks) (p : ℕ × DataFile) (content : Option (List ℕ)) (sent : List Item) → IsFed c p old.file content before sent old → IsFed c p old.file content now sent new

-- the feed goes on, and this is told and was sent then
abbrev pub Feeds : Option Told → Option Told → List Item → List Item → Feed → Feed → Type 0
Feeds before now sent_before sent_now old new = (c : Checks) (p : ℕ × DataFile) (at : ℕ) (content : Option (List ℕ)) → IsFed c p at content before sent_before old → IsFed c p at content now sent_now new

-- it is still the feed of the same file
abbrev pub IsOfFile : Feed → Feed → Type 0
IsOfFile old new = (new.part ≡ old.part) × (new.file ≡ old.file)

-- the last call of a step that stopped is the one that failed, if any
abbrev pub IsLast : {T : Type 0} → Spot → ℕ → Result T Stop → List CallMade → Type 0
IsLast spot at (Ok done) last = last ≡ []
IsLast spot at (Err stop) last = LastIs (IsCallIn spot at) stop last

-- nothing was done but reads of this file, in pieces of these counts, and last one that failed
pub record HasRead (IsEnd : List CallMade → Type 0) (at : ℕ) (old new : Told) : Type 0 where
  pub content : new.content ≡ old.content
  pub written : new.written ≡ old.written
  pub name : (new.place at).name ≡ (old.place at).name
  pub others : (other : ℕ) → other ≢ at → new.place other ≡ old.place other
  pub counts : List ℕ
  pub pieces : ArePieces counts
  pub last : List CallMade
  pub end : IsEnd last
  pub trace : new.trace ≡ old.trace ++ map (Read at) counts ++ last

-- what a step of a feed tells, by its answer
abbrev pub Tells : {T : Type 0} → Feed → Result T Stop → Option Told → Option Told → Type 0
Tells feed result = WhereTold (HasRead (IsLast (Part feed.part) feed.file result) feed.file)

-- an item was sent, or a call was made
abbrev pub HasMoved : List Item → List Item → Option Told → Option Told → Type 0
HasMoved before now old new = (length before < length now) ⊎ WhereTold (λ a b. length a.trace < length b.trace) old new

-- the file may be read on: its source is quiet, or its mark is not too far ahead
abbrev pub may_read : Leave → Feed → Bool
may_read leave feed = feed.is_idle || may_go_on leave feed.body

-- an item waits and the ring is full; or Done was given; or the file may not be read on
abbrev pub IsStill : Leave → ℕ → Feed → Type 0
IsStill leave free feed = (IsSome feed.waiting × (free ≡ 0)) ⊎ ((feed.waiting ≡ None) × (feed.ended ≡ true)) ⊎ (IsOpen feed × (may_read leave feed ≡ false))
