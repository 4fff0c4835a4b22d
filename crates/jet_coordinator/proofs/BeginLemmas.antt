-- A running job over its opened files, of which nothing ran yet.
use Rattle.std.proofs.Common.{arith, ◌≡◌, ◌≢◌, ◌≤ℤ◌, ◌∙◌, ◌<◌, ◌++◌, ℕ, zero, suc, pos, Bool, true, List, [], ◌∷◌, Option, Some, map, length, ap, refl, sym, subst}
use Rattle.std.specs.Prelude.{get_or, IfOk, IsSome, IsTrue, All, Result, Ok, Err}
use Rattle.std.specs.List.{AllPairs}
use Rattle.std.specs.declared.vec.Vec.{Vec}
use Rattle.std.specs.declared.alloc.Global.{Global}
use Rattle.std.proofs.lemmas.List.Sorted.{IsPermutation-refl}
use Rattle.std.proofs.lemmas.List.{append-nil, length-map}
use Rattle.std.proofs.lemmas.List.Elements.{All-map, All-nil}
use Rattle.std.proofs.lemmas.List.Kept.{AllPairs-cons}
use Rattle.jet_conveyor.specs.Conveyor as conveyor
use Rattle.jet_deploy.specs.Deployed.{IsDeployed}
use Rattle.jet_engine.specs.Jobs.{IsReady}
use Rattle.jet_engine.specs.declared.job.Job.{Job}
use Rattle.jet_feed.specs.Fed.{IsFed}
use Rattle.jet_feed.specs.declared.feed.Feed.{Feed}
use Rattle.jet_file.proofs.GoesLaws.{goes_weaker}
use Rattle.jet_file.specs.Outside.{CallMade, Place, Told, WhereTold}
use Rattle.jet_file.specs.declared.outside.Out.{Out}
use Rattle.jet_file.specs.declared.outside.Out.TheVariants as out
use Rattle.jet_flow.specs.DataFiles.{file_name}
use Rattle.jet_items.specs.declared.item.Item.{Item}
use Rattle.jet_items.specs.Ranges.{most_time}
use Rattle.jet_items.specs.Rows.{Window}
use Rattle.jet_ring.specs.Ring.{TxView, tx_view, sent, received}
use Rattle.jet_ring.specs.declared.ends.Rx.{Rx}
use Rattle.jet_ring.specs.declared.ends.Tx.{Tx}
use Rattle.jet_sink.specs.Alike.{AreAlike}
use Rattle.jet_sink.specs.Drained.{HasDrained}
use Rattle.jet_sink.specs.View.{view}
use Rattle.jet_sink.specs.declared.sink.Sink.{Sink}
use Rattle.jet_worker.proofs.StopLemmas.{opening_stops}
use Rattle.jet_worker.specs.Calls.{Calling, ReadsOrWrites, opening_call}
use Rattle.jet_worker.specs.CheckText.{Checks}
use Rattle.jet_worker.specs.Checked.{CheckStops, numbered}
use Rattle.jet_worker.specs.Opening.{AreApart, AreNew, HasOpened, Opened, StopsOpening, opened_in, opening_of, pair_of}
use Rattle.jet_worker.specs.Stopping.{IsNoBadLine}
use Rattle.jet_worker.specs.declared.open.OpenFile.{OpenFile}
use Rattle.jet_worker.specs.declared.stop.Stop.{Stop}
use Rattle.jet_worker.specs.declared.stop.Stop.TheVariants.{BadLine, Outside, NoMemory}
use Rattle.jet_coordinator.specs.Begun.{CanFeed, HasBegun, HasFeeds}
use Rattle.jet_coordinator.specs.Feeds.{AreFed, IsThere, WhereThere}
use Rattle.jet_coordinator.specs.Going.{CanGo}
use Rattle.jet_coordinator.specs.Progress.{HasComeTo}
use Rattle.jet_coordinator.specs.Runs.{HasBegunPrinting, RunStops, WhyStopped}
use Rattle.jet_coordinator.proofs.Stops.{in_order, length_numbered}
use Rattle.jet_coordinator.specs.declared.run.Running.{Running}

-- what was opened is there, and nothing is taken of it
pub are_there : (opened : List Opened) (start now : Told) → HasOpened opened start now → All (IsThere now) opened
are_there opened start now h = λ k d lt. record {
  there = subst (λ (content : List ℕ → Option (List ℕ)). IsSome (content (file_name (get_or opened k d).file))) (sym h.content) (h.there k d lt);
  unread = h.unread k d lt;
}

from_start : (c : Checks) (opened : List Opened) (start now : Told) (txs : List (TxView Item)) (feeds : List Feed) → now.content ≡ start.content → AreFed c opened (Some now) (Some now) txs feeds → AreFed c opened (Some start) (Some now) txs feeds
from_start c opened start now txs feeds same fed = record {
  count = fed.count;
  rings = fed.rings;
  each = λ k o tx feed at_o at_tx at_feed. subst (λ (content : List ℕ → Option (List ℕ)). IsFed c (pair_of o) o.at (content (file_name o.file)) (Some now) tx.sent feed) same (fed.each k o tx feed at_o at_tx at_feed);
}

pub none_sent : (txs : List (Tx Item)) → All (λ tx. sent tx ≡ []) txs → All (λ (tx : TxView Item). tx.sent ≡ []) (map tx_view txs)
none_sent txs all = All-map (λ (tx : TxView Item). tx.sent ≡ []) tx_view txs all

none_at : (qs : List (Rx Item)) (q : ℕ) → All (λ rx. received rx ≡ []) qs → get_or (map received qs) q [] ≡ []
none_at [] q all = refl
none_at (x ∷ xs) zero all = all 0 x (omega arith)
none_at (x ∷ xs) (suc q) all = none_at xs q (λ i e l. all (suc i) e (omega (arith, l)))

pub come_first : (c : Checks) (windows : List Window) (opened : List Opened) (start now : Told) (files : ℕ) (r : Running) → IsDeployed files r.job → HasOpened opened start now
    → AreFed c opened (Some now) (Some now) (map tx_view r.job.feeds.items) r.feeds.items → HasDrained (view r.sink) [] [] → (view r.sink).windows ≡ windows → HasComeTo c windows opened start now r
come_first c windows opened start now files r deployed h fed drained same = record {
  content = h.content;
  fed = from_start c opened start now (map tx_view r.job.feeds.items) r.feeds.items h.content fed;
  calls = [];
  trace = h.trace ∙ ap (λ l. start.trace ++ l) (sym (append-nil (map opening_call (map opening_of opened))));
  reads = All-nil ReadsOrWrites;
  taken = [];
  printed = [];
  received = λ q. ap (λ (l : List (List Item)). get_or l q []) deployed.sink.received ∙ none_at deployed.queues q deployed.untaken;
  drained = drained;
  windows_are = same;
  rows = ap (λ (w : Out → List ℕ). w out.Rows) h.written ∙ sym (append-nil (start.written out.Rows));
  notes = ap (λ (w : Out → List ℕ). w out.Notes) h.written ∙ sym (append-nil (start.written out.Notes));
  others = h.others;
  names = λ k d lt. ap (λ (p : Place). p.name) (h.unread k d lt);
}

-- a run of this job, these feeds and this sink begins
pub begins : (c : Checks) (windows : List Window) (before is_open : ℕ → Bool) (files : ℕ) (r : Running) (start now : Told) → IsDeployed files r.job → files ≡ length c.files → HasDrained (view r.sink) [] [] → (view r.sink).windows ≡ windows
    → HasFeeds c before is_open r.feeds.items start now → HasBegun c windows before is_open r start now
begins c windows before is_open files r start now deployed all drained same h =
    let opened_all : length h.opened ≡ length c.files = sym (length-map h.opened pair_of) ∙ ap length h.are.pairs ∙ length_numbered 0 c.files in
    let rings : length (map tx_view r.job.feeds.items) ≡ length h.opened = length-map r.job.feeds.items tx_view ∙ deployed.one_each ∙ all ∙ sym opened_all in
    record {
      opened = h.opened;
      are = h.are;
      new = h.new;
      told = h.told;
      deployed = subst (λ (n : ℕ). IsDeployed n r.job) (all ∙ sym opened_all) deployed;
      drained = drained;
      come = come_first c windows h.opened start now files r deployed h.told (h.fed (map tx_view r.job.feeds.items) rings (none_sent r.job.feeds.items deployed.unsent)) drained same;
    }

pub begins_over : (c : Checks) (windows : List Window) (before is_open : ℕ → Bool) (files : ℕ) (r : Running) (job : Job) (feeds : Vec Feed Global) (sink : Sink) (told next : Option Told) → r.job ≡ job → r.feeds ≡ feeds → r.sink ≡ sink
    → IsDeployed files job → files ≡ length c.files → HasDrained (view sink) [] [] → (view sink).windows ≡ windows → WhereTold (HasFeeds c before is_open feeds.items) told next → WhereTold (HasBegun c windows before is_open r) told next
begins_over c windows before is_open files r job feeds sink told next job_is feeds_are sink_is deployed all drained same =
    goes_weaker (HasFeeds c before is_open feeds.items) (HasBegun c windows before is_open r) (λ start now h.
    begins c windows before is_open files r start now (subst (IsDeployed files) (sym job_is) deployed) all (subst (λ (s : Sink). HasDrained (view s) [] []) (sym sink_is) drained) (ap (λ (s : Sink). (view s).windows) sink_is ∙ same)
    (subst (λ (v : Vec Feed Global). HasFeeds c before is_open v.items start now) (sym feeds_are) h)) told next

-- ---- the feeds

ats : (opened : List OpenFile) → map (λ (o : Opened). o.at) (map opened_in opened) ≡ map (λ (o : OpenFile). o.at) opened
ats [] = refl
ats (o ∷ os) = ap (λ l. o.at ∷ l) (ats os)

apart_pairs : (os : List Opened) → AreApart os → AllPairs (λ (a b : Opened). a.at ≢ b.at) os
apart_pairs [] apart = λ i j d lt long. absurd (omega (arith, long))
apart_pairs (o ∷ os) apart = AllPairs-cons (λ (a b : Opened). a.at ≢ b.at) o os (λ k d lt same. apart.0 k d lt (sym same)) (apart_pairs os apart.1)

numbers_at : (fs : List Feed) (os : List Opened) (k : ℕ) (f : Feed) (o : Opened) → map (λ (f : Feed). f.file) fs ≡ map (λ (o : Opened). o.at) os → k < length fs → (get_or fs k f).file ≡ (get_or os k o).at
numbers_at [] os k f o e lt = absurd (omega (arith, lt))
numbers_at (x ∷ xs) [] k f o e lt = cc
numbers_at (x ∷ xs) (y ∷ ys) zero f o e lt = let same : x.file ≡ y.at = cc in same
numbers_at (x ∷ xs) (y ∷ ys) (suc k) f o e lt = let more : map (λ (f : Feed). f.file) xs ≡ map (λ (o : Opened). o.at) ys = cc in numbers_at xs ys k f o more (omega (arith, lt))

some_opened : (os : List Opened) (k : ℕ) → k < length os → Opened
some_opened [] k lt = absurd (omega (arith, lt))
some_opened (o ∷ os) k lt = o

feeds_apart : (is_open : ℕ → Bool) (opened : List Opened) (feeds : List Feed) → map (λ (f : Feed). f.file) feeds ≡ map (λ (o : Opened). o.at) opened
    → AreApart opened → All (λ (o : Opened). is_open o.at ≡ true) opened → CanFeed is_open feeds
feeds_apart is_open opened feeds files apart all_open =
    let a = length-map feeds (λ (f : Feed). f.file) in
    let b = length-map opened (λ (o : Opened). o.at) in
    let same = ap (λ (l : List ℕ). length l) files in
    record {
      opened = λ k f lt.
          let inside : k < length opened = omega (arith, a, b, same, lt) in
          let o = some_opened opened k inside in
          ap is_open (numbers_at feeds opened k f o files lt) ∙ all_open k o inside;
      apart = λ i j f lt long e.
          let inside : j < length opened = omega (arith, a, b, same, long) in
          let o = some_opened opened j inside in
          apart_pairs opened apart i j o lt inside (sym (numbers_at feeds opened i f o files (omega (arith, lt, long))) ∙ e ∙ numbers_at feeds opened j f o files long);
    }

pub can_feed : (is_open : ℕ → Bool) (opened : List OpenFile) (feeds : List Feed) → map (λ (f : Feed). f.file) feeds ≡ map (λ (o : OpenFile). o.at) opened
    → AreApart (map opened_in opened) → All (λ (o : Opened). is_open o.at ≡ true) (map opened_in opened) → CanFeed is_open feeds
can_feed is_open opened feeds files = feeds_apart is_open (map opened_in opened) feeds (files ∙ sym (ats opened))

pub fed_count : (opened : List OpenFile) (feeds : List Feed) → map (λ (f : Feed). f.file) feeds ≡ map (λ (o : OpenFile). o.at) opened → length feeds ≡ length opened
fed_count opened feeds files = sym (length-map feeds (λ (f : Feed). f.file)) ∙ ap length files ∙ length-map opened (λ (o : OpenFile). o.at)

-- the feeds start with what is there
pub has_feeds : (c : Checks) (before is_open : ℕ → Bool) (opened : List OpenFile) (feeds : List Feed) (told next : Option Told) → map pair_of (map opened_in opened) ≡ numbered c → AreNew before is_open (map opened_in opened)
    → ((now : Option Told) (txs : List (TxView Item)) → WhereThere now (map opened_in opened) → length txs ≡ length opened → All (λ (tx : TxView Item). tx.sent ≡ []) txs → AreFed c (map opened_in opened) now now txs feeds)
    → WhereTold (HasOpened (map opened_in opened)) told next → WhereTold (HasFeeds c before is_open feeds) told next
has_feeds c before is_open opened feeds told next pairs new fed =
    goes_weaker (HasOpened (map opened_in opened)) (HasFeeds c before is_open feeds) (λ start now h. record {
      opened = map opened_in opened;
      are = record { pairs = pairs; there = h.there };
      new = new;
      told = h;
      fed = λ txs long none. fed (Some now) txs (are_there (map opened_in opened) start now h) (long ∙ length-map opened opened_in) none;
    }) told next

-- ---- what each step wants

pub go_first : (is_open : ℕ → Bool) (r : Running) (job : Job) (feeds : Vec Feed Global) (sink : Sink) (files : ℕ) → r.job ≡ job → r.feeds ≡ feeds → r.sink ≡ sink → IsDeployed files job → length feeds.items ≡ files → CanFeed is_open feeds.items
    → (pos 0 ≤ℤ r.ahead) × (r.ahead ≤ℤ pos most_time) → AreAlike (view sink).marks.queues (conveyor.view job.sink) → CanGo is_open r
go_first is_open r job feeds sink files job_is feeds_are sink_is deployed count fed ahead alike = record {
  ready = subst IsReady (sym job_is) deployed.ready;
  ahead = ahead;
  rings = ap (λ (j : Job). length j.feeds.items) job_is ∙ deployed.one_each ∙ sym count ∙ ap (λ (v : Vec Feed Global). length v.items) (sym feeds_are);
  opened = subst (λ (v : Vec Feed Global). All (λ (f : Feed). IsTrue (is_open f.file)) v.items) (sym feeds_are) fed.opened;
  apart = subst (λ (v : Vec Feed Global). AllPairs (λ (f g : Feed). f.file ≢ g.file) v.items) (sym feeds_are) fed.apart;
  alike = subst (λ (s : Sink). AreAlike (view s).marks.queues (conveyor.view r.job.sink)) (sym sink_is)
      (subst (λ (j : Job). AreAlike (view sink).marks.queues (conveyor.view j.sink)) (sym job_is) alike);
}

-- ---- a run that stops before anything is read

-- nothing was written
begun_nothing : (windows : List Window) (start new : Told) → new.written ≡ start.written → HasBegunPrinting windows start new
begun_nothing windows start new same = record {
  came = [];
  printed = [];
  held = [];
  each = IsPermutation-refl [];
  rows_front = [];
  rows_rest = [];
  rows_parts = refl;
  notes_front = [];
  notes_rest = [];
  notes_parts = refl;
  rows = ap (λ (w : Out → List ℕ). w out.Rows) same ∙ sym (append-nil (start.written out.Rows));
  notes = ap (λ (w : Out → List ℕ). w out.Notes) same ∙ sym (append-nil (start.written out.Notes));
}

why_opening : (c : Checks) (stop : Stop) (calls : List CallMade) (start new : Told) → IsNoBadLine stop → (h : CheckStops c stop calls start new) → WhyStopped c stop calls start
why_opening c (BadLine part line why) calls start new never h = absurd never
why_opening c (Outside call spot) calls start new never h = h.why.0
why_opening c NoMemory calls start new never h = tt

stops_there : (c : Checks) (windows : List Window) (stop : Stop) (start new : Told) → IsNoBadLine stop → StopsOpening c stop start new → Calling (RunStops c windows stop) start new
stops_there c windows stop start new never h =
    let s = opening_stops c stop start new never h in
    record {
      calls = s.calls;
      trace = s.trace;
      did = record { order = s.did.order.opens; why = why_opening c stop s.calls start new never s.did; begun = begun_nothing windows start new h.written; kept = h.content };
    }

pub stops_opening : (c : Checks) (windows : List Window) (stop : Stop) (told next : Option Told) → IsNoBadLine stop → WhereTold (StopsOpening c stop) told next → WhereTold (Calling (RunStops c windows stop)) told next
stops_opening c windows stop told next never = goes_weaker (StopsOpening c stop) (Calling (RunStops c windows stop)) (λ start new h. stops_there c windows stop start new never h) told next

-- memory is wanted when all files are open
opens_then_stops : (c : Checks) (windows : List Window) (opened : List Opened) (start new : Told) → map pair_of opened ≡ numbered c → HasOpened opened start new → Calling (RunStops c windows NoMemory) start new
opens_then_stops c windows opened start new pairs h = record {
  calls = map opening_call (map opening_of opened) ++ [];
  trace = h.trace ∙ ap (λ l. start.trace ++ l) (sym (append-nil (map opening_call (map opening_of opened))));
  did = record {
    order = in_order c opened start (record { pairs = pairs; there = h.there }) [] (All-nil ReadsOrWrites);
    why = tt;
    begun = begun_nothing windows start new h.written;
    kept = h.content;
  };
}

pub stops_opened : (c : Checks) (windows : List Window) (opened : List Opened) (told next : Option Told) → map pair_of opened ≡ numbered c → WhereTold (HasOpened opened) told next → WhereTold (Calling (RunStops c windows NoMemory)) told next
stops_opened c windows opened told next pairs = goes_weaker (HasOpened opened) (Calling (RunStops c windows NoMemory)) (λ start new h. opens_then_stops c windows opened start new pairs h) told next

-- memory is wanted when each file has its feed
pub stops_with_feeds : (c : Checks) (windows : List Window) (before is_open : ℕ → Bool) (feeds : List Feed) (told next : Option Told) → WhereTold (HasFeeds c before is_open feeds) told next → WhereTold (Calling (RunStops c windows NoMemory)) told next
stops_with_feeds c windows before is_open feeds told next = goes_weaker (HasFeeds c before is_open feeds) (Calling (RunStops c windows NoMemory)) (λ start new h. opens_then_stops c windows h.opened start new h.are.pairs h.told) told next

-- ---- answers

pub if_ok_then : {T E : Type 0} {P Q : T → Type 0} (r : Result T E) → IfOk r P → ((x : T) → P x → Q x) → IfOk r Q
if_ok_then (Ok x) h weaker = weaker x h
if_ok_then (Err e) h weaker = h
