-- The steps of a running job, and what is told of them.
use Rattle.std.proofs.Common.{arith, ◌≡◌, ◌∙◌, ◌++◌, ◌⊎◌, inl, inr, ℕ, Bool, true, List, [], Option, None, Some, map, ap, refl, sym, subst, append_assoc}
use Rattle.std.specs.Prelude.{Result, Ok, Err, OnOk, IfErr}
use Rattle.std.specs.declared.vec.Vec.{Vec}
use Rattle.std.specs.declared.alloc.Global.{Global}
use Rattle.std.proofs.lemmas.List.{append-nil}
use Rattle.std.proofs.lemmas.List.Elements.{All-append, All-nil}
use Rattle.std.proofs.lemmas.Option.{slice_get_within, get_or_from_slice_get}
use Rattle.jet_conveyor.specs.Conveyor as conveyor
use Rattle.jet_conveyor.specs.declared.conveyor.Conveyor.{Conveyor}
use Rattle.jet_crew.specs.Epoch.{Placewise}
use Rattle.jet_engine.specs.declared.job.Job.{Job}
use Rattle.jet_engine.specs.Wiring.{TxMet, SinkMet}
use Rattle.jet_feed.specs.declared.feed.Feed.{Feed}
use Rattle.jet_file.proofs.GoesLaws.{goes_same, goes_then}
use Rattle.jet_file.specs.Outside.{Told, Tried, WhereTold, Wrote}
use Rattle.jet_file.specs.Text.{rows_text, late_text}
use Rattle.jet_file.specs.declared.outside.Out.{Out}
use Rattle.jet_file.specs.declared.outside.Out.TheVariants as out
use Rattle.jet_items.specs.declared.item.Item.{Item}
use Rattle.jet_items.specs.Kinds.{lates_of}
use Rattle.jet_items.specs.Rows.{Window}
use Rattle.jet_ring.specs.Ring.{TxView, tx_view}
use Rattle.jet_ring.specs.declared.ends.Tx.{Tx}
use Rattle.jet_sink.specs.Drained.{Drained}
use Rattle.jet_sink.specs.Taken.{items_in}
use Rattle.jet_sink.specs.View.{view}
use Rattle.jet_sink.specs.declared.sink.Sink.{Sink}
use Rattle.jet_worker.proofs.CallLaws.{last_weaker}
use Rattle.jet_worker.specs.Calls.{ReadsOrWrites}
use Rattle.jet_worker.specs.CheckText.{Checks}
use Rattle.jet_worker.specs.Feeding.{Flushes, StopsAppending}
use Rattle.jet_worker.specs.Opening.{Opened}
use Rattle.jet_worker.specs.Stopping.{IsCallIn, IsNoBadLine, IsWriting}
use Rattle.jet_worker.specs.declared.stop.Call.{Call}
use Rattle.jet_worker.specs.declared.stop.Spot.{Spot}
use Rattle.jet_worker.specs.declared.stop.Spot.TheVariants.{Part}
use Rattle.jet_worker.specs.declared.stop.Stop.{Stop}
use Rattle.jet_worker.specs.declared.stop.Stop.TheVariants.{BadLine, Outside, NoMemory}
use Rattle.jet_coordinator.specs.Feeds.{AreFed, HaveRead, IsBadAmong, IsReadAmong}
use Rattle.jet_coordinator.specs.Runs.{HasBegunPrinting}
use Rattle.jet_coordinator.specs.declared.run.Running.{Running}
use Rattle.jet_coordinator.specs.Progress.{AreOpen, HasCome, HasComeTo, ComesOn, StopsFrom}
use Rattle.jet_coordinator.proofs.Coming.{come_met, come_fed, come_drained, reads_are, writes_are, rows_more, lates_more}
use Rattle.jet_coordinator.proofs.Stops.{BadWhere, Such, reading, writing, stops, contains_at, there_is}

-- ---- one step after another

pub on_then : (a b d : Running) (told now next : Option Told) → WhereTold (ComesOn a b) told now → WhereTold (ComesOn b d) now next → WhereTold (ComesOn a d) told next
on_then a b d = goes_then (ComesOn a b) (ComesOn b d) (ComesOn a d) (λ x y z f g c windows opened start h. g c windows opened start (f c windows opened start h))

pub stop_then : (a b : Running) (stop : Stop) (told now next : Option Told) → WhereTold (ComesOn a b) told now → WhereTold (StopsFrom b stop) now next → WhereTold (StopsFrom a stop) told next
stop_then a b stop = goes_then (ComesOn a b) (StopsFrom b stop) (StopsFrom a stop) (λ x y z f g c windows opened start are h. g c windows opened start are (f c windows opened start h))

pub on_same : (a : Running) (told : Option Told) → WhereTold (ComesOn a a) told told
on_same a = goes_same (ComesOn a a) (λ x c windows opened start h. h)

-- ---- the ends meet, and epochs

pub met_on : (a b : Running) (told : Option Told) → Placewise TxMet (map tx_view a.job.feeds.items) (map tx_view b.job.feeds.items) → SinkMet (conveyor.view a.job.sink) (conveyor.view b.job.sink) → b.feeds ≡ a.feeds → b.sink ≡ a.sink
    → WhereTold (ComesOn a b) told told
met_on a b told txs sink feeds same = goes_same (ComesOn a b) (λ now c windows opened start h.
    let met = come_met c windows opened start now (map tx_view a.job.feeds.items) (map tx_view b.job.feeds.items) (conveyor.view a.job.sink) (conveyor.view b.job.sink) a.feeds.items (view a.sink) txs sink h in
    subst (λ (s : Sink). HasCome c windows opened start now (map tx_view b.job.feeds.items) (conveyor.view b.job.sink) b.feeds.items (view s)) (sym same)
    (subst (λ (v : Vec Feed Global). HasCome c windows opened start now (map tx_view b.job.feeds.items) (conveyor.view b.job.sink) v.items (view a.sink)) (sym feeds) met)) told

pub epoch_on : (a : Running) (j : Job) (told : Option Told) → j.feeds ≡ a.job.feeds → j.sink ≡ a.job.sink → WhereTold (ComesOn a (record a { job = j })) told told
epoch_on a j told feeds sink = goes_same (ComesOn a (record a { job = j })) (λ now c windows opened start h.
    subst (λ (v : Conveyor). HasCome c windows opened start now (map tx_view j.feeds.items) (conveyor.view v) a.feeds.items (view a.sink)) (sym sink)
    (subst (λ (v : Vec (Tx Item) Global). HasCome c windows opened start now (map tx_view v.items) (conveyor.view a.job.sink) a.feeds.items (view a.sink)) (sym feeds) h)) told

-- ---- the files are fed

pub fed_on : (a : Running) (txs : Vec (Tx Item) Global) (feeds : Vec Feed Global) (moved : Bool) (told next : Option Told) → WhereTold (HaveRead a.feeds.items (Ok moved)) told next
    → ((c : Checks) (opened : List Opened) (began : Option Told) → AreFed c opened began told (map tx_view a.job.feeds.items) a.feeds.items → AreFed c opened began next (map tx_view txs.items) feeds.items)
    → WhereTold (ComesOn a (record a { job = record a.job { feeds = txs }; feeds = feeds })) told next
fed_on a txs feeds moved None next read fed = tt
fed_on a txs feeds moved (Some old) None read fed = read
fed_on a txs feeds moved (Some old) (Some new) read fed = λ c windows opened start h.
    come_fed c windows opened start moved old new (map tx_view a.job.feeds.items) (map tx_view txs.items) (conveyor.view a.job.sink) a.feeds.items feeds.items (view a.sink) (fed c opened (Some start) h.fed) read h

bad_where : (c : Checks) (opened : List Opened) (start : Told) (are : AreOpen c opened start) (stop : Stop) → IsBadAmong c opened (Some start) stop → BadWhere c opened start are stop
bad_where c opened start are (BadLine part line why) bad = bad
bad_where c opened start are (Outside what spot) bad = tt
bad_where c opened start are NoMemory bad = tt

no_bad_where : (c : Checks) (opened : List Opened) (start : Told) (are : AreOpen c opened start) (stop : Stop) → IsNoBadLine stop → BadWhere c opened start are stop
no_bad_where c opened start are (BadLine part line why) none = absurd none
no_bad_where c opened start are (Outside what spot) none = tt
no_bad_where c opened start are NoMemory none = tt

read_such : (c : Checks) (opened : List Opened) (start : Told) (are : AreOpen c opened start) (began told : Option Told) (txs : List (TxView Item)) (feeds : List Feed) → AreFed c opened began told txs feeds
    → (what : Call) (spot : Spot) (tried : Tried) → IsReadAmong feeds what spot tried → Such c opened start are what spot tried
read_such c opened start are began told txs feeds fed what spot tried (feed, has, is) =
    let k = contains_at feeds feed has in
    let inside = slice_get_within feeds k.0 feed k.1 in
    let long = fed.count in
    let rings = fed.rings in
    let o = there_is opened k.0 (omega (arith, inside, long)) in
    let tx = there_is txs k.0 (omega (arith, inside, long, rings)) in
    let f = fed.each k.0 o.0 tx.0 feed o.1 tx.1 k.1 in
    reading o.0 (k.0, slice_get_within opened k.0 o.0 o.1, get_or_from_slice_get opened k.0 o.0 o.0 o.1)
    (subst (λ (p : ℕ). IsCallIn (Part p) o.0.at what spot tried) f.part (subst (λ (at : ℕ). IsCallIn (Part feed.part) at what spot tried) f.file is))

-- nothing more was written
begun_same : (c : Checks) (windows : List Window) (opened : List Opened) (start now new : Told) (r : Running) → new.written ≡ now.written → HasComeTo c windows opened start now r → HasBegunPrinting windows start new
begun_same c windows opened start now new r same h = record {
  came = items_in h.taken;
  printed = h.printed;
  held = (view r.sink).rows.rows;
  each = h.drained.rows;
  rows_front = rows_text windows h.printed;
  rows_rest = [];
  rows_parts = sym (append-nil (rows_text windows h.printed));
  notes_front = late_text windows (lates_of (items_in h.taken));
  notes_rest = [];
  notes_parts = sym (append-nil (late_text windows (lates_of (items_in h.taken))));
  rows = ap (λ (w : Out → List ℕ). w out.Rows) same ∙ h.rows;
  notes = ap (λ (w : Out → List ℕ). w out.Notes) same ∙ h.notes;
}

pub stops_fed : (a : Running) (stop : Stop) (told next : Option Told) → WhereTold (HaveRead {T = Bool} a.feeds.items (Err stop)) told next
    → ((c : Checks) (opened : List Opened) (began : Option Told) → AreFed c opened began told (map tx_view a.job.feeds.items) a.feeds.items → IsBadAmong c opened began stop) → WhereTold (StopsFrom a stop) told next
stops_fed a stop None next read bad = tt
stops_fed a stop (Some old) None read bad = read
stops_fed a stop (Some old) (Some new) read bad = λ c windows opened start are h.
    stops c opened start are windows stop old new (map tx_view a.job.feeds.items) (conveyor.view a.job.sink) a.feeds.items (view a.sink) read.calls read.last h read.trace (reads_are c windows opened start a.feeds.items read.calls read.reads)
    (last_weaker (IsReadAmong a.feeds.items) (Such c opened start are) stop read.last (read_such c opened start are (Some start) (Some old) (map tx_view a.job.feeds.items) a.feeds.items h.fed) read.end)
    (bad_where c opened start are stop (bad c opened (Some start) h.fed)) read.content (begun_same c windows opened start old new a read.written h)

-- ---- the sink is drained

pub drained_on : (a : Running) (lanes : Conveyor) (sink : Sink) (moved : Bool) (told next : Option Told) → Drained moved (view a.sink) (view sink) (conveyor.view a.job.sink) (conveyor.view lanes) → (view sink).windows ≡ (view a.sink).windows
    → WhereTold (Flushes {T = Bool} (view sink).row_lines (view sink).late_lines (Ok moved)) told next → WhereTold (ComesOn a (record a { job = record a.job { sink = lanes }; sink = sink })) told next
drained_on a lanes sink moved None next drained same flushed = tt
drained_on a lanes sink moved (Some old) None drained same flushed = flushed
drained_on a lanes sink moved (Some old) (Some new) drained same flushed = λ c windows opened start h.
    come_drained c windows opened start moved old new (map tx_view a.job.feeds.items) (conveyor.view a.job.sink) (conveyor.view lanes) a.feeds.items (view a.sink) (view sink) drained same flushed h

parted : (text front more rest one base now new : List ℕ) → text ≡ front ++ more → more ≡ one ++ rest → now ≡ base ++ front → new ≡ now ++ one → (text ≡ (front ++ one) ++ rest) × (new ≡ base ++ (front ++ one))
parted text front more rest one base now new t m n w =
    (t ∙ ap (λ l. front ++ l) m ∙ sym (append_assoc front one rest), w ∙ ap (λ l. l ++ one) n ∙ append_assoc base front one)

begun_drained : (c : Checks) (windows : List Window) (opened : List Opened) (start now new : Told) (a : Running) (lanes : Conveyor) (sink : Sink) (stop : Stop) → HasComeTo c windows opened start now a
    → Drained true (view a.sink) (view sink) (conveyor.view a.job.sink) (conveyor.view lanes) → StopsAppending (view sink).row_lines (view sink).late_lines stop now new → HasBegunPrinting windows start new
begun_drained c windows opened start now new a lanes sink stop h d w =
    let row_lines : (view sink).row_lines ≡ rows_text windows d.printed = d.row_lines ∙ ap (λ ws. rows_text ws d.printed) h.windows_are in
    let late_lines : (view sink).late_lines ≡ late_text windows (lates_of (items_in d.taken)) = d.late_lines ∙ ap (λ ws. late_text ws (lates_of (items_in d.taken))) h.windows_are in
    let rows = parted (rows_text windows (h.printed ++ d.printed)) (rows_text windows h.printed) (rows_text windows d.printed) w.rows_rest w.rows_front (start.written out.Rows) (now.written out.Rows) (new.written out.Rows)
    (rows_more c windows opened start windows h.printed d.printed) (sym row_lines ∙ w.rows_parts) h.rows w.rows_written in
    let notes = parted (late_text windows (lates_of (items_in (h.taken ++ d.taken)))) (late_text windows (lates_of (items_in h.taken))) (late_text windows (lates_of (items_in d.taken))) w.notes_rest w.notes_front (start.written out.Notes) (now.written out.Notes) (new.written out.Notes)
    (lates_more c windows opened start windows h.taken d.taken) (sym late_lines ∙ w.notes_parts) h.notes w.notes_written in
    record {
      came = items_in (h.taken ++ d.taken);
      printed = h.printed ++ d.printed;
      held = (view sink).rows.rows;
      each = (d.goes_on h.taken h.printed h.drained).0.rows;
      rows_front = rows_text windows h.printed ++ w.rows_front;
      rows_rest = w.rows_rest;
      rows_parts = rows.0;
      notes_front = late_text windows (lates_of (items_in h.taken)) ++ w.notes_front;
      notes_rest = w.notes_rest;
      notes_parts = notes.0;
      rows = rows.1;
      notes = notes.1;
    }

begun_either : (c : Checks) (windows : List Window) (opened : List Opened) (start now new : Told) (a : Running) (lanes : Conveyor) (sink : Sink) (stop : Stop) → HasComeTo c windows opened start now a
    → (Some new ≡ Some now) ⊎ Drained true (view a.sink) (view sink) (conveyor.view a.job.sink) (conveyor.view lanes) → StopsAppending (view sink).row_lines (view sink).late_lines stop now new → HasBegunPrinting windows start new
begun_either c windows opened start now new a lanes sink stop h (inl same) w = let e : new ≡ now = cc in begun_same c windows opened start now new a (ap (λ (t : Told). t.written) e) h
begun_either c windows opened start now new a lanes sink stop h (inr d) w = begun_drained c windows opened start now new a lanes sink stop h d w

pub stops_drained : (a : Running) (lanes : Conveyor) (sink : Sink) (stop : Stop) (told next : Option Told) → IsNoBadLine stop → (next ≡ told) ⊎ Drained true (view a.sink) (view sink) (conveyor.view a.job.sink) (conveyor.view lanes)
    → WhereTold (Flushes {T = Bool} (view sink).row_lines (view sink).late_lines (Err stop)) told next → WhereTold (StopsFrom a stop) told next
stops_drained a lanes sink stop None next none either w = tt
stops_drained a lanes sink stop (Some old) None none either w = w
stops_drained a lanes sink stop (Some old) (Some new) none either w = λ c windows opened start are h.
    let notes = map (Wrote out.Notes) w.note_lengths in
    let rows = map (Wrote out.Rows) w.row_lengths in
    stops c opened start are windows stop old new (map tx_view a.job.feeds.items) (conveyor.view a.job.sink) a.feeds.items (view a.sink) (notes ++ rows) w.last h
    (w.trace ∙ ap (λ l. l ++ w.last) (append_assoc old.trace notes rows))
    (All-append ReadsOrWrites notes rows (writes_are c windows opened start out.Notes w.note_lengths) (writes_are c windows opened start out.Rows w.row_lengths))
    (last_weaker IsWriting (Such c opened start are) stop w.last (λ what spot tried is. writing is) w.fails)
    (no_bad_where c opened start are stop none) w.content (begun_either c windows opened start old new a lanes sink stop h either w)

-- ---- memory is wanted

pub stops_for_memory : (a : Running) (told : Option Told) → WhereTold (StopsFrom a NoMemory) told told
stops_for_memory a = goes_same (StopsFrom a NoMemory) (λ now c windows opened start are h.
    stops c opened start are windows NoMemory now now (map tx_view a.job.feeds.items) (conveyor.view a.job.sink) a.feeds.items (view a.sink) [] [] h
    (sym (append-nil (now.trace ++ []) ∙ append-nil now.trace)) (All-nil ReadsOrWrites) refl tt refl (begun_same c windows opened start now now a refl h))

-- ---- answers

pub on_ok_then : {T E P Q : Type 0} (r : Result T E) → OnOk r P → (P → Q) → OnOk r Q
on_ok_then (Ok done) p f = f p
on_ok_then (Err e) p f = tt

pub if_err_then : {T E : Type 0} {P Q : E → Type 0} (r : Result T E) → IfErr r P → ((e : E) → P e → Q e) → IfErr r Q
if_err_then (Ok done) p f = tt
if_err_then (Err e) p f = f e p

pub told_same : {S D : Type 0} (tell : S → Option Told) (old new : S) → (new ≡ old) ⊎ D → (tell new ≡ tell old) ⊎ D
told_same tell old new (inl e) = inl (ap tell e)
told_same tell old new (inr d) = inr d

-- the lists that are lent are those of the run
pub fed_on_lent : (a : Running) (txs : Vec (Tx Item) Global) (feeds : Vec Feed Global) (ends xs : List (Tx Item)) (lent fs : List Feed) (moved : Bool) (told next : Option Told) → ends ≡ a.job.feeds.items → lent ≡ a.feeds.items
    → txs.items ≡ xs → feeds.items ≡ fs → WhereTold (HaveRead lent (Ok moved)) told next
    → ((c : Checks) (opened : List Opened) (began : Option Told) → AreFed c opened began told (map tx_view ends) lent → AreFed c opened began next (map tx_view xs) fs)
    → WhereTold (ComesOn a (record a { job = record a.job { feeds = txs }; feeds = feeds })) told next
fed_on_lent a txs feeds ends xs lent fs moved told next e f x y read fed =
    fed_on a txs feeds moved told next (subst (λ (l : List Feed). WhereTold (HaveRead l (Ok moved)) told next) f read)
    (λ c opened began h.
    let was = subst (λ (l : List (Tx Item)). AreFed c opened began told (map tx_view l) lent) (sym e) (subst (AreFed c opened began told (map tx_view a.job.feeds.items)) (sym f) h) in
    subst (λ (l : List (Tx Item)). AreFed c opened began next (map tx_view l) feeds.items) (sym x) (subst (AreFed c opened began next (map tx_view xs)) (sym y) (fed c opened began was)))

pub stops_fed_lent : (a : Running) (ends : List (Tx Item)) (lent : List Feed) (stop : Stop) (told next : Option Told) → ends ≡ a.job.feeds.items → lent ≡ a.feeds.items → WhereTold (HaveRead {T = Bool} lent (Err stop)) told next
    → ((c : Checks) (opened : List Opened) (began : Option Told) → AreFed c opened began told (map tx_view ends) lent → IsBadAmong c opened began stop) → WhereTold (StopsFrom a stop) told next
stops_fed_lent a ends lent stop told next e f read bad =
    stops_fed a stop told next (subst (λ (l : List Feed). WhereTold (HaveRead {T = Bool} l (Err stop)) told next) f read)
    (λ c opened began h. bad c opened began (subst (λ (l : List (Tx Item)). AreFed c opened began told (map tx_view l) lent) (sym e) (subst (AreFed c opened began told (map tx_view a.job.feeds.items)) (sym f) h)))
