-- A run comes farther: its ends meet, its files are fed, its sink is drained.
use Rattle.std.proofs.Common.{arith, ◌≡◌, ◌≢◌, ◌∙◌, ◌<◌, ◌++◌, ℕ, zero, suc, Bool, List, [], ◌∷◌, Option, Some, map, length, ap, refl, sym, subst, append_assoc}
use Rattle.std.specs.Prelude.{slice_get, get_or, Ok, All}
use Rattle.std.proofs.lemmas.Grind.{flat_map-append}
use Rattle.std.proofs.lemmas.List.{map-append, append-nil}
use Rattle.std.proofs.lemmas.List.Elements.{All-nil, All-cons, All-append}
use Rattle.std.proofs.lemmas.Option.{slice_get_within, slice_get-get_or, get_or_from_slice_get}
use Rattle.jet_conveyor.specs.Conveyor as conveyor
use Rattle.jet_crew.specs.Epoch.{Placewise}
use Rattle.jet_engine.specs.Wiring.{TxMet, SinkMet}
use Rattle.jet_feed.specs.Fed.{IsFed}
use Rattle.jet_feed.specs.declared.feed.Feed.{Feed}
use Rattle.jet_file.specs.Outside.{CallMade, Place, Told, Opened as Opens, Read, Wrote, Missed, rest_of, rest_from}
use Rattle.jet_file.specs.Text.{rows_text, late_text, window_line, late_window_line}
use Rattle.jet_file.specs.declared.outside.Out.{Out}
use Rattle.jet_file.specs.declared.outside.Out.TheVariants as out
use Rattle.jet_items.specs.declared.item.Item.{Item}
use Rattle.jet_items.specs.Kinds.{lates_of, as_late}
use Rattle.jet_items.specs.Rows.{Window}
use Rattle.jet_items.specs.Values.{RowValue}
use Rattle.jet_ring.specs.Ring.{TxView}
use Rattle.jet_sink.specs.Drained.{Drained}
use Rattle.jet_sink.specs.Taken.{TakenItem, items_from, item_from, items_in}
use Rattle.jet_sink.specs.View.{View}
use Rattle.jet_worker.specs.Calls.{ReadsOrWrites, opening_call}
use Rattle.jet_worker.specs.CheckText.{Checks}
use Rattle.jet_worker.specs.Feeding.{Appends}
use Rattle.jet_worker.specs.Opening.{Opened, opening_of, pair_of}
use Rattle.jet_coordinator.specs.Feeds.{AreFed, HaveRead, IsReadOf, content_in}
use Rattle.jet_coordinator.specs.Progress.{HasCome}
use Rattle.jet_coordinator.proofs.ReadLemmas.{stays}

there_is : {X : Type 0} (xs : List X) (n : ℕ) → n < length xs → (x : X) × (slice_get xs n ≡ Some x)
there_is [] n lt = absurd (omega (arith, lt))
there_is (x ∷ xs) zero lt = (x, refl)
there_is (x ∷ xs) (suc n) lt = there_is xs n (omega (arith, lt))

-- ---- a meeting

met_at : (xs ys : List (TxView Item)) (k : ℕ) (y : TxView Item) → Placewise TxMet xs ys → slice_get ys k ≡ Some y → (x : TxView Item) × (slice_get xs k ≡ Some x) × TxMet x y
met_at xs ys k y met at =
    let inside = slice_get_within ys k y at in
    let long = met.count in
    let lt : k < length xs = omega (arith, inside, long) in
    let x = there_is xs k lt in
    let was = get_or_from_slice_get xs k x.0 x.0 x.1 in
    let now = get_or_from_slice_get ys k y x.0 at in
    (x.0, x.1, subst (λ (b : TxView Item). TxMet x.0 b) now (subst (λ (a : TxView Item). TxMet a (get_or ys k x.0)) was (met.each k x.0 lt)))

fed_met : (c : Checks) (opened : List Opened) (began told : Option Told) (xs ys : List (TxView Item)) (feeds : List Feed) → Placewise TxMet xs ys → AreFed c opened began told xs feeds → AreFed c opened began told ys feeds
fed_met c opened began told xs ys feeds met fed =
    record {
      count = fed.count;
      rings = met.count ∙ fed.rings;
      each = λ k o tx feed at_o at_tx at_feed.
          let x = met_at xs ys k tx met at_tx in
          subst (λ (sent : List Item). IsFed c (pair_of o) o.at (content_in began o) told sent feed) (sym x.2.sent) (fed.each k o x.0 feed at_o x.1 at_feed);
    }

module _ (c : Checks) (windows : List Window) (opened : List Opened) (start : Told) where
  pub come_met : (now : Told) (xs ys : List (TxView Item)) (a b : conveyor.View) (feeds : List Feed) (s : View) → Placewise TxMet xs ys → SinkMet a b
      → HasCome c windows opened start now xs a feeds s → HasCome c windows opened start now ys b feeds s
  come_met now xs ys a b feeds s met sink h = record {
    content = h.content;
    fed = fed_met c opened (Some start) (Some now) xs ys feeds met h.fed;
    calls = h.calls;
    trace = h.trace;
    reads = h.reads;
    taken = h.taken;
    printed = h.printed;
    received = λ q. ap (λ (l : List (List Item)). get_or l q []) sink.received ∙ h.received q;
    drained = h.drained;
    windows_are = h.windows_are;
    rows = h.rows;
    notes = h.notes;
    others = h.others;
    names = h.names;
  }

  -- ---- the files are fed

  no_feed : (opened : List Opened) (began told : Option Told) (txs : List (TxView Item)) (feeds : List Feed) (at : ℕ) → AreFed c opened began told txs feeds → All (λ o. o.at ≢ at) opened → All (λ (feed : Feed). feed.file ≢ at) feeds
  no_feed opened began told txs feeds at fed none = λ k d lt.
      let long = fed.count in
      let rings = fed.rings in
      let o = there_is opened k (omega (arith, lt, long)) in
      let tx = there_is txs k (omega (arith, lt, long, rings)) in
      let is = fed.each k o.0 tx.0 (get_or feeds k d) o.1 tx.1 (slice_get-get_or feeds k d lt) in
      let other = subst (λ (x : Opened). x.at ≢ at) (get_or_from_slice_get opened k o.0 o.0 o.1) (none k o.0 (slice_get_within opened k o.0 o.1)) in
      λ same. other (sym is.file ∙ same)

  read_is_one : (feeds : List Feed) (call : CallMade) → IsReadOf feeds call → ReadsOrWrites call
  read_is_one feeds (Read at n) is = is.0
  read_is_one feeds (Opens name at) is = elim is [ ]
  read_is_one feeds (Wrote to n) is = elim is [ ]
  read_is_one feeds (Missed tried) is = elim is [ ]

  pub reads_are : (feeds : List Feed) (calls : List CallMade) → All (IsReadOf feeds) calls → All ReadsOrWrites calls
  reads_are feeds calls all = λ k d lt. read_is_one feeds (get_or calls k d) (all k d lt)

  behind : (trace old new : List CallMade) (openings calls more : List CallMade) → old ≡ trace ++ (openings ++ calls) → new ≡ old ++ more → new ≡ trace ++ (openings ++ (calls ++ more))
  behind trace old new openings calls more e f = f ∙ ap (λ l. l ++ more) e ∙ append_assoc trace (openings ++ calls) more ∙ ap (λ l. trace ++ l) (append_assoc openings calls more)

  pub come_fed : {T : Type 0} (done : T) (now new : Told) (xs ys : List (TxView Item)) (queues : conveyor.View) (feeds feeds_now : List Feed) (s : View) → AreFed c opened (Some start) (Some new) ys feeds_now → HaveRead feeds (Ok done) now new
      → HasCome c windows opened start now xs queues feeds s → HasCome c windows opened start new ys queues feeds_now s
  come_fed done now new xs ys queues feeds feeds_now s fed read h =
      let trace : new.trace ≡ now.trace ++ read.calls = read.trace ∙ ap (λ l. (now.trace ++ read.calls) ++ l) read.end ∙ append-nil (now.trace ++ read.calls) in
      record {
        content = read.content ∙ h.content;
        fed = fed;
        calls = h.calls ++ read.calls;
        trace = behind start.trace now.trace new.trace (map opening_call (map opening_of opened)) h.calls read.calls h.trace trace;
        reads = All-append ReadsOrWrites h.calls read.calls h.reads (reads_are feeds read.calls read.reads);
        taken = h.taken;
        printed = h.printed;
        received = h.received;
        drained = h.drained;
        windows_are = h.windows_are;
        rows = ap (λ (w : Out → List ℕ). w out.Rows) read.written ∙ h.rows;
        notes = ap (λ (w : Out → List ℕ). w out.Notes) read.written ∙ h.notes;
        others = λ at none. read.others at (no_feed opened (Some start) (Some now) xs feeds at h.fed none) ∙ h.others at none;
        names = λ k d lt. read.names (get_or opened k d).at ∙ h.names k d lt;
      }

  -- ---- the sink is drained

  pub writes_are : (to : Out) (lengths : List ℕ) → All ReadsOrWrites (map (Wrote to) lengths)
  writes_are to [] = All-nil ReadsOrWrites
  writes_are to (n ∷ ns) = All-cons ReadsOrWrites (Wrote to n) (map (Wrote to) ns) tt (writes_are to ns)

  more_text : (front more : List ℕ) (base old new : List ℕ) → old ≡ base ++ front → new ≡ old ++ more → new ≡ base ++ (front ++ more)
  more_text front more base old new e f = f ∙ ap (λ l. l ++ more) e ∙ append_assoc base front more

  pub rows_more : (ws : List Window) (a b : List RowValue) → rows_text ws (a ++ b) ≡ rows_text ws a ++ rows_text ws b
  rows_more ws a b = flat_map-append (window_line ws) a b

  pub lates_more : (ws : List Window) (a b : List TakenItem) → late_text ws (lates_of (items_in (a ++ b))) ≡ late_text ws (lates_of (items_in a)) ++ late_text ws (lates_of (items_in b))
  lates_more ws a b =
      ap (λ l. late_text ws (lates_of l)) (map-append (λ (t : TakenItem). t.item) a b)
      ∙ ap (late_text ws) (flat_map-append as_late (items_in a) (items_in b))
      ∙ flat_map-append (late_window_line ws) (lates_of (items_in a)) (lates_of (items_in b))

  -- what is told by place of a conveyor and of a list
  from_more : (q : ℕ) (a b : List TakenItem) → items_from q (a ++ b) ≡ items_from q a ++ items_from q b
  from_more q a b = flat_map-append (item_from q) a b

  fed_still : (now new : Told) (xs : List (TxView Item)) (feeds : List Feed) → new.content ≡ now.content → new.place ≡ now.place → AreFed c opened (Some start) (Some now) xs feeds → AreFed c opened (Some start) (Some new) xs feeds
  fed_still now new xs feeds e f fed =
      record {
        count = fed.count;
        rings = fed.rings;
        each = λ k o tx feed at_o at_tx at_feed.
            let rest : rest_of new o.at ≡ rest_of now o.at = ap (λ (content : List ℕ → Option (List ℕ)). rest_from (content (new.place o.at).name) (new.place o.at).taken) e
            ∙ ap (λ (place : ℕ → Place). rest_from (now.content (place o.at).name) (place o.at).taken) f in
            stays c (pair_of o) o.at (content_in (Some start) o) (Some now) (Some new) tx.sent feed rest (fed.each k o tx feed at_o at_tx at_feed);
      }

  -- what was written, and where the sink stands then
  pub come_drained : (moved : Bool) (now new : Told) (xs : List (TxView Item)) (queues queues_now : conveyor.View) (feeds : List Feed) (s t : View) → Drained moved s t queues queues_now → t.windows ≡ s.windows → Appends t.row_lines t.late_lines now new
      → HasCome c windows opened start now xs queues feeds s → HasCome c windows opened start new xs queues_now feeds t
  come_drained moved now new xs queues queues_now feeds s t d same w h =
      let writes = map (Wrote out.Notes) w.note_lengths ++ map (Wrote out.Rows) w.row_lengths in
      let row_lines : t.row_lines ≡ rows_text windows d.printed = d.row_lines ∙ ap (λ ws. rows_text ws d.printed) h.windows_are in
      let late_lines : t.late_lines ≡ late_text windows (lates_of (items_in d.taken)) = d.late_lines ∙ ap (λ ws. late_text ws (lates_of (items_in d.taken))) h.windows_are in
      record {
        content = w.content ∙ h.content;
        fed = fed_still now new xs feeds w.content w.place h.fed;
        calls = h.calls ++ writes;
        trace = behind start.trace now.trace new.trace (map opening_call (map opening_of opened)) h.calls writes h.trace (w.trace ∙ append_assoc now.trace (map (Wrote out.Notes) w.note_lengths) (map (Wrote out.Rows) w.row_lengths));
        reads = All-append ReadsOrWrites h.calls writes h.reads (All-append ReadsOrWrites (map (Wrote out.Notes) w.note_lengths) (map (Wrote out.Rows) w.row_lengths) (writes_are out.Notes w.note_lengths) (writes_are out.Rows w.row_lengths));
        taken = h.taken ++ d.taken;
        printed = h.printed ++ d.printed;
        received = λ q. d.took.received q ∙ ap (λ l. l ++ items_from q d.taken) (h.received q) ∙ sym (from_more q h.taken d.taken);
        drained = (d.goes_on h.taken h.printed h.drained).0;
        windows_are = same ∙ h.windows_are;
        rows = more_text (rows_text windows h.printed) (rows_text windows d.printed) (start.written out.Rows) (now.written out.Rows) (new.written out.Rows) h.rows (w.rows_written ∙ ap (λ l. now.written out.Rows ++ l) row_lines)
            ∙ ap (λ l. start.written out.Rows ++ l) (sym (rows_more windows h.printed d.printed));
        notes = more_text (late_text windows (lates_of (items_in h.taken))) (late_text windows (lates_of (items_in d.taken))) (start.written out.Notes) (now.written out.Notes) (new.written out.Notes) h.notes (w.notes_written ∙ ap (λ l. now.written out.Notes ++ l) late_lines)
            ∙ ap (λ l. start.written out.Notes ++ l) (sym (lates_more windows h.taken d.taken));
        others = λ at none. ap (λ (place : ℕ → Place). place at) w.place ∙ h.others at none;
        names = λ k d lt. ap (λ (place : ℕ → Place). (place (get_or opened k d).at).name) w.place ∙ h.names k d lt;
      }
