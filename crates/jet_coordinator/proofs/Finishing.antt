-- A run in which all is done.
use Rattle.std.proofs.Common.{arith, ◌≡◌, ◌≢◌, ◌∙◌, ◌++◌, ℕ, zero, suc, Bool, true, false, List, [], ◌∷◌, Option, None, Some, map, length, ap, refl, sym, subst}
use Rattle.std.specs.Prelude.{◌==◌, slice_get, get_or, option_map, IsSome, IsSomeAnd, All, if◌then◌else◌}
use Rattle.std.specs.List.Sorted.{IsPermutation}
use Rattle.std.proofs.lemmas.Bool.Decides.{nat_tests}
use Rattle.std.proofs.lemmas.List.{append-nil, length-map}
use Rattle.std.proofs.lemmas.List.Sorted.{sum_by-IsPermutation}
use Rattle.std.proofs.lemmas.List.Sums.{sum_by-cons}
use Rattle.std.proofs.lemmas.Option.{slice_get_within, slice_get-get_or, slice_get-map, get_or_from_slice_get, same_Some}
use Rattle.jet_coalescer.specs.declared.queue.Queue.{Queue}
use Rattle.jet_conveyor.specs.Conveyor as conveyor
use Rattle.jet_engine.specs.declared.job.Job.{Job}
use Rattle.jet_engine.specs.Jobs.{IsReady}
use Rattle.jet_feed.specs.Fed.{IsFed, IsOver, waiting}
use Rattle.jet_feed.specs.FileItems.{file_items}
use Rattle.jet_feed.specs.declared.feed.Feed.{Feed}
use Rattle.jet_file.specs.Outside.{CallMade, Told, rest_of}
use Rattle.jet_flow.specs.DataFiles.{DataFile, file_name}
use Rattle.jet_items.specs.declared.item.Item.{Item}
use Rattle.jet_items.specs.declared.item.Item.TheVariants as item
use Rattle.jet_items.specs.Kinds.{rows_of}
use Rattle.jet_items.specs.Rows.{Window}
use Rattle.jet_items.specs.Values.{RowValue}
use Rattle.jet_ring.specs.Ring.{TxView, tx_view}
use Rattle.jet_sink.specs.Alike.{AreAlike}
use Rattle.jet_sink.specs.Drained.{AllDone}
use Rattle.jet_sink.specs.Taken.{TakenItem, item_from, items_from, items_in}
use Rattle.jet_sink.specs.View.{View}
use Rattle.jet_worker.specs.Calls.{Calling, opened_by, opening_call}
use Rattle.jet_worker.specs.CheckText.{Checks, first_bad}
use Rattle.jet_worker.specs.Checked.{IsGood, numbered}
use Rattle.jet_worker.specs.Opening.{AreNew, Opened, opening_of, pair_of}
use Rattle.jet_coordinator.specs.Carried.{HasCarried}
use Rattle.jet_coordinator.specs.Runs.{HasRun, IsReadOut}
use Rattle.jet_coordinator.specs.Progress.{AreOpen, HasCome}
use Rattle.jet_coordinator.proofs.Stops.{file_at, number_at, in_order, there_is, length_numbered}

-- the law of a feed that is over
abbrev pub Whole : Type 0
Whole = (c : Checks) (p : ℕ × DataFile) (at : ℕ) (content : List ℕ) (told : Told) (items : List Item) (feed : Feed)
    → IsFed c p at (Some content) (Some told) items feed → feed.ended ≡ true
    → (rest_of told at ≡ []) × (first_bad c p content ≡ None) × (items ++ waiting feed ≡ file_items c p content ++ item.Done ∷ [])

map_at : {X Y : Type 0} (f : X → Y) (xs : List X) (k : ℕ) (x : X) → slice_get xs k ≡ Some x → slice_get (map f xs) k ≡ Some (f x)
map_at f xs k x at = slice_get-map f xs k ∙ ap (option_map f) at

past : (ls : List (List Item)) (q : ℕ) → length ls ≡ 0 → get_or ls q [] ≡ []
past [] q e = refl
past (l ∷ ls) q e = absurd (omega (arith, e))

itself : (n : ℕ) → (n == n) ≡ true
itself n = grind (arith, nat_tests)

item_here : (t : TakenItem) (b : Bool) → (t.queue == t.queue) ≡ b → item_from t.queue t ≡ [] → ⊥
item_here t true e none = let one : item_from t.queue t ≡ t.item ∷ [] = ap (λ (b : Bool). if b then t.item ∷ [] else []) e in let no : t.item ∷ [] ≡ [] = sym one ∙ none in cc
item_here t false e none = let same = itself t.queue in let no : true ≡ false = sym same ∙ e in cc

front_none : {X : Type 0} (xs ys : List X) → xs ++ ys ≡ [] → xs ≡ []
front_none [] ys e = refl
front_none (x ∷ xs) ys e = cc

back_none : {X : Type 0} (xs ys : List X) → xs ++ ys ≡ [] → ys ≡ []
back_none [] ys e = e
back_none (x ∷ xs) ys e = cc

no_item : (t : TakenItem) (ts : List TakenItem) → items_from t.queue (t ∷ ts) ≡ [] → ⊥
no_item t ts none = item_here t (t.queue == t.queue) refl (front_none (item_from t.queue t) (items_from t.queue ts) none)

none_left : (ys : List RowValue) → IsPermutation [] ys → ys ≡ []
none_left [] p = refl
none_left (y ∷ ys) p =
    let same = sum_by-IsPermutation (λ (r : RowValue). 1) [] (y ∷ ys) p in
    let one = sum_by-cons (λ (r : RowValue). 1) y ys in
    absurd (omega (arith, same, one))

no_rows : (printed held : List RowValue) → IsPermutation [] (printed ++ held) → held ≡ []
no_rows printed held p = back_none printed held (none_left (printed ++ held) p)

-- ---- the files

-- a file that was carried to its end
pub record IsCarried (c : Checks) (start now : Told) (o : Opened) (tx : TxView Item) : Type 0 where
  pub content : List ℕ
  pub is : start.content (file_name o.file) ≡ Some content
  pub good : first_bad c (pair_of o) content ≡ None
  pub rest : rest_of now o.at ≡ []
  pub sent : tx.sent ≡ file_items c (pair_of o) content ++ item.Done ∷ []

none_waits : (feed : Feed) (items : List Item) → feed.waiting ≡ None → items ++ waiting feed ≡ items
none_waits feed items e = rw e (append-nil items)

carried_by : (whole : Whole) (c : Checks) (start now : Told) (o : Opened) (tx : TxView Item) (feed : Feed) (content : Option (List ℕ)) → content ≡ start.content (file_name o.file) → IsSome content → IsOver feed
    → IsFed c (pair_of o) o.at content (Some now) tx.sent feed → IsCarried c start now o tx
carried_by whole c start now o tx feed None e some over fed = cc
carried_by whole c start now o tx feed (Some x) e some over fed =
    let w = whole c (pair_of o) o.at x now tx.sent feed fed over.ended in
    record {
      content = x;
      is = sym e;
      good = w.1;
      rest = w.0;
      sent = sym (none_waits feed tx.sent over.given) ∙ w.2;
    }

module _ (whole : Whole) (c : Checks) (windows : List Window) (opened : List Opened) (start now : Told) (txs : List (TxView Item)) (queues : conveyor.View) (feeds : List Feed) (s : View)
    (are : AreOpen c opened start) (h : HasCome c windows opened start now txs queues feeds s) (over : All IsOver feeds) where
  carried : (k : ℕ) (o : Opened) (tx : TxView Item) → slice_get opened k ≡ Some o → slice_get txs k ≡ Some tx → IsCarried c start now o tx
  carried k o tx at_o at_tx =
      let long = h.fed.count in
      let inside = slice_get_within opened k o at_o in
      let feed = there_is feeds k (omega (arith, inside, long)) in
      let is = h.fed.each k o tx feed.0 at_o at_tx feed.1 in
      let ends = subst IsOver (get_or_from_slice_get feeds k feed.0 feed.0 feed.1) (over k feed.0 (slice_get_within feeds k feed.0 feed.1)) in
      let there = subst (λ (x : Opened). IsSome (start.content (file_name x.file))) (get_or_from_slice_get opened k o o at_o) (are.there k o inside) in
      carried_by whole c start now o tx feed.0 (start.content (file_name o.file)) refl there ends is

  tx_for : (k : ℕ) (o : Opened) → slice_get opened k ≡ Some o → (tx : TxView Item) × (slice_get txs k ≡ Some tx)
  tx_for k o at = let inside = slice_get_within opened k o at in let rings = h.fed.rings in there_is txs k (omega (arith, inside, rings))

  -- what is told of each opened file is told of each file of the job
  all_numbered : (P : ℕ × DataFile → Type 0) → ((k : ℕ) (o : Opened) → slice_get opened k ≡ Some o → P (pair_of o)) → All P (numbered c)
  all_numbered P each = subst (All P) are.pairs (λ k d lt.
      let e = length-map opened pair_of in
      let o = there_is opened k (omega (arith, e, lt)) in
      subst P (sym (get_or_from_slice_get (map pair_of opened) k (pair_of o.0) d (map_at pair_of opened k o.0 o.1))) (each k o.0 o.1))

  some_good : (o : Opened) (tx : TxView Item) → IsCarried c start now o tx → IsGood c start (pair_of o)
  some_good o tx is = subst (λ (content : Option (List ℕ)). IsSomeAnd content (λ x. first_bad c (pair_of o) x ≡ None)) (sym is.is) is.good

  pub all_good : All (IsGood c start) (numbered c)
  all_good = all_numbered (IsGood c start) (λ k o at. let tx = tx_for k o at in some_good o tx.0 (carried k o tx.0 at tx.1))

  abbrev pub openings : List CallMade
  openings = map opening_call (map opening_of opened)

  pub all_read : (before is_open : ℕ → Bool) → AreNew before is_open opened → All (IsReadOut before is_open (openings ++ h.calls) now) (numbered c)
  all_read before is_open new = all_numbered (IsReadOut before is_open (openings ++ h.calls) now) (λ k o at.
      let tx = tx_for k o at in
      let part = (file_at c opened start are k o at).0 in
      let inside = slice_get_within opened k o at in
      let same = get_or_from_slice_get opened k o o at in
      record {
        at = o.at;
        opening = ap (slice_get (opened_by (openings ++ h.calls))) part ∙ number_at c opened start are k o h.calls at;
        fresh = subst (λ (x : Opened). before x.at ≡ false) same (new.fresh k o inside);
        opened = subst (λ (x : Opened). is_open x.at ≡ true) same (new.added k o inside);
        name = subst (λ (x : Opened). (now.place x.at).name ≡ file_name x.file) same (h.names k o inside);
        end = (carried k o tx.0 at tx.1).rest;
      })

  -- ---- the sink

  -- where a queue receives nothing, nothing came from it
  none_came : (taken : List TakenItem) → ((q : ℕ) → items_from q taken ≡ []) → taken ≡ []
  none_came [] none = refl
  none_came (t ∷ ts) none = absurd (no_item t ts (none t.queue))

  none_held : length s.marks.queues ≡ 0 → AreAlike s.marks.queues queues → s.rows.rows ≡ []
  none_held e alike =
      let count = alike.count in
      let lists = alike.lists in
      let no_lists : length queues.received ≡ 0 = omega (arith, e, count, lists) in
      let taken = none_came h.taken (λ q. sym (h.received q) ∙ past queues.received q no_lists) in
      no_rows h.printed s.rows.rows (subst (λ (t : List TakenItem). IsPermutation (rows_of (items_in t)) (h.printed ++ s.rows.rows)) taken h.drained.rows)

  held_none : (n : ℕ) → length s.marks.queues ≡ n → AreAlike s.marks.queues queues → AllDone s.marks.queues → s.rows.rows ≡ []
  held_none zero e alike done = none_held e alike
  held_none (suc n) e alike done = h.drained.ended (omega (arith, e)) done

  queues_done : AreAlike s.marks.queues queues → All (λ (d : Bool). d ≡ true) queues.done → AllDone s.marks.queues
  queues_done alike all = λ k d lt.
      let e = length-map s.marks.queues (λ (queue : Queue). queue.done) in
      let done = ap (λ (l : List Bool). length l) alike.done in
      let here = all k d.done (omega (arith, e, done, lt)) in
      sym (get_or_from_slice_get (map (λ (queue : Queue). queue.done) s.marks.queues) k (get_or s.marks.queues k d).done d.done (map_at (λ (queue : Queue). queue.done) s.marks.queues k (get_or s.marks.queues k d) (slice_get-get_or s.marks.queues k d lt)))
      ∙ ap (λ (l : List Bool). get_or l k d.done) alike.done ∙ here

  pub all_printed : AreAlike s.marks.queues queues → All (λ (d : Bool). d ≡ true) queues.done → IsPermutation (rows_of (items_in h.taken)) h.printed
  all_printed alike all =
      let none = held_none (length s.marks.queues) refl alike (queues_done alike all) in
      subst (IsPermutation (rows_of (items_in h.taken))) (ap (λ l. h.printed ++ l) none ∙ append-nil h.printed) h.drained.rows

  -- ---- all

  stays_open : (before is_open : ℕ → Bool) → AreNew before is_open opened → (n : ℕ) (b : Bool) → is_open n ≡ b → before n ≡ true → is_open n ≡ true
  stays_open before is_open new n true e was = e
  stays_open before is_open new n false e was = let closed = new.kept n e in cc

  not_opened : (before is_open : ℕ → Bool) → AreNew before is_open opened → (n : ℕ) → before n ≡ true → All (λ (o : Opened). o.at ≢ n) opened
  not_opened before is_open new n was = λ k d lt same. let fresh = new.fresh k d lt in let e : before n ≡ false = ap before (sym same) ∙ fresh in cc

  pub has_run : (before is_open : ℕ → Bool) → AreNew before is_open opened → AreAlike s.marks.queues queues → All (λ (d : Bool). d ≡ true) queues.done → Calling (HasRun c windows before is_open) start now
  has_run before is_open new alike done = record {
    calls = openings ++ h.calls;
    trace = h.trace;
    did = record {
      order = in_order c opened start are h.calls h.reads;
      good = all_good;
      read = all_read before is_open new;
      printed = record { came = items_in h.taken; printed = h.printed; each = all_printed alike done; rows = h.rows; notes = h.notes };
      kept = h.content;
      opened = λ n was. stays_open before is_open new n (is_open n) refl was;
      places = λ n was. h.others n (not_opened before is_open new n was);
    };
  }

  numbered_place : (p : ℕ × DataFile) → slice_get (numbered c) p.0 ≡ Some p → (o : Opened) × (slice_get opened p.0 ≡ Some o) × (pair_of o ≡ p)
  numbered_place p at =
      let e = length-map opened pair_of in
      let long = ap (λ (l : List (ℕ × DataFile)). length l) are.pairs in
      let inside = slice_get_within (numbered c) p.0 p at in
      let o = there_is opened p.0 (omega (arith, e, long, inside)) in
      let here : slice_get (numbered c) p.0 ≡ Some (pair_of o.0) = ap (λ (l : List (ℕ × DataFile)). slice_get l p.0) (sym are.pairs) ∙ map_at pair_of opened p.0 o.0 o.1 in
      (o.0, o.1, same_Some (pair_of o.0) p (sym here ∙ at))

  sent_is : (o : Opened) (p : ℕ × DataFile) (tx : TxView Item) (content : List ℕ) → IsCarried c start now o tx → pair_of o ≡ p → start.content (file_name p.1) ≡ Some content → tx.sent ≡ file_items c p content ++ item.Done ∷ []
  sent_is o p tx content is e there =
      let name : file_name o.file ≡ file_name p.1 = ap (λ (q : ℕ × DataFile). file_name q.1) e in
      let same : is.content ≡ content = same_Some is.content content (sym is.is ∙ ap start.content name ∙ there) in
      is.sent ∙ ap (λ (q : ℕ × DataFile). file_items c q is.content ++ item.Done ∷ []) e ∙ ap (λ (x : List ℕ). file_items c p x ++ item.Done ∷ []) same

pub has_carried : (whole : Whole) (c : Checks) (windows : List Window) (opened : List Opened) (start now : Told) (job : Job) (feeds : List Feed) (s : View) → AreOpen c opened start
    → HasCome c windows opened start now (map tx_view job.feeds.items) (conveyor.view job.sink) feeds s → All IsOver feeds → IsReady job → AreAlike s.marks.queues (conveyor.view job.sink) → All (λ (d : Bool). d ≡ true) (conveyor.view job.sink).done
    → HasCarried c windows job start now
has_carried whole c windows opened start now job feeds s are h over ready alike done = record {
  ready = ready;
  feeds = sym (length-map job.feeds.items tx_view) ∙ h.fed.rings ∙ sym (length-map opened pair_of) ∙ ap (λ (l : List (ℕ × DataFile)). length l) are.pairs ∙ length_numbered 0 c.files;
  sent = λ p tx content at_p at_tx there.
      let o = numbered_place whole c windows opened start now (map tx_view job.feeds.items) (conveyor.view job.sink) feeds s are h over p at_p in
      sent_is whole c windows opened start now (map tx_view job.feeds.items) (conveyor.view job.sink) feeds s are h over o.0 p tx content
      (carried whole c windows opened start now (map tx_view job.feeds.items) (conveyor.view job.sink) feeds s are h over p.0 o.0 tx o.1 at_tx) o.2 there;
  came = h.taken;
  received = h.received;
  done = done;
  printed = h.printed;
  each = all_printed whole c windows opened start now (map tx_view job.feeds.items) (conveyor.view job.sink) feeds s are h over alike done;
  rows = h.rows;
  notes = h.notes;
}
