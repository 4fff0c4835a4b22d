-- How a run stops.
use Rattle.std.proofs.Common.{arith, ◌≡◌, ◌∙◌, ◌+◌, ◌<◌, ◌++◌, ℕ, zero, suc, List, [], ◌∷◌, Option, None, Some, map, length, ap, refl, sym, subst, append_assoc}
use Rattle.std.specs.Prelude.{slice_get, IsSome, IsSomeAnd, option_map, All}
use Rattle.std.specs.List.{Contains, enumerate_from}
use Rattle.std.proofs.lemmas.List.{length-map}
use Rattle.std.proofs.lemmas.List.Elements.{All-nil, All-cons, All-append}
use Rattle.std.proofs.lemmas.Option.{slice_get_within, slice_get-get_or, slice_get-map, get_or_from_slice_get, same_Some}
use Rattle.jet_conveyor.specs.Conveyor as conveyor
use Rattle.jet_feed.specs.Fed.{IsFirstBad}
use Rattle.jet_feed.specs.declared.feed.Feed.{Feed}
use Rattle.jet_file.specs.Outside.{CallMade, Told, Tried, Missed, Opening, Reading, Writing}
use Rattle.jet_file.specs.declared.outside.Out.TheVariants as out
use Rattle.jet_flow.specs.DataFiles.{DataFile, file_name}
use Rattle.jet_items.specs.declared.item.Item.{Item}
use Rattle.jet_items.specs.Rows.{Window}
use Rattle.jet_lines.specs.declared.fault.LineFault.{LineFault}
use Rattle.jet_ring.specs.Ring.{TxView}
use Rattle.jet_sink.specs.View.{View}
use Rattle.jet_worker.specs.Calls.{Calling, IsCallOf, OpensInOrder, ReadsOrWrites, opened_by, opening_call, part_place}
use Rattle.jet_worker.specs.CheckText.{Checks, first_bad}
use Rattle.jet_worker.specs.Checked.{AreThere, names_of, numbered}
use Rattle.jet_worker.specs.Opening.{Opened, opening_of, pair_of}
use Rattle.jet_worker.specs.Stopping.{IsCallIn, IsWriting, LastIs}
use Rattle.jet_worker.specs.declared.stop.Call.{Call}
use Rattle.jet_worker.specs.declared.stop.Call.TheVariants as call
use Rattle.jet_worker.specs.declared.stop.Spot.{Spot}
use Rattle.jet_worker.specs.declared.stop.Spot.TheVariants.{Job, Part, Rows, Notes}
use Rattle.jet_worker.specs.declared.stop.Stop.{Stop}
use Rattle.jet_worker.specs.declared.stop.Stop.TheVariants.{BadLine, Outside, NoMemory}
use Rattle.jet_coordinator.specs.Feeds.{IsBadAmong}
use Rattle.jet_coordinator.specs.Runs.{HasBegunPrinting, RunStops, WhyStopped}
use Rattle.jet_coordinator.specs.Progress.{AreOpen, HasCome}

-- ---- the openings

pub opens_all : (ops : List (List ℕ × ℕ)) (calls : List CallMade) → All ReadsOrWrites calls → OpensInOrder (map (λ (o : List ℕ × ℕ). o.0) ops) (map opening_call ops ++ calls)
opens_all [] calls all = all
opens_all (o ∷ ops) calls all = (refl, opens_all ops calls all)

names_open : (opened : List Opened) → map (λ (o : List ℕ × ℕ). o.0) (map opening_of opened) ≡ map (λ (p : ℕ × DataFile). file_name p.1) (map pair_of opened)
names_open [] = refl
names_open (o ∷ os) = ap (λ l. file_name o.file ∷ l) (names_open os)

names_numbered : (n : ℕ) (fs : List DataFile) → map (λ (p : ℕ × DataFile). file_name p.1) (enumerate_from n fs) ≡ map file_name fs
names_numbered n [] = refl
names_numbered n (f ∷ fs) = ap (λ l. file_name f ∷ l) (names_numbered (n + 1) fs)

numbered_at : (n k : ℕ) (fs : List DataFile) (p : ℕ × DataFile) → slice_get (enumerate_from n fs) k ≡ Some p → (p.0 ≡ n + k) × (slice_get fs k ≡ Some p.1)
numbered_at n k [] p at = cc
numbered_at n zero (f ∷ fs) p at = let e : (n, f) ≡ p = same_Some (n, f) p at in (sym (ap (λ (x : ℕ × DataFile). x.0) e) ∙ omega arith, ap (λ (x : ℕ × DataFile). Some x.1) e)
numbered_at n (suc k) (f ∷ fs) p at = let r = numbered_at (n + 1) k fs p at in (omega (arith, r.0), r.1)

at_front : {X : Type 0} (xs ys : List X) (k : ℕ) (x : X) → slice_get xs k ≡ Some x → slice_get (xs ++ ys) k ≡ Some x
at_front [] ys k x at = cc
at_front (z ∷ zs) ys zero x at = at
at_front (z ∷ zs) ys (suc k) x at = at_front zs ys k x at

opened_first : (ops : List (List ℕ × ℕ)) (calls : List CallMade) → opened_by (map opening_call ops ++ calls) ≡ map (λ (o : List ℕ × ℕ). o.1) ops ++ opened_by calls
opened_first [] calls = refl
opened_first (o ∷ ops) calls = ap (λ l. o.1 ∷ l) (opened_first ops calls)

numbers_of : (opened : List Opened) → map (λ (o : List ℕ × ℕ). o.1) (map opening_of opened) ≡ map (λ (o : Opened). o.at) opened
numbers_of [] = refl
numbers_of (o ∷ os) = ap (λ l. o.at ∷ l) (numbers_of os)

pub contains_at : {X : Type 0} (xs : List X) (x : X) → Contains xs x → (k : ℕ) × (slice_get xs k ≡ Some x)
contains_at xs x c = (c.0, slice_get-get_or xs c.0 x c.1 ∙ ap Some c.2)

pub length_numbered : (n : ℕ) (fs : List DataFile) → length (enumerate_from n fs) ≡ length fs
length_numbered n [] = refl
length_numbered n (f ∷ fs) = ap suc (length_numbered (n + 1) fs)

pub there_is : {X : Type 0} (xs : List X) (n : ℕ) → n < length xs → (x : X) × (slice_get xs n ≡ Some x)
there_is [] n lt = absurd (omega (arith, lt))
there_is (x ∷ xs) zero lt = (x, refl)
there_is (x ∷ xs) (suc n) lt = there_is xs n (omega (arith, lt))

module _ (c : Checks) (opened : List Opened) (start : Told) (are : AreOpen c opened start) where
  -- the file of a number stands in the place of that number
  pub file_at : (k : ℕ) (o : Opened) → slice_get opened k ≡ Some o → (o.part ≡ k) × (slice_get c.files k ≡ Some o.file)
  file_at k o at =
      let here : slice_get (numbered c) k ≡ Some (pair_of o) = ap (λ (l : List (ℕ × DataFile)). slice_get l k) (sym are.pairs) ∙ slice_get-map pair_of opened k ∙ ap (option_map pair_of) at in
      let r = numbered_at 0 k c.files (pair_of o) here in
      (r.0 ∙ omega arith, r.1)

  -- and was opened there
  pub number_at : (k : ℕ) (o : Opened) (calls : List CallMade) → slice_get opened k ≡ Some o → slice_get (opened_by (map opening_call (map opening_of opened) ++ calls)) k ≡ Some o.at
  number_at k o calls at =
      let first = opened_first (map opening_of opened) calls ∙ ap (λ l. l ++ opened_by calls) (numbers_of opened) in
      ap (λ (l : List ℕ). slice_get l k) first ∙ at_front (map (λ (o : Opened). o.at) opened) (opened_by calls) k o.at (slice_get-map (λ (o : Opened). o.at) opened k ∙ ap (option_map (λ (o : Opened). o.at)) at)

  pub in_order : (calls : List CallMade) → All ReadsOrWrites calls → OpensInOrder (names_of c) (map opening_call (map opening_of opened) ++ calls)
  in_order calls all =
      let names = names_open opened ∙ ap (map (λ (p : ℕ × DataFile). file_name p.1)) are.pairs ∙ names_numbered 0 c.files in
      subst (λ (l : List (List ℕ)). OpensInOrder l (map opening_call (map opening_of opened) ++ calls)) names (opens_all (map opening_of opened) calls all)

  -- each file is there
  pub all_there : AreThere c start
  all_there = λ k d lt.
      let long = sym (length-map opened pair_of) ∙ ap length are.pairs ∙ length_numbered 0 c.files in
      let o = there_is opened k (omega (arith, long, lt)) in
      let file = get_or_from_slice_get c.files k o.0.file d (file_at k o.0 o.1).1 in
      let there = subst (λ (x : Opened). IsSome (start.content (file_name x.file))) (get_or_from_slice_get opened k o.0 o.0 o.1) (are.there k o.0 (slice_get_within opened k o.0 o.1)) in
      subst (λ (f : DataFile). IsSome (start.content (file_name f))) (sym file) there

  -- ---- why it stops

  pub data Such (what : Call) (spot : Spot) (tried : Tried) : Type 0 where
    reading : (o : Opened) → Contains opened o → IsCallIn (Part o.part) o.at what spot tried → Such what spot tried
    writing : IsWriting what spot tried → Such what spot tried

  missed_write : (what : Call) (spot : Spot) (tried : Tried) → IsWriting what spot tried → ReadsOrWrites (Missed tried)
  missed_write call.Write Rows (Opening name) is = elim is [ ]
  missed_write call.Write Notes (Opening name) is = elim is [ ]
  missed_write call.Write Job (Opening name) is = elim is [ ]
  missed_write call.Write (Part p) (Opening name) is = elim is [ ]
  missed_write call.Read spot (Opening name) is = elim is [ ]
  missed_write call.Open spot (Opening name) is = elim is [ ]
  missed_write what spot (Reading file) is = tt
  missed_write what spot (Writing to) is = tt

  missed_read : (at : Spot) (file : ℕ) (what : Call) (spot : Spot) (tried : Tried) → IsCallIn at file what spot tried → ReadsOrWrites (Missed tried)
  missed_read at file what spot (Reading other) is = tt
  missed_read at file what spot (Writing to) is = tt
  missed_read at file call.Read spot (Opening name) is = elim is [ ]
  missed_read at file call.Open spot (Opening name) is = elim is [ ]
  missed_read at file call.Write spot (Opening name) is = missed_write call.Write spot (Opening name) is

  missed : (what : Call) (spot : Spot) (tried : Tried) → Such what spot tried → ReadsOrWrites (Missed tried)
  missed what spot tried (reading o has is) = missed_read (Part o.part) o.at what spot tried is
  missed what spot tried (writing is) = missed_write what spot tried is

  last_is : (stop : Stop) (last : List CallMade) → LastIs Such stop last → All ReadsOrWrites last
  last_is (BadLine part line why) last is = subst (All ReadsOrWrites) (sym is) (All-nil ReadsOrWrites)
  last_is (Outside what spot) last is = subst (All ReadsOrWrites) (sym is.1) (All-cons ReadsOrWrites (Missed is.0) [] (missed what spot is.0 is.2) (All-nil ReadsOrWrites))
  last_is NoMemory last is = subst (All ReadsOrWrites) (sym is) (All-nil ReadsOrWrites)

  of_write : (before : List CallMade) (what : Call) (spot : Spot) (tried : Tried) → IsWriting what spot tried → IsCallOf part_place before what spot tried
  of_write before call.Write Rows (Writing out.Rows) is = tt
  of_write before call.Write Rows (Writing out.Notes) is = elim is [ ]
  of_write before call.Write Rows (Opening name) is = elim is [ ]
  of_write before call.Write Rows (Reading file) is = elim is [ ]
  of_write before call.Write Notes (Writing out.Notes) is = tt
  of_write before call.Write Notes (Writing out.Rows) is = elim is [ ]
  of_write before call.Write Notes (Opening name) is = elim is [ ]
  of_write before call.Write Notes (Reading file) is = elim is [ ]
  of_write before call.Write Job tried is = elim is [ ]
  of_write before call.Write (Part p) tried is = elim is [ ]
  of_write before call.Read spot tried is = elim is [ ]
  of_write before call.Open spot tried is = elim is [ ]

  of_read : (calls : List CallMade) (o : Opened) (what : Call) (spot : Spot) (tried : Tried) → Contains opened o → IsCallIn (Part o.part) o.at what spot tried
      → IsCallOf part_place (map opening_call (map opening_of opened) ++ calls) what spot tried
  of_read calls o call.Read spot (Reading other) has is =
      let at = contains_at opened o has in
      let before = map opening_call (map opening_of opened) ++ calls in
      let there : slice_get (opened_by before) o.part ≡ Some other = ap (slice_get (opened_by before)) (file_at at.0 o at.1).0 ∙ number_at at.0 o calls at.1 ∙ ap Some (sym is.1) in
      subst (λ (x : Spot). IsSomeAnd (part_place x) (λ k. slice_get (opened_by before) k ≡ Some other)) (sym is.0) there
  of_read calls o call.Read spot (Opening name) has is = elim is [ ]
  of_read calls o call.Read spot (Writing to) has is = elim is [ ]
  of_read calls o call.Write spot tried has is = of_write (map opening_call (map opening_of opened) ++ calls) call.Write spot tried is
  of_read calls o call.Open spot tried has is = of_write (map opening_call (map opening_of opened) ++ calls) call.Open spot tried is

  of_such : (calls : List CallMade) (what : Call) (spot : Spot) (tried : Tried) → Such what spot tried → IsCallOf part_place (map opening_call (map opening_of opened) ++ calls) what spot tried
  of_such calls what spot tried (reading o has is) = of_read calls o what spot tried has is
  of_such calls what spot tried (writing is) = of_write (map opening_call (map opening_of opened) ++ calls) what spot tried is

  -- where the stop is for a bad line, it is one of these files
  abbrev pub BadWhere : Stop → Type 0
  BadWhere (BadLine part line why) = IsBadAmong c opened (Some start) (BadLine part line why)
  BadWhere (Outside what spot) = Unit {0}
  BadWhere NoMemory = Unit {0}

  first_bad_at : (content : Option (List ℕ)) (o : Opened) (part line : ℕ) (why : LineFault) → IsSome content → part ≡ o.part → IsFirstBad c (pair_of o) content line why → IsSomeAnd content (λ x. first_bad c (part, o.file) x ≡ Some (line, why))
  first_bad_at None o part line why some e bad = cc
  first_bad_at (Some x) o part line why some e bad = ap (λ (p : ℕ). first_bad c (p, o.file) x) e ∙ bad

  why_is : (stop : Stop) (calls last : List CallMade) → LastIs Such stop last → BadWhere stop
      → WhyStopped c stop (map opening_call (map opening_of opened) ++ (calls ++ last)) start
  why_is (BadLine part line why) calls last is bad =
      let at = contains_at opened bad.0 bad.1 in
      let file = file_at at.0 bad.0 at.1 in
      let e : part ≡ bad.0.part = bad.2.0 in
      let there = subst (λ (x : Opened). IsSome (start.content (file_name x.file))) (get_or_from_slice_get opened at.0 bad.0 bad.0 at.1) (are.there at.0 bad.0 (slice_get_within opened at.0 bad.0 at.1)) in
      record {
        file = bad.0.file;
        is = ap (slice_get c.files) (e ∙ file.0) ∙ file.1;
        bad = first_bad_at (start.content (file_name bad.0.file)) bad.0 part line why there e bad.2.1;
        there = all_there;
      }
  why_is (Outside what spot) calls last is bad =
      record {
        before = map opening_call (map opening_of opened) ++ calls;
        tried = is.0;
        calls_are = ap (λ l. map opening_call (map opening_of opened) ++ (calls ++ l)) is.1 ∙ sym (append_assoc (map opening_call (map opening_of opened)) calls (Missed is.0 ∷ []));
        is = of_such calls what spot is.0 is.2;
      }
  why_is NoMemory calls last is bad = tt

  -- A run that came so far stops: what it did since is told, and what it has written then.
  pub stops : (windows : List Window) (stop : Stop) (now new : Told) (txs : List (TxView Item)) (queues : conveyor.View) (feeds : List Feed) (s : View) (more last : List CallMade)
      → HasCome c windows opened start now txs queues feeds s → new.trace ≡ (now.trace ++ more) ++ last → All ReadsOrWrites more → LastIs Such stop last → BadWhere stop
      → new.content ≡ now.content → HasBegunPrinting windows start new → Calling (RunStops c windows stop) start new
  stops windows stop now new txs queues feeds s more last h trace reads is bad content begun =
      let openings = map opening_call (map opening_of opened) in
      let all : All ReadsOrWrites ((h.calls ++ more) ++ last) =
      All-append ReadsOrWrites (h.calls ++ more) last (All-append ReadsOrWrites h.calls more h.reads reads) (last_is stop last is) in
      record {
        calls = openings ++ ((h.calls ++ more) ++ last);
        trace = trace ∙ ap (λ l. (l ++ more) ++ last) h.trace
            ∙ ap (λ l. l ++ last) (append_assoc start.trace (openings ++ h.calls) more ∙ ap (λ l. start.trace ++ l) (append_assoc openings h.calls more))
            ∙ append_assoc start.trace (openings ++ (h.calls ++ more)) last ∙ ap (λ l. start.trace ++ l) (append_assoc openings (h.calls ++ more) last);
        did = record {
          order = in_order ((h.calls ++ more) ++ last) all;
          why = why_is stop (h.calls ++ more) last is bad;
          begun = begun;
          kept = content ∙ h.content;
        };
      }
