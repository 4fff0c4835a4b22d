-- Stops of a check among its files.
use Rattle.std.proofs.Common.{◌≡◌, ℕ, ◌+◌, List, [], ◌∷◌, ◌++◌, map, length, take, Some, None, All, refl, sym, ap, ◌∙◌, subst, arith, inl, inr, append-nil, append_assoc, length-append, length-take-le}
use Rattle.std.specs.Prelude.{◌⊎◌, IsSome, flat_map, slice_get, sum}
use Rattle.std.specs.List.{AllZip}
use Rattle.std.proofs.lemmas.List.{length-map, map-append}
use Rattle.std.proofs.lemmas.List.FromFn.{length-enumerate_from}
use Rattle.std.proofs.lemmas.Option.{slice_get_within}
use Rattle.std.proofs.lemmas.List.Elements.{All-append, All-nil, All-cons, All-head, All-map}
use Rattle.jet_lines.specs.declared.fault.LineFault.{LineFault}
use Rattle.jet_file.specs.Outside.{CallMade, Told, rest_of}
use Rattle.jet_file.specs.declared.outside.Out.TheVariants as out
use Rattle.jet_flow.specs.DataFiles.{DataFile, file_name}
use Rattle.jet_worker.specs.Calls.{Calling, EndsFailed, ReadsInOrder, Turn, opened_by, opening_call, part_place, turn_calls}
use Rattle.jet_worker.specs.CheckText.{Checks, check_line, first_bad}
use Rattle.jet_worker.specs.Checked.{AreWanted, BeginsTurn, CheckStops, HaveTurns, IsBadLine, IsBegun, IsGood, WhyStopped, check_lines, content_of, names_of, numbered}
use Rattle.jet_worker.specs.inner.FileChecks.{IsFrontOf, StopsChecking}
use Rattle.jet_worker.specs.Opening.{IsUnread, Opened, StopsOpening, opening_of, pair_of}
use Rattle.jet_worker.specs.Stopping.{IsCallIn, IsNoBadLine, LastIs}
use Rattle.jet_worker.specs.declared.stop.Call.{Call}
use Rattle.jet_worker.specs.declared.stop.Spot.{Spot}
use Rattle.jet_worker.specs.declared.stop.Spot.TheVariants.{Part}
use Rattle.jet_worker.specs.declared.stop.Stop.{Stop}
use Rattle.jet_worker.specs.declared.stop.Stop.TheVariants.{BadLine, Outside, NoMemory}
use Rattle.jet_worker.proofs.CallLaws.{HasPieces, call_named, ends_last, no_calls, none_in, none_last, opened_by_both, turns_more}
use Rattle.jet_worker.proofs.DoneLemmas.{HasDone, TakesTurn, files_more, good_if, lines_more, rest_is}
use Rattle.jet_worker.proofs.OrderLemmas.{at_seam, opening_named, opening_order, turns_order}

-- the file stands behind these among all
pub record IsAt (c : Checks) (done later : List Opened) (o : Opened) : Type 0 where
  pub is : slice_get c.files o.part ≡ Some o.file
  pub all : map pair_of (done ++ o ∷ later) ≡ numbered c
  pub before : take o.part (numbered c) ≡ map pair_of done
  pub through : take (o.part + 1) (numbered c) ≡ map pair_of (done ++ o ∷ [])

-- ---- while files are opened

none_begun : (c : Checks) (stop : Stop) (a b : Told) → StopsOpening c stop a b → IsBegun c a b
none_begun c stop a b h = record {
  n = 0;
  front = [];
  rest = [];
  there = inl refl;
  good = All-nil (IsGood c a);
  parts = refl;
  rows = ap (λ w. w out.Rows) h.written ∙ sym (append-nil (a.written out.Rows));
  notes = ap (λ w. w out.Notes) h.written;
  kept = h.content;
}

-- no file is read yet
pub nothing_begun : (c : Checks) (a : Told) → IsBegun c a a
nothing_begun c a = record {
  n = 0;
  front = [];
  rest = [];
  there = inl refl;
  good = All-nil (IsGood c a);
  parts = refl;
  rows = sym (append-nil (a.written out.Rows));
  notes = refl;
  kept = refl;
}

-- nothing was done
pub nothing_done : (c : Checks) (a : Told) → Calling (CheckStops c NoMemory) a a
unfolding no_calls
nothing_done c a = record { calls = []; trace = sym (append-nil a.trace); did = record { order = no_calls (names_of c); turns = tt; why = nothing_begun c a } }

opening_why : (c : Checks) (stop : Stop) (a b : Told) → IsNoBadLine stop → (h : StopsOpening c stop a b) → WhyStopped c stop (map opening_call (map opening_of h.opened) ++ h.last) [] a b
opening_why c (BadLine part line why) a b never h = absurd never
opening_why c (Outside call spot) a b never h = (
  record {
    before = map opening_call (map opening_of h.opened);
    tried = h.fails.0;
    calls_are = ap (λ (l : List CallMade). map opening_call (map opening_of h.opened) ++ l) h.fails.1;
    is = opening_named c h.opened call spot h.fails.0 h.fails.2;
  },
  none_begun c (Outside call spot) a b h,
)
opening_why c NoMemory a b never h = none_begun c NoMemory a b h

pub opening_stops : (c : Checks) (stop : Stop) (a b : Told) → IsNoBadLine stop → StopsOpening c stop a b → Calling (CheckStops c stop) a b
unfolding opening_order
opening_stops c stop a b never h = record {
  calls = map opening_call (map opening_of h.opened) ++ h.last;
  trace = h.trace ∙ append_assoc a.trace (map opening_call (map opening_of h.opened)) h.last;
  did = record { order = opening_order c h.opened stop h.last h.pairs h.fails; turns = tt; why = opening_why c stop a b never h };
}

-- ---- in a file

-- whole turns, and then one that was begun
turns_then : (c : Checks) (told : Told) (files : List (ℕ × DataFile)) (p : ℕ × DataFile) (later : List (ℕ × DataFile)) (turns : List Turn) (t : Turn) → AllZip (TakesTurn c told) files turns → BeginsTurn c p (content_of told p.1) t
    → HaveTurns c told (files ++ p ∷ later) (turns ++ t ∷ [])
turns_then c told [] p later [] t h begins = begins
turns_then c told [] p later (u ∷ turns) t h begins = absurd h
turns_then c told (q ∷ files) p later [] t h begins = absurd h
turns_then c told (q ∷ files) p later (u ∷ []) t h begins = (h.0, turns_then c told files p later [] t h.1 begins)
turns_then c told (q ∷ files) p later (u ∷ v ∷ turns) t h begins = (h.0, turns_then c told files p later (v ∷ turns) t h.1 begins)

module _ (c : Checks) (done later : List Opened) (o : Opened) (stop : Stop) (a b d : Told) (at : IsAt c done later o) (h : HasDone c done (o ∷ later) a b) (s : StopsChecking c (pair_of o) o.at stop b d) where
  unread : IsUnread b o
  unread = All-head (IsUnread b) o later h.unread

  there : IsSome (a.content (file_name o.file))
  there = All-head (λ (x : Opened). IsSome (a.content (file_name x.file))) o later h.there

  left : rest_of b o.at ≡ content_of a o.file
  left = rest_is a b o unread h.content

  good_done : All (IsGood c a) (map pair_of done)
  good_done = All-map (IsGood c a) pair_of done h.good

  rows_then : d.written out.Rows ≡ a.written out.Rows ++ (check_lines c a (map pair_of done) ++ s.front)
  rows_then = s.rows ∙ ap (λ (l : List ℕ). l ++ s.front) h.rows ∙ append_assoc (a.written out.Rows) (check_lines c a (map pair_of done)) s.front

  -- nothing of this file was written
  rows_same : s.front ≡ [] → d.written out.Rows ≡ a.written out.Rows ++ check_lines c a (take o.part (numbered c))
  rows_same none = rows_then ∙ ap (λ (l : List ℕ). a.written out.Rows ++ (check_lines c a (map pair_of done) ++ l)) none
      ∙ ap (λ (l : List ℕ). a.written out.Rows ++ l) (append-nil (check_lines c a (map pair_of done))) ∙ ap (λ (ps : List (ℕ × DataFile)). a.written out.Rows ++ check_lines c a ps) (sym at.before)

  begun_before : s.front ≡ [] → IsBegun c a d
  begun_before none = record {
    n = o.part;
    front = check_lines c a (take o.part (numbered c));
    rest = [];
    there = inr h.all;
    good = subst (All (IsGood c a)) (sym at.before) good_done;
    parts = sym (append-nil (check_lines c a (take o.part (numbered c))));
    rows = rows_same none;
    notes = s.notes ∙ h.notes;
    kept = s.content ∙ h.content;
  }

  begun_within : IsFrontOf c (pair_of o) (rest_of b o.at) s.front → IsBegun c a d
  begun_within f = record {
    n = o.part + 1;
    front = check_lines c a (map pair_of done) ++ s.front;
    rest = f.rest;
    there = inr h.all;
    good = subst (All (IsGood c a)) (sym at.through) (subst (All (IsGood c a)) (sym (map-append pair_of done (o ∷ []))) (All-append (IsGood c a) (map pair_of done) (pair_of o ∷ []) good_done
        (All-cons (IsGood c a) (pair_of o) [] (good_if (a.content (file_name o.file)) (λ (content : List ℕ). first_bad c (pair_of o) content ≡ None) there (subst (λ (l : List ℕ). first_bad c (pair_of o) l ≡ None) left f.good)) (All-nil (IsGood c a)))));
    parts = ap (check_lines c a) at.through ∙ lines_more c a done o ∙ ap (λ (l : List ℕ). check_lines c a (map pair_of done) ++ check_line c (pair_of o) l) (sym left)
        ∙ ap (λ (l : List ℕ). check_lines c a (map pair_of done) ++ l) f.parts ∙ sym (append_assoc (check_lines c a (map pair_of done)) s.front f.rest);
    rows = rows_then;
    notes = s.notes ∙ h.notes;
    kept = s.content ∙ h.content;
  }

  begun : IsBegun c a d
  begun = begun_if s.whole
    where
      begun_if : (s.front ≡ []) ⊎ (IsNoBadLine stop × IsFrontOf c (pair_of o) (rest_of b o.at) s.front) → IsBegun c a d
      begun_if (inl none) = begun_before none
      begun_if (inr some) = begun_within some.1

  turn : Turn
  turn = record { file = o.at; counts = s.counts; lengths = s.lengths }

  turns : List Turn
  turns = h.turns ++ turn ∷ []

  before : List CallMade
  before = map opening_call (map opening_of (done ++ o ∷ later)) ++ flat_map turn_calls turns

  trace : d.trace ≡ a.trace ++ (before ++ s.last)
  unfolding before turns turn
  trace =
      let openings : List CallMade = map opening_call (map opening_of (done ++ o ∷ later)) in
      s.trace ∙ ap (λ (l : List CallMade). l ++ turn_calls turn ++ s.last) h.trace
      ∙ ap (λ (l : List CallMade). l ++ s.last)
      (append_assoc a.trace (openings ++ flat_map turn_calls h.turns) (turn_calls turn)
      ∙ ap (λ (l : List CallMade). a.trace ++ l) (append_assoc openings (flat_map turn_calls h.turns) (turn_calls turn) ∙ ap (λ (l : List CallMade). openings ++ l) (sym (turns_more h.turns turn))))
      ∙ append_assoc a.trace before s.last

  -- the files whose turn has not come stand behind those that had theirs
  waits : map (λ o. o.1) (map opening_of (done ++ o ∷ later)) ≡ map (λ (t : Turn). t.file) turns ++ map (λ o. o.1) (map opening_of later)
  unfolding turns turn
  waits =
      ap (λ (l : List Opened). map (λ o. o.1) (map opening_of l)) (sym (append_assoc done (o ∷ []) later))
      ∙ ap (map (λ o. o.1)) (map-append opening_of (done ++ o ∷ []) later) ∙ map-append (λ (x : List ℕ × ℕ). x.1) (map opening_of (done ++ o ∷ [])) (map opening_of later)
      ∙ ap (λ (l : List ℕ). l ++ map (λ o. o.1) (map opening_of later)) (sym (files_more done o h.turns turn h.files refl))

  pieces : All HasPieces turns
  unfolding turns turn
  pieces = All-append HasPieces h.turns (turn ∷ []) h.pieces (All-cons HasPieces turn [] s.pieces (All-nil HasPieces))

  -- the turns before were whole, and this one was begun
  have_turns : HaveTurns c a (numbered c) turns
  unfolding turns turn
  have_turns =
      subst (λ (ps : List (ℕ × DataFile)). HaveTurns c a ps (h.turns ++ turn ∷ [])) (sym (map-append pair_of done (o ∷ later)) ∙ at.all)
      (turns_then c a (map pair_of done) (pair_of o) (map pair_of later) h.turns turn h.each
      (record { wanted = subst (λ (l : List ℕ). AreWanted c (pair_of o) l s.counts) left s.wanted; order = begins s.order }))
    where
      begins : (s.lengths ≡ []) ⊎ (sum s.counts ≡ length (rest_of b o.at)) → (s.lengths ≡ []) ⊎ (sum s.counts ≡ length (content_of a o.file))
      begins (inl none) = inl none
      begins (inr all) = inr (all ∙ ap length left)

  order : ReadsInOrder (names_of c) (before ++ s.last)
  unfolding before
  order = turns_order c (done ++ o ∷ later) turns (map (λ o. o.1) (map opening_of later)) s.last at.all waits pieces
      (none_last (IsCallIn (Part o.part) o.at) stop s.last (none_in (Part o.part) o.at) s.fails) (ends_last (IsCallIn (Part o.part) o.at) stop s.last s.fails)

  -- so many files are before it
  count : length done ≡ o.part
  count =
      let within = slice_get_within c.files o.part o.file at.is in
      let all = length-enumerate_from 0 c.files in
      sym (length-map done pair_of) ∙ ap length (sym at.before) ∙ length-take-le o.part (numbered c) (omega (arith, within, all))

  turns_count : length turns ≡ o.part + 1
  unfolding turns turn
  turns_count =
      let files : length h.turns ≡ length done = sym (length-map h.turns (λ (t : Turn). t.file)) ∙ ap length h.files ∙ length-map (map opening_of done) (λ o. o.1) ∙ length-map done opening_of in
      length-append h.turns (turn ∷ []) ∙ ap (λ (n : ℕ). n + 1) (files ∙ count)

  opening : slice_get (opened_by before) o.part ≡ Some o.at
  unfolding before
  opening = ap (λ (l : List ℕ). slice_get l o.part) (opened_by_both (map opening_of (done ++ o ∷ later)) turns) ∙ at_seam o.part done later o (sym count)

  failed : (call : Call) (spot : Spot) → stop ≡ Outside call spot → EndsFailed part_place call spot (before ++ s.last)
  failed call spot is =
      let fails : LastIs (IsCallIn (Part o.part) o.at) (Outside call spot) s.last = subst (λ (x : Stop). LastIs (IsCallIn (Part o.part) o.at) x s.last) is s.fails in
      record {
        before = before;
        tried = fails.0;
        calls_are = ap (λ (l : List CallMade). before ++ l) fails.1;
        is = call_named part_place before (Part o.part) o.part o.at call spot fails.0 refl opening fails.2;
      }

  bad_line : (line : ℕ) (why : LineFault) → s.front ≡ [] → first_bad c (pair_of o) (rest_of b o.at) ≡ Some (line, why) → IsBadLine c o.part line why a d
  bad_line line why none bad = record {
    file = o.file;
    is = at.is;
    bad = good_if (a.content (file_name o.file)) (λ (content : List ℕ). first_bad c (pair_of o) content ≡ Some (line, why)) there (subst (λ (l : List ℕ). first_bad c (pair_of o) l ≡ Some (line, why)) left bad);
    there = h.all;
    good = subst (All (IsGood c a)) (sym at.before) good_done;
    rows = rows_same none;
    notes = s.notes ∙ h.notes;
    kept = s.content ∙ h.content;
  }

-- the turns of the order are these
order_turns : (c : Checks) (done later : List Opened) (o : Opened) (stop : Stop) (a b d : Told) (at : IsAt c done later o) (h : HasDone c done (o ∷ later) a b) (s : StopsChecking c (pair_of o) o.at stop b d)
    → HaveTurns c a (numbered c) (order c done later o stop a b d at h s).turns
unfolding order turns_order before
order_turns c done later o stop a b d at h s = have_turns c done later o stop a b d at h s

no_front : (stop : Stop) (front : List ℕ) (F : Type 0) → (IsNoBadLine stop → ⊥) → (front ≡ []) ⊎ (IsNoBadLine stop × F) → front ≡ []
no_front stop front F never (inl none) = none
no_front stop front F never (inr some) = absurd (never some.0)

-- why the check of one file among all stops
file_why : (c : Checks) (done later : List Opened) (o : Opened) (stop : Stop) (a b d : Told) (at : IsAt c done later o) (h : HasDone c done (o ∷ later) a b) (s : StopsChecking c (pair_of o) o.at stop b d)
    → WhyStopped c stop (before c done later o stop a b d at h s ++ s.last) (turns c done later o stop a b d at h s) a d
file_why c done later o (BadLine part line why) a b d at h s =
    let none : s.front ≡ [] = no_front (BadLine part line why) s.front (IsFrontOf c (pair_of o) (rest_of b o.at) s.front) (λ never. never) s.whole in
    let stop : Stop = BadLine part line why in
    (turns_count c done later o stop a b d at h s ∙ ap (λ (p : ℕ). p + 1) (sym s.bad.0), subst (λ (p : ℕ). IsBadLine c p line why a d) (sym s.bad.0) (bad_line c done later o stop a b d at h s line why none s.bad.1))
file_why c done later o (Outside call spot) a b d at h s =
    (failed c done later o (Outside call spot) a b d at h s call spot refl, begun c done later o (Outside call spot) a b d at h s)
file_why c done later o NoMemory a b d at h s = begun c done later o NoMemory a b d at h s

pub file_stops : (c : Checks) (done later : List Opened) (o : Opened) (stop : Stop) (a b d : Told) → IsAt c done later o → HasDone c done (o ∷ later) a b → StopsChecking c (pair_of o) o.at stop b d
    → Calling (CheckStops c stop) a d
unfolding order turns_order before
file_stops c done later o stop a b d at h s = record {
  calls = before c done later o stop a b d at h s ++ s.last;
  trace = trace c done later o stop a b d at h s;
  did = record { order = order c done later o stop a b d at h s; turns = order_turns c done later o stop a b d at h s; why = file_why c done later o stop a b d at h s };
}
