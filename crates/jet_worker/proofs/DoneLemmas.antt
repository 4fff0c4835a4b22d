-- The check of all opened files, one after another.
use Rattle.std.proofs.Common.{◌≡◌, ◌≢◌, ℕ, ◌+◌, ◌<◌, Bool, true, false, List, [], ◌∷◌, ◌++◌, map, length, get_or, Option, Some, None, All, refl, sym, ap, ◌∙◌, subst, inl, arith, append-nil, append_assoc}
use Rattle.std.specs.Prelude.{IsSome, IsSomeAnd, flat_map, slice_get}
use Rattle.std.specs.List.{AllZip}
use Rattle.std.specs.Option.{unwrap_or}
use Rattle.std.proofs.lemmas.Grind.{flat_map-append}
use Rattle.std.proofs.lemmas.List.{map-append}
use Rattle.std.proofs.lemmas.List.Elements.{All-append, All-nil, All-cons, All-head, All-map, All-tail, All-weaker}
use Rattle.jet_file.specs.Outside.{CallMade, Place, Told, rest_from, rest_of}
use Rattle.jet_file.specs.declared.outside.Out.TheVariants as out
use Rattle.jet_flow.specs.DataFiles.{DataFile, file_name}
use Rattle.jet_worker.specs.Calls.{Calling, ReadsOrWrites, Turn, opened_by, opening_call, turn_calls}
use Rattle.jet_worker.specs.CheckText.{Checks, check_line, first_bad}
use Rattle.jet_worker.specs.Checked.{AreThere, AreWanted, IsChecked, IsGood, IsRead, IsTurnOf, check_lines, content_of, numbered}
use Rattle.jet_worker.specs.inner.FileChecks.{HasChecked}
use Rattle.jet_worker.specs.Opening.{AreApart, AreNew, HasOpened, IsUnread, Opened, opening_of, pair_of}
use Rattle.jet_worker.proofs.CallLaws.{HasPieces, opened_by_both, turns_more}
use Rattle.jet_worker.proofs.OpenLemmas.{all_left, all_right, pair_at}
use Rattle.jet_worker.proofs.OrderLemmas.{at_place, turns_order}

-- ---- contents

rest_zero : (o : Option (List ℕ)) → rest_from o 0 ≡ unwrap_or o []
rest_zero None = refl
rest_zero (Some bytes) = refl

-- all of a file is left where nothing is taken of it
pub rest_is : (a b : Told) (o : Opened) → IsUnread b o → b.content ≡ a.content → rest_of b o.at ≡ content_of a o.file
rest_is a b o unread same =
    ap (λ (p : Place). rest_from (b.content p.name) p.taken) unread ∙ ap (λ (content : List ℕ → Option (List ℕ)). rest_from (content (file_name o.file)) 0) same ∙ rest_zero (a.content (file_name o.file))

pub good_if : (o : Option (List ℕ)) (P : List ℕ → Type 0) → IsSome o → P (unwrap_or o []) → IsSomeAnd o P
good_if None P there h = absurd (cc there)
good_if (Some bytes) P there h = h

good_too : (o : Option (List ℕ)) (P Q : List ℕ → Type 0) → IsSomeAnd o P → Q (unwrap_or o []) → IsSomeAnd o Q
good_too None P Q there h = absurd there
good_too (Some bytes) P Q there h = h

place_is : (p : Place) (name : List ℕ) (taken : ℕ) → p.name ≡ name → p.taken ≡ taken → p ≡ record { name = name; taken = taken }
place_is p name taken one two = ap (λ (n : List ℕ). let q : Place = record { name = n; taken = p.taken } in q) one ∙ ap (λ (t : ℕ). let q : Place = record { name = name; taken = t } in q) two

-- ---- what the loop keeps

-- the file was read whole
abbrev pub IsTaken : Told → Told → Opened → Type 0
IsTaken old now o = now.place o.at ≡ record { name = file_name o.file; taken = length (content_of old o.file) }

-- the whole turn of a file
abbrev pub TakesTurn : Checks → Told → ℕ × DataFile → Turn → Type 0
TakesTurn c told p t = IsTurnOf c p (content_of told p.1) t

-- the first files were read and are good, and their lines were written; the later ones are open
pub record HasDone (c : Checks) (done later : List Opened) (old now : Told) : Type 0 where
  pub all : AreThere c old
  pub good : All (λ o. IsGood c old (pair_of o)) done
  pub whole : All (IsTaken old now) done
  pub there : All (λ o. IsSome (old.content (file_name o.file))) later
  pub unread : All (IsUnread now) later
  pub others : (n : ℕ) → All (λ o. o.at ≢ n) done → All (λ o. o.at ≢ n) later → now.place n ≡ old.place n
  pub content : now.content ≡ old.content
  pub rows : now.written out.Rows ≡ old.written out.Rows ++ check_lines c old (map pair_of done)
  pub notes : now.written out.Notes ≡ old.written out.Notes
  pub turns : List Turn
  pub files : map (λ (t : Turn). t.file) turns ≡ map (λ o. o.1) (map opening_of done)
  pub each : AllZip (TakesTurn c old) (map pair_of done) turns
  pub pieces : All HasPieces turns
  pub trace : now.trace ≡ old.trace ++ (map opening_call (map opening_of (done ++ later)) ++ flat_map turn_calls turns)

pub none_done : (c : Checks) (all : List Opened) (a b : Told) → AreThere c a → HasOpened all a b → HasDone c [] all a b
none_done c all a b every h = record {
  all = every;
  good = All-nil (λ (o : Opened). IsGood c a (pair_of o));
  whole = All-nil (IsTaken a b);
  there = h.there;
  unread = h.unread;
  others = λ n none apart. h.others n apart;
  content = h.content;
  rows = ap (λ w. w out.Rows) h.written ∙ sym (append-nil (a.written out.Rows));
  notes = ap (λ w. w out.Notes) h.written;
  turns = [];
  files = refl;
  each = tt;
  pieces = All-nil HasPieces;
  trace = h.trace ∙ ap (λ (l : List CallMade). a.trace ++ l) (sym (append-nil (map opening_call (map opening_of all))));
}

-- ---- one file more

-- the file has another number than those before it and those after it
pub record IsApart (done later : List Opened) (o : Opened) : Type 0 where
  pub before : All (λ x. x.at ≢ o.at) done
  pub after : All (λ x. x.at ≢ o.at) later

pub apart_in : (done later : List Opened) (o : Opened) → AreApart (done ++ o ∷ later) → IsApart done later o
apart_in [] later o h = record { before = All-nil (λ (x : Opened). x.at ≢ o.at); after = h.0 }
apart_in (y ∷ done) later o h =
    let more = apart_in done later o h.1 in
    let other : o.at ≢ y.at = All-head (λ (x : Opened). x.at ≢ y.at) o later (all_right (λ (x : Opened). x.at ≢ y.at) done (o ∷ later) h.0) in
    record { before = All-cons (λ (x : Opened). x.at ≢ o.at) y done (λ same. other (sym same)) more.before; after = more.after }

-- the text of files with one more
pub lines_more : (c : Checks) (a : Told) (done : List Opened) (o : Opened) → check_lines c a (map pair_of (done ++ o ∷ [])) ≡ check_lines c a (map pair_of done) ++ check_line c (pair_of o) (content_of a o.file)
lines_more c a done o =
    ap (check_lines c a) (map-append pair_of done (o ∷ [])) ∙ flat_map-append (λ p. check_line c p (content_of a p.1)) (map pair_of done) (pair_of o ∷ [])
    ∙ ap (λ (l : List ℕ). check_lines c a (map pair_of done) ++ l) (append-nil (check_line c (pair_of o) (content_of a o.file)))

kept_places : (P : Told → Opened → Type 0) (at : ℕ) (xs : List Opened) (b d : Told) → ((x : Opened) → d.place x.at ≡ b.place x.at → P b x → P d x) → ((other : ℕ) → other ≢ at → d.place other ≡ b.place other)
    → All (λ x. x.at ≢ at) xs → All (P b) xs → All (P d) xs
kept_places P at xs b d moves others apart h = λ k e short. moves (get_or xs k e) (others (get_or xs k e).at (apart k e short)) (h k e short)

-- the turns of files with one more
pub files_more : (done : List Opened) (o : Opened) (turns : List Turn) (t : Turn) → map (λ (t : Turn). t.file) turns ≡ map (λ o. o.1) (map opening_of done) → t.file ≡ o.at
    → map (λ (t : Turn). t.file) (turns ++ t ∷ []) ≡ map (λ o. o.1) (map opening_of (done ++ o ∷ []))
files_more done o turns t files is =
    map-append (λ (t : Turn). t.file) turns (t ∷ []) ∙ ap (λ (l : List ℕ). l ++ t.file ∷ []) files ∙ ap (λ (n : ℕ). map (λ o. o.1) (map opening_of done) ++ n ∷ []) is
    ∙ sym (ap (map (λ o. o.1)) (map-append opening_of done (o ∷ [])) ∙ map-append (λ (o : List ℕ × ℕ). o.1) (map opening_of done) (opening_of o ∷ []))

-- turns that are those of files, with one more
pub turns_push : (c : Checks) (a : Told) (done : List Opened) (o : Opened) (turns : List Turn) (t : Turn) → AllZip (TakesTurn c a) (map pair_of done) turns → TakesTurn c a (pair_of o) t
    → AllZip (TakesTurn c a) (map pair_of (done ++ o ∷ [])) (turns ++ t ∷ [])
turns_push c a [] o [] t h is = (is, tt)
turns_push c a [] o (u ∷ turns) t h is = absurd h
turns_push c a (x ∷ done) o [] t h is = absurd h
turns_push c a (x ∷ done) o (u ∷ turns) t h is = (h.0, turns_push c a done o turns t h.1 is)

pub trace_more : (a b d : List CallMade) (done later : List Opened) (o : Opened) (turns : List Turn) (t : Turn) → b ≡ a ++ (map opening_call (map opening_of (done ++ o ∷ later)) ++ flat_map turn_calls turns)
    → d ≡ b ++ turn_calls t → d ≡ a ++ (map opening_call (map opening_of ((done ++ o ∷ []) ++ later)) ++ flat_map turn_calls (turns ++ t ∷ []))
trace_more a b d done later o turns t one two =
    let openings : List CallMade = map opening_call (map opening_of (done ++ o ∷ later)) in
    two ∙ ap (λ (l : List CallMade). l ++ turn_calls t) one ∙ append_assoc a (openings ++ flat_map turn_calls turns) (turn_calls t)
    ∙ ap (λ (l : List CallMade). a ++ l)
    (append_assoc openings (flat_map turn_calls turns) (turn_calls t) ∙ ap (λ (l : List CallMade). openings ++ l) (sym (turns_more turns t))
    ∙ ap (λ (all : List Opened). map opening_call (map opening_of all) ++ flat_map turn_calls (turns ++ t ∷ [])) (sym (append_assoc done (o ∷ []) later)))

pub one_done : (c : Checks) (done later : List Opened) (o : Opened) (a b d : Told) → IsApart done later o → HasDone c done (o ∷ later) a b → HasChecked c (pair_of o) o.at b d → HasDone c (done ++ o ∷ []) later a d
one_done c done later o a b d apart h k =
    let unread : IsUnread b o = All-head (IsUnread b) o later h.unread in
    let there : IsSome (a.content (file_name o.file)) = All-head (λ (x : Opened). IsSome (a.content (file_name x.file))) o later h.there in
    let bytes : k.bytes ≡ content_of a o.file = sym k.left ∙ rest_is a b o unread h.content in
    let good : IsGood c a (pair_of o) = good_if (a.content (file_name o.file)) (λ (content : List ℕ). first_bad c (pair_of o) content ≡ None) there (subst (λ (l : List ℕ). first_bad c (pair_of o) l ≡ None) bytes k.good) in
    let taken : (d.place o.at).taken ≡ length (content_of a o.file) =
    k.taken ∙ ap (λ (p : Place). p.taken + length k.bytes) unread ∙ zero_and (length k.bytes) ∙ ap length bytes in
    let turn : Turn = record { file = o.at; counts = k.counts; lengths = k.lengths } in
    let whole : IsTaken a d o = place_is (d.place o.at) (file_name o.file) (length (content_of a o.file)) (k.name ∙ ap (λ (p : Place). p.name) unread) taken in
    record {
      all = h.all;
      good = All-append (λ (x : Opened). IsGood c a (pair_of x)) done (o ∷ []) h.good (All-cons (λ (x : Opened). IsGood c a (pair_of x)) o [] good (All-nil (λ (x : Opened). IsGood c a (pair_of x))));
      whole = All-append (IsTaken a d) done (o ∷ []) (kept_places (IsTaken a) o.at done b d (λ x same is. same ∙ is) k.others apart.before h.whole) (All-cons (IsTaken a d) o [] whole (All-nil (IsTaken a d)));
      there = All-tail (λ (x : Opened). IsSome (a.content (file_name x.file))) o later h.there;
      unread = kept_places IsUnread o.at later b d (λ x same is. same ∙ is) k.others apart.after (All-tail (IsUnread b) o later h.unread);
      others = λ n before after.
          let this : o.at ≢ n = All-head (λ (x : Opened). x.at ≢ n) o [] (all_right (λ (x : Opened). x.at ≢ n) done (o ∷ []) before) in
          k.others n (λ same. this (sym same)) ∙ h.others n (all_left (λ (x : Opened). x.at ≢ n) done (o ∷ []) before) (All-cons (λ (x : Opened). x.at ≢ n) o later this after);
      content = k.content ∙ h.content;
      rows = k.rows ∙ ap (λ (l : List ℕ). l ++ check_line c (pair_of o) k.bytes) h.rows
          ∙ append_assoc (a.written out.Rows) (check_lines c a (map pair_of done)) (check_line c (pair_of o) k.bytes)
          ∙ ap (λ (l : List ℕ). a.written out.Rows ++ (check_lines c a (map pair_of done) ++ check_line c (pair_of o) l)) bytes
          ∙ ap (λ (l : List ℕ). a.written out.Rows ++ l) (sym (lines_more c a done o));
      notes = k.notes ∙ h.notes;
      turns = h.turns ++ turn ∷ [];
      files = files_more done o h.turns turn h.files refl;
      each = turns_push c a done o h.turns turn h.each
          (record { wanted = subst (λ (l : List ℕ). AreWanted c (pair_of o) l k.counts) bytes k.wanted; reads = k.reads ∙ ap length bytes; writes = k.writes ∙ ap (λ (l : List ℕ). length (check_line c (pair_of o) l)) bytes });
      pieces = All-append HasPieces h.turns (turn ∷ []) h.pieces (All-cons HasPieces turn [] k.pieces (All-nil HasPieces));
      trace = trace_more a.trace b.trace d.trace done later o h.turns turn h.trace k.trace;
    }
  where
    zero_and : (n : ℕ) → 0 + n ≡ n
    zero_and n = omega arith

-- ---- all files

pub all_done : (c : Checks) (before now : ℕ → Bool) (all later : List Opened) (a b : Told) → map pair_of all ≡ numbered c → later ≡ [] → AreNew before now all → HasDone c all later a b → Calling (IsChecked c before now) a b
unfolding turns_order
all_done c before now all later a b pairs none numbers h =
    let calls : List CallMade = map opening_call (map opening_of all) ++ flat_map turn_calls h.turns in
    record {
      calls = calls ++ [];
      trace = h.trace ∙ ap (λ (l : List Opened). a.trace ++ (map opening_call (map opening_of l) ++ flat_map turn_calls h.turns)) (ap (λ (l : List Opened). all ++ l) none ∙ append-nil all)
          ∙ ap (λ (l : List CallMade). a.trace ++ l) (sym (append-nil calls));
      did = record {
        order = turns_order c all h.turns [] [] pairs (sym h.files ∙ sym (append-nil (map (λ (t : Turn). t.file) h.turns))) h.pieces (All-nil ReadsOrWrites) (inl refl);
        turns = subst (λ (ps : List (ℕ × DataFile)). AllZip (TakesTurn c a) ps h.turns) pairs h.each;
        good = subst (All (IsGood c a)) pairs (All-map (IsGood c a) pair_of all h.good);
        read = subst (All (IsRead before now (calls ++ []) a b)) pairs
            (All-map (IsRead before now (calls ++ []) a b) pair_of all (read (calls ++ []) (ap opened_by (append-nil calls) ∙ opened_by_both (map opening_of all) h.turns)));
        rows = h.rows ∙ ap (λ (ps : List (ℕ × DataFile)). a.written out.Rows ++ check_lines c a ps) pairs;
        notes = h.notes;
        kept = h.content;
        opened = λ file was. still file was (now file) refl;
        places = λ file was. h.others file (All-weaker (λ (x : Opened). before x.at ≡ false) (λ (x : Opened). x.at ≢ file) (λ x fresh same. no (sym was ∙ ap before (sym same) ∙ fresh)) all numbers.fresh)
            (subst (All (λ (x : Opened). x.at ≢ file)) (sym none) (All-nil (λ (x : Opened). x.at ≢ file)));
      };
    }
  where
    no : true ≡ false → ⊥
    no h = cc

    still : (file : ℕ) → before file ≡ true → (b : Bool) → now file ≡ b → now file ≡ true
    still file was true is = is
    still file was false is = absurd (no (sym was ∙ numbers.kept file is))

    opening : (calls : List CallMade) → opened_by calls ≡ map (λ o. o.1) (map opening_of all) → (k : ℕ) (d : Opened) → k < length all → slice_get (opened_by calls) (get_or all k d).part ≡ Some (get_or all k d).at
    opening calls is k d short =
        let part : (get_or all k d).part ≡ k = ap (λ (p : ℕ × DataFile). p.0) (pair_at c.files all k d pairs short).1 in
        ap (slice_get (opened_by calls)) part ∙ ap (λ (l : List ℕ). slice_get l k) is ∙ at_place all k d short

    one : (calls : List CallMade) (o : Opened) → slice_get (opened_by calls) o.part ≡ Some o.at → IsGood c a (pair_of o) → IsTaken a b o → before o.at ≡ false → now o.at ≡ true → IsRead before now calls a b (pair_of o)
    one calls o opening good whole fresh added = record {
      at = o.at;
      opening = opening;
      fresh = fresh;
      opened = added;
      place = good_too (a.content (file_name o.file)) (λ (content : List ℕ). first_bad c (pair_of o) content ≡ None) (λ (content : List ℕ). b.place o.at ≡ record { name = file_name o.file; taken = length content }) good whole;
    }

    read : (calls : List CallMade) → opened_by calls ≡ map (λ o. o.1) (map opening_of all) → All (λ o. IsRead before now calls a b (pair_of o)) all
    read calls is = λ k d short. one calls (get_or all k d) (opening calls is k d short) (h.good k d short) (h.whole k d short) (numbers.fresh k d short) (numbers.added k d short)
