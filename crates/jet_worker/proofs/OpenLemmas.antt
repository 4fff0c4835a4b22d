-- The opening of all files, one after another.
use Rattle.std.proofs.Common.{◌≡◌, ◌≢◌, ℕ, zero, suc, ◌+◌, ◌<◌, ◌≤◌, Bool, true, false, List, [], ◌∷◌, ◌++◌, map, length, take, get_or, Option, Some, None, Result, Ok, Err, All, refl, sym, ap, ◌∙◌, subst, arith, append-nil, append_assoc}
use Rattle.std.specs.Prelude.{IsSome, IsSomeAnd, MatchResult, Any, slice_get}
use Rattle.std.specs.List.{enumerate_from}
use Rattle.std.proofs.lemmas.List.{get_or_default, get_or-map, length-map, map-append}
use Rattle.std.proofs.lemmas.List.FromFn.{get_or-enumerate_from, length-enumerate_from}
use Rattle.std.proofs.lemmas.List.Elements.{All-append, All-nil, All-cons, All-head, All-tail, All-weaker}
use Rattle.jet_file.specs.Outside.{AddsNumber, CallMade, WhereTold, LacksFile, Opened as OpenedEntry, Opening, OpensFile, Told}
use Rattle.jet_flow.specs.DataFiles.{DataFile, SideFile, file_name}
use Rattle.jet_worker.specs.CheckText.{Checks}
use Rattle.jet_worker.specs.Calls.{opening_call}
use Rattle.jet_worker.specs.Checked.{LacksSome}
use Rattle.jet_worker.specs.Feeding.{FailsAt}
use Rattle.jet_worker.specs.Opening.{AreApart, AreNew, HasOpened, IsNextOpening, IsUnread, Opened, StopsOpening, file_in, opening_of, pair_of}
use Rattle.jet_worker.specs.Stopping.{CauseOfStop, LastIs, LastOf, OpenOutcome}
use Rattle.jet_worker.specs.declared.files.DataFile.{DataFile as RustFile}
use Rattle.jet_worker.specs.declared.stop.Call.TheVariants.{Open}
use Rattle.jet_worker.specs.declared.stop.Spot.TheVariants.{Part}
use Rattle.jet_worker.specs.declared.stop.Stop.{Stop}
use Rattle.jet_worker.specs.declared.stop.Stop.TheVariants.{BadLine, Outside, NoMemory}
use Rattle.jet_file.proofs.GoesLaws.{goes_same, goes_then, goes_weaker}
use Rattle.jet_worker.proofs.OrderLemmas.{length_front}

-- what the loop over the files keeps: the first n of them were opened
pub record SoFar {S : Type 0} (told : S → Option Told) (opened : S → ℕ → Bool) (steady : S → Bool) (faults : S → ℕ) (files : List DataFile) (n : ℕ) (all : List Opened) (start now : S) : Type 0 where
  pub pairs : map pair_of all ≡ take n (enumerate_from 0 files)
  pub numbers : AreNew (opened start) (opened now) all
  pub told_so : WhereTold (HasOpened all) (told start) (told now)
  pub steady_same : steady now ≡ steady start
  pub faults_same : faults now ≡ faults start

opens_none : (a : Told) → HasOpened [] a a
opens_none a = record {
  there = All-nil (λ (o : Opened). IsSome (a.content (file_name o.file)));
  unread = All-nil (IsUnread a);
  others = λ n h. refl;
  content = refl;
  written = refl;
  trace = sym (append-nil a.trace);
}

-- nothing is opened yet
pub starts : {S : Type 0} (told : S → Option Told) (opened : S → ℕ → Bool) (steady : S → Bool) (faults : S → ℕ) (files : List DataFile) (start : S) → SoFar told opened steady faults files 0 [] start start
starts told opened steady faults files start = record {
  pairs = refl;
  numbers = record {
    fresh = All-nil (λ (o : Opened). opened start o.at ≡ false);
    added = All-nil (λ (o : Opened). opened start o.at ≡ true);
    apart = tt;
    kept = λ n h. h;
  };
  told_so = goes_same (HasOpened []) opens_none (told start);
  steady_same = refl;
  faults_same = refl;
}

-- ---- one file more

pub all_right : {X : Type 0} (P : X → Type 0) (xs ys : List X) → All P (xs ++ ys) → All P ys
all_right P [] ys h = h
all_right P (x ∷ xs) ys h = all_right P xs ys (All-tail P x (xs ++ ys) h)

pub all_left : {X : Type 0} (P : X → Type 0) (xs ys : List X) → All P (xs ++ ys) → All P xs
all_left P [] ys h = All-nil P
all_left P (x ∷ xs) ys h = All-cons P x xs (All-head P x (xs ++ ys) h) (all_left P xs ys (All-tail P x (xs ++ ys) h))

all_last : {X : Type 0} (P : X → Type 0) (xs : List X) (x : X) → All P xs → P x → All P (xs ++ x ∷ [])
all_last P xs x h k = All-append P xs (x ∷ []) h (All-cons P x [] k (All-nil P))

apart_last : (all : List Opened) (o : Opened) → AreApart all → All (λ x. o.at ≢ x.at) all → AreApart (all ++ o ∷ [])
apart_last [] o h k = (All-nil (λ (x : Opened). x.at ≢ o.at), tt)
apart_last (x ∷ xs) o h k =
    (all_last (λ (y : Opened). y.at ≢ x.at) xs o h.0 (All-head (λ (y : Opened). o.at ≢ y.at) x xs k), apart_last xs o h.1 (All-tail (λ (y : Opened). o.at ≢ y.at) x xs k))

true_false : (a b : ℕ) (now : ℕ → Bool) → now a ≡ true → now b ≡ false → b ≢ a
true_false a b now h k same = no (sym h ∙ ap now (sym same) ∙ k)
  where
    no : true ≡ false → ⊥
    no h = cc

new_more : (before now next : ℕ → Bool) (all : List Opened) (o : Opened) → AreNew before now all → AddsNumber o.at now next → AreNew before next (all ++ o ∷ [])
new_more before now next all o h a =
    let others : All (λ (x : Opened). o.at ≢ x.at) all = All-weaker (λ (x : Opened). now x.at ≡ true) (λ (x : Opened). o.at ≢ x.at) (λ x is. true_false x.at o.at now is a.fresh) all h.added in
    record {
      fresh = all_last (λ (x : Opened). before x.at ≡ false) all o h.fresh (h.kept o.at a.fresh);
      added = all_last (λ (x : Opened). next x.at ≡ true) all o
          (All-weaker (λ (x : Opened). now x.at ≡ true) (λ (x : Opened). next x.at ≡ true) (λ x is. a.others x.at (λ same. true_false x.at o.at now is a.fresh (sym same)) ∙ is) all h.added) a.added;
      apart = apart_last all o h.apart others;
      kept = λ n none. h.kept n (sym (a.others n (λ same. true_false o.at n next a.added none same)) ∙ none);
    }

opens_more : (all : List Opened) (o : Opened) (a b c : Told) → All (λ x. o.at ≢ x.at) all → HasOpened all a b → OpensFile (file_name o.file) o.at b c → HasOpened (all ++ o ∷ []) a c
opens_more all o a b c others h k = record {
  there = all_last (λ (x : Opened). IsSome (a.content (file_name x.file))) all o h.there
      (subst (λ (content : List ℕ → Option (List ℕ)). IsSome (content (file_name o.file))) h.content k.there);
  unread = all_last (IsUnread c) all o
      (λ i d lt. k.others (get_or all i d).at (λ same. others i d lt (sym same)) ∙ h.unread i d lt) k.place;
  others = λ n apart. k.others n (λ same. All-head (λ (x : Opened). x.at ≢ n) o [] (all_right (λ (x : Opened). x.at ≢ n) all (o ∷ []) apart) (sym same))
      ∙ h.others n (all_left (λ (x : Opened). x.at ≢ n) all (o ∷ []) apart);
  content = k.content ∙ h.content;
  written = k.written ∙ h.written;
  trace = k.trace ∙ ap (λ (t : List CallMade). t ++ OpenedEntry (file_name o.file) o.at ∷ []) h.trace ∙ append_assoc a.trace (map opening_call (map opening_of all)) (OpenedEntry (file_name o.file) o.at ∷ [])
      ∙ ap (λ (l : List CallMade). a.trace ++ l)
      (sym (ap (map opening_call) (map-append opening_of all (o ∷ [])) ∙ map-append opening_call (map opening_of all) (opening_of o ∷ [])));
}

-- ---- the files of the program

pub short_in : (files : List RustFile) (n : ℕ) → n < length files → n < length (map file_in files)
short_in files n short = let same = length-map files file_in in omega (arith, same, short)

pub file_at : (files : List RustFile) (n : ℕ) (d : RustFile) → n < length files → file_in (get_or files n d) ≡ get_or (map file_in files) n (SideFile [])
file_at files n d short = sym (get_or-map file_in files n d (SideFile []) short)

-- the first n of the files are all of them
pub whole : (m n : ℕ) (files : List DataFile) → length files ≤ n → take n (enumerate_from m files) ≡ enumerate_from m files
whole m zero [] all = refl
whole m (suc n) [] all = refl
whole m zero (f ∷ files) all = absurd (omega (arith, all))
whole m (suc n) (f ∷ files) all = ap (λ (l : List (ℕ × DataFile)). (m, f) ∷ l) (whole (m + 1) n files (omega (arith, all)))

place_of : (m n : ℕ) (files : List DataFile) (f d : DataFile) → n < length files → f ≡ get_or files n d
    → take (suc n) (enumerate_from m files) ≡ take n (enumerate_from m files) ++ (m + n, f) ∷ []
place_of m n [] f d short is = absurd (omega (arith, short))
place_of m zero (g ∷ files) f d short is =
    let none : m ≡ m + 0 = omega arith in
    ap (λ (h : DataFile). (m, h) ∷ []) (sym is) ∙ ap (λ (k : ℕ). (k, f) ∷ []) none
place_of m (suc n) (g ∷ files) f d short is =
    let one : m + 1 + n ≡ m + suc n = omega arith in
    ap (λ (l : List (ℕ × DataFile)). (m, g) ∷ l) (place_of (m + 1) n files f d (omega (arith, short)) is)
    ∙ ap (λ (k : ℕ). (m, g) ∷ (take n (enumerate_from (m + 1) files) ++ (k, f) ∷ [])) one

pub file_more : {S : Type 0} (told : S → Option Told) (opened : S → ℕ → Bool) (steady : S → Bool) (faults : S → ℕ) (files : List DataFile) (n : ℕ) (all : List Opened) (start now next : S) (o : Opened) (d : DataFile)
    → SoFar told opened steady faults files n all start now → n < length files → o.part ≡ n → o.file ≡ get_or files n d
    → AddsNumber o.at (opened now) (opened next) → WhereTold (OpensFile (file_name o.file) o.at) (told now) (told next) → steady next ≡ steady now → faults next ≡ faults now
    → SoFar told opened steady faults files (n + 1) (all ++ o ∷ []) start next
file_more told opened steady faults files n all start now next o d h short part is adds opens same faults_same =
    let others : All (λ (x : Opened). o.at ≢ x.at) all =
    All-weaker (λ (x : Opened). opened now x.at ≡ true) (λ (x : Opened). o.at ≢ x.at) (λ x added. true_false x.at o.at (opened now) added adds.fresh) all h.numbers.added in
    let pair : (0 + n, o.file) ≡ pair_of o = ap (λ (k : ℕ). (k, o.file)) (zero_plus n ∙ sym part) in
    record {
      pairs = map-append pair_of all (o ∷ []) ∙ ap (λ (l : List (ℕ × DataFile)). l ++ pair_of o ∷ []) h.pairs
          ∙ ap (λ (q : ℕ × DataFile). take n (enumerate_from 0 files) ++ q ∷ []) (sym pair) ∙ sym (place_of 0 n files o.file d short is)
          ∙ ap (λ (k : ℕ). take k (enumerate_from 0 files)) (one_more n);
      numbers = new_more (opened start) (opened now) (opened next) all o h.numbers adds;
      told_so = goes_then (HasOpened all) (OpensFile (file_name o.file) o.at) (HasOpened (all ++ o ∷ [])) (λ a b c r s. opens_more all o a b c others r s) (told start) (told now) (told next) h.told_so opens;
      steady_same = same ∙ h.steady_same;
      faults_same = faults_same ∙ h.faults_same;
    }
  where
    zero_plus : (k : ℕ) → 0 + k ≡ k
    zero_plus k = omega arith

    one_more : (k : ℕ) → suc k ≡ k + 1
    one_more k = omega arith

-- ---- places

pub pair_at : (files : List DataFile) (all : List Opened) (n : ℕ) (d : Opened) → map pair_of all ≡ enumerate_from 0 files → n < length all → (n < length files) × (pair_of (get_or all n d) ≡ (n, get_or files n d.file))
pair_at files all n d pairs short =
    let count : length all ≡ length files = sym (length-map all pair_of) ∙ ap length pairs ∙ length-enumerate_from 0 files in
    let within : n < length files = omega (arith, count, short) in
    let none : 0 + n ≡ n = omega arith in (
      within,
      sym (get_or-map pair_of all n d (pair_of d) short) ∙ ap (λ (l : List (ℕ × DataFile)). get_or l n (pair_of d)) pairs ∙ get_or-enumerate_from 0 files n (pair_of d) within
          ∙ ap (λ (k : ℕ). (k, get_or files n d.file)) none,
    )

pub get_is : (files : List DataFile) (n : ℕ) (f d : DataFile) → n < length files → f ≡ get_or files n d → slice_get files n ≡ Some f
get_is [] n f d short is = absurd (omega (arith, short))
get_is (g ∷ files) zero f d short is = ap Some (sym is)
get_is (g ∷ files) (suc n) f d short is = get_is files n f d (omega (arith, short)) is

-- ---- stops

-- the call that failed is the opening of the file of this number
open_last : (c : Checks) (n : ℕ) (f : DataFile) (stop : Stop) (last : List CallMade) → slice_get c.files n ≡ Some f → LastOf Open (Part n) (Opening (file_name f)) stop last → LastIs (IsNextOpening c n) stop last
open_last c n f (BadLine part line why) last is h = absurd h
open_last c n f (Outside call spot) last is h =
    (Opening (file_name f), h.2, (h.0, h.1, subst (λ (o : Option DataFile). IsSomeAnd o (λ file. Opening (file_name f) ≡ Opening (file_name file))) (sym is) refl))
open_last c n f NoMemory last is h = h

-- a file could not be opened
pub stops_at_file : {S : Type 0} (told : S → Option Told) (opened : S → ℕ → Bool) (steady : S → Bool) (faults : S → ℕ) (c : Checks) (files : List DataFile) (n part : ℕ) (f d : DataFile) (all : List Opened) (stop : Stop) (start now next : S)
    → c.files ≡ files → n < length files → part ≡ n → f ≡ get_or files n d → SoFar told opened steady faults files n all start now
    → WhereTold (FailsAt Open (Part part) (Opening (file_name f)) stop) (told now) (told next) → WhereTold (StopsOpening c stop) (told start) (told next)
stops_at_file told opened steady faults c files n part f d all stop start now next same short part_is is so_far stopped =
    let count : length all ≡ n = length_front n files all so_far.pairs (omega (arith, short)) in
    let at : slice_get c.files (length all) ≡ Some f = ap (λ (l : List DataFile). slice_get l (length all)) same ∙ ap (slice_get files) count ∙ get_is files n f d short is in
    let spot : part ≡ length all = part_is ∙ sym count in
    let pairs : map pair_of all ≡ take (length all) (enumerate_from 0 c.files) =
    so_far.pairs ∙ ap (λ (l : List DataFile). take n (enumerate_from 0 l)) (sym same) ∙ ap (λ (k : ℕ). take k (enumerate_from 0 c.files)) (sym count) in
    goes_then (HasOpened all) (FailsAt Open (Part part) (Opening (file_name f)) stop) (StopsOpening c stop) (λ a b e h s. record {
      opened = all;
      pairs = pairs;
      content = ap (λ (t : Told). t.content) s.same ∙ h.content;
      written = ap (λ (t : Told). t.written) s.same ∙ h.written;
      last = s.last;
      fails = open_last c (length all) f stop s.last at (subst (λ (k : ℕ). LastOf Open (Part k) (Opening (file_name f)) stop s.last) spot s.is);
      trace = ap (λ (t : Told). t.trace) s.same ∙ ap (λ (l : List CallMade). l ++ s.last) h.trace;
    }) (told start) (told now) (told next) so_far.told_so stopped

-- no memory was found to keep what was opened
pub stops_at_keep : {S : Type 0} (told : S → Option Told) (opened : S → ℕ → Bool) (steady : S → Bool) (faults : S → ℕ) (c : Checks) (files : List DataFile) (n : ℕ) (all : List Opened) (stop : Stop) (start now : S)
    → c.files ≡ files → n ≤ length files → stop ≡ NoMemory → SoFar told opened steady faults files n all start now → WhereTold (StopsOpening c stop) (told start) (told now)
stops_at_keep told opened steady faults c files n all stop start now same within is so_far =
    let count : length all ≡ n = length_front n files all so_far.pairs within in
    let pairs : map pair_of all ≡ take (length all) (enumerate_from 0 c.files) =
    so_far.pairs ∙ ap (λ (l : List DataFile). take n (enumerate_from 0 l)) (sym same) ∙ ap (λ (k : ℕ). take k (enumerate_from 0 c.files)) (sym count) in
    goes_weaker (HasOpened all) (StopsOpening c stop) (λ a b h. record {
      opened = all;
      pairs = pairs;
      content = h.content;
      written = h.written;
      last = [];
      fails = subst (λ (s : Stop). LastIs (IsNextOpening c (length all)) s []) (sym is) refl;
      trace = h.trace ∙ sym (append-nil (a.trace ++ map opening_call (map opening_of all)));
    }) (told start) (told now) so_far.told_so

-- the file that could not be opened is not there
pub lacks_file : (files : List DataFile) (n : ℕ) (f d : DataFile) (all : List Opened) (start now : Option Told) → n < length files → f ≡ get_or files n d → WhereTold (HasOpened all) start now
    → LacksFile (file_name f) now → LacksSome files start
lacks_file files n f d all None now short is opened lacks = tt
lacks_file files n f d all (Some a) None short is opened lacks = absurd opened
lacks_file files n f d all (Some a) (Some b) short is opened lacks =
    any_at files n f d short is (ap (λ (content : List ℕ → Option (List ℕ)). content (file_name f)) (sym opened.content) ∙ lacks)
  where
    any_at : (fs : List DataFile) (n : ℕ) (f d : DataFile) → n < length fs → f ≡ get_or fs n d → a.content (file_name f) ≡ None → Any (λ x. a.content (file_name x) ≡ None) fs
    any_at fs n f d short is none = (n, f, short, get_or_default fs n f d short ∙ sym is, none)

-- faults of steps one after another
pub caused : {T : Type 0} (before now next : ℕ) (r : Result T Stop) → now ≡ before → MatchResult r (λ _. next ≡ now) (CauseOfStop now next) → MatchResult r (λ _. next ≡ before) (CauseOfStop before next)
caused before now next (Ok x) same h = h ∙ same
caused before now next (Err stop) same h = subst (λ (k : ℕ). CauseOfStop k next stop) same h

pub outcome_after : {S T : Type 0} (steady : S → Bool) (faults : S → ℕ) (start now next : S) (r : Result T Stop) → steady now ≡ steady start → faults now ≡ faults start → OpenOutcome steady faults now next r → OpenOutcome steady faults start next r
outcome_after steady faults start now next r same faults_same o = record {
  steady_same = o.steady_same ∙ same;
  later = subst (λ (k : ℕ). k ≤ faults next) faults_same o.later;
  cause = caused (faults start) (faults now) (faults next) r faults_same o.cause;
}
