-- The loop over all opened files.
use Rattle.std.proofs.Common.{◌≡◌, ℕ, suc, ◌+◌, ◌<◌, ◌≤◌, ℤ, pos, Bool, List, [], ◌∷◌, ◌++◌, map, length, get_or, drop, take, Option, Result, Ok, Err, All, refl, sym, ap, ◌∙◌, subst, arith}
use Rattle.std.specs.Prelude.{IfErr, IsSome, OnOk, slice_get}
use Rattle.std.specs.List.{enumerate_from}
use Rattle.std.proofs.Math.Seq.{take-suc}
use Rattle.std.proofs.lemmas.List.{drop_all, drop_more, length-map, take-append-drop, take-map, take_all}
use Rattle.std.proofs.lemmas.List.Elements.{All-get_or}
use Rattle.std.proofs.lemmas.List.FromFn.{length-enumerate_from}
use Rattle.jet_file.specs.Outside.{WhereTold, Told}
use Rattle.jet_flow.specs.DataFiles.{DataFile, file_name}
use Rattle.jet_worker.specs.CheckText.{Checks}
use Rattle.jet_worker.specs.Calls.{Calling}
use Rattle.jet_worker.specs.Checked.{AreThere, CheckStops, IsChecked, numbered}
use Rattle.jet_worker.specs.inner.FileChecks.{HasChecked, StopsChecking}
use Rattle.jet_worker.specs.Opening.{AreApart, AreNew, HasLag, HasOpened, Opened, StopsOpening, pair_of}
use Rattle.jet_worker.specs.Stopping.{IsNoBadLine, OpenOutcome, Outcome}
use Rattle.jet_worker.specs.declared.stop.Stop.{Stop}
use Rattle.jet_worker.specs.declared.stop.Stop.TheVariants.{NoMemory}
use Rattle.jet_worker.proofs.DoneLemmas.{HasDone, all_done, apart_in, none_done, one_done}
use Rattle.jet_file.proofs.GoesLaws.{goes_same, goes_then, goes_weaker}
use Rattle.jet_worker.proofs.OpenLemmas.{caused, get_is, pair_at}
use Rattle.jet_worker.proofs.StopLemmas.{IsAt, file_stops, nothing_done, opening_stops}

-- what the loop over the opened files keeps: the first n of them are done
pub record Checking {S : Type 0} (told : S → Option Told) (opened : S → ℕ → Bool) (steady : S → Bool) (faults : S → ℕ) (files : List DataFile) (most : ℕ) (unit : ℤ) (all : List Opened) (n : ℕ) (start now : S) : Type 0 where
  pub numbers : AreNew (opened start) (opened now) all
  pub pairs : map pair_of all ≡ enumerate_from 0 files
  pub told_so : (c : Checks) → c.files ≡ files → c.most ≡ most → unit ≡ pos c.unit → WhereTold (HasDone c (take n all) (drop n all)) (told start) (told now)
  pub steady_same : steady now ≡ steady start
  pub faults_same : faults now ≡ faults start

-- ---- places

first_more : (all : List Opened) (n : ℕ) (d : Opened) → n < length all → take (n + 1) all ≡ take n all ++ get_or all n d ∷ []
first_more all n d short = let more : n + 1 ≡ suc n = omega arith in ap (λ (k : ℕ). take k all) more ∙ take-suc all n d short

parts_at : (all : List Opened) (n : ℕ) (d : Opened) → n < length all → all ≡ take n all ++ get_or all n d ∷ drop (n + 1) all
parts_at all n d short = sym (take-append-drop n all) ∙ ap (λ (l : List Opened). take n all ++ l) (drop_more all n d short)

pub lag_at : (files : List DataFile) (all : List Opened) (n : ℕ) (d : Opened) → map pair_of all ≡ enumerate_from 0 files → n < length all → All HasLag files → HasLag (get_or all n d).file
lag_at files all n d pairs short lags =
    let pair = pair_at files all n d pairs short in
    subst HasLag (sym (ap (λ (p : ℕ × DataFile). p.1) pair.1)) (All-get_or HasLag files n d.file pair.0 lags)

stands_at : (c : Checks) (all : List Opened) (n : ℕ) (d : Opened) → map pair_of all ≡ numbered c → n < length all → IsAt c (take n all) (drop (n + 1) all) (get_or all n d)
stands_at c all n d pairs short =
    let pair = pair_at c.files all n d pairs short in
    let part : (get_or all n d).part ≡ n = ap (λ (p : ℕ × DataFile). p.0) pair.1 in
    let file : (get_or all n d).file ≡ get_or c.files n d.file = ap (λ (p : ℕ × DataFile). p.1) pair.1 in
    record {
      is = ap (slice_get c.files) part ∙ get_is c.files n (get_or all n d).file d.file pair.0 file;
      all = ap (map pair_of) (sym (parts_at all n d short)) ∙ pairs;
      before = ap (λ (k : ℕ). take k (numbered c)) part ∙ ap (take n) (sym pairs) ∙ take-map pair_of n all;
      through = ap (λ (k : ℕ). take (k + 1) (numbered c)) part ∙ ap (take (n + 1)) (sym pairs) ∙ take-map pair_of (n + 1) all ∙ ap (map pair_of) (first_more all n d short);
    }

-- each file of the job was opened, so it is there
all_there : (c : Checks) (all : List Opened) (a b : Told) → map pair_of all ≡ numbered c → HasOpened all a b → AreThere c a
all_there c all a b pairs h n d short =
    let e : Opened = record { part = 0; file = d; at = 0 } in
    let count : length all ≡ length c.files = sym (length-map all pair_of) ∙ ap length pairs ∙ length-enumerate_from 0 c.files in
    let within : n < length all = omega (arith, count, short) in
    let pair = pair_at c.files all n e pairs within in
    subst (λ (f : DataFile). IsSome (a.content (file_name f))) (ap (λ (p : ℕ × DataFile). p.1) pair.1) (h.there n e within)

-- ---- the start

pub checking_starts : {S : Type 0} (told : S → Option Told) (opened : S → ℕ → Bool) (steady : S → Bool) (faults : S → ℕ) (files : List DataFile) (most : ℕ) (unit : ℤ) (all : List Opened) (start now : S)
    → ((c : Checks) → c.files ≡ files → map pair_of all ≡ numbered c) → AreNew (opened start) (opened now) all → WhereTold (HasOpened all) (told start) (told now) → steady now ≡ steady start → faults now ≡ faults start
    → Checking told opened steady faults files most unit all 0 start now
checking_starts told opened steady faults files most unit all start now pairs numbers opens steady_same faults_same = record {
  numbers = numbers;
  pairs = pairs (record { files = files; most = most; unit = 0 }) refl;
  told_so = λ c is most_is unit_is. goes_weaker (HasOpened all) (HasDone c [] all) (λ a b h. none_done c all a b (all_there c all a b (pairs c is) h) h) (told start) (told now) opens;
  steady_same = steady_same;
  faults_same = faults_same;
}

-- ---- one file more

pub checking_more : {S : Type 0} (told : S → Option Told) (opened : S → ℕ → Bool) (steady : S → Bool) (faults : S → ℕ) (files : List DataFile) (most : ℕ) (unit : ℤ) (all : List Opened) (n : ℕ) (start now next : S) (d : Opened)
    → Checking told opened steady faults files most unit all n start now → n < length all
    → ((c : Checks) → c.most ≡ most → unit ≡ pos c.unit → WhereTold (HasChecked c (pair_of (get_or all n d)) (get_or all n d).at) (told now) (told next))
    → opened next ≡ opened now → steady next ≡ steady now → faults next ≡ faults now → Checking told opened steady faults files most unit all (n + 1) start next
checking_more told opened steady faults files most unit all n start now next d h short checks opened_same steady_same faults_same =
    let o : Opened = get_or all n d in
    record {
      numbers = subst (λ (f : ℕ → Bool). AreNew (opened start) f all) (sym opened_same) h.numbers;
      pairs = h.pairs;
      told_so = λ c is most_is unit_is.
          subst (λ (l : List Opened). WhereTold (HasDone c l (drop (n + 1) all)) (told start) (told next)) (sym (first_more all n d short))
          (goes_then (HasDone c (take n all) (get_or all n d ∷ drop (n + 1) all)) (HasChecked c (pair_of (get_or all n d)) (get_or all n d).at) (HasDone c (take n all ++ get_or all n d ∷ []) (drop (n + 1) all))
          (λ a b e r s. one_done c (take n all) (drop (n + 1) all) (get_or all n d) a b e (apart_in (take n all) (drop (n + 1) all) (get_or all n d) (subst AreApart (parts_at all n d short) h.numbers.apart)) r s)
          (told start) (told now) (told next)
          (subst (λ (l : List Opened). WhereTold (HasDone c (take n all) l) (told start) (told now)) (drop_more all n d short) (h.told_so c is most_is unit_is)) (checks c most_is unit_is));
      steady_same = steady_same ∙ h.steady_same;
      faults_same = faults_same ∙ h.faults_same;
    }

-- ---- the end and stops

pub checking_ends : {S : Type 0} (told : S → Option Told) (opened : S → ℕ → Bool) (steady : S → Bool) (faults : S → ℕ) (files : List DataFile) (most : ℕ) (unit : ℤ) (all : List Opened) (n : ℕ) (start now : S)
    → Checking told opened steady faults files most unit all n start now → length all ≤ n
    → (c : Checks) → c.files ≡ files → c.most ≡ most → unit ≡ pos c.unit → WhereTold (Calling (IsChecked c (opened start) (opened now))) (told start) (told now)
checking_ends told opened steady faults files most unit all n start now h end c is most_is unit_is =
    goes_weaker (HasDone c all (drop n all)) (Calling (IsChecked c (opened start) (opened now)))
    (λ a b r. all_done c (opened start) (opened now) all (drop n all) a b (h.pairs ∙ sym (ap (enumerate_from 0) is)) (drop_all n all end) h.numbers r) (told start) (told now)
    (subst (λ (l : List Opened). WhereTold (HasDone c l (drop n all)) (told start) (told now)) (take_all n all end) (h.told_so c is most_is unit_is))

pub checking_stops : {S : Type 0} (told : S → Option Told) (opened : S → ℕ → Bool) (steady : S → Bool) (faults : S → ℕ) (files : List DataFile) (most : ℕ) (unit : ℤ) (all : List Opened) (n : ℕ) (start now next : S) (d : Opened) (stop : Stop)
    → Checking told opened steady faults files most unit all n start now → n < length all
    → ((c : Checks) → c.most ≡ most → unit ≡ pos c.unit → WhereTold (StopsChecking c (pair_of (get_or all n d)) (get_or all n d).at stop) (told now) (told next))
    → (c : Checks) → c.files ≡ files → c.most ≡ most → unit ≡ pos c.unit → WhereTold (Calling (CheckStops c stop)) (told start) (told next)
checking_stops told opened steady faults files most unit all n start now next d stop h short stops c is most_is unit_is =
    goes_then (HasDone c (take n all) (get_or all n d ∷ drop (n + 1) all)) (StopsChecking c (pair_of (get_or all n d)) (get_or all n d).at stop) (Calling (CheckStops c stop))
    (λ a b e r s. file_stops c (take n all) (drop (n + 1) all) (get_or all n d) stop a b e (stands_at c all n d (h.pairs ∙ sym (ap (enumerate_from 0) is)) short) r s) (told start) (told now) (told next)
    (subst (λ (l : List Opened). WhereTold (HasDone c (take n all) l) (told start) (told now)) (drop_more all n d short) (h.told_so c is most_is unit_is)) (stops c most_is unit_is)

pub opening_stopped : (c : Checks) (stop : Stop) (start now : Option Told) → IsNoBadLine stop → WhereTold (StopsOpening c stop) start now → WhereTold (Calling (CheckStops c stop)) start now
opening_stopped c stop start now never h = goes_weaker (StopsOpening c stop) (Calling (CheckStops c stop)) (λ a b r. opening_stops c stop a b never r) start now h

pub goes_nowhere : (c : Checks) (start : Option Told) → WhereTold (Calling (CheckStops c NoMemory)) start start
goes_nowhere c start = goes_same (Calling (CheckStops c NoMemory)) (nothing_done c) start

-- the outcome of a step behind others
pub outcome_then : {S T : Type 0} (opened : S → ℕ → Bool) (steady : S → Bool) (faults : S → ℕ) (start now next : S) (r : Result T Stop) → steady now ≡ steady start → faults now ≡ faults start
    → Outcome opened steady faults now next r → OpenOutcome steady faults start next r
outcome_then opened steady faults start now next r same faults_same o = record {
  steady_same = o.steady_same ∙ same;
  later = subst (λ (k : ℕ). k ≤ faults next) faults_same o.later;
  cause = caused (faults start) (faults now) (faults next) r faults_same o.cause;
}

-- ---- answers

pub on_ok : {T E : Type 0} (r : Result T E) (P Q : Type 0) → (P → Q) → OnOk r P → OnOk r Q
on_ok (Ok x) P Q weaker h = weaker h
on_ok (Err e) P Q weaker h = h

pub if_err : {T E : Type 0} (r : Result T E) (P Q : E → Type 0) → ((e : E) → P e → Q e) → IfErr r P → IfErr r Q
if_err (Ok x) P Q weaker h = h
if_err (Err e) P Q weaker h = weaker e h
