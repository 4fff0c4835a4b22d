-- The opened files of a plan.
use Rattle.std.proofs.Common.{◌≡◌, ◌∙◌, ◌<◌, ◌++◌, ℕ, List, [], map, length, Option, Result, Ok, Err, All, refl, sym, ap, subst}
use Rattle.std.specs.Prelude.{IfOk}
use Rattle.std.specs.List.{enumerate_from}
use Rattle.std.proofs.lemmas.List.{append-nil, get_or-map, length-map}
use Rattle.std.proofs.lemmas.List.FromFn.{length-enumerate_from}
use Rattle.jet_file.proofs.GoesLaws.{goes_same}
use Rattle.jet_file.specs.Outside.{Told, WhereTold}
use Rattle.jet_flow.specs.DataFiles.{DataFile}
use Rattle.jet_worker.specs.CheckText.{Checks}
use Rattle.jet_worker.specs.Opening.{HasLag, Opened, StopsOpening, file_in, opened_in, pair_of}
use Rattle.jet_worker.specs.declared.open.OpenFile.{OpenFile}
use Rattle.jet_worker.specs.declared.stop.Stop.TheVariants.{NoMemory}
use Rattle.jet_worker.proofs.AllLemmas.{lag_at}

-- what the calls say of a result that is no stop, and of one that is, says more
pub if_ok : {T E : Type 0} (r : Result T E) (P Q : T → Type 0) → ((x : T) → P x → Q x) → IfOk r P → IfOk r Q
if_ok (Ok x) P Q weaker h = weaker x h
if_ok (Err e) P Q weaker h = h

-- whatever the check, these are the files of this list, opened in the order of their numbers
abbrev pub HasPairs : List DataFile → List OpenFile → Type 0
HasPairs files opened = (c : Checks) → c.files ≡ files → map pair_of (map opened_in opened) ≡ enumerate_from 0 c.files

abbrev some_check : List DataFile → Checks
some_check files = record { files = files; most = 0; unit = 1 }

pub count_of : (files : List DataFile) (opened : List OpenFile) → HasPairs files opened → length opened ≡ length files
count_of files opened pairs =
    sym (length-map opened opened_in) ∙ sym (length-map (map opened_in opened) pair_of) ∙ ap length (pairs (some_check files) refl) ∙ length-enumerate_from 0 files

pub lags_of : (files : List DataFile) (opened : List OpenFile) → HasPairs files opened → All HasLag files → All (λ (o : OpenFile). HasLag (file_in o.file)) opened
lags_of files opened pairs lags = λ k d lt.
    let there : k < length (map opened_in opened) = subst (λ (n : ℕ). k < n) (sym (length-map opened opened_in)) lt in
    subst (λ (o : Opened). HasLag o.file) (get_or-map opened_in opened k d (opened_in d) lt) (lag_at files (map opened_in opened) k (opened_in d) (pairs (some_check files) refl) there lags)

nothing_opened : (c : Checks) (t : Told) → StopsOpening c NoMemory t t
nothing_opened c t = record {
  opened = [];
  pairs = refl;
  content = refl;
  written = refl;
  last = [];
  fails = refl;
  trace = sym (append-nil (t.trace ++ []) ∙ append-nil t.trace);
}

-- no memory is found before the first opening
pub opens_nowhere : (c : Checks) (told : Option Told) → WhereTold (StopsOpening c NoMemory) told told
opens_nowhere c told = goes_same (StopsOpening c NoMemory) (nothing_opened c) told
