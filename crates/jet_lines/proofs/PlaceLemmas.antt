-- What the lines of a file hold stands in their order.
use Rattle.std.proofs.Common.{◌≡◌, ◌≢◌, ℕ, ◌+◌, ◌<◌, ◌≤◌, List, [], ◌∷◌, Bool, true, false, ◌&&◌, map, length, get_or, nat_le, Option, Some, None, option_map, refl, sym, ap, ◌∙◌, arith, subst, inl, inr}
use Rattle.std.specs.Prelude.{Result, Ok, Err, is_ok, filter_map, slice_get, All, AllPairs}
use Rattle.std.proofs.lemmas.Bool.{cases_Bool}
use Rattle.std.specs.List.{enumerate_from, list_all}
use Rattle.std.proofs.lemmas.List.Elements.{All-nil, All-cons, All-same, All-weaker}
use Rattle.std.proofs.lemmas.List.Kept.{AllPairs-cons}
use Rattle.jet_items.specs.Values.{EventValue}
use Rattle.jet_lines.specs.Files.{numbered_at, are_good, items_of, fault_of, first_of, first_bad_line}
use Rattle.jet_lines.specs.Lines.{lines_of}
use Rattle.jet_lines.specs.Readings.{◌>>=◌, fields_at, value_at, key_of, values_at, event_at, line_at, is_idle, entry_of, entry_at, event_in, idle_in, event_line, idle_line}
use Rattle.jet_lines.specs.declared.fault.LineFault.{LineFault}
use Rattle.jet_lines.proofs.EntryLemmas.{note_line, note_is, event_place}
use Rattle.jet_lines.proofs.FileLemmas.{items_bad, items_good}

-- what lines hold, numbered from n on
abbrev found : {A : Type 0} → (ℕ → List ℕ → Result (Option A) LineFault) → ℕ → ℕ → List (List ℕ) → List A
found read most n lines = items_of (map (numbered_at read most) (enumerate_from n lines))

numbered_read : {A : Type 0} (read : ℕ → List ℕ → Result (Option A) LineFault) (most n : ℕ) (line : List ℕ) (x : A)
    → numbered_at read most (n, line) ≡ Ok (Some x) → read n line ≡ Ok (Some x)
numbered_read read most n line x h = go (nat_le n most) refl
  where
    go : (b : Bool) → nat_le n most ≡ b → read n line ≡ Ok (Some x)
    go true is = rw is at h
    go false is = absurd (cc (rw is at h))

-- what is found on line n has that place
module _ {A : Type 0} (read : ℕ → List ℕ → Result (Option A) LineFault) (most : ℕ) (place : A → ℕ) (at : (n : ℕ) (line : List ℕ) (x : A) → read n line ≡ Ok (Some x) → place x ≡ n) where
  at_line : (n : ℕ) (line : List ℕ) (x : A) → numbered_at read most (n, line) ≡ Ok (Some x) → place x ≡ n
  at_line n line x h = at n line x (numbered_read read most n line x h)

  -- readings from the next line on
  abbrev Readings : Type 0
  Readings = List (Result (Option A) LineFault)

  from_step : (n : ℕ) (line : List ℕ) (later : Readings) → All (λ x. n + 1 ≤ place x) (items_of later)
      → (r : Result (Option A) LineFault) → numbered_at read most (n, line) ≡ r → All (λ x. n ≤ place x) (items_of (r ∷ later))
  from_step n line later more (Err f) is = All-same (λ x. n ≤ place x) (items_of (Err f ∷ later)) [] (items_bad f later) (All-nil (λ x. n ≤ place x))
  from_step n line later more (Ok None) is =
      All-same (λ x. n ≤ place x) (items_of (Ok None ∷ later)) (items_of later) (items_good None later)
      (All-weaker (λ x. n + 1 ≤ place x) (λ x. n ≤ place x) (λ x h. omega (arith, h)) (items_of later) more)
  from_step n line later more (Ok (Some x)) is =
      All-same (λ y. n ≤ place y) (items_of (Ok (Some x) ∷ later)) (x ∷ items_of later) (items_good (Some x) later)
      (All-cons (λ y. n ≤ place y) x (items_of later) (omega (arith, at_line n line x is))
      (All-weaker (λ x. n + 1 ≤ place x) (λ x. n ≤ place x) (λ x h. omega (arith, h)) (items_of later) more))

  pub from_line : (n : ℕ) (lines : List (List ℕ)) → All (λ x. n ≤ place x) (found read most n lines)
  from_line n [] = All-nil (λ x. n ≤ place x)
  from_line n (line ∷ lines) = from_step n line (map (numbered_at read most) (enumerate_from (n + 1) lines)) (from_line (n + 1) lines) (numbered_at read most (n, line)) refl

  rise_step : (n : ℕ) (line : List ℕ) (later : Readings) → All (λ x. n + 1 ≤ place x) (items_of later) → AllPairs (λ x y. place x < place y) (items_of later)
      → (r : Result (Option A) LineFault) → numbered_at read most (n, line) ≡ r → AllPairs (λ x y. place x < place y) (items_of (r ∷ later))
  rise_step n line later from more (Err f) is =
      subst (λ (xs : List A). AllPairs (λ x y. place x < place y) xs) (sym (items_bad f later)) (λ i j d below within. absurd (omega arith))
  rise_step n line later from more (Ok None) is = subst (λ (xs : List A). AllPairs (λ x y. place x < place y) xs) (sym (items_good None later)) more
  rise_step n line later from more (Ok (Some x)) is =
      let here = at_line n line x is in
      subst (λ (xs : List A). AllPairs (λ x y. place x < place y) xs) (sym (items_good (Some x) later))
      (AllPairs-cons (λ x y. place x < place y) x (items_of later)
      (All-weaker (λ y. n + 1 ≤ place y) (λ y. place x < place y) (λ y h. omega (arith, h, here)) (items_of later) from) more)

  pub rise : (n : ℕ) (lines : List (List ℕ)) → AllPairs (λ x y. place x < place y) (found read most n lines)
  rise n [] = λ i j d below within. absurd (omega arith)
  rise n (line ∷ lines) =
      rise_step n line (map (numbered_at read most) (enumerate_from (n + 1) lines)) (from_line (n + 1) lines) (rise (n + 1) lines) (numbered_at read most (n, line)) refl

-- all that is found has what holds of all that one line holds
module _ {A : Type 0} (P : A → Type 0) (read : ℕ → List ℕ → Result (Option A) LineFault) (most : ℕ) (holds : (n : ℕ) (line : List ℕ) (x : A) → read n line ≡ Ok (Some x) → P x) where
  found_step : (n : ℕ) (line : List ℕ) (later : List (Result (Option A) LineFault)) → All P (items_of later)
      → (r : Result (Option A) LineFault) → numbered_at read most (n, line) ≡ r → All P (items_of (r ∷ later))
  found_step n line later more (Err f) is = All-same P (items_of (Err f ∷ later)) [] (items_bad f later) (All-nil P)
  found_step n line later more (Ok None) is = All-same P (items_of (Ok None ∷ later)) (items_of later) (items_good None later) more
  found_step n line later more (Ok (Some x)) is =
      All-same P (items_of (Ok (Some x) ∷ later)) (x ∷ items_of later) (items_good (Some x) later)
      (All-cons P x (items_of later) (holds n line x (numbered_read read most n line x is)) more)

  pub all_found : (n : ℕ) (lines : List (List ℕ)) → All P (found read most n lines)
  all_found n [] = All-nil P
  all_found n (line ∷ lines) = found_step n line (map (numbered_at read most) (enumerate_from (n + 1) lines)) (all_found (n + 1) lines) (numbered_at read most (n, line)) refl

-- no event stands on the line of a note
abbrev Apart : List EventValue → List ℕ → Type 0
Apart events notes = All (λ e. All (λ m. m ≢ e.line) notes) events

apart_note : (m : ℕ) (events : List EventValue) (notes : List ℕ) → All (λ e. m ≢ e.line) events → Apart events notes → Apart events (m ∷ notes)
apart_note m events notes one more = λ k d below. All-cons (λ n. n ≢ (get_or events k d).line) m notes (one k d below) (more k d below)

apart_event : (e : EventValue) (events : List EventValue) (notes : List ℕ) → All (λ m. m ≢ e.line) notes → Apart events notes → Apart (e ∷ events) notes
apart_event e events notes one more = All-cons (λ d. All (λ m. m ≢ d.line) notes) e events one more

pub event_at_line : (part n : ℕ) (line : List ℕ) (e : EventValue) → event_line part n line ≡ Ok (Some e) → e.line ≡ n
event_at_line part n line e h = (event_place part n line e h).1

pub note_at_line : (n : ℕ) (line : List ℕ) (m : ℕ) → idle_line n line ≡ Ok (Some m) → m ≡ n
note_at_line n line m h = (note_is n m line h).0

never_both : (part n : ℕ) (line : List ℕ) (e : EventValue) (m : ℕ) → event_line part n line ≡ Ok (Some e) → idle_line n line ≡ Ok (Some m) → ⊥
never_both part n line e m one two = cc (sym (note_line part n line (note_is n m line two).1) ∙ one)

-- one line more in front, with the events and the notes behind it
module _ (part most n : ℕ) (line : List ℕ) (events : List (Result (Option EventValue) LineFault)) (notes : List (Result (Option ℕ) LineFault))
    (past_events : All (λ e. n + 1 ≤ e.line) (items_of events)) (past : All (λ m. n + 1 ≤ m) (items_of notes)) (on : Apart (items_of events) (items_of notes)) where
  by : (xs xs' : List EventValue) (ms ms' : List ℕ) → xs ≡ xs' → ms ≡ ms' → Apart xs' ms' → Apart xs ms
  by xs xs' ms ms' one two h = rw (one, two) h

  apart_step : (r : Result (Option EventValue) LineFault) (s : Result (Option ℕ) LineFault) → numbered_at (event_line part) most (n, line) ≡ r → numbered_at idle_line most (n, line) ≡ s
      → Apart (items_of (r ∷ events)) (items_of (s ∷ notes))
  apart_step (Err f) s is also = by _ [] _ _ (items_bad f events) refl (All-nil (λ e. All (λ m. m ≢ e.line) (items_of (s ∷ notes))))
  apart_step (Ok o) (Err f) is also =
      by _ (items_of (Ok o ∷ events)) _ [] refl (items_bad f notes) (λ k d below. All-nil (λ m. m ≢ (get_or (items_of (Ok o ∷ events)) k d).line))
  apart_step (Ok None) (Ok None) is also = by _ _ _ _ (items_good None events) (items_good None notes) on
  apart_step (Ok (Some e)) (Ok None) is also =
      let here = event_at_line part n line e (numbered_read (event_line part) most n line e is) in
      by _ _ _ _ (items_good (Some e) events) (items_good None notes)
      (apart_event e (items_of events) (items_of notes) (All-weaker (λ m. n + 1 ≤ m) (λ m. m ≢ e.line) (λ m h same. omega (arith, h, here, same)) (items_of notes) past) on)
  apart_step (Ok None) (Ok (Some m)) is also =
      let here = note_at_line n line m (numbered_read idle_line most n line m also) in
      by _ _ _ _ (items_good None events) (items_good (Some m) notes)
      (apart_note m (items_of events) (items_of notes) (All-weaker (λ (e : EventValue). n + 1 ≤ e.line) (λ e. m ≢ e.line) (λ e h same. omega (arith, h, here, same)) (items_of events) past_events) on)
  apart_step (Ok (Some e)) (Ok (Some m)) is also =
      absurd (never_both part n line e m (numbered_read (event_line part) most n line e is) (numbered_read idle_line most n line m also))

pub apart : (part most n : ℕ) (lines : List (List ℕ)) → Apart (found (event_line part) most n lines) (found idle_line most n lines)
apart part most n [] = All-nil (λ e. All (λ m. m ≢ e.line) [])
apart part most n (line ∷ lines) =
    apart_step part most n line (map (numbered_at (event_line part) most) (enumerate_from (n + 1) lines)) (map (numbered_at idle_line most) (enumerate_from (n + 1) lines))
    (from_line (event_line part) most (λ e. e.line) (event_at_line part) (n + 1) lines) (from_line idle_line most (λ m. m) note_at_line (n + 1) lines)
    (apart part most (n + 1) lines) (numbered_at (event_line part) most (n, line)) (numbered_at idle_line most (n, line)) refl refl

-- two ways to read a line, with the same faults
abbrev SameFaults : {A B : Type 0} → (ℕ → List ℕ → Result (Option A) LineFault) → (ℕ → List ℕ → Result (Option B) LineFault) → Type 0
SameFaults read other = (k n : ℕ) (line : List ℕ) → (fault_of (k, read n line) ≡ fault_of (k, other n line)) × (is_ok (read n line) ≡ is_ok (other n line))

numbered_same : {A B : Type 0} (read : ℕ → List ℕ → Result (Option A) LineFault) (other : ℕ → List ℕ → Result (Option B) LineFault) → SameFaults read other → (most : ℕ)
    → SameFaults (λ n line. numbered_at read most (n, line)) (λ n line. numbered_at other most (n, line))
numbered_same read other same most k n line = go (nat_le n most) refl
  where
    go : (b : Bool) → nat_le n most ≡ b
        → (fault_of (k, numbered_at read most (n, line)) ≡ fault_of (k, numbered_at other most (n, line))) × (is_ok (numbered_at read most (n, line)) ≡ is_ok (numbered_at other most (n, line)))
    go true is = rw is (same k n line)
    go false is = rw is (refl, refl)

faults_from : {A B : Type 0} (read : ℕ → List ℕ → Result (Option A) LineFault) (other : ℕ → List ℕ → Result (Option B) LineFault) → SameFaults read other → (most n k : ℕ) (lines : List (List ℕ))
    → (filter_map fault_of (enumerate_from k (map (numbered_at read most) (enumerate_from n lines))) ≡ filter_map fault_of (enumerate_from k (map (numbered_at other most) (enumerate_from n lines))))
    × (list_all is_ok (map (numbered_at read most) (enumerate_from n lines)) ≡ list_all is_ok (map (numbered_at other most) (enumerate_from n lines)))
faults_from read other same most n k [] = (refl, refl)
faults_from read other same most n k (line ∷ lines) =
    let here = numbered_same read other same most k n line in
    let later = faults_from read other same most (n + 1) (k + 1) lines in
    (rw (here.0, later.0) refl, rw (here.1, later.1) refl)

-- ---- the faults of a line are the same, whatever is asked of it

-- the fault alone
abbrev fails : {A : Type 0} → Result A LineFault → Option LineFault
fails (Ok x) = None
fails (Err f) = Some f

by_fails : {A B : Type 0} (k : ℕ) (r : Result (Option A) LineFault) (s : Result (Option B) LineFault) → fails r ≡ fails s → (fault_of (k, r) ≡ fault_of (k, s)) × (is_ok r ≡ is_ok s)
by_fails k (Ok x) (Ok y) h = (refl, refl)
by_fails k (Ok x) (Err g) h = absurd (cc h)
by_fails k (Err f) (Ok y) h = absurd (cc h)
by_fails k (Err f) (Err g) h = (ap (option_map (λ x. (k, x))) h, refl)

bind_same : {X A B : Type 0} (r : Result X LineFault) (f : X → Result A LineFault) (g : X → Result B LineFault) → ((x : X) → fails (f x) ≡ fails (g x)) → fails (r >>= f) ≡ fails (r >>= g)
bind_same (Ok x) f g same = same x
bind_same (Err e) f g same = refl

after_ok : {X A : Type 0} (r : Result X LineFault) (f : X → A) → fails (r >>= (λ x. Ok (f x))) ≡ fails r
after_ok (Ok x) f = refl
after_ok (Err e) f = refl

fields_fail : (part n : ℕ) (fields : List (List ℕ)) (b : Bool) → (nat_le 3 (length fields) && nat_le (length fields) 6) ≡ b → fails (event_at part n fields) ≡ fails (event_at 0 n fields)
fields_fail part n fields true is =
    rw is (bind_same (value_at 0 (slice_get fields 0)) _ _ (λ ts. bind_same (key_of (slice_get fields 1)) _ _ (λ key. bind_same (values_at fields) _ _ (λ v. refl))))
fields_fail part n fields false is = rw is refl

line_fails : (part n : ℕ) (line : List ℕ) → fails (line_at (event_at part n) line) ≡ fails (line_at (event_at 0 n) line)
line_fails part n [] = refl
line_fails part n (b ∷ bytes) = bind_same (fields_at (b ∷ bytes)) _ _
    (λ fields. after_ok (event_at part n fields) Some ∙ fields_fail part n fields _ refl ∙ sym (after_ok (event_at 0 n fields) Some))

entry_fails : (part n : ℕ) (line : List ℕ) → fails (entry_at part n line) ≡ fails (entry_at 0 n line)
entry_fails part n line = elim (cases_Bool (is_idle line)) [
  | inl note ↦ rw note refl
  | inr other ↦ rw other (after_ok (line_at (event_at part n) line) entry_of ∙ line_fails part n line ∙ sym (after_ok (line_at (event_at 0 n) line) entry_of))
]

same_faults : (part : ℕ) → SameFaults (event_line part) idle_line
same_faults part k n line =
    by_fails k (event_line part n line) (idle_line n line)
    (after_ok (entry_at part n line) event_in ∙ entry_fails part n line ∙ sym (after_ok (entry_at 0 n line) (idle_in n)))

-- events and notes are given up to the same bad line
pub same_bad : (part most : ℕ) (bytes : List ℕ) → first_bad_line idle_line most bytes ≡ first_bad_line (event_line part) most bytes
same_bad part most bytes = ap first_of (sym (faults_from (event_line part) idle_line (same_faults part) most 1 1 (lines_of bytes)).0)

pub same_good : (part most : ℕ) (lines : List (List ℕ)) → are_good (event_line part) most lines ≡ are_good idle_line most lines
same_good part most lines = (faults_from (event_line part) idle_line (same_faults part) most 1 1 lines).1
