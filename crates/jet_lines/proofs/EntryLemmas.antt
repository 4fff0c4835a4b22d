-- What a line of a source file holds: an idle note, or what its fields do.
use Rattle.std.proofs.Common.{◌≡◌, ℕ, ◌<◌, Bool, true, false, ◌&&◌, List, [], ◌∷◌, length, nat_le, nat_lt, codes, Option, Some, None, refl, sym, ap, ◌∙◌, inl, inr, arith}
use Rattle.std.specs.Prelude.{Result, Ok, Err, slice_get}
use Rattle.std.proofs.lemmas.Bool.{cases_Bool}
use Rattle.std.proofs.lemmas.Slice.Eq.{bytes_eq-Decides}
use Rattle.jet_items.specs.Values.{EventValue}
use Rattle.jet_lines.specs.Readings.{◌>>=◌, fields_at, value_at, key_of, values_at, event_at, line_at, is_idle, entry_of, entry_at, event_in, idle_in, event_line, idle_line}
use Rattle.jet_lines.specs.declared.fault.LineFault.{LineFault}
use Rattle.jet_lines.specs.declared.fault.LineFault.TheVariants.{TooLong}

-- an entry and its event, without a note
back : (r : Result (Option EventValue) LineFault) → ((r >>= (λ found. Ok (entry_of found))) >>= (λ x. Ok (event_in x))) ≡ r
back (Ok None) = refl
back (Ok (Some e)) = refl
back (Err f) = refl

-- a line that is no idle note
pub other_line : (part n : ℕ) (line : List ℕ) → is_idle line ≡ false → event_line part n line ≡ line_at (event_at part n) line
other_line part n line other = rw other (back (line_at (event_at part n) line))

pub note_line : (part n : ℕ) (line : List ℕ) → is_idle line ≡ true → event_line part n line ≡ Ok None
note_line part n line note = rw note refl

-- a line of a source file with an event is no idle note
pub event_is_other : (part n : ℕ) (line : List ℕ) (e : EventValue) → event_line part n line ≡ Ok (Some e) → line_at (event_at part n) line ≡ Ok (Some e)
event_is_other part n line e h = elim (cases_Bool (is_idle line)) [
  | inl note ↦ absurd (cc (sym (note_line part n line note) ∙ h))
  | inr other ↦ sym (other_line part n line other) ∙ h
]

no_note : (part n : ℕ) (r : Result (Option EventValue) LineFault) (m : ℕ) → ((r >>= (λ found. Ok (entry_of found))) >>= (λ x. Ok (idle_in n x))) ≡ Ok (Some m) → ⊥
no_note part n (Ok None) m h = cc h
no_note part n (Ok (Some e)) m h = cc h
no_note part n (Err f) m h = cc h

some_number : (n m : ℕ) → let r : Result (Option ℕ) LineFault = Ok (Some n) in r ≡ Ok (Some m) → m ≡ n
some_number n m h = cc h

-- a note stands on the line of its number, and that line has no event
pub note_is : (n m : ℕ) (line : List ℕ) → idle_line n line ≡ Ok (Some m) → (m ≡ n) × (is_idle line ≡ true)
note_is n m line h = elim (cases_Bool (is_idle line)) [
  | inl note ↦ (some_number n m (rw note at h), note)
  | inr other ↦ absurd (no_note 0 n (line_at (event_at 0 n) line) m (rw other at h))
]

-- what went on without a fault
went_on : {A B : Type 0} (r : Result A LineFault) (f : A → Result B LineFault) (y : B) → (r >>= f) ≡ Ok y → (x : A) × (r ≡ Ok x) × (f x ≡ Ok y)
went_on (Ok x) f y h = (x, refl, h)
went_on (Err e) f y h = absurd (cc h)

same_event : (x y : EventValue) → let r : Result EventValue LineFault = Ok x in r ≡ Ok y → x ≡ y
same_event x y h = cc h

same_found : (x y : EventValue) → let r : Result (Option EventValue) LineFault = Ok (Some x) in r ≡ Ok (Some y) → x ≡ y
same_found x y h = cc h

-- the event of fields has the numbers of its file and of its line
fields_place : (part n : ℕ) (fields : List (List ℕ)) (e : EventValue) (b : Bool) → (nat_le 3 (length fields) && nat_le (length fields) 6) ≡ b → event_at part n fields ≡ Ok e
    → (e.part ≡ part) × (e.line ≡ n)
fields_place part n fields e true is h =
    let one = went_on (value_at 0 (slice_get fields 0)) _ e (rw is at h) in
    let two = went_on (key_of (slice_get fields 1)) _ e one.2 in
    let three = went_on (values_at fields) _ e two.2 in
    let same = sym (same_event _ e three.2) in
    (ap (λ (x : EventValue). x.part) same, ap (λ (x : EventValue). x.line) same)
fields_place part n fields e false is h = absurd (cc (rw is at h))

line_place : (part n : ℕ) (line : List ℕ) (e : EventValue) → line_at (event_at part n) line ≡ Ok (Some e) → (e.part ≡ part) × (e.line ≡ n)
line_place part n [] e h = absurd (cc h)
line_place part n (b ∷ bytes) e h =
    let one = went_on (fields_at (b ∷ bytes)) _ (Some e) h in
    let two = went_on (event_at part n one.0) _ (Some e) one.2 in
    let same = sym (same_found two.0 e two.2) in
    let place = fields_place part n one.0 two.0 _ refl two.1 in
    (ap (λ (x : EventValue). x.part) same ∙ place.0, ap (λ (x : EventValue). x.line) same ∙ place.1)

-- the event of a line has the numbers of its file and of its line
pub event_place : (part n : ℕ) (line : List ℕ) (e : EventValue) → event_line part n line ≡ Ok (Some e) → (e.part ≡ part) × (e.line ≡ n)
event_place part n line e h = line_place part n line e (event_is_other part n line e h)

lt_true : (n : ℕ) → 512 < n → nat_lt 512 n ≡ true
lt_true n h = grind arith

pub long_line : {A : Type 0} (item : List (List ℕ) → Result A LineFault) (line : List ℕ) → 512 < length line → line_at item line ≡ Err TooLong
long_line item [] long = absurd (omega (arith, long))
long_line item (b ∷ line) long = rw (lt_true (length (b ∷ line)) long) refl

pub long_is_no_note : (line : List ℕ) → 512 < length line → is_idle line ≡ false
long_is_no_note line long = elim (cases_Bool (is_idle line)) [
  | inl note ↦ absurd (omega (arith, long, ap length ((bytes_eq-Decides line (codes "#idle")).0 note)))
  | inr other ↦ other
]

-- a line of a source file with more than 512 bytes
pub long_entry : (part n : ℕ) (line : List ℕ) → 512 < length line → entry_at part n line ≡ Err TooLong
long_entry part n line long = rw (long_is_no_note line long, long_line (event_at part n) line long) refl

pub long_event : (part n : ℕ) (line : List ℕ) → 512 < length line → event_line part n line ≡ Err TooLong
long_event part n line long = other_line part n line (long_is_no_note line long) ∙ long_line (event_at part n) line long
