-- A line that is read in place is read as its fields.
use Rattle.std.proofs.Common.{◌≡◌, ◌≢◌, ℕ, ℤ, pos, neg_ℤ, ◌==◌, ◌&&◌, ◌≤◌, ◌+◌, not, List, [], ◌∷◌, ◌++◌, Bool, true, false, cond, nat_eq, nat_le, Some, None, Option, option_map, refl, ap, sym, subst, ◌∙◌, length, arith, rules, w64, to_z, of_z, to_z-of_z, FitsSigned, inl, inr, ◌-◌, take, drop, get_or, append_assoc, add-one, length-append, ◌<◌}
use Rattle.std.specs.List.{list_all}
use Rattle.std.proofs.lemmas.List.{append-nil, take_all, take_more}
use Rattle.std.proofs.lemmas.Bool.{cases_Bool}
use Rattle.std.proofs.lemmas.Bool.Decides.{nat_tests}
use Rattle.std.specs.Char.{is_ascii_digit}
use Rattle.std.specs.Str.Parse.{digits_value}
use Rattle.std.specs.Prelude.{position, slice_get, Result, Ok, Err, nat_lt}
use Rattle.std.specs.List.{position_from}
use Rattle.std.proofs.lemmas.Iterator.Adapters.{position_from-zero}
use Rattle.std.proofs.lemmas.List.Folds.{list_all-append}
use Rattle.jet_items.specs.KeyBytes.{is_key_byte}
use Rattle.jet_items.specs.KeyFaults.{key_at, where_bad}
use Rattle.jet_items.specs.declared.key.KeyFault.TheVariants.{Empty, Long}
use Rattle.jet_lines.specs.Grammar.{is_line_byte, is_plain_byte}
use Rattle.jet_lines.proofs.TestLemmas.{all_pass}
use Rattle.jet_items.specs.Ranges.{IsWithin, most_time}
use Rattle.jet_lines.specs.Numbers.{digits_at, number_at}
use Rattle.jet_lines.specs.Quick.{AreValues, comma_and, fields_after, HasFront, HasNumber, HasValue, IsAtFront}
use Rattle.jet_lines.specs.Readings.{event_at, fields_at, key_or_fault, line_at, number_or_fault, side_at, value_at}
use Rattle.jet_lines.specs.Scan.{fields_from, fields_of}
use Rattle.jet_lines.specs.declared.fault.LineFault.{LineFault}
use Rattle.jet_lines.specs.declared.form.Stand.TheVariants as stand

-- timestamps and values fit into 64 bits
pub kept : (z : ℤ) → IsWithin most_time z → to_z w64 (of_z w64 z) ≡ z
kept z within = let fits : FitsSigned w64 z = search rules in rw to_z-of_z refl

-- the digits of a number are at the front, and this stands behind them
abbrev AreDigits : ℕ → List ℕ → Option (List ℕ) → Type 0
AreDigits n bytes after = (text : List ℕ) × (digits_at text ≡ Some n) × (bytes ≡ text ++ comma_and after)

-- digits behind a minus are the number below 0
pub below_zero : (bytes : List ℕ) (n : ℕ) (z : ℤ) (after : Option (List ℕ)) → 1 ≤ length bytes → get_or bytes 0 0 ≡ 45
    → z ≡ neg_ℤ (pos n) → IsWithin most_time z → AreDigits n (take (length bytes - 1) (drop 1 bytes)) after
    → HasNumber (to_z w64 (of_z w64 z)) bytes after
below_zero [] n z after some minus value within front = absurd (omega arith)
below_zero (b ∷ bytes) n z after some minus value within (text, is, e) =
    let all : take (length (b ∷ bytes) - 1) bytes ≡ bytes = take_all (length (b ∷ bytes) - 1) bytes (omega arith) in
    let same : bytes ≡ text ++ comma_and after = sym all ∙ e in
    let first : b ≡ 45 = minus in (
      45 ∷ text,
      ap (option_map (λ n. neg_ℤ (pos n))) is ∙ ap (λ (x : ℤ). Some x) (sym (kept z within ∙ value)),
      inl (ap (λ (s : List ℕ). b ∷ s) same ∙ ap (λ (c : ℕ). c ∷ text ++ comma_and after) first),
    )

-- a byte that a plain field of a good line may hold
abbrev field_byte : ℕ → Bool
field_byte b = is_line_byte b && is_plain_byte b

-- what passes one test passes a weaker one
weaker : (p q : ℕ → Bool) → ((b : ℕ) → p b ≡ true → q b ≡ true) → (bytes : List ℕ) → list_all p bytes ≡ true → list_all q bytes ≡ true
weaker p q so [] all = refl
weaker p q so (b ∷ bytes) all =
    let (here, later) = parts (p b) (list_all p bytes) all in both (q b) (list_all q bytes) (so b here) (weaker p q so bytes later)
  where
    parts : (x y : Bool) → (x && y) ≡ true → (x ≡ true) × (y ≡ true)
    parts true y e = (refl, e)
    parts false y e = cc e

    both : (x y : Bool) → x ≡ true → y ≡ true → (x && y) ≡ true
    both x y p q = rw (p, q) refl

-- digits are such bytes
digit_field : (b : ℕ) → is_ascii_digit b ≡ true → field_byte b ≡ true
digit_field b e = grind (arith, nat_tests)

key_field : (b : ℕ) → is_key_byte b ≡ true → field_byte b ≡ true
key_field b e = grind (arith, nat_tests)

are_digits : (digits : List ℕ) (n : ℕ) → digits_at digits ≡ Some n → list_all is_ascii_digit digits ≡ true
are_digits digits n e =
    third (nat_le 1 (length digits)) (nat_le (length digits) 16) (list_all is_ascii_digit digits) (nat_le (digits_value 10 digits) most_time) (digits_value 10 digits) n e
  where
    third : (a b c d : Bool) (v n : ℕ) → cond (a && b && c && d) (Some v) None ≡ Some n → c ≡ true
    third true true true d v n e = refl
    third true true false d v n e = cc e
    third true false c d v n e = cc e
    third false b c d v n e = cc e

digits_are : (digits : List ℕ) (n : ℕ) → digits_at digits ≡ Some n → list_all field_byte digits ≡ true
digits_are digits n e = weaker is_ascii_digit field_byte digit_field digits (are_digits digits n e)

-- digits at the front are a number
pub above_zero : (bytes : List ℕ) (n : ℕ) (after : Option (List ℕ)) → AreDigits n bytes after → HasNumber (pos n) bytes after
above_zero bytes n after ([], is, e) = cc is
above_zero bytes n after (b ∷ text, is, e) =
    let digit : is_ascii_digit b ≡ true = first (is_ascii_digit b) (list_all is_ascii_digit text) (are_digits (b ∷ text) n is) in
    (b ∷ text, rw (no_minus b digit) (ap (option_map pos) is), inl e)
  where
    first : (x y : Bool) → (x && y) ≡ true → x ≡ true
    first true y e = refl
    first false y e = cc e

    no_minus : (b : ℕ) → is_ascii_digit b ≡ true → (b == 45) ≡ false
    no_minus b e = grind (arith, nat_tests)

number_is : (text : List ℕ) (z : ℤ) → number_at text ≡ Some z → list_all field_byte text ≡ true
number_is [] z e = cc e
number_is (b ∷ bytes) z e = elim (cases_Bool (b == 45)) [
  | inl minus ↦
      let digits : (n : ℕ) × (digits_at bytes ≡ Some n) = made (λ n. neg_ℤ (pos n)) (digits_at bytes) z (rw minus at e) in
      rw (digits_are bytes digits.0 digits.1) (first b minus)
  | inr other ↦
      let digits : (n : ℕ) × (digits_at (b ∷ bytes) ≡ Some n) = made pos (digits_at (b ∷ bytes)) z (rw other at e) in
      digits_are (b ∷ bytes) digits.0 digits.1
]
  where
    made : (f : ℕ → ℤ) (o : Option ℕ) (z : ℤ) → option_map f o ≡ Some z → (n : ℕ) × (o ≡ Some n)
    made f None z e = cc e
    made f (Some n) z e = (n, refl)

    first : (b : ℕ) → nat_eq b 45 ≡ true → (field_byte b && true) ≡ true
    first b e = grind (arith, nat_tests)

key_is : (text key : List ℕ) → key_at 24 text ≡ Ok key → list_all field_byte text ≡ true
key_is text key e = weaker is_key_byte field_byte key_field text (all_pass is_key_byte text (last _ _ (position (λ b. not (is_key_byte b)) text) text key e))
  where
    last : (empty long : Bool) (at : Option ℕ) (text key : List ℕ) → cond empty (Err Empty) (cond long (Err Long) (where_bad text at)) ≡ Ok key → at ≡ None
    last true long at text key e = cc e
    last false true at text key e = cc e
    last false false None text key e = refl
    last false false (Some n) text key e = cc e

-- such a byte is no comma and no quotation mark
no_comma : (b : ℕ) → field_byte b ≡ true → (b == 44) ≡ false
no_comma b e = grind (arith, nat_tests)

no_mark : (b : ℕ) → field_byte b ≡ true → (b == 34) ≡ false
no_mark b e = grind (arith, nat_tests)

in_line : (b : ℕ) → field_byte b ≡ true → is_line_byte b ≡ true
in_line b e = grind (arith, nat_tests)

two : (x y : Bool) → (x && y) ≡ true → (x ≡ true) × (y ≡ true)
two true y e = (refl, e)
two false y e = cc e

-- the fields of a line whose first one is this
abbrev behind : List ℕ → Option (List ℕ) → Option (List (List ℕ))
behind field after = option_map (λ fields. field ∷ fields) (fields_after after)

-- at the end of a field the fields behind it follow
ends : (field : List ℕ) (after : Option (List ℕ)) → (fields_from stand.Start field (comma_and after) ≡ behind field after)
    × (fields_from stand.Plain field (comma_and after) ≡ behind field after) × (fields_from stand.Closed field (comma_and after) ≡ behind field after)
unfolding fields_from
ends field None = (refl, refl, refl)
ends field (Some rest) = (refl, refl, refl)

plain_on : (front field : List ℕ) (after : Option (List ℕ)) → list_all field_byte field ≡ true
    → fields_from stand.Plain front (field ++ comma_and after) ≡ behind (front ++ field) after
unfolding fields_from
plain_on front [] after all = (ends front after).1 ∙ ap (λ (f : List ℕ). behind f after) (sym (append-nil front))
plain_on front (b ∷ field) after all =
    let (here, later) = two (field_byte b) (list_all field_byte field) all in
    rw (no_comma b here, no_mark b here)
    (plain_on (front ++ b ∷ []) field after later ∙ ap (λ (f : List ℕ). behind f after) (append_assoc front (b ∷ []) field))

quoted_on : (front field : List ℕ) (after : Option (List ℕ)) → list_all field_byte field ≡ true
    → fields_from stand.Quoted front (field ++ 34 ∷ comma_and after) ≡ behind (front ++ field) after
unfolding fields_from
quoted_on front [] after all = (ends front after).2 ∙ ap (λ (f : List ℕ). behind f after) (sym (append-nil front))
quoted_on front (b ∷ field) after all =
    let (here, later) = two (field_byte b) (list_all field_byte field) all in
    rw (no_mark b here)
    (quoted_on (front ++ b ∷ []) field after later ∙ ap (λ (f : List ℕ). behind f after) (append_assoc front (b ∷ []) field))

-- a field at the front is the first of the fields
front_fields : (bytes field : List ℕ) (after : Option (List ℕ)) → list_all field_byte field ≡ true → IsAtFront field bytes after
    → fields_of bytes ≡ behind field after
unfolding fields_from
front_fields bytes [] after all (inl e) = ap (λ (xs : List ℕ). fields_of xs) e ∙ (ends [] after).0
front_fields bytes (b ∷ field) after all (inl e) =
    let (here, later) = two (field_byte b) (list_all field_byte field) all in
    ap (λ (xs : List ℕ). fields_of xs) e ∙ rw (no_comma b here, no_mark b here) (plain_on (b ∷ []) field after later)
front_fields bytes field after all (inr e) = ap (λ (xs : List ℕ). fields_of xs) e ∙ quoted_on [] field after all

-- and no byte of it is bad
front_good : (bytes field : List ℕ) (after : Option (List ℕ)) → list_all field_byte field ≡ true → IsAtFront field bytes after
    → list_all is_line_byte (comma_and after) ≡ true → list_all is_line_byte bytes ≡ true
front_good bytes field after all (inl e) good = ap (list_all is_line_byte) e ∙ joined field (comma_and after) (weaker field_byte is_line_byte in_line field all) good
  where
    joined : (xs ys : List ℕ) → list_all is_line_byte xs ≡ true → list_all is_line_byte ys ≡ true → list_all is_line_byte (xs ++ ys) ≡ true
    joined xs ys p q = list_all-append is_line_byte xs ys ∙ rw (p, q) refl
front_good bytes field after all (inr e) good = ap (list_all is_line_byte) e ∙ joined field (34 ∷ comma_and after) (weaker field_byte is_line_byte in_line field all) good
  where
    joined : (xs ys : List ℕ) → list_all is_line_byte xs ≡ true → list_all is_line_byte ys ≡ true → list_all is_line_byte (xs ++ ys) ≡ true
    joined xs ys p q = list_all-append is_line_byte xs ys ∙ rw (p, q) refl

-- a field up to its closing mark, and what stands behind it
pub closed_front : (bytes inner : List ℕ) (len : ℕ) (after : Option (List ℕ)) → len < length inner → get_or inner len 0 ≡ 34 → bytes ≡ 34 ∷ inner
    → inner ≡ take (len + 1) inner ++ comma_and after → IsAtFront (take len inner) bytes after
closed_front bytes inner len after fits here first rest =
    let cut : take (len + 1) inner ≡ take len inner ++ 34 ∷ [] = take_more inner len 0 fits ∙ ap (λ (b : ℕ). take len inner ++ b ∷ []) here in
    inr (first ∙ ap (λ (s : List ℕ). 34 ∷ s) (rest ∙ ap (λ (s : List ℕ). s ++ comma_and after) cut ∙ append_assoc (take len inner) (34 ∷ []) (comma_and after)))

-- the fields to the end of the line, from where a value comes that is present or missing
record IsStep (z : ℤ) (after : Option (List ℕ)) (fewer : List (List ℕ)) : Type 0 where
  fields : List (List ℕ)
  are : fields_after after ≡ Some fields
  here : (i : ℕ) → value_at i (slice_get fields 0) ≡ Ok z
  later : (k : ℕ) → slice_get fields (k + 1) ≡ slice_get fewer k
  some : after ≢ None → 1 ≤ length fields
  few : length fields ≤ length fewer + 1
  good : list_all is_line_byte (comma_and after) ≡ true

step : (z : ℤ) (after next : Option (List ℕ)) (fewer : List (List ℕ)) → HasValue z after next → fields_after next ≡ Some fewer
    → list_all is_line_byte (comma_and next) ≡ true → IsStep z after fewer
step z None next fewer (zero, end) are good = record {
  fields = [];
  are = refl;
  here = λ i. ap (λ (x : ℤ). Ok x) (sym zero);
  later = λ k. subst (λ (fields : List (List ℕ)). None ≡ slice_get fields k) (same (sym (ap fields_after end) ∙ are)) refl;
  some = λ there. absurd (there refl);
  few = omega arith;
  good = refl;
}
  where
    same : {xs ys : List (List ℕ)} → Some xs ≡ Some ys → xs ≡ ys
    same e = cc e
step z (Some bytes) next fewer (field, is, front) are good =
    let plain = number_is field z is in record {
      fields = field ∷ fewer;
      are = front_fields bytes field next plain front ∙ ap (option_map (λ (fields : List (List ℕ)). field ∷ fields)) are;
      here = λ i. ap (number_or_fault i) is;
      later = λ k. next_of k field fewer;
      some = λ there. omega arith;
      few = omega arith;
      good = front_good bytes field next plain front good;
    }
  where
    next_of : (k : ℕ) (field : List ℕ) (fields : List (List ℕ)) → slice_get (field ∷ fields) (k + 1) ≡ slice_get fields k
    next_of k field fields = rw add-one refl

-- four values, and then the end of the line
pub four_values : (v0 v1 v2 v3 : ℤ) (a0 a1 a2 a3 a4 : Option (List ℕ)) → HasValue v0 a0 a1 → HasValue v1 a1 a2 → HasValue v2 a2 a3 → HasValue v3 a3 a4
    → a4 ≡ None → AreValues (v0 ∷ v1 ∷ v2 ∷ v3 ∷ []) a0
four_values v0 v1 v2 v3 a0 a1 a2 a3 a4 h0 h1 h2 h3 end =
    let s3 = step v3 a3 a4 [] h3 (ap fields_after end) (ap (λ (a : Option (List ℕ)). list_all is_line_byte (comma_and a)) end) in
    let s2 = step v2 a2 a3 s3.fields h2 s3.are s3.good in
    let s1 = step v1 a1 a2 s2.fields h1 s2.are s2.good in
    let s0 = step v0 a0 a1 s1.fields h0 s1.are s1.good in
    let e0 : value_at 1 (slice_get s0.fields 0) ≡ Ok v0 = s0.here 1 in
    let e1 : value_at 2 (slice_get s0.fields 1) ≡ Ok v1 = ap (value_at 2) (s0.later 0) ∙ s1.here 2 in
    let e2 : value_at 3 (slice_get s0.fields 2) ≡ Ok v2 = ap (value_at 3) (s0.later 1 ∙ s1.later 0) ∙ s2.here 3 in
    let e3 : value_at 4 (slice_get s0.fields 3) ≡ Ok v3 = ap (value_at 4) (s0.later 2 ∙ s1.later 1 ∙ s2.later 0) ∙ s3.here 4 in record {
      fields = s0.fields;
      are = s0.are;
      some = s0.some;
      few = omega (arith, s0.few, s1.few, s2.few, s3.few);
      good = s0.good;
      values = λ a b. rw (e0, e1, e2, e3) refl;
    }

-- where all bytes pass a test, none is the first that fails it
none_fails : (test : ℕ → Bool) (bytes : List ℕ) (n : ℕ) → list_all test bytes ≡ true → position_from (λ b. not (test b)) n bytes ≡ None
none_fails test [] n all = refl
none_fails test (b ∷ bytes) n all = go (test b) (list_all test bytes) (position_from (λ c. not (test c)) (n + 1) bytes) all (none_fails test bytes (n + 1))
  where
    go : (here rest : Bool) (later : Option ℕ) → (here && rest) ≡ true → (rest ≡ true → later ≡ None) → cond (not here) (Some n) later ≡ None
    go true rest later e none = none e
    go false rest later e none = cc e

-- what the fields of a line with good bytes hold the line holds
line_holds : {A : Type 0} (item : List (List ℕ) → Result A LineFault) (line : List ℕ) (fields : List (List ℕ)) (x : A) → 1 ≤ length line → length line ≤ 512
    → list_all is_line_byte line ≡ true → fields_of line ≡ Some fields → item fields ≡ Ok x → line_at item line ≡ Ok (Some x)
line_holds item [] fields x some short good are e = absurd (omega arith)
line_holds item (b ∷ bytes) fields x some short good are e =
    let line = b ∷ bytes in
    let fits : nat_lt 512 (length line) ≡ false = not_long (length line) short in
    let none : position (λ c. not (is_line_byte c)) line ≡ None = position_from-zero (λ c. not (is_line_byte c)) line ∙ none_fails is_line_byte line 0 good in
    let read : fields_at line ≡ Ok fields = rw (fits, none, are) refl in
    rw (read, e) refl
  where
    not_long : (n : ℕ) → n ≤ 512 → nat_lt 512 n ≡ false
    not_long n h = grind arith

front_some : (bytes field rest : List ℕ) → IsAtFront field bytes (Some rest) → 1 ≤ length bytes
front_some bytes field rest (inl e) = omega (arith, ap length e, length-append field (44 ∷ rest))
front_some bytes field rest (inr e) = omega (arith, ap length e)

-- two fields and values are the fields of a line
record AreFields (line first second : List ℕ) (fields : List (List ℕ)) : Type 0 where
  some : 1 ≤ length line
  good : list_all is_line_byte line ≡ true
  are : fields_of line ≡ Some (first ∷ second ∷ fields)

two_fields : (line first rest second : List ℕ) (after : Option (List ℕ)) (v : List ℤ) (values : AreValues v after) → list_all field_byte first ≡ true
    → IsAtFront first line (Some rest) → list_all field_byte second ≡ true → IsAtFront second rest after → AreFields line first second values.fields
two_fields line first rest second after v values plain front plain_next front_next = record {
  some = front_some line first rest front;
  good = front_good line first (Some rest) plain front (front_good rest second after plain_next front_next values.good);
  are =
      front_fields line first (Some rest) plain front
      ∙ ap (option_map (λ (fields : List (List ℕ)). first ∷ fields))
      (front_fields rest second after plain_next front_next ∙ ap (option_map (λ (fields : List (List ℕ)). second ∷ fields)) values.are);
}

-- a time, a key and values are an event
pub event_holds : (part number : ℕ) (line rest text more : List ℕ) (ts : ℤ) (key : List ℕ) (v : List ℤ) → length line ≤ 512 → HasNumber ts line (Some rest)
    → key_at 24 text ≡ Ok key → IsAtFront text rest (Some more) → AreValues v (Some more)
    → line_at (event_at part number) line ≡ Ok (Some (record { part = part; line = number; ts = ts; key = key; v = v }))
event_holds part number line rest text more ts key v short (time, time_is, front) key_e front_next values =
    let are = two_fields line time rest text (Some more) v values (number_is time ts time_is) front (key_is text key key_e) front_next in
    let count = enough time text values.fields (values.some (λ none. cc none)) values.few in
    let ts_is : number_or_fault 0 (number_at time) ≡ Ok ts = ap (number_or_fault 0) time_is in
    let key_of_is : key_or_fault (key_at 24 text) ≡ Ok key = ap key_or_fault key_e in
    let v_is = values.values time text in
    line_holds (event_at part number) line (time ∷ text ∷ values.fields) _ are.some short are.good are.are
    (rw (count, ts_is, key_of_is, v_is) refl)
  where
    enough : (a b : List ℕ) (fields : List (List ℕ)) → 1 ≤ length fields → length fields ≤ 4
        → (nat_le 3 (length (a ∷ b ∷ fields)) && nat_le (length (a ∷ b ∷ fields)) 6) ≡ true
    enough a b fields some few = grind (arith, nat_tests)

-- a key, a label and values are a row
pub side_holds : (number : ℕ) (line text rest name : List ℕ) (after : Option (List ℕ)) (key label : List ℕ) (v : List ℤ) → length line ≤ 512
    → key_at 24 text ≡ Ok key → IsAtFront text line (Some rest) → key_at 24 name ≡ Ok label → IsAtFront name rest after → AreValues v after
    → line_at (side_at number) line ≡ Ok (Some (record { line = number; key = key; label = label; v = v }))
side_holds number line text rest name after key label v short key_e front label_e front_next values =
    let are = two_fields line text rest name after v values (key_is text key key_e) front (key_is name label label_e) front_next in
    let count = enough text name values.fields values.few in
    let key_of_is : key_or_fault (key_at 24 text) ≡ Ok key = ap key_or_fault key_e in
    let label_of_is : key_or_fault (key_at 24 name) ≡ Ok label = ap key_or_fault label_e in
    let v_is = values.values text name in
    line_holds (side_at number) line (text ∷ name ∷ values.fields) _ are.some short are.good are.are
    (rw (count, key_of_is, label_of_is, v_is) refl)
  where
    enough : (a b : List ℕ) (fields : List (List ℕ)) → length fields ≤ 4
        → (nat_le 2 (length (a ∷ b ∷ fields)) && nat_le (length (a ∷ b ∷ fields)) 6) ≡ true
    enough a b fields few = grind (arith, nat_tests)
