-- Fields: what is spelled is read, and what is read is spelled so. Each kind of item is made of fields one after another.
use Rattle.std.proofs.Common.{◌≡◌, ℕ, zero, suc, ◌^◌, ◌<◌, ◌≤◌, Bool, true, false, cond, ltb, List, [], ◌∷◌, ◌++◌, length, take, drop, get_or, Option, Some, None, refl, sym, ap, subst, ◌∙◌, append_assoc, arith}
use Rattle.std.specs.Prelude.{ℤ, pos}
use Rattle.std.specs.List.{AllByRecursion}
use Rattle.std.specs.Int.{Width, w64, byte_len, from_be_bytes, to_be_bytes, cast_signed, cast_unsigned}
use Rattle.std.specs.Int.RustNames.{FitsSigned}
use mir.Val.{bits}
use Rattle.std.proofs.lemmas.Bool.{le-ltb, ltb-false}
use Rattle.std.proofs.lemmas.Int.{ints, to_z-of_z, of_z-to_z}
use Rattle.std.proofs.Math.Facts.{Fits-of_z, Fits-of_lt, Fits-lt-pow, sfits_to_z}
use Rattle.std.proofs.lemmas.List.{take_at, drop_at, length-append, length-take-le, take-append-drop}
use Rattle.std.proofs.lemmas.Grind.{common_steps}
use Rattle.jet_items.specs.KeyBytes.{IsKey, is_key}
use Rattle.jet_items.specs.Ranges.{IsWithin, is_within, most_time}
use Rattle.jet_spell.specs.Spelling.{signed_bytes, key_bytes, values_bytes}
use Rattle.jet_spell.specs.Reading.{Reads, ◌>>=◌, only_if, ◌&◌, made, tested, byte_at, number_at, signed_at, within_at, bytes_at, key_at, values_at}
use Rattle.jet_spell.specs.Laws.{AreBytes}
use Rattle.jet_spell.proofs.BigEndian.{length_high, number_again, bytes_again}

-- values that fit are spelled by `spell` and read by `read`
pub record IsField {A : Type 0} (Fits : A → Type 0) (spell : A → List ℕ) (read : Reads A) : Type 0 where
  pub again : (x : A) (rest : List ℕ) → Fits x → read (spell x ++ rest) ≡ Some (x, rest)
  pub spelled : (bytes : List ℕ) (x : A) (rest : List ℕ) → AreBytes bytes → read bytes ≡ Some (x, rest) → (bytes ≡ spell x ++ rest) × Fits x

-- ---- steps of a reader

pub taken_apart : {A B : Type 0} (o : Option A) (f : A → Option B) (r : B) → (o >>= f) ≡ Some r → (a : A) × (o ≡ Some a) × (f a ≡ Some r)
taken_apart (Some a) f r e = (a, refl, e)
taken_apart None f r e = cc

pub same_in : {A : Type 0} (x y : A) → Some x ≡ Some y → x ≡ y
same_in x y e = cc

only_so : {A : Type 0} (b : Bool) (x y : A) → only_if b x ≡ Some y → (b ≡ true) × (x ≡ y)
only_so true x y e = (refl, same_in x y e)
only_so false x y e = cc

pub behind : (front rest : List ℕ) → AreBytes (front ++ rest) → AreBytes rest
behind [] rest small = small
behind (b ∷ front) rest small = behind front rest (λ i. small (suc i))

-- ---- fields of fields

pub both_field : {A B : Type 0} {F : A → Type 0} {G : B → Type 0} {s : A → List ℕ} {t : B → List ℕ} {f : Reads A} {g : Reads B}
    → IsField F s f → IsField G t g → IsField (λ p. F p.0 × G p.1) (λ p. s p.0 ++ t p.1) (f & g)
both_field {A} {B} {F} {G} {s} {t} {f} {g} one two = record {
  again = λ p rest fits. rw (append_assoc (s p.0) (t p.1) rest, one.again p.0 (t p.1 ++ rest) fits.0, two.again p.1 rest fits.1) refl;
  spelled = λ bytes p rest small e.
      let first = taken_apart (f bytes) (λ a. g a.1 >>= λ b. Some ((a.0, b.0), b.1)) (p, rest) e in
      let second = taken_apart (g first.0.1) (λ b. Some ((first.0.0, b.0), b.1)) (p, rest) first.2 in
      let front = one.spelled bytes first.0.0 first.0.1 small first.1 in
      let back = two.spelled first.0.1 second.0.0 second.0.1 (behind (s first.0.0) first.0.1 (subst AreBytes front.0 small)) second.1 in
      subst (λ (q : (A × B) × List ℕ). (bytes ≡ (s q.0.0 ++ t q.0.1) ++ q.1) × (F q.0.0 × G q.0.1)) (same_in ((first.0.0, second.0.0), second.0.1) (p, rest) second.2)
      (front.0 ∙ ap (λ (l : List ℕ). s first.0.0 ++ l) back.0 ∙ sym (append_assoc (s first.0.0) (t second.0.0) second.0.1), (front.1, back.1));
}

-- `make` and `back` lead from values to values and back, and both are spelled the same
pub record IsMade {A B : Type 0} (make : A → B) (back : B → A) (F : A → Type 0) (G : B → Type 0) (s : A → List ℕ) (t : B → List ℕ) : Type 0 where
  pub fits_back : (y : B) → G y → F (back y)
  pub is : (y : B) → G y → make (back y) ≡ y
  pub spelled_back : (y : B) → G y → t y ≡ s (back y)
  pub fits_made : (a : A) → F a → G (make a)
  pub spelled_made : (a : A) → F a → t (make a) ≡ s a

pub made_field : {A B : Type 0} {F : A → Type 0} {G : B → Type 0} {s : A → List ℕ} {t : B → List ℕ} {f : Reads A} (make : A → B) (back : B → A)
    → IsMade make back F G s t → IsField F s f → IsField G t (made make f)
made_field {A} {B} {F} {G} {s} {t} {f} make back so one = record {
  again = λ y rest fits. rw (so.spelled_back y fits, one.again (back y) rest (so.fits_back y fits), so.is y fits) refl;
  spelled = λ bytes y rest small e.
      let first = taken_apart (f bytes) (λ a. Some (make a.0, a.1)) (y, rest) e in
      let front = one.spelled bytes first.0.0 first.0.1 small first.1 in
      subst (λ (q : B × List ℕ). (bytes ≡ t q.0 ++ q.1) × G q.0) (same_in (make first.0.0, first.0.1) (y, rest) first.2)
      (rw (so.spelled_made first.0.0 front.1) front.0, so.fits_made first.0.0 front.1);
}

-- a field of which only values that pass a test are read
pub tested_field : {A : Type 0} {F P : A → Type 0} {s : A → List ℕ} {f : Reads A} (passes : A → Bool)
    → ((x : A) → P x → F x × (passes x ≡ true)) → ((x : A) → F x → passes x ≡ true → P x) → IsField F s f → IsField P s (tested passes f)
tested_field {A} {F} {P} {s} {f} passes forth back one = record {
  again = λ x rest fits. rw (one.again x rest (forth x fits).0, (forth x fits).1) refl;
  spelled = λ bytes x rest small e.
      let first = taken_apart (f bytes) (λ a. only_if (passes a.0) a) (x, rest) e in
      let passed = only_so (passes first.0.0) first.0 (x, rest) first.2 in
      let front = one.spelled bytes first.0.0 first.0.1 small first.1 in
      subst (λ (q : A × List ℕ). (bytes ≡ s q.0 ++ q.1) × P q.0) passed.1 (front.0, back first.0.0 front.1 passed.0);
}

-- ---- single fields

byte_spelled : (bytes : List ℕ) (x : ℕ) (rest : List ℕ) → AreBytes bytes → byte_at bytes ≡ Some (x, rest) → (bytes ≡ x ∷ rest) × (x < 2 ^ 8)
unfolding byte_at
byte_spelled [] x rest small e = cc
byte_spelled (b ∷ bytes) x rest small e =
    subst (λ (q : ℕ × List ℕ). (b ∷ bytes ≡ q.0 ∷ q.1) × (q.0 < 2 ^ 8)) (same_in (b, bytes) (x, rest) e) (refl, small 0)

pub byte_field : IsField (λ b. b < 2 ^ 8) (λ b. b ∷ []) byte_at
unfolding byte_at
byte_field = record { again = λ b rest fits. refl; spelled = byte_spelled }

split_so : {A : Type 0} (short : Bool) (x y : A) → cond short None (Some x) ≡ Some y → (short ≡ false) × (x ≡ y)
split_so true x y e = cc
split_so false x y e = (refl, same_in x y e)

front_of_bytes : (n : ℕ) (bytes : List ℕ) → AreBytes bytes → (i : ℕ) → get_or (take n bytes) i 0 < 256
front_of_bytes zero bytes small i = omega arith
front_of_bytes (suc n) [] small i = small i
front_of_bytes (suc n) (b ∷ bytes) small zero = small 0
front_of_bytes (suc n) (b ∷ bytes) small (suc i) = front_of_bytes n bytes (λ j. small (suc j)) i

pub number_field : (w : Width) → IsField (λ n. n < 2 ^ bits w) (to_be_bytes w) (number_at w)
unfolding number_at
number_field w = record {
  again = λ n rest lt.
      let len : length (to_be_bytes w n) ≡ byte_len w = length_high (byte_len w) n in
      let long : ltb (length (to_be_bytes w n ++ rest)) (byte_len w) ≡ false = le-ltb _ _ (omega (arith, length-append (to_be_bytes w n) rest)) in
      rw (long, take_at (to_be_bytes w n) rest (byte_len w) len, drop_at (to_be_bytes w n) rest (byte_len w) len, number_again w n lt) refl;
  spelled = λ bytes n rest small e.
      let so = split_so (ltb (length bytes) (byte_len w)) (from_be_bytes w (take (byte_len w) bytes), drop (byte_len w) bytes) (n, rest) e in
      let long : byte_len w ≤ length bytes = ltb-false (length bytes) (byte_len w) so.0 in
      let again = bytes_again w (take (byte_len w) bytes) (length-take-le (byte_len w) bytes long) (front_of_bytes (byte_len w) bytes small) in
      subst (λ (q : ℕ × List ℕ). (bytes ≡ to_be_bytes w q.0 ++ q.1) × (q.0 < 2 ^ bits w)) so.1
      (sym (take-append-drop (byte_len w) bytes) ∙ ap (λ (l : List ℕ). l ++ drop (byte_len w) bytes) (sym again.0), again.1);
}

pub signed_field : (w : Width) → IsField (FitsSigned w) (signed_bytes w) (signed_at w)
unfolding signed_at
signed_field w = made_field (cast_signed w) (cast_unsigned w) (record {
  fits_back = λ z fits. Fits-lt-pow (Fits-of_z fits);
  is = to_z-of_z w;
  spelled_back = λ z fits. refl;
  fits_made = λ n lt. sfits_to_z (Fits-of_lt lt);
  spelled_made = λ n lt. ap (λ (m : ℕ). to_be_bytes w m) (of_z-to_z w n lt);
}) (number_field w)

within_is : (most : ℕ) (z : ℤ) → IsWithin most z → is_within most z ≡ true
within_is most z h = grind (arith, ints, common_steps, h.0, h.1)

within_so : (most : ℕ) (z : ℤ) → is_within most z ≡ true → IsWithin most z
within_so most z h = grind (arith, ints, common_steps, h)

pub within_field : (most : ℕ) → most ≤ 4000000000000000 → IsField (IsWithin most) (signed_bytes w64) (within_at most)
unfolding within_at
within_field most small = tested_field (is_within most)
    (λ z h. let low = h.0 in let high = h.1 in let fits : FitsSigned w64 z = omega (arith, ints) in (fits, within_is most z h))
    (λ z fits h. within_so most z h) (signed_field w64)

key_is : (k : List ℕ) → IsKey 40 k → is_key 40 k ≡ true
key_is k h = grind (arith, common_steps, h.not_empty, h.not_long, h.alphabet)

key_so : (k : List ℕ) → is_key 40 k ≡ true → IsKey 40 k
key_so k h = record {
  not_empty = grind (arith, common_steps, h);
  not_long = grind (arith, common_steps, h);
  alphabet = grind (arith, common_steps, h);
}

pub key_field : IsField (IsKey 40) key_bytes key_at
unfolding key_at bytes_at
key_field = record {
  again = λ k rest h.
      let long : ltb (length (k ++ rest)) (length k) ≡ false = le-ltb _ _ (omega (arith, length-append k rest)) in
      rw (byte_field.again (length k) (k ++ rest) (omega (arith, h.not_long)), long, take_at k rest (length k) refl, drop_at k rest (length k) refl, key_is k h) refl;
  spelled = λ bytes k rest small e.
      let first = taken_apart (byte_at bytes) (λ n. tested (is_key 40) (bytes_at n.0) n.1) (k, rest) e in
      let n = first.0.0 in
      let tail = first.0.1 in
      let front = byte_field.spelled bytes n tail small first.1 in
      let second = taken_apart (bytes_at n tail) (λ a. only_if (is_key 40 a.0) a) (k, rest) first.2 in
      let passed = only_so (is_key 40 second.0.0) second.0 (k, rest) second.2 in
      let so = split_so (ltb (length tail) n) (take n tail, drop n tail) second.0 second.1 in
      let len : length (take n tail) ≡ n = length-take-le n tail (ltb-false (length tail) n so.0) in
      let is : (take n tail, drop n tail) ≡ (k, rest) = so.1 ∙ passed.1 in
      subst (λ (q : List ℕ × List ℕ). (bytes ≡ key_bytes q.0 ++ q.1) × IsKey 40 q.0) is
      (front.0 ∙ sym (λ j. len j ∷ take-append-drop n tail j), key_so (take n tail) (subst (λ (q : List ℕ × List ℕ). is_key 40 q.0 ≡ true) (sym so.1) passed.0));
}

-- so many values
abbrev pub AreValues : ℕ → List ℤ → Type 0
AreValues n v = (length v ≡ n) × AllByRecursion (IsWithin most_time) v

first_of_values : List ℤ → ℤ × List ℤ
first_of_values [] = (pos 0, [])
first_of_values (z ∷ v) = (z, v)

values_made : (n : ℕ) → IsMade (λ p. p.0 ∷ p.1) first_of_values (λ p. IsWithin most_time p.0 × AreValues n p.1) (AreValues (suc n)) (λ p. signed_bytes w64 p.0 ++ values_bytes p.1) values_bytes
unfolding first_of_values
values_made n = record {
  fits_back = λ v. elim v as (λ v. AreValues (suc n) v → IsWithin most_time (first_of_values v).0 × AreValues n (first_of_values v).1) [ [] ↦ λ h. absurd (omega (arith, h.0)) | z ∷ v ↦ λ h. (h.1.0, (omega (arith, h.0), h.1.1)) ];
  is = λ v. elim v as (λ v. AreValues (suc n) v → (first_of_values v).0 ∷ (first_of_values v).1 ≡ v) [ [] ↦ λ h. absurd (omega (arith, h.0)) | z ∷ v ↦ λ h. refl ];
  spelled_back = λ v. elim v as (λ v. AreValues (suc n) v → values_bytes v ≡ signed_bytes w64 (first_of_values v).0 ++ values_bytes (first_of_values v).1) [ [] ↦ λ h. absurd (omega (arith, h.0)) | z ∷ v ↦ λ h. refl ];
  fits_made = λ p h. (omega (arith, h.1.0), (h.0, h.1.1));
  spelled_made = λ p h. refl;
}

no_values : (v : List ℤ) (rest : List ℕ) → AreValues 0 v → values_at 0 (values_bytes v ++ rest) ≡ Some (v, rest)
unfolding values_at
no_values [] rest h = refl
no_values (z ∷ v) rest h = absurd (omega (arith, h.0))

pub values_field : (n : ℕ) → IsField (AreValues n) values_bytes (values_at n)
unfolding values_at
values_field zero = record {
  again = no_values;
  spelled = λ bytes v rest small e. subst (λ (q : List ℤ × List ℕ). (bytes ≡ values_bytes q.0 ++ q.1) × AreValues 0 q.0) (same_in ([], bytes) (v, rest) e) (refl, (refl, tt));
}
values_field (suc n) = made_field (λ p. p.0 ∷ p.1) first_of_values (values_made n) (both_field (within_field most_time (omega arith)) (values_field n))
