-- What reads a key finds one exactly where the bytes are a key.
use Rattle.std.proofs.Common.{◌≡◌, ℕ, zero, suc, ◌+◌, List, [], ◌∷◌, length, Bool, true, false, cond, not, ◌&&◌, eqb, ltb, leb, Option, Some, Result, Err, refl, ap, ◌∙◌, arith}
use Rattle.std.specs.List.{list_all, position_from}
use Rattle.std.specs.Result.{result_ok}
use Rattle.std.proofs.lemmas.Iterator.Adapters.{position_from-zero}
use Rattle.std.proofs.lemmas.Bool.Decides.{nat_tests}
use Rattle.jet_items.specs.KeyBytes.{is_key_byte, is_key}
use Rattle.jet_items.specs.KeyFaults.{key_at, where_bad}
use Rattle.jet_items.specs.declared.key.KeyFault.{KeyFault}
use Rattle.jet_spell.specs.Reading.{only_if}

one_more : (t : Bool) (n : ℕ) (later : Option ℕ) (rest : Bool) (bs : List ℕ) → result_ok (where_bad bs later) ≡ only_if rest bs
    → result_ok (where_bad bs (cond (not t) (Some n) later)) ≡ only_if (t && rest) bs
one_more true n later rest bs h = h
one_more false n later rest bs h = refl

none_bad : (n : ℕ) (bytes bs : List ℕ) → result_ok (where_bad bs (position_from (λ b. not (is_key_byte b)) n bytes)) ≡ only_if (list_all is_key_byte bytes) bs
none_bad n [] bs = refl
none_bad n (b ∷ bytes) bs =
    one_more (is_key_byte b) n (position_from (λ c. not (is_key_byte c)) (n + 1) bytes) (list_all is_key_byte bytes) bs (none_bad (n + 1) bytes bs)

turned : (n : ℕ) → leb n 40 ≡ not (ltb 40 n)
turned n = grind (arith, nat_tests)

some : (n : ℕ) → (eqb (suc n) 0 ≡ false) × (ltb 0 (suc n) ≡ true)
some n = (grind (arith, nat_tests), grind (arith, nat_tests))

by_length : (n : ℕ) (r : Result (List ℕ) KeyFault) (e l : KeyFault) (a : Bool) (bs : List ℕ) → result_ok r ≡ only_if a bs
    → result_ok (cond (eqb n 0) (Err e) (cond (ltb 40 n) (Err l) r)) ≡ only_if (ltb 0 n && leb n 40 && a) bs
by_length zero r e l a bs h = refl
by_length (suc n) r e l a bs h = rw ((some n).0, (some n).1, turned (suc n)) (elim (ltb 40 (suc n)) as (λ t. result_ok (cond t (Err l) r) ≡ only_if (not t && a) bs) [ true ↦ refl | false ↦ h ])

pub key_is_read : (bytes : List ℕ) → result_ok (key_at 40 bytes) ≡ only_if (is_key 40 bytes) bytes
key_is_read bytes = by_length (length bytes) _ _ _ (list_all is_key_byte bytes) bytes
    (ap (λ (o : Option ℕ). result_ok (where_bad bytes o)) (position_from-zero (λ b. not (is_key_byte b)) bytes) ∙ none_bad 0 bytes bytes)
