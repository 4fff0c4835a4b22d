-- That the table of the bytes of keys has a bit for each byte that one has.
use Rattle.std.proofs.Common.{◌≡◌, ℕ, zero, suc, ◌<◌, ◌/◌, ◌%◌, ◌^◌, List, [], ◌∷◌, Bool, true, false, ◌&&◌, nat_eq, bit_and, get_or, refl, arith, inl, inr, ap, ◌∙◌, sym}
use Rattle.std.specs.Cmp.{first_so, second_so}
use Rattle.std.proofs.lemmas.Bool.{cases_lt}
use Rattle.jet_items.specs.KeyBytes.{is_key_byte}

-- bit b % 64 of number b / 64
abbrev pub in_table : List ℕ → ℕ → Bool
in_table table b = nat_eq (bit_and (get_or table (b / 64) 0 / 2 ^ (b % 64)) 1) 1

abbrev alike : Bool → Bool → Bool
alike true d = d
alike false true = false
alike false false = true

alike_is : (c d : Bool) → alike c d ≡ true → c ≡ d
alike_is true d h = sym h
alike_is false true h = h
alike_is false false h = refl

-- the table answers as the definition does for each byte below n
abbrev agrees : List ℕ → ℕ → Bool
agrees table zero = true
agrees table (suc n) = alike (in_table table n) (is_key_byte n) && agrees table n

agrees_at : (table : List ℕ) (n b : ℕ) → agrees table n ≡ true → b < n → in_table table b ≡ is_key_byte b
agrees_at table zero b h lt = absurd (omega arith)
agrees_at table (suc n) b h lt = elim (cases_lt b n) [
  | inl below ↦ agrees_at table n b (second_so (alike (in_table table n) (is_key_byte n)) (agrees table n) h) below
  | inr above ↦ let last : b ≡ n = omega arith in
      ap (in_table table) last ∙ alike_is (in_table table n) (is_key_byte n) (first_so (alike (in_table table n) (is_key_byte n)) (agrees table n) h) ∙ ap is_key_byte (sym last)
]

pub table_is : (b : ℕ) → b < 256 → in_table (0x07ff_e000_0000_0000 ∷ 0x07ff_fffe_87ff_fffe ∷ 0 ∷ 0 ∷ []) b ≡ is_key_byte b
table_is b h = agrees_at (0x07ff_e000_0000_0000 ∷ 0x07ff_fffe_87ff_fffe ∷ 0 ∷ 0 ∷ []) 256 b refl h
