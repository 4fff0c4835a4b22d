-- Row and late lines in the parts that the code makes.
use Rattle.std.proofs.Common.{◌≡◌, ◌++◌, List, ℕ, ℤ, [], ◌∷◌, ap, sym, append_assoc, append-nil, map}
use Rattle.std.specs.List.{join_with_byte, flat_map}
use Rattle.std.specs.Fmt.{signed_decimal}
use Rattle.std.specs.Prelude.{codes}
use Rattle.jet_items.specs.LineText.{line_text}

-- the line of a row, from its end on
pub row_parts : (name start end key count sum min max numbers one two three all : List ℕ)
    → numbers ≡ count ++ 44 ∷ (sum ++ 44 ∷ (min ++ 44 ∷ (max ++ 10 ∷ []))) → one ≡ key ++ 44 ∷ numbers
    → two ≡ end ++ 44 ∷ one → three ≡ start ++ 44 ∷ two → all ≡ name ++ 44 ∷ three
    → all ≡ line_text (name ∷ start ∷ end ∷ key ∷ count ∷ sum ∷ min ∷ max ∷ [])
row_parts name start end key count sum min max numbers one two three all e1 e2 e3 e4 e5 = rw (e5, e4, e3, e2, e1) (simp append_assoc)

-- fields after a first one stand each behind a comma
joined_after : (key : List ℕ) (values : List ℤ)
    → join_with_byte 44 (key ∷ map signed_decimal values) ≡ key ++ flat_map (λ v. 44 ∷ signed_decimal v) values
joined_after key [] = sym (append-nil key)
joined_after key (v ∷ values) =
    ap (λ (s : List ℕ). key ++ (44 ∷ s)) (joined_after (signed_decimal v) values)

pub late-parts : (name part line ts key : List ℕ) (values : List ℤ) →
    codes "late," ++ (name ++ ((44 ∷ (part ++ 44 ∷ (line ++ 44 ∷ (ts ++ 44 ∷ [])))) ++ (key ++ (flat_map (λ v. 44 ∷ signed_decimal v) values ++ 10 ∷ []))))
    ≡ line_text (codes "late" ∷ name ∷ part ∷ line ∷ ts ∷ key ∷ map signed_decimal values)
late-parts name part line ts key values = simp (joined_after key values, append_assoc)
