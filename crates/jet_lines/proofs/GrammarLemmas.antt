-- Reading from the left finds the fields of the grammar, and no others.
use Rattle.std.proofs.Common.{◌≡◌, ℕ, ◌==◌, ◌&&◌, not, List, [], ◌∷◌, ◌++◌, Bool, true, false, Option, Some, None, option_map, refl, ap, sym, subst, ◌∙◌, append_assoc, inl, inr}
use Rattle.std.specs.Prelude.{⊤}
use Rattle.std.proofs.lemmas.Bool.{cases_Bool, eqb-true}
use Rattle.std.proofs.lemmas.List.{append-nil}
use Rattle.std.proofs.lemmas.List.Folds.{list_all-append}
use Rattle.std.specs.List.{list_all}
use Rattle.jet_lines.specs.Grammar.{is_plain_byte, doubled, IsField, IsLine}
use Rattle.jet_lines.specs.Scan.{fields_from, fields_of}
use Rattle.jet_lines.specs.declared.form.Stand.{Stand}
use Rattle.jet_lines.specs.declared.form.Stand.TheVariants as stand

-- the text so far of the field at hand
abbrev text_so_far : Stand → List ℕ → List ℕ
text_so_far stand.Start field = []
text_so_far stand.Plain field = field
text_so_far stand.Quoted field = 34 ∷ doubled field
text_so_far stand.Closed field = 34 ∷ (doubled field ++ 34 ∷ [])

abbrev Stands : Stand → List ℕ → Type 0
Stands stand.Start field = field ≡ []
Stands stand.Plain field = list_all is_plain_byte field ≡ true
Stands stand.Quoted field = ⊤
Stands stand.Closed field = ⊤

-- a field, a comma and a line are a line
one_more : (text field rest : List ℕ) (fields : List (List ℕ)) → IsField text field → IsLine rest fields → IsLine (text ++ 44 ∷ rest) (field ∷ fields)
one_more text field rest [] is line = absurd line
one_more text field rest (next ∷ more) is line = (text, rest, refl, is, line)

same_field : (text field : List ℕ) (found : List (List ℕ)) → IsField text field → Some (field ∷ []) ≡ Some found → IsLine text found
same_field text field found is e = let all : field ∷ [] ≡ found = cc e in subst (λ (f : List (List ℕ)). IsLine text f) all is

at_comma : (text field rest : List ℕ) (o : Option (List (List ℕ))) (found : List (List ℕ)) → IsField text field
    → ((later : List (List ℕ)) → o ≡ Some later → IsLine rest later)
    → option_map (λ (x : List (List ℕ)). field ∷ x) o ≡ Some found → IsLine (text ++ 44 ∷ rest) found
at_comma text field rest None found is go e = cc e
at_comma text field rest (Some later) found is go e =
    let all : field ∷ later ≡ found = cc e in
    subst (λ (f : List (List ℕ)). IsLine (text ++ 44 ∷ rest) f) all (one_more text field rest later is (go later refl))

doubled-append : (xs ys : List ℕ) → doubled (xs ++ ys) ≡ doubled xs ++ doubled ys
doubled-append [] ys = refl
doubled-append (x ∷ xs) ys = elim (cases_Bool (x == 34)) [
  | inl mark ↦ rw mark (ap (λ (t : List ℕ). 34 ∷ 34 ∷ t) (doubled-append xs ys))
  | inr other ↦ rw other (ap (λ (t : List ℕ). x ∷ t) (doubled-append xs ys))
]

doubled_mark : (b : ℕ) → (b == 34) ≡ true → doubled (b ∷ []) ≡ 34 ∷ 34 ∷ []
doubled_mark b mark = rw mark refl

doubled_other : (b : ℕ) → (b == 34) ≡ false → doubled (b ∷ []) ≡ b ∷ []
doubled_other b other = rw other refl

plain_byte : (b : ℕ) → (b == 34) ≡ false → (b == 44) ≡ false → is_plain_byte b ≡ true
plain_byte b m c = rw (m, c) refl

plain-push : (field : List ℕ) (b : ℕ) → list_all is_plain_byte field ≡ true → is_plain_byte b ≡ true → list_all is_plain_byte (field ++ b ∷ []) ≡ true
plain-push field b all one = list_all-append is_plain_byte field (b ∷ []) ∙ rw (all, one) refl

-- what is read is spelled so
pub read_is_line : (s : Stand) (field bytes : List ℕ) (found : List (List ℕ)) → Stands s field
    → fields_from s field bytes ≡ Some found → IsLine (text_so_far s field ++ bytes) found
unfolding fields_from
read_is_line stand.Start field [] found at e = same_field [] field found (inl (sym at, rw at refl)) e
read_is_line stand.Plain field [] found at e = rw (append-nil field) (same_field field field found (inl (refl, at)) e)
read_is_line stand.Quoted field [] found at e = cc e
read_is_line stand.Closed field [] found at e = rw (append-nil (34 ∷ (doubled field ++ 34 ∷ []))) (same_field (34 ∷ (doubled field ++ 34 ∷ [])) field found (inr refl) e)
read_is_line stand.Start field (b ∷ rest) found at e =
    elim (cases_Bool (b == 44)) [
      | inl comma ↦
          subst (λ (n : ℕ). IsLine (n ∷ rest) found) (sym (eqb-true b 44 comma))
          (at_comma [] field rest (fields_from stand.Start [] rest) found (inl (sym at, rw at refl))
          (λ later was. read_is_line stand.Start [] rest later refl was) (rw comma at e))
      | inr plain ↦ elim (cases_Bool (b == 34)) [
        | inl mark ↦
            subst (λ (n : ℕ). IsLine (n ∷ rest) found) (sym (eqb-true b 34 mark))
            (read_is_line stand.Quoted [] rest found tt (rw (plain, mark, at) at e))
        | inr other ↦
            read_is_line stand.Plain (b ∷ []) rest found (rw (plain_byte b other plain) refl) (rw (plain, other, at) at e)
      ]
    ]
read_is_line stand.Plain field (b ∷ rest) found at e =
    elim (cases_Bool (b == 44)) [
      | inl comma ↦
          subst (λ (n : ℕ). IsLine (field ++ n ∷ rest) found) (sym (eqb-true b 44 comma))
          (at_comma field field rest (fields_from stand.Start [] rest) found (inl (refl, at))
          (λ later was. read_is_line stand.Start [] rest later refl was) (rw comma at e))
      | inr plain ↦ elim (cases_Bool (b == 34)) [
        | inl mark ↦ cc (rw (plain, mark) at e)
        | inr other ↦
            subst (λ (t : List ℕ). IsLine t found) (append_assoc field (b ∷ []) rest)
            (read_is_line stand.Plain (field ++ b ∷ []) rest found (plain-push field b at (plain_byte b other plain)) (rw (plain, other) at e))
      ]
    ]
read_is_line stand.Quoted field (b ∷ rest) found at e =
    elim (cases_Bool (b == 34)) [
      | inl mark ↦
          subst (λ (n : ℕ). IsLine (34 ∷ (doubled field ++ n ∷ rest)) found) (sym (eqb-true b 34 mark))
          (subst (λ (t : List ℕ). IsLine (34 ∷ t) found) (append_assoc (doubled field) (34 ∷ []) rest)
          (read_is_line stand.Closed field rest found tt (rw mark at e)))
      | inr other ↦
          let text : doubled (field ++ b ∷ []) ++ rest ≡ doubled field ++ b ∷ rest =
          ap (λ (t : List ℕ). t ++ rest) (doubled-append field (b ∷ []) ∙ ap (λ (t : List ℕ). doubled field ++ t) (doubled_other b other))
          ∙ append_assoc (doubled field) (b ∷ []) rest in
          subst (λ (t : List ℕ). IsLine (34 ∷ t) found) text
          (read_is_line stand.Quoted (field ++ b ∷ []) rest found tt (rw other at e))
    ]
read_is_line stand.Closed field (b ∷ rest) found at e =
    let marked : (doubled field ++ 34 ∷ []) ++ b ∷ rest ≡ doubled field ++ 34 ∷ b ∷ rest = append_assoc (doubled field) (34 ∷ []) (b ∷ rest) in
    elim (cases_Bool (b == 44)) [
      | inl comma ↦
          subst (λ (n : ℕ). IsLine (34 ∷ ((doubled field ++ 34 ∷ []) ++ n ∷ rest)) found) (sym (eqb-true b 44 comma))
          (at_comma (34 ∷ (doubled field ++ 34 ∷ [])) field rest (fields_from stand.Start [] rest) found (inr refl)
          (λ later was. read_is_line stand.Start [] rest later refl was) (rw comma at e))
      | inr plain ↦ elim (cases_Bool (b == 34)) [
        | inl mark ↦
            let text : doubled (field ++ b ∷ []) ++ rest ≡ doubled field ++ 34 ∷ 34 ∷ rest =
            ap (λ (t : List ℕ). t ++ rest) (doubled-append field (b ∷ []) ∙ ap (λ (t : List ℕ). doubled field ++ t) (doubled_mark b mark))
            ∙ append_assoc (doubled field) (34 ∷ 34 ∷ []) rest in
            let whole : doubled (field ++ b ∷ []) ++ rest ≡ (doubled field ++ 34 ∷ []) ++ b ∷ rest =
            text ∙ ap (λ (n : ℕ). doubled field ++ 34 ∷ n ∷ rest) (sym (eqb-true b 34 mark)) ∙ sym marked in
            subst (λ (t : List ℕ). IsLine (34 ∷ t) found) whole
            (read_is_line stand.Quoted (field ++ b ∷ []) rest found tt (rw (plain, mark) at e))
        | inr other ↦ cc (rw (plain, other) at e)
      ]
    ]

-- a plain text goes into the field at hand
plain_run : (field text tail : List ℕ) → list_all is_plain_byte text ≡ true → fields_from stand.Plain field (text ++ tail) ≡ fields_from stand.Plain (field ++ text) tail
unfolding fields_from
plain_run field [] tail all = rw (append-nil field) refl
plain_run field (b ∷ text) tail all =
    let (one, more) = split (is_plain_byte b) (list_all is_plain_byte text) all in
    let (mark, comma) = marks (b == 34) (b == 44) one in
    rw (comma, mark) (plain_run (field ++ b ∷ []) text tail more ∙ ap (λ (f : List ℕ). fields_from stand.Plain f tail) (append_assoc field (b ∷ []) text))
  where
    split : (a b : Bool) → (a && b) ≡ true → (a ≡ true) × (b ≡ true)
    split true b e = (refl, e)
    split false b e = cc e

    marks : (m c : Bool) → (not m && not c) ≡ true → (m ≡ false) × (c ≡ false)
    marks true c e = cc e
    marks false true e = cc e
    marks false false e = (refl, refl)

quoted_run : (field x tail : List ℕ) → fields_from stand.Quoted field (doubled x ++ 34 ∷ tail) ≡ fields_from stand.Closed (field ++ x) tail
unfolding fields_from
quoted_run field [] tail = rw (append-nil field) refl
quoted_run field (b ∷ x) tail = elim (cases_Bool (b == 34)) [
  | inl mark ↦
      let is34 = eqb-true b 34 mark in
      subst (λ (n : ℕ). fields_from stand.Quoted field (doubled (n ∷ x) ++ 34 ∷ tail) ≡ fields_from stand.Closed (field ++ n ∷ x) tail) (sym is34)
      (quoted_run (field ++ 34 ∷ []) x tail ∙ ap (λ (f : List ℕ). fields_from stand.Closed f tail) (append_assoc field (34 ∷ []) x))
  | inr other ↦
      rw other (rw other (quoted_run (field ++ b ∷ []) x tail ∙ ap (λ (f : List ℕ). fields_from stand.Closed f tail) (append_assoc field (b ∷ []) x)))
]

-- what follows a field: the end of the line, or a comma and more
abbrev tail_of : List (List ℕ) → List ℕ → List ℕ
tail_of [] rest = []
tail_of (next ∷ more) rest = 44 ∷ rest

abbrev after_field : List ℕ → List (List ℕ) → List ℕ → Option (List (List ℕ))
after_field field [] rest = Some (field ∷ [])
after_field field (next ∷ more) rest = option_map (λ (x : List (List ℕ)). field ∷ x) (fields_from stand.Start [] rest)

closed_end : (field : List ℕ) (more : List (List ℕ)) (rest : List ℕ) → fields_from stand.Closed field (tail_of more rest) ≡ after_field field more rest
unfolding fields_from
closed_end field [] rest = refl
closed_end field (next ∷ more) rest = refl

plain_end : (field : List ℕ) (more : List (List ℕ)) (rest : List ℕ) → fields_from stand.Plain field (tail_of more rest) ≡ after_field field more rest
unfolding fields_from
plain_end field [] rest = refl
plain_end field (next ∷ more) rest = refl

start_end : (more : List (List ℕ)) (rest : List ℕ) → fields_from stand.Start [] (tail_of more rest) ≡ after_field [] more rest
unfolding fields_from
start_end [] rest = refl
start_end (next ∷ more) rest = refl

start_plain : (text : List ℕ) (more : List (List ℕ)) (rest : List ℕ) → list_all is_plain_byte text ≡ true
    → fields_from stand.Start [] (text ++ tail_of more rest) ≡ after_field text more rest
unfolding fields_from
start_plain [] more rest all = start_end more rest
start_plain (b ∷ text) more rest all =
    let both = marks (b == 34) (b == 44) (list_all is_plain_byte text) all in
    rw (both.1, both.0) (plain_run (b ∷ []) text (tail_of more rest) both.2 ∙ plain_end (b ∷ text) more rest)
  where
    marks : (m c t : Bool) → ((not m && not c) && t) ≡ true → (m ≡ false) × (c ≡ false) × (t ≡ true)
    marks true c t e = cc e
    marks false true t e = cc e
    marks false false t e = (refl, refl, e)

start_field : (text field : List ℕ) (more : List (List ℕ)) (rest : List ℕ) → IsField text field
    → fields_from stand.Start [] (text ++ tail_of more rest) ≡ after_field field more rest
unfolding fields_from
start_field text field more rest (inl plain) = rw (plain.0) (start_plain field more rest plain.1)
start_field text field more rest (inr quoted) =
    ap (λ (t : List ℕ). fields_from stand.Start [] (t ++ tail_of more rest)) quoted
    ∙ ap (λ (t : List ℕ). fields_from stand.Quoted [] t) (append_assoc (doubled field) (34 ∷ []) (tail_of more rest))
    ∙ quoted_run [] field (tail_of more rest) ∙ closed_end field more rest

-- what is spelled so is read
pub line_is_read : (line : List ℕ) (fields : List (List ℕ)) → IsLine line fields → fields_of line ≡ Some fields
line_is_read line [] is = absurd is
line_is_read line (field ∷ []) is =
    ap (λ (t : List ℕ). fields_of t) (sym (append-nil line)) ∙ start_field line field [] [] is
line_is_read line (field ∷ next ∷ more) is =
    let (text, rest, whole, first, later) = is in
    ap (λ (t : List ℕ). fields_of t) whole ∙ start_field text field (next ∷ more) rest first
    ∙ ap (λ (o : Option (List (List ℕ))). option_map (λ (x : List (List ℕ)). field ∷ x) o) (line_is_read rest (next ∷ more) later)

-- what is read of none is spelled by none
pub none_is_read : (line : List ℕ) → ((fields : List (List ℕ)) → IsLine line fields → ⊥) → fields_of line ≡ None
none_is_read line none = go (fields_of line) refl
  where
    go : (o : Option (List (List ℕ))) → fields_of line ≡ o → o ≡ None
    go None e = refl
    go (Some fields) e = absurd (none fields (read_is_line stand.Start [] line fields refl e))

pub no_line_is_none : (line : List ℕ) → fields_of line ≡ None → (fields : List (List ℕ)) → IsLine line fields → ⊥
no_line_is_none line e fields is = cc (sym e ∙ line_is_read line fields is)
