-- Words in parts.
use Rattle.std.proofs.Common.{◌≡◌, ℕ, ◌+◌, ◌-◌, ◌≤◌, Bool, true, false, cond, not, List, [], ◌∷◌, ◌++◌, map, length, take, drop, Some, None, nat_lt, refl, sym, ap, ◌∙◌, arith, length-drop}
use Rattle.std.specs.Prelude.{position, if◌then◌else◌}
use Rattle.std.specs.List.{position_or_len, IsFirstAndRest}
use Rattle.std.proofs.lemmas.Bool.Decides.{nat_tests}
use Rattle.std.proofs.lemmas.List.{take_all, nil_from_length, take-map, drop-map, length-map}
use Rattle.jet_cli.specs.JobWords.{Part, Operand, Given, alone, takes, marked_parts, is_end_of_options, parts_of}

-- the first of the values that passes stands where the first item does whose value passes
position_or_len-map : {X Y : Type 0} (p : Y → Bool) (f : X → Y) (xs : List X) → position_or_len p (map f xs) ≡ position_or_len (λ x. p (f x)) xs
position_or_len-map p f [] = refl
position_or_len-map p f (x ∷ xs) = ap (λ (n : ℕ). cond (not (p (f x))) (1 + n) 0) (position_or_len-map p f xs)

position-map : {X Y : Type 0} (p : Y → Bool) (f : X → Y) (xs : List X) → position p (map f xs) ≡ position (λ x. p (f x)) xs
position-map p f xs = rw (position_or_len-map p f xs, length-map xs f) refl

place_of : {X : Type 0} (p : X → Bool) (xs : List X) (at : ℕ) → Some at ≡ position p xs → position_or_len p xs ≡ at
place_of p xs at h = go (nat_lt (position_or_len p xs) (length xs)) h
  where
    go : (t : Bool) → Some at ≡ cond t (Some (position_or_len p xs)) None → position_or_len p xs ≡ at
    go true e = cc
    go false e = cc

-- words are cut at the first `--`
pub cut_at : {X : Type 0} (f : X → List ℕ) (words : List X) (at : ℕ) → Some at ≡ position (λ w. is_end_of_options (f w)) words
    → marked_parts (map f (take at words)) ++ map Operand (map f (take (length words - (at + 1)) (drop (at + 1) words))) ≡ parts_of (map f words)
cut_at f words at h =
    let place = place_of is_end_of_options (map f words) at (h ∙ sym (position-map is_end_of_options f words)) in
    let all = take_all (length words - (at + 1)) (drop (at + 1) words) (omega (arith, length-drop (at + 1) words)) in
    rw (place, all, take-map f at words, drop-map f (at + 1) words) refl

no_place : {X : Type 0} (p : X → Bool) (xs : List X) → None ≡ position p xs → length xs ≤ position_or_len p xs
no_place p xs h = go (nat_lt (position_or_len p xs) (length xs)) refl h
  where
    go : (t : Bool) → nat_lt (position_or_len p xs) (length xs) ≡ t → None ≡ cond t (Some (position_or_len p xs)) None → length xs ≤ position_or_len p xs
    go true e = cc
    go false e = λ _. grind (arith, nat_tests)

-- words without `--` are not cut
pub cut_nowhere : {X : Type 0} (f : X → List ℕ) (words : List X) → None ≡ position (λ w. is_end_of_options (f w)) words
    → marked_parts (map f words) ++ map Operand (map f []) ≡ parts_of (map f words)
cut_nowhere f words h =
    let far = no_place is_end_of_options (map f words) (h ∙ sym (position-map is_end_of_options f words)) in
    let all = take_all (position_or_len is_end_of_options (map f words)) (map f words) far in
    let none = nil_from_length (drop (position_or_len is_end_of_options (map f words) + 1) (map f words))
    (omega (arith, far, length-drop (position_or_len is_end_of_options (map f words) + 1) (map f words))) in
    rw (all, none) refl

-- a last word
pub last_alone : {X : Type 0} (f : X → List ℕ) (word : List ℕ) (rest : List X) (part : Part) → rest ≡ [] → part ≡ alone word
    → marked_parts (word ∷ map f rest) ≡ part ∷ marked_parts (map f rest)
unfolding marked_parts
last_alone f word rest part none is = rw (none, is) refl

pub next_of : (word next : List ℕ) (rest : List (List ℕ)) → takes word next ≡ true → marked_parts (word ∷ next ∷ rest) ≡ Given word next ∷ marked_parts rest
unfolding marked_parts
next_of word next rest h = ap (λ (t : Bool). if t then Given word next ∷ marked_parts rest else alone word ∷ marked_parts (next ∷ rest)) h

pub none_of : (word next : List ℕ) (rest : List (List ℕ)) → takes word next ≡ false → marked_parts (word ∷ next ∷ rest) ≡ alone word ∷ marked_parts (next ∷ rest)
unfolding marked_parts
none_of word next rest h = ap (λ (t : Bool). if t then Given word next ∷ marked_parts rest else alone word ∷ marked_parts (next ∷ rest)) h

-- an option whose value is the next word
pub takes_next : {X : Type 0} (f : X → List ℕ) (word text value : List ℕ) (rest behind : List X) (next : X) → IsFirstAndRest rest next behind
    → text ≡ f next → value ≡ f next → true ≡ takes word text → marked_parts (word ∷ map f rest) ≡ Given word value ∷ marked_parts (map f behind)
takes_next f word text value rest behind next first is_text is_value h =
    let taken : takes word (f next) ≡ true = sym (h ∙ ap (takes word) is_text) in
    rw (first.0, is_value) (next_of word (f next) (map f behind) taken)

-- another word before others
pub takes_none : {X : Type 0} (f : X → List ℕ) (word text : List ℕ) (rest behind : List X) (next : X) (part : Part) → IsFirstAndRest rest next behind
    → text ≡ f next → false ≡ takes word text → part ≡ alone word → marked_parts (word ∷ map f rest) ≡ part ∷ marked_parts (map f rest)
takes_none f word text rest behind next part first is_text h is =
    let not_taken : takes word (f next) ≡ false = sym (h ∙ ap (takes word) is_text) in
    rw (first.0, is) (none_of word (f next) (map f behind) not_taken)

-- an operand behind `--`
pub operand_first : {X : Type 0} (f : X → List ℕ) (marked operands rest : List X) (word : X) (text : List ℕ) → marked ≡ [] → IsFirstAndRest operands word rest → text ≡ f word
    → marked_parts (map f marked) ++ map Operand (map f operands) ≡ Operand text ∷ (marked_parts (map f marked) ++ map Operand (map f rest))
unfolding marked_parts
operand_first f marked operands rest word text none first is = rw (none, first.0, is) refl

pub none_left : {X : Type 0} (f : X → List ℕ) (marked operands : List X) → marked ≡ [] → operands ≡ [] → marked_parts (map f marked) ++ map Operand (map f operands) ≡ []
unfolding marked_parts
none_left f marked operands none no_more = rw (none, no_more) refl

-- a part of the marked words
pub marked_first : {X : Type 0} (f : X → List ℕ) (marked operands behind rest : List X) (word : X) (text : List ℕ) (part : Part) → IsFirstAndRest marked word behind → text ≡ f word
    → marked_parts (text ∷ map f behind) ≡ part ∷ marked_parts (map f rest)
    → marked_parts (map f marked) ++ map Operand (map f operands) ≡ part ∷ (marked_parts (map f rest) ++ map Operand (map f operands))
marked_first f marked operands behind rest word text part first is h =
    let same : marked_parts (map f marked) ≡ part ∷ marked_parts (map f rest) = rw first.0 (ap (λ (t : List ℕ). marked_parts (t ∷ map f behind)) (sym is) ∙ h) in
    ap (λ (ps : List Part). ps ++ map Operand (map f operands)) same
