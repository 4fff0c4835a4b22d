-- Lines that are read one after another.
use Rattle.std.proofs.Common.{◌≡◌, ℕ, suc, ◌+◌, ◌<◌, ◌≤◌, List, [], ◌∷◌, ◌++◌, true, false, map, length, nat_le, Option, Some, None, refl, sym, ap, ◌∙◌, arith}
use Rattle.std.specs.Prelude.{Result, Ok, Err, is_ok, filter_map, option_to_list}
use Rattle.std.specs.List.{enumerate_from, list_all, cons_option}
use Rattle.std.proofs.lemmas.List.{append-nil, map-append}
use Rattle.std.proofs.lemmas.List.FromFn.{length-enumerate_from}
use Rattle.std.proofs.lemmas.List.Sums.{take_while-cons}
use Rattle.jet_lines.specs.Files.{numbered_at, readings_in, are_good, item_of, items_of, items_in, fault_of, first_of, first_bad_line}
use Rattle.jet_lines.specs.Lines.{lines_of}
use Rattle.jet_lines.specs.declared.fault.LineFault.{LineFault}
use Rattle.jet_lines.specs.declared.fault.LineFault.TheVariants.{TooMany}

and_none : (n : ℕ) → n ≡ n + 0
and_none n = omega (arith)

pub enumerate_append : {X : Type 0} (n : ℕ) (xs ys : List X) → enumerate_from n (xs ++ ys) ≡ enumerate_from n xs ++ enumerate_from (n + length xs) ys
enumerate_append n [] ys = ap (λ k. enumerate_from k ys) (and_none n)
enumerate_append n (x ∷ xs) ys =
    let place : n + 1 + length xs ≡ n + length (x ∷ xs) = omega (arith) in
    ap (λ zs. (n, x) ∷ zs) (enumerate_append (n + 1) xs ys ∙ ap (λ k. enumerate_from (n + 1) xs ++ enumerate_from k ys) place)

-- what lines hold, and then the others
pub readings_append : {A : Type 0} (read : ℕ → List ℕ → Result (Option A) LineFault) (most : ℕ) (given : List (List ℕ)) (line : List ℕ) (others : List (List ℕ))
    → readings_in read most (given ++ line ∷ others)
    ≡ readings_in read most given ++ numbered_at read most (length given + 1, line) ∷ map (numbered_at read most) (enumerate_from (length given + 1 + 1) others)
readings_append read most given line others =
    let place : 1 + length given ≡ length given + 1 = omega (arith) in
    ap (map (numbered_at read most)) (enumerate_append 1 given (line ∷ others) ∙ ap (λ k. enumerate_from 1 given ++ enumerate_from k (line ∷ others)) place)
    ∙ map-append (numbered_at read most) (enumerate_from 1 given) (enumerate_from (length given + 1) (line ∷ others))

length_map : {X Y : Type 0} (f : X → Y) (xs : List X) → length (map f xs) ≡ length xs
length_map f [] = refl
length_map f (x ∷ xs) = ap suc (length_map f xs)

pub length_readings : {A : Type 0} (read : ℕ → List ℕ → Result (Option A) LineFault) (most : ℕ) (lines : List (List ℕ)) → length (readings_in read most lines) ≡ length lines
length_readings read most lines = length_map (numbered_at read most) (enumerate_from 1 lines) ∙ length-enumerate_from 1 lines

cons_append : {A : Type 0} (o : Option A) (xs ys : List A) → cons_option o (xs ++ ys) ≡ cons_option o xs ++ ys
cons_append None xs ys = refl
cons_append (Some x) xs ys = refl

-- behind good readings
pub items_append : {A : Type 0} (good later : List (Result (Option A) LineFault)) → list_all is_ok good ≡ true
    → items_of (good ++ later) ≡ items_of good ++ items_of later
items_append [] later ok = refl
items_append (Ok o ∷ good) later ok =
    ap (filter_map item_of) (take_while-cons is_ok (Ok o) (good ++ later))
    ∙ ap (cons_option o) (items_append good later ok)
    ∙ cons_append o (items_of good) (items_of later)
    ∙ ap (λ xs. xs ++ items_of later) (sym (ap (filter_map item_of) (take_while-cons is_ok (Ok o) good)))
items_append (Err f ∷ good) later ok = cc ok

pub items_bad : {A : Type 0} (f : LineFault) (later : List (Result (Option A) LineFault)) → items_of (Err f ∷ later) ≡ []
items_bad f later = ap (filter_map item_of) (take_while-cons is_ok (Err f) later)

pub items_good : {A : Type 0} (o : Option A) (later : List (Result (Option A) LineFault)) → items_of (Ok o ∷ later) ≡ cons_option o (items_of later)
items_good o later = ap (filter_map item_of) (take_while-cons is_ok (Ok o) later)

items_one : {A : Type 0} (o : Option A) → items_of (Ok o ∷ []) ≡ option_to_list o
items_one None = ap (filter_map item_of) (take_while-cons is_ok (Ok None) [])
items_one (Some x) = ap (filter_map item_of) (take_while-cons is_ok (Ok (Some x)) [])

good_append : {A : Type 0} (good : List (Result (Option A) LineFault)) (o : Option A) → list_all is_ok good ≡ true → list_all is_ok (good ++ Ok o ∷ []) ≡ true
good_append [] o ok = refl
good_append (Ok p ∷ good) o ok = good_append good o ok
good_append (Err f ∷ good) o ok = cc ok

pub faults_behind : {A : Type 0} (n : ℕ) (good later : List (Result (Option A) LineFault)) (f : LineFault) → list_all is_ok good ≡ true
    → first_of (filter_map fault_of (enumerate_from n (good ++ Err f ∷ later))) ≡ Some (n + length good, f)
faults_behind n [] later f ok = ap (λ k. Some (k, f)) (and_none n)
faults_behind n (Ok o ∷ good) later f ok =
    let place : n + 1 + length good ≡ n + length (Ok o ∷ good) = omega (arith) in
    faults_behind (n + 1) good later f ok ∙ ap (λ k. Some (k, f)) place
faults_behind n (Err g ∷ good) later f ok = cc ok

pub no_faults : {A : Type 0} (n : ℕ) (good : List (Result (Option A) LineFault)) → list_all is_ok good ≡ true → filter_map fault_of (enumerate_from n good) ≡ []
no_faults n [] ok = refl
no_faults n (Ok o ∷ good) ok = no_faults (n + 1) good ok
no_faults n (Err f ∷ good) ok = cc ok

pub all_items : {A : Type 0} (good : List (Result (Option A) LineFault)) → list_all is_ok good ≡ true → items_of good ≡ filter_map item_of good
all_items [] ok = refl
all_items (Ok o ∷ good) ok = ap (filter_map item_of) (take_while-cons is_ok (Ok o) good) ∙ ap (cons_option o) (all_items good ok)
all_items (Err f ∷ good) ok = cc ok

pub good_more : {A : Type 0} (read : ℕ → List ℕ → Result (Option A) LineFault) (most : ℕ) (given : List (List ℕ)) (line : List ℕ) (found : Option A)
    → are_good read most given ≡ true → numbered_at read most (length given + 1, line) ≡ Ok found
    → (are_good read most (given ++ line ∷ []) ≡ true) × (items_in read most (given ++ line ∷ []) ≡ items_in read most given ++ option_to_list found)
good_more read most given line found good reads =
    let all : readings_in read most (given ++ line ∷ []) ≡ readings_in read most given ++ Ok found ∷ [] =
    readings_append read most given line [] ∙ ap (λ r. readings_in read most given ++ r ∷ []) reads in (
      ap (list_all is_ok) all ∙ good_append (readings_in read most given) found good,
      ap items_of all ∙ items_append (readings_in read most given) (Ok found ∷ []) good ∙ ap (λ xs. items_in read most given ++ xs) (items_one found),
    )

pub bad_next : {A : Type 0} (read : ℕ → List ℕ → Result (Option A) LineFault) (most : ℕ) (content : List ℕ) (given : List (List ℕ)) (line : List ℕ) (others : List (List ℕ)) (fault : LineFault)
    → are_good read most given ≡ true → lines_of content ≡ given ++ line ∷ others → numbered_at read most (length given + 1, line) ≡ Err fault
    → (first_bad_line read most content ≡ Some (length given + 1, fault)) × (items_in read most (lines_of content) ≡ items_in read most given)
bad_next read most content given line others fault good parts reads =
    let later = map (numbered_at read most) (enumerate_from (length given + 1 + 1) others) in
    let all : readings_in read most (lines_of content) ≡ readings_in read most given ++ Err fault ∷ later =
    ap (readings_in read most) parts ∙ readings_append read most given line others ∙ ap (λ r. readings_in read most given ++ r ∷ later) reads in
    let place : 1 + length (readings_in read most given) ≡ length given + 1 = omega (arith, length_readings read most given) in (
      ap (λ rs. first_of (filter_map fault_of (enumerate_from 1 rs))) all ∙ faults_behind 1 (readings_in read most given) later fault good ∙ ap (λ k. Some (k, fault)) place,
      ap items_of all ∙ items_append (readings_in read most given) (Err fault ∷ later) good
          ∙ ap (λ xs. items_in read most given ++ xs) (items_bad fault later) ∙ append-nil (items_in read most given),
    )

pub all_good : {A : Type 0} (read : ℕ → List ℕ → Result (Option A) LineFault) (most : ℕ) (content : List ℕ) → are_good read most (lines_of content) ≡ true
    → (first_bad_line read most content ≡ None) × (items_in read most (lines_of content) ≡ filter_map item_of (readings_in read most (lines_of content)))
all_good read most content good =
    (ap first_of (no_faults 1 (readings_in read most (lines_of content)) good), all_items (readings_in read most (lines_of content)) good)

le_true : (n most : ℕ) → n < most → nat_le (n + 1) most ≡ true
le_true n most h = grind arith

le_false : (n most : ℕ) → most ≤ n → nat_le (n + 1) most ≡ false
le_false n most h = grind arith

-- a line whose number may be
pub numbered_fits : {A : Type 0} (read : ℕ → List ℕ → Result (Option A) LineFault) (most n : ℕ) (line : List ℕ) → n < most
    → numbered_at read most (n + 1, line) ≡ read (n + 1) line
numbered_fits read most n line h = rw (le_true n most h) refl

-- and one whose number may not
pub numbered_over : {A : Type 0} (read : ℕ → List ℕ → Result (Option A) LineFault) (most n : ℕ) (line : List ℕ) → most ≤ n
    → numbered_at read most (n + 1, line) ≡ Err TooMany
numbered_over read most n line h = rw (le_false n most h) refl
