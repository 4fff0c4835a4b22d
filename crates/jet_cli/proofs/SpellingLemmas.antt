-- What is spelled is read.
use Rattle.std.proofs.Common.{◌≡◌, ℕ, ◌&&◌, ◌||◌, ◌==◌, ◌⊎◌, Bool, true, false, not, List, [], ◌∷◌, ◌++◌, map, Some, refl, sym, ap, ◌∙◌, subst, arith, inl, inr}
use Rattle.std.specs.Prelude.{codes, bytes_eq, if◌then◌else◌}
use Rattle.std.specs.List.{AllByRecursion, before_first, after_first}
use Rattle.std.proofs.lemmas.Bool.Decides.{nat_tests}
use Rattle.std.proofs.lemmas.Slice.Eq.{bytes_eq-Decides}
use Rattle.jet_cli.specs.JobWords.{Part, Operand, Given, Lone, is_option_word, has_equals, alone, takes, marked_parts, is_end_of_options, JobCommand, job_in}
use Rattle.jet_cli.specs.Spelling.{Spelling, Bare, Joined, Parted, spelled_all, part_of, is_option_name, IsSpelling, IsSpelled}
use Rattle.jet_cli.specs.Words.{job_of}
use Rattle.jet_cli.proofs.Cuts.{Lacks, some-at, some-Lacks, before-Lacks, after-Lacks, before-at, after-at}
use Rattle.jet_cli.proofs.PartLemmas.{next_of, none_of}

pub clash : true ≡ false → ⊥
clash e = cc

pub same_bytes : (xs ys : List ℕ) → bytes_eq xs ys ≡ true → xs ≡ ys
same_bytes xs ys h = (bytes_eq-Decides xs ys).0 h

no_name : (a b c : Bool) → a ≡ false → b ≡ false → c ≡ false → (a || (b || (c || false))) ≡ true → ⊥
no_name a b c f g e h = clash (sym h ∙ rw (f, g, e) refl)

-- what holds of each name holds of an option's name
pub by_name : (P : List ℕ → Type 0) → P (codes "--workers") → P (codes "--members") → P (codes "--ring") → (name : List ℕ) → is_option_name name ≡ true → P name
by_name P w m r name h = first (bytes_eq name (codes "--workers")) refl
  where
    third : (t : Bool) → bytes_eq name (codes "--ring") ≡ t → bytes_eq name (codes "--workers") ≡ false → bytes_eq name (codes "--members") ≡ false → P name
    third true e f g = subst P (sym (same_bytes name (codes "--ring") e)) r
    third false e f g = absurd (no_name (bytes_eq name (codes "--workers")) (bytes_eq name (codes "--members")) (bytes_eq name (codes "--ring")) f g e h)

    second : (t : Bool) → bytes_eq name (codes "--members") ≡ t → bytes_eq name (codes "--workers") ≡ false → P name
    second true e f = subst P (sym (same_bytes name (codes "--members") e)) m
    second false e f = third (bytes_eq name (codes "--ring")) refl f e

    first : (t : Bool) → bytes_eq name (codes "--workers") ≡ t → P name
    first true e = subst P (sym (same_bytes name (codes "--workers") e)) w
    first false e = second (bytes_eq name (codes "--members")) refl e

abbrev pub equals : ℕ → Bool
equals b = b == 61

first_alone : (word : List ℕ) (rest : List (List ℕ)) (part : Part) → ((next : List ℕ) → takes word next ≡ false) → alone word ≡ part
    → marked_parts (word ∷ rest) ≡ part ∷ marked_parts rest
unfolding marked_parts
first_alone word [] part none is = ap (λ (p : Part). p ∷ []) is
first_alone word (next ∷ more) part none is = none_of word next more (none next) ∙ ap (λ (p : Part). p ∷ marked_parts (next ∷ more)) is

alone_bare : (word : List ℕ) → is_option_word word ≡ false → alone word ≡ Operand word
alone_bare word h = ap (λ (t : Bool). if not t then Operand word else if has_equals word then Given (before_first equals word) (after_first equals word) else Lone word) h

pub alone_lone : (word : List ℕ) → is_option_word word ≡ true → has_equals word ≡ false → alone word ≡ Lone word
alone_lone word h none =
    ap (λ (t : Bool). if not t then Operand word else if has_equals word then Given (before_first equals word) (after_first equals word) else Lone word) h
    ∙ ap (λ (t : Bool). if t then Given (before_first equals word) (after_first equals word) else Lone word) none

pub alone_given : (word name value : List ℕ) → is_option_word word ≡ true → has_equals word ≡ true → before_first equals word ≡ name → after_first equals word ≡ value
    → alone word ≡ Given name value
alone_given word name value h some front back =
    ap (λ (t : Bool). if not t then Operand word else if has_equals word then Given (before_first equals word) (after_first equals word) else Lone word) h
    ∙ ap (λ (t : Bool). if t then Given (before_first equals word) (after_first equals word) else Lone word) some
    ∙ ap (λ (n : List ℕ). Given n (after_first equals word)) front ∙ ap (Given name) back

takes_bare : (word next : List ℕ) → is_option_word word ≡ false → takes word next ≡ false
takes_bare word next h = ap (λ (t : Bool). t && not (has_equals word) && not (is_option_word next)) h

takes_joined : (word next : List ℕ) → has_equals word ≡ true → takes word next ≡ false
takes_joined word next h = ap (λ (t : Bool). is_option_word word && not t && not (is_option_word next)) h ∙ no_second (is_option_word word) (not (is_option_word next))
  where
    no_second : (a c : Bool) → (a && not true && c) ≡ false
    no_second true c = refl
    no_second false c = refl

takes_parted : (word next : List ℕ) → is_option_word word ≡ true → has_equals word ≡ false → is_option_word next ≡ false → takes word next ≡ true
takes_parted word next h none last =
    ap (λ (t : Bool). t && not (has_equals word) && not (is_option_word next)) h
    ∙ ap (λ (t : Bool). true && not t && not (is_option_word next)) none ∙ ap (λ (t : Bool). true && true && not t) last

name_lacks : (name : List ℕ) → is_option_name name ≡ true → Lacks equals name
name_lacks = by_name (Lacks equals) (search) (search) (search)

name_is_option : (name : List ℕ) → is_option_name name ≡ true → is_option_word name ≡ true
name_is_option = by_name (λ n. is_option_word n ≡ true) refl refl refl

name_is_no_end : (name : List ℕ) → is_option_name name ≡ true → is_end_of_options name ≡ false
name_is_no_end = by_name (λ n. is_end_of_options n ≡ false) refl refl refl

joined_is_option : (name value : List ℕ) → is_option_name name ≡ true → is_option_word (name ++ 61 ∷ value) ≡ true
joined_is_option name value = by_name (λ n. is_option_word (n ++ 61 ∷ value) ≡ true) (grind (arith, nat_tests)) (grind (arith, nat_tests)) (grind (arith, nat_tests)) name

joined_is_no_end : (name value : List ℕ) → is_option_name name ≡ true → is_end_of_options (name ++ 61 ∷ value) ≡ false
joined_is_no_end name value = by_name (λ n. is_end_of_options (n ++ 61 ∷ value) ≡ false) refl refl refl name

bare_is_no_end : (word : List ℕ) → is_option_word word ≡ false → is_end_of_options word ≡ false
bare_is_no_end word h = go (is_end_of_options word) refl
  where
    go : (t : Bool) → is_end_of_options word ≡ t → is_end_of_options word ≡ false
    go true e = absurd (clash (subst (λ (w : List ℕ). is_option_word w ≡ false) (same_bytes word (codes "--") e) h))
    go false e = e

no_end : (ss : List Spelling) → AllByRecursion IsSpelling ss → Lacks is_end_of_options (spelled_all ss)
no_end [] h = tt
no_end (Bare word ∷ ss) h = (bare_is_no_end word h.0, no_end ss h.1)
no_end (Joined name value ∷ ss) h = (joined_is_no_end name value h.0, no_end ss h.1)
no_end (Parted name value ∷ ss) h = (name_is_no_end name h.0.0, (bare_is_no_end value h.0.1, no_end ss h.1))

-- what is spelled is read
pub read_back : (ss : List Spelling) → AllByRecursion IsSpelling ss → marked_parts (spelled_all ss) ≡ map part_of ss
unfolding marked_parts
read_back [] h = refl
read_back (Bare word ∷ ss) h =
    first_alone word (spelled_all ss) (Operand word) (λ next. takes_bare word next h.0) (alone_bare word h.0) ∙ ap (λ (ps : List Part). Operand word ∷ ps) (read_back ss h.1)
read_back (Joined name value ∷ ss) h =
    let lacks = name_lacks name h.0 in
    let some = some-at equals name 61 value lacks refl in
    first_alone (name ++ 61 ∷ value) (spelled_all ss) (Given name value) (λ next. takes_joined (name ++ 61 ∷ value) next some)
    (alone_given (name ++ 61 ∷ value) name value (joined_is_option name value h.0) some (before-at equals name 61 value lacks refl) (after-at equals name 61 value lacks refl))
    ∙ ap (λ (ps : List Part). Given name value ∷ ps) (read_back ss h.1)
read_back (Parted name value ∷ ss) h =
    next_of name value (spelled_all ss) (takes_parted name value (name_is_option name h.0.0) (some-Lacks equals name (name_lacks name h.0.0)) h.0.1)
    ∙ ap (λ (ps : List Part). Given name value ∷ ps) (read_back ss h.1)

-- words that spell a command are one
pub spelled_is_read : (words : List (List ℕ)) (c : JobCommand) → IsSpelled words c → job_of words ≡ Some c
spelled_is_read words c s = go s.words_are
  where
    lacks : Lacks is_end_of_options (spelled_all s.spellings)
    lacks = no_end s.spellings s.are

    go : (words ≡ spelled_all s.spellings ++ codes "--" ∷ s.operands) ⊎ ((words ≡ spelled_all s.spellings) × (s.operands ≡ [])) → job_of words ≡ Some c
    go (inl is) =
        rw is (rw (before-at is_end_of_options (spelled_all s.spellings) (codes "--") s.operands lacks refl, after-at is_end_of_options (spelled_all s.spellings) (codes "--") s.operands lacks refl, read_back s.spellings s.are) s.makes)
    go (inr is) =
        rw is.0 (rw (before-Lacks is_end_of_options (spelled_all s.spellings) lacks, after-Lacks is_end_of_options (spelled_all s.spellings) lacks, read_back s.spellings s.are) (subst (λ (os : List (List ℕ)). job_in (map part_of s.spellings ++ map Operand os) ≡ Some c) is.1 s.makes))
