-- The first line of bytes that go on.
use Rattle.std.proofs.Common.{◌≡◌, ◌≢◌, ◌⊎◌, ℕ, zero, suc, ◌+◌, ◌-◌, ◌<◌, ◌≤◌, ◌==◌, List, [], ◌∷◌, ◌++◌, Bool, true, false, cond, nat_eq, min, length, take, drop, map, get_or, refl, ap, subst, sym, ◌∙◌, inl, inr, arith, append_assoc, take-append-drop, length-take-le, length-append, length-take}
use Rattle.std.specs.Prelude.{⊤}
use Rattle.std.specs.List.{slice_split, onto_first, join_with_byte, All}
use Rattle.std.specs.Str.Lines.{strip_carriage_return}
use Rattle.std.proofs.lemmas.Bool.{cases_lt}
use Rattle.std.proofs.lemmas.List.{append-nil, drop_more, drop_all, get_or-take, get_or-drop, get_or_default, take_all}
use Rattle.std.proofs.lemmas.Grind.{common_steps}
use Rattle.std.proofs.lemmas.List.Splits.{slice_split_at, slice_split_none, slice_split-cons_no, length-slice_split, join_with_byte-slice_split}
use Rattle.jet_lines.specs.Lines.{lines_of, without_empty_last}
use Rattle.jet_lines.specs.Feeds.{NoFeed}
use Rattle.jet_lines.specs.Cutting.{MayCome, BeginsWith, HasLine, HasLongLine}

not_feed : (b : ℕ) → b ≢ 10 → nat_eq b 10 ≡ false
not_feed b ne = grind arith

keep_first : (part : List ℕ) (parts : List (List ℕ)) → 0 < length parts → without_empty_last (part ∷ parts) ≡ part ∷ without_empty_last parts
keep_first part [] some = absurd (omega arith)
keep_first part (next ∷ parts) some = refl

pub cut_at : (raw rest : List ℕ) → All (λ b. nat_eq b 10 ≡ false) raw → lines_of (raw ++ 10 ∷ rest) ≡ strip_carriage_return raw ∷ lines_of rest
cut_at raw rest none =
    ap (λ (parts : List (List ℕ)). map strip_carriage_return (without_empty_last parts)) (slice_split_at (λ b. nat_eq b 10) raw 10 rest none refl)
    ∙ ap (λ (parts : List (List ℕ)). map strip_carriage_return parts)
    (keep_first raw (slice_split (λ b. nat_eq b 10) rest) (omega (arith, length-slice_split (λ b. nat_eq b 10) rest)))

cut_more : (held more : List ℕ) (at : ℕ) → at < length held → get_or held at 0 ≡ 10 → All (λ b. nat_eq b 10 ≡ false) (take at held)
    → lines_of (held ++ more) ≡ strip_carriage_return (take at held) ∷ lines_of (drop (at + 1) held ++ more)
cut_more held more at fits here none =
    let parts : held ≡ take at held ++ 10 ∷ drop (at + 1) held =
    sym (take-append-drop at held) ∙ ap (λ (s : List ℕ). take at held ++ s) (drop_more held at 0 fits ∙ ap (λ (b : ℕ). b ∷ drop (at + 1) held) here) in
    ap (λ (h : List ℕ). lines_of (h ++ more)) parts
    ∙ ap lines_of (append_assoc (take at held) (10 ∷ drop (at + 1) held) more)
    ∙ cut_at (take at held) (drop (at + 1) held ++ more) none

none_before : (held : List ℕ) (at : ℕ) → at ≤ length held → NoFeed held at → All (λ b. nat_eq b 10 ≡ false) (take at held)
none_before held at fits before = λ k d below.
    let short : k < at = omega (arith, length-take-le at held fits) in
    let same : get_or (take at held) k d ≡ get_or held k 0 = get_or-take at held k d short ∙ get_or_default held k d 0 (omega arith) in
    rw same (not_feed (get_or held k 0) (before k short))

-- what a line loses at its end
strip_cases : (line : List ℕ) → (strip_carriage_return line ≡ line) ⊎ (strip_carriage_return line ≡ take (length line - 1) line)
strip_cases line = go (nat_eq (get_or line (length line - 1) 0) 13)
  where
    go : (b : Bool) → (cond b (take (length line - 1) line) line ≡ line) ⊎ (cond b (take (length line - 1) line) line ≡ take (length line - 1) line)
    go true = inr refl
    go false = inl refl

pub strip_len : (line : List ℕ) → (length (strip_carriage_return line) ≤ length line) × (length line ≤ length (strip_carriage_return line) + 1)
strip_len line = elim (strip_cases line) [
  | inl same ↦ (omega (arith, ap length same), omega (arith, ap length same))
  | inr less ↦
      let short = length-take-le (length line - 1) line (omega arith) in
      (omega (arith, ap length less, short), omega (arith, ap length less, short))
]

pub strip_front : (line : List ℕ) → take (length (strip_carriage_return line)) line ≡ strip_carriage_return line
strip_front line = elim (strip_cases line) [
  | inl same ↦ ap (λ n. take n line) (ap length same) ∙ take_all (length line) line (omega arith) ∙ sym same
  | inr less ↦ ap (λ n. take n line) (ap length less ∙ length-take-le (length line - 1) line (omega arith)) ∙ sym less
]

pub take_take : (n m : ℕ) (xs : List ℕ) → n ≤ m → take n (take m xs) ≡ take n xs
take_take n m xs h = grind (arith, common_steps)

-- a line feed behind bytes with none
pub begins_at : (ended : Bool) (rest : List ℕ) (at : ℕ) → at < length rest → get_or rest at 0 ≡ 10 → NoFeed rest at
    → BeginsWith ended rest (strip_carriage_return (take at rest)) (drop (at + 1) rest)
begins_at ended rest at fits here before more may = cut_more rest more at fits here (none_before rest at (omega arith) before)

pub long_at : (ended : Bool) (rest : List ℕ) (at : ℕ) → at < length rest → get_or rest at 0 ≡ 10 → NoFeed rest at
    → 512 < length (strip_carriage_return (take at rest)) → HasLongLine ended rest
long_at ended rest at fits here before long more may =
    (strip_carriage_return (take at rest), lines_of (drop (at + 1) rest ++ more), begins_at ended rest at fits here before more may, long)

-- the last line, with no line feed
pub last_is : (rest : List ℕ) → 0 < length rest → NoFeed rest (length rest) → lines_of rest ≡ strip_carriage_return rest ∷ []
last_is rest some none =
    let all : All (λ b. nat_eq b 10 ≡ false) rest =
    subst (λ (xs : List ℕ). All (λ b. nat_eq b 10 ≡ false) xs) (take_all (length rest) rest (omega arith)) (none_before rest (length rest) (omega arith) none) in
    ap (λ (parts : List (List ℕ)). map strip_carriage_return (without_empty_last parts)) (slice_split_none (λ b. nat_eq b 10) rest all)
    ∙ ap (λ (b : Bool). map strip_carriage_return (cond b [] (rest ∷ []))) (not_zero (length rest) some)
  where
    not_zero : (n : ℕ) → 0 < n → nat_eq n 0 ≡ false
    not_zero n h = grind arith

nothing_more : (rest more : List ℕ) → MayCome true more → rest ++ more ≡ rest
nothing_more rest more may = ap (λ (m : List ℕ). rest ++ m) (may refl) ∙ append-nil rest

pub begins_last : (ended : Bool) (rest : List ℕ) → ended ≡ true → 0 < length rest → NoFeed rest (length rest)
    → BeginsWith ended rest (strip_carriage_return rest) (drop (length rest) rest)
begins_last false rest e some none = λ more may. cc e
begins_last true rest e some none = λ more may.
    ap lines_of (nothing_more rest more may) ∙ last_is rest some none
    ∙ ap (λ (m : List ℕ). strip_carriage_return rest ∷ lines_of m)
    (sym (ap (λ (d : List ℕ). d ++ more) (drop_all (length rest) rest (omega arith)) ∙ may refl))

pub long_last : (ended : Bool) (rest : List ℕ) → ended ≡ true → 0 < length rest → NoFeed rest (length rest)
    → 512 < length (strip_carriage_return rest) → HasLongLine ended rest
long_last ended rest e some none long more may =
    (strip_carriage_return rest, _, begins_last ended rest e some none more may, long)

-- bytes with no line feed go to the first part
NoFeedIn : List ℕ → Type 0
NoFeedIn [] = ⊤
NoFeedIn (b ∷ bytes) = (nat_eq b 10 ≡ false) × NoFeedIn bytes

no_feed_in : (n : ℕ) (bytes : List ℕ) → n ≤ length bytes → NoFeed bytes n → NoFeedIn (take n bytes)
unfolding NoFeedIn
no_feed_in zero bytes fits none = tt
no_feed_in (suc n) [] fits none = absurd (omega arith)
no_feed_in (suc n) (b ∷ bytes) fits none =
    (not_feed b (none 0 (omega arith)), no_feed_in n bytes (omega arith) (λ k h. none (suc k) (omega arith)))

split_some : (bytes : List ℕ) → (part : List ℕ) × (parts : List (List ℕ)) × (slice_split (λ b. nat_eq b 10) bytes ≡ part ∷ parts)
split_some bytes = go (slice_split (λ b. nat_eq b 10) bytes) refl
  where
    go : (all : List (List ℕ)) → slice_split (λ b. nat_eq b 10) bytes ≡ all → (part : List ℕ) × (parts : List (List ℕ)) × (slice_split (λ b. nat_eq b 10) bytes ≡ part ∷ parts)
    go [] e = absurd (omega (arith, length-slice_split (λ b. nat_eq b 10) bytes, ap length e))
    go (part ∷ parts) e = (part, parts, e)

first_part : (front bytes : List ℕ) → NoFeedIn front
    → (part : List ℕ) × (parts : List (List ℕ)) × (slice_split (λ b. nat_eq b 10) (front ++ bytes) ≡ (front ++ part) ∷ parts)
unfolding NoFeedIn
first_part [] bytes none = split_some bytes
first_part (b ∷ front) bytes none =
    let (part, parts, e) = first_part front bytes none.1 in
    (part, parts, slice_split-cons_no (λ c. nat_eq c 10) b (front ++ bytes) none.0 ∙ ap (λ (all : List (List ℕ)). onto_first b all) e)

kept_some : (part : List ℕ) (parts : List (List ℕ)) → 0 < length part → (others : List (List ℕ)) × (without_empty_last (part ∷ parts) ≡ part ∷ others)
kept_some [] parts some = absurd (omega arith)
kept_some (b ∷ part) [] some = ([], ap (λ (t : Bool). cond t [] ((b ∷ part) ∷ [])) (not_zero (length (b ∷ part)) some))
  where
    not_zero : (n : ℕ) → 0 < n → nat_eq n 0 ≡ false
    not_zero n h = grind arith
kept_some part (next ∷ parts) some = (without_empty_last (next ∷ parts), refl)

-- bytes with no line feed that are too long stay so, however they go on
long_on : (front bytes : List ℕ) → NoFeedIn front → 512 < length (strip_carriage_return front)
    → (line : List ℕ) × (others : List (List ℕ)) × (lines_of (front ++ bytes) ≡ line ∷ others) × (512 < length line)
long_on front bytes none long =
    let (part, parts, e) = first_part front bytes none in
    let stays = longer part in
    let (others, kept) = kept_some (front ++ part) parts (omega (arith, stays, (strip_len (front ++ part)).0)) in (
      strip_carriage_return (front ++ part),
      map strip_carriage_return others,
      ap (λ (all : List (List ℕ)). map strip_carriage_return (without_empty_last all)) e
          ∙ ap (λ (all : List (List ℕ)). map strip_carriage_return all) kept,
      stays,
    )
  where
    longer : (part : List ℕ) → 512 < length (strip_carriage_return (front ++ part))
    longer [] = subst (λ (f : List ℕ). 512 < length (strip_carriage_return f)) (sym (append-nil front)) long
    longer (b ∷ part) =
        omega (arith, long, (strip_len front).0, (strip_len (front ++ b ∷ part)).1, length-append front (b ∷ part))

pub long_front : (ended : Bool) (rest : List ℕ) → NoFeed rest (min (length rest) 514) → 512 < length (strip_carriage_return rest) → HasLongLine ended rest
long_front ended rest none long more may = elim (cases_lt (length rest) 514) [
  | inl short ↦
      let all : min (length rest) 514 ≡ length rest = omega arith in
      let whole : take (length rest) rest ≡ rest = take_all (length rest) rest (omega arith) in
      long_on rest more
      (subst (λ (r : List ℕ). NoFeedIn r) whole (no_feed_in (length rest) rest (omega arith) (subst (λ (n : ℕ). NoFeed rest n) all none))) long
  | inr enough ↦
      let most : min (length rest) 514 ≡ 514 = omega arith in
      let whole : rest ++ more ≡ take 514 rest ++ (drop 514 rest ++ more) =
      ap (λ (r : List ℕ). r ++ more) (sym (take-append-drop 514 rest)) ∙ append_assoc (take 514 rest) (drop 514 rest) more in
      let (line, others, e, n) =
      long_on (take 514 rest) (drop 514 rest ++ more) (no_feed_in 514 rest enough (subst (λ (n : ℕ). NoFeed rest n) most none))
      (omega (arith, (strip_len (take 514 rest)).1, length-take-le 514 rest enough)) in
      (line, others, ap lines_of whole ∙ e, n)
]

pub some_line : (bytes : List ℕ) → 0 < length bytes → (line : List ℕ) × (others : List (List ℕ)) × (lines_of bytes ≡ line ∷ others)
some_line bytes some =
    let (part, parts, e) = split_some bytes in go part parts e
  where
    go : (part : List ℕ) (parts : List (List ℕ)) → slice_split (λ b. nat_eq b 10) bytes ≡ part ∷ parts
        → (line : List ℕ) × (others : List (List ℕ)) × (lines_of bytes ≡ line ∷ others)
    go part [] e =
        let same : part ≡ bytes = sym (ap (λ (all : List (List ℕ)). join_with_byte 10 all) e) ∙ join_with_byte-slice_split 10 bytes in
        let (others, kept) = kept_some part [] (omega (arith, ap length same)) in (
          strip_carriage_return part,
          map strip_carriage_return others,
          ap (λ (all : List (List ℕ)). map strip_carriage_return (without_empty_last all)) e ∙ ap (λ (all : List (List ℕ)). map strip_carriage_return all) kept,
        )
    go part (next ∷ parts) e = (
      strip_carriage_return part,
      map strip_carriage_return (without_empty_last (next ∷ parts)),
      ap (λ (all : List (List ℕ)). map strip_carriage_return (without_empty_last all)) e,
    )

pub line_behind : (ended : Bool) (rest : List ℕ) → 0 < length rest → HasLine ended rest
line_behind ended rest some more may = some_line (rest ++ more) (omega (arith, length-append rest more))

-- bytes known to hold no line feed, and more of them
pub beyond : (bytes : List ℕ) (clear n : ℕ) → clear ≤ length bytes → n ≤ length bytes - clear → NoFeed bytes clear
    → NoFeed (drop clear bytes) n → NoFeed bytes (clear + n)
beyond bytes clear n fits within known later k below e = elim (cases_lt k clear) [
  | inl before ↦ known k before e
  | inr from ↦
      let same : clear + (k - clear) ≡ k = omega arith in
      later (k - clear) (omega arith) (get_or-drop clear bytes (k - clear) 0 ∙ ap (λ i. get_or bytes i 0) same ∙ e)
]

pub feed_front : (bytes : List ℕ) (most n : ℕ) → n ≤ most → NoFeed (take most bytes) n → NoFeed bytes n
feed_front bytes most n within none k below e = none k below (get_or-take most bytes k 0 (omega arith) ∙ e)

pub front_feed : (bytes : List ℕ) (most n : ℕ) → n ≤ most → NoFeed bytes n → NoFeed (take most bytes) n
front_feed bytes most n within none k below e = none k below (sym (get_or-take most bytes k 0 (omega arith)) ∙ e)

pub found_in : (rest : List ℕ) (most at : ℕ) → at < length (take most rest) → get_or (take most rest) at 0 ≡ 10 → NoFeed (take most rest) at
    → (at < length rest) × (get_or rest at 0 ≡ 10) × NoFeed rest at
found_in rest most at fits here before =
    let len = length-take most rest in
    let short : at < most = omega (arith, len) in
    (omega (arith, len), sym (get_or-take most rest at 0 short) ∙ here, feed_front rest most at (omega arith) before)

pub some_length : (n : ℕ) → false ≡ (n == 0) → 0 < n
some_length zero e = cc e
some_length (suc n) e = omega arith
