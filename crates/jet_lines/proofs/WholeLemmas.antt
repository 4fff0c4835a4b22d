-- The lines that end with a line feed.
use Rattle.std.proofs.Common.{◌≡◌, ◌≢◌, ℕ, ◌+◌, ◌==◌, List, [], ◌∷◌, ◌++◌, Bool, true, false, cond, not, ◌&&◌, nat_eq, length, take, drop, get_or, refl, ap, subst, sym, ◌∙◌, inl, inr, arith, append_assoc, take-append-drop, length-append}
use Rattle.std.specs.List.{list_all, All}
use Rattle.std.specs.Str.Lines.{strip_carriage_return}
use Rattle.std.proofs.lemmas.Bool.{cases_Bool}
use Rattle.std.proofs.lemmas.List.{append-nil, drop_all, get_or_default, take_all, take-append-le}
use Rattle.std.proofs.lemmas.List.Folds.{list_all-append}
use Rattle.std.proofs.lemmas.List.Sums.{AllPass-from_list_all, list_all-from_AllPass}
use Rattle.jet_lines.specs.Feeds.{NoFeed}
use Rattle.jet_lines.specs.Files.{through_last_feed, whole_lines}
use Rattle.jet_lines.specs.Lines.{lines_of}
use Rattle.jet_lines.proofs.CutLemmas.{cut_at, last_is, some_line}

no_feed_passes : (b : ℕ) → b ≢ 10 → not (b == 10) ≡ true
no_feed_passes b ne = grind arith

passes_no_feed : (b : ℕ) → not (b == 10) ≡ true → nat_eq b 10 ≡ false
passes_no_feed b e = grind arith

passes_other : (b : ℕ) → not (b == 10) ≡ true → b ≢ 10
passes_other b e = grind arith

-- that no byte is a line feed, in two ways
pub test_feeds : (bytes : List ℕ) → NoFeed bytes (length bytes) → list_all (λ c. not (c == 10)) bytes ≡ true
test_feeds bytes none = list_all-from_AllPass (λ c. not (c == 10)) bytes
    (λ k d below. no_feed_passes (get_or bytes k d) (λ e. none k below (get_or_default bytes k 0 d below ∙ e)))

parts_feeds : (bytes : List ℕ) → list_all (λ c. not (c == 10)) bytes ≡ true → All (λ b. nat_eq b 10 ≡ false) bytes
parts_feeds bytes e = λ k d below. passes_no_feed (get_or bytes k d) (AllPass-from_list_all (λ c. not (c == 10)) bytes e k d below)

places_feeds : (bytes : List ℕ) → list_all (λ c. not (c == 10)) bytes ≡ true → NoFeed bytes (length bytes)
places_feeds bytes e = λ k below. passes_other (get_or bytes k 0) (AllPass-from_list_all (λ c. not (c == 10)) bytes e k 0 below)

pub through_none : (bytes : List ℕ) → list_all (λ c. not (c == 10)) bytes ≡ true → through_last_feed bytes ≡ []
through_none [] e = refl
through_none (b ∷ bytes) e = ap (λ (t : Bool). cond t [] (b ∷ through_last_feed bytes)) e

and_false : (t : Bool) → (t && false) ≡ false
and_false true = refl
and_false false = refl

has_feed : (front rest : List ℕ) → list_all (λ c. not (c == 10)) (front ++ 10 ∷ rest) ≡ false
has_feed [] rest = refl
has_feed (b ∷ front) rest = ap (λ (t : Bool). not (b == 10) && t) (has_feed front rest) ∙ and_false (not (b == 10))

pub through_feed : (front rest : List ℕ) → through_last_feed (front ++ 10 ∷ rest) ≡ front ++ 10 ∷ through_last_feed rest
through_feed [] rest = refl
through_feed (b ∷ front) rest =
    ap (λ (t : Bool). cond t [] (b ∷ through_last_feed (front ++ 10 ∷ rest))) (has_feed (b ∷ front) rest)
    ∙ ap (λ (bytes : List ℕ). b ∷ bytes) (through_feed front rest)

pub whole_some : (front rest : List ℕ) → NoFeed rest (length rest) → whole_lines (front ++ 10 ∷ rest) ≡ lines_of (front ++ 10 ∷ [])
whole_some front rest none =
    ap lines_of (through_feed front rest ∙ ap (λ (bytes : List ℕ). front ++ 10 ∷ bytes) (through_none rest (test_feeds rest none)))

pub whole_none : (rest : List ℕ) → NoFeed rest (length rest) → whole_lines rest ≡ []
whole_none rest none = ap lines_of (through_none rest (test_feeds rest none))

-- bytes go on in a line that is open
Opens : List ℕ → Type 0
Opens bytes = (line : List ℕ) × (lines_of (bytes ++ 65 ∷ []) ≡ whole_lines bytes ++ line ∷ [])

opens_first : (raw : List ℕ) → list_all (λ c. not (c == 10)) raw ≡ true → Opens raw
unfolding Opens
opens_first raw none =
    let on : list_all (λ c. not (c == 10)) (raw ++ 65 ∷ []) ≡ true =
    list_all-append (λ c. not (c == 10)) raw (65 ∷ []) ∙ ap (λ (t : Bool). t && true) none in (
      strip_carriage_return (raw ++ 65 ∷ []),
      last_is (raw ++ 65 ∷ []) (omega (arith, length-append raw (65 ∷ []))) (places_feeds (raw ++ 65 ∷ []) on)
          ∙ ap (λ (lines : List (List ℕ)). lines ++ strip_carriage_return (raw ++ 65 ∷ []) ∷ []) (sym (ap lines_of (through_none raw none))),
    )

opens_behind : (raw bytes : List ℕ) → list_all (λ c. not (c == 10)) raw ≡ true → Opens bytes → Opens (raw ++ 10 ∷ bytes)
unfolding Opens
opens_behind raw bytes none (line, e) = (
  line,
  ap lines_of (append_assoc raw (10 ∷ bytes) (65 ∷ [])) ∙ cut_at raw (bytes ++ 65 ∷ []) (parts_feeds raw none)
      ∙ ap (λ (lines : List (List ℕ)). strip_carriage_return raw ∷ lines) e
      ∙ ap (λ (lines : List (List ℕ)). lines ++ line ∷ [])
      (sym (ap lines_of (through_feed raw bytes) ∙ cut_at raw (through_last_feed bytes) (parts_feeds raw none))),
)

is_feed : (b : ℕ) → (b == 10) ≡ true → 10 ≡ b
is_feed b e = grind arith

opens : (raw bytes : List ℕ) → list_all (λ c. not (c == 10)) raw ≡ true → Opens (raw ++ bytes)
opens raw [] none = subst Opens (sym (append-nil raw)) (opens_first raw none)
opens raw (b ∷ bytes) none = elim (cases_Bool (b == 10)) [
  | inl feed ↦ subst (λ (c : ℕ). Opens (raw ++ c ∷ bytes)) (is_feed b feed) (opens_behind raw bytes none (opens [] bytes refl))
  | inr other ↦
      let on : list_all (λ c. not (c == 10)) (raw ++ b ∷ []) ≡ true =
      list_all-append (λ c. not (c == 10)) raw (b ∷ []) ∙ ap (λ (t : Bool). t && (not (b == 10) && true)) none ∙ ap (λ (t : Bool). not t && true) other in
      subst Opens (append_assoc raw (b ∷ []) bytes) (opens (raw ++ b ∷ []) bytes on)
]

-- a list goes on behind the front of another
pub front_of_list : {X : Type 0} (all given : List X) (x y : X) (later : List X) → all ++ x ∷ [] ≡ given ++ y ∷ later
    → (all ≡ given ++ drop (length given) all) × (length all ≡ length given + length later)
front_of_list all given x y later e =
    let lengths : length all ≡ length given + length later =
    omega (arith, ap length e, length-append all (x ∷ []), length-append given (y ∷ later)) in
    let front : take (length given) all ≡ given =
    sym (take-append-le (length given) all (x ∷ []) (omega (arith, lengths))) ∙ ap (take (length given)) e
    ∙ take-append-le (length given) given (y ∷ later) (omega arith) ∙ take_all (length given) given (omega arith) in
    (sym (take-append-drop (length given) all) ∙ ap (λ zs. zs ++ drop (length given) all) front, lengths)

pub given_among : (content rest : List ℕ) (given : List (List ℕ)) → ((more : List ℕ) → lines_of (content ++ more) ≡ given ++ lines_of (rest ++ more))
    → (others : List (List ℕ)) × (whole_lines content ≡ given ++ others)
unfolding Opens
given_among content rest given goes =
    let (line, e) = opens [] content refl in
    let (next, later, some) = some_line (rest ++ 65 ∷ []) (omega (arith, length-append rest (65 ∷ []))) in (
      drop (length given) (whole_lines content),
      (front_of_list (whole_lines content) given line next later
          (sym e ∙ goes (65 ∷ []) ∙ ap (λ (lines : List (List ℕ)). given ++ lines) some)).0,
    )

pub given_all : (content rest : List ℕ) (given : List (List ℕ)) → ((more : List ℕ) → lines_of (content ++ more) ≡ given ++ lines_of (rest ++ more))
    → NoFeed rest (length rest) → whole_lines content ≡ given
unfolding Opens
given_all content rest given goes none =
    let (line, e) = opens [] content refl in
    let (last, one) = opens_first rest (test_feeds rest none) in
    let all = front_of_list (whole_lines content) given line last []
    (sym e ∙ goes (65 ∷ []) ∙ ap (λ (lines : List (List ℕ)). given ++ lines) (one ∙ ap (λ (lines : List (List ℕ)). lines ++ last ∷ []) (whole_none rest none))) in
    all.0 ∙ ap (λ (lines : List (List ℕ)). given ++ lines) (drop_all (length given) (whole_lines content) (omega (arith, all.1))) ∙ append-nil given
