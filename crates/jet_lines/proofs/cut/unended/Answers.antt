use Rattle.std.proofs.Common.{◌≡◌, ◌<◌, ◌≤◌, ℕ, List, ◌∷◌, ◌++◌, length, take, drop, min, arith, subst, ap, sym, ◌∙◌, rules}
use Rattle.std.specs.Str.Lines.{strip_carriage_return}
use Rattle.jet_lines.specs.Lines.{lines_of}
use Rattle.jet_lines.specs.Feeds.{NoFeed}
use Rattle.jet_lines.proofs.CutLemmas.{begins_last, long_front, some_length, strip_front, strip_len}
use Rattle.jet_lines.proofs.cut.unended.Goals as goal

-- what is not too long has no line feed at all
short : (rest : List ℕ) (n : ℕ) → n ≡ length (strip_carriage_return rest) → n ≤ 512 → NoFeed rest (min (length rest) 514) → NoFeed rest (length rest)
short rest n is few none =
    let all : min (length rest) 514 ≡ length rest = omega (arith, (strip_len rest).1) in subst (λ (n : ℕ). NoFeed rest n) all none

pub returns-then-len-gt-MOST_BYTES : goal.returns-then-len-gt-MOST_BYTES
returns-then-len-gt-MOST_BYTES c =
    long_front c.args.ended c.args.rest.now c.requires (subst (λ (l : List ℕ). 512 < length l) c.without_return-len.ensures c.if-len-gt-MOST_BYTES.true)

pub returns-then-not-ended : goal.returns-then-not-ended
returns-then-not-ended c =
    let same = ap length c.without_return-len.ensures in
    (search rules, (short c.args.rest.now _ same c.if-len-gt-MOST_BYTES.false c.requires, omega (arith, same, c.if-len-gt-MOST_BYTES.false)))

pub returns : goal.returns
returns c =
    let line = c.without_return-len.ensures in
    let none = short c.args.rest.now _ (ap length line) c.if-len-gt-MOST_BYTES.false c.requires in
    let front = ap (λ (l : List ℕ). take (length l) c.args.rest.now) line ∙ strip_front c.args.rest.now in
    let begins = begins_last c.args.ended c.args.rest.now (search rules) (some_length (length c.args.rest.now) c.if-is_empty.ensures) none in (
      omega (arith, ap length line, (strip_len c.args.rest.now).0),
      omega (arith, ap length line, (strip_len c.args.rest.now).1),
      omega arith,
      c.if-len-gt-MOST_BYTES.false,
      λ more may. begins more may ∙ ap (λ (l : List ℕ). l ∷ lines_of (drop (length c.args.rest.now) c.args.rest.now ++ more)) (sym front),
    )
