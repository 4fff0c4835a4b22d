use Rattle.std.proofs.Common.{◌≡◌, ◌+◌, ◌<◌, ◌≤◌, ℕ, List, ◌∷◌, ◌++◌, length, take, drop, arith, subst, ap, sym, ◌∙◌, length-take-le}
use Rattle.std.specs.Str.Lines.{strip_carriage_return}
use Rattle.jet_lines.specs.Lines.{lines_of}
use Rattle.jet_lines.proofs.CutLemmas.{begins_at, found_in, long_at, strip_front, strip_len, take_take}
use Rattle.jet_lines.proofs.cut.front_of.Goals as goal

pub returns-then-len-gt-MOST_BYTES : goal.returns-then-len-gt-MOST_BYTES
returns-then-len-gt-MOST_BYTES c =
    let (fits, here, before) = found_in c.args.rest.now c.min-most.result c.in-Some.at c.in-Some.ensures.bound c.in-Some.ensures.here c.in-Some.ensures.before in
    long_at c.args.ended c.args.rest.now c.in-Some.at fits here before (subst (λ (l : List ℕ). 512 < length l) c.without_return-len.ensures c.if-len-gt-MOST_BYTES.true)

pub returns-else-len-gt-MOST_BYTES : goal.returns-else-len-gt-MOST_BYTES
returns-else-len-gt-MOST_BYTES c =
    let (fits, here, before) = found_in c.args.rest.now c.min-most.result c.in-Some.at c.in-Some.ensures.bound c.in-Some.ensures.here c.in-Some.ensures.before in
    let raw = length-take-le c.in-Some.at c.args.rest.now (omega (arith, fits)) in
    let line = c.without_return-len.ensures in
    let len : length c.without_return-len.result.now ≤ c.in-Some.at = omega (arith, ap length line, raw, (strip_len (take c.in-Some.at c.args.rest.now)).0) in
    let front : take (length c.without_return-len.result.now) c.args.rest.now ≡ strip_carriage_return (take c.in-Some.at c.args.rest.now) =
    sym (take_take (length c.without_return-len.result.now) c.in-Some.at c.args.rest.now len)
    ∙ ap (λ (l : List ℕ). take (length l) (take c.in-Some.at c.args.rest.now)) line ∙ strip_front (take c.in-Some.at c.args.rest.now) in
    let begins = begins_at c.args.ended c.args.rest.now c.in-Some.at fits here before in (
      omega (arith, len),
      omega (arith, ap length line, raw, (strip_len (take c.in-Some.at c.args.rest.now)).1),
      omega (arith, fits),
      c.if-len-gt-MOST_BYTES.false,
      λ more may. begins more may ∙ ap (λ (l : List ℕ). l ∷ lines_of (drop (c.in-Some.at + 1) c.args.rest.now ++ more)) (sym front),
    )
