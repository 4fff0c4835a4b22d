use Rattle.std.proofs.Common.{◌≡◌, ◌-◌, ◌+◌, ℕ, List, length, drop, take, arith, subst, length-drop}
use Rattle.std.proofs.lemmas.List.{take_all}
use Rattle.jet_lines.specs.Feeds.{NoFeed}
use Rattle.jet_lines.proofs.CutLemmas.{beyond}
use Rattle.jet_lines.proofs.cut.feed_from.Goals as goal

tail_is : (bytes : List ℕ) (clear : ℕ) → take (length bytes - clear) (drop clear bytes) ≡ drop clear bytes
tail_is bytes clear = take_all (length bytes - clear) (drop clear bytes) (omega (arith, length-drop clear bytes))

pub returns-in-Some-clause-before : goal.returns-in-Some-clause-before
returns-in-Some-clause-before c =
    let same = tail_is c.args.bytes.now c.args.clear in
    let bound = rw same at c.in-Some.ensures.bound in
    let before = rw same at c.in-Some.ensures.before in
    beyond c.args.bytes.now c.args.clear c.in-Some.at c.requires.fits (omega (arith, bound, length-drop c.args.clear c.args.bytes.now)) c.requires.clear before

pub returns-in-None-clause-none : goal.returns-in-None-clause-none
returns-in-None-clause-none c =
    let same = tail_is c.args.bytes.now c.args.clear in
    let none = rw (same, length-drop c.args.clear c.args.bytes.now) at c.in-None.ensures.none in
    let all : c.args.clear + (length c.args.bytes.now - c.args.clear) ≡ length c.args.bytes.now = omega arith in
    subst (λ (n : ℕ). NoFeed c.args.bytes.now n) all
    (beyond c.args.bytes.now c.args.clear (length c.args.bytes.now - c.args.clear) c.requires.fits (omega arith) c.requires.clear none)
