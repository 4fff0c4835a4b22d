use Rattle.std.proofs.Common.{◌≡◌, ℕ, sym, ◌∙◌, subst, rules, Option, ◌<◌, ◌^◌}
use Rattle.std.specs.Prelude.{IfSome}
use Rattle.jet_cli.specs.Digits.{digits_word}
use Rattle.jet_cli.proofs.WordLemmas.{parsed, small_word}
use Rattle.jet_cli.proofs.digits.number_of.Goals as goal
use Rattle.jet_cli.proofs.digits.number_of.Goals.{After-ok}

number : (c : After-ok) → c.ok.result ≡ digits_word c.args.most c.args.word.now
number c = c.ok.ensures.value ∙ parsed c.args.most c.args.word.now c.parse.result c.requires (search rules) c.parse.ensures.value.0

pub returns-then-is_digits-clause-number : goal.returns-then-is_digits-clause-number
returns-then-is_digits-clause-number c = number c

pub returns-then-is_digits-clause-small : goal.returns-then-is_digits-clause-small
returns-then-is_digits-clause-small c = subst (λ (o : Option ℕ). IfSome o (λ n. n < 10 ^ 16)) (sym (number c)) (small_word c.args.most c.args.word.now c.requires (search rules))
