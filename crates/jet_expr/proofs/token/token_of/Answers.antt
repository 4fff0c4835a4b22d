use Rattle.std.proofs.Common.{◌∙◌, ap}
use Rattle.std.specs.List.{list_all}
use Rattle.std.specs.Char.{is_ascii_digit}
use Rattle.jet_expr.proofs.TokenLemmas.{front_passes}
use Rattle.jet_expr.proofs.token.token_of.Goals as goal

pub value_of-requires : goal.value_of-requires
value_of-requires c = ap (list_all is_ascii_digit) c.digits_of-digits.ensures ∙ front_passes is_ascii_digit c.args.text.now
