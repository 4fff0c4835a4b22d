use Rattle.std.proofs.Common.{refl, []}
use Rattle.jet_lines.specs.declared.form.Stand.TheVariants as stand
use Rattle.jet_lines.proofs.GrammarLemmas.{read_is_line, line_is_read}
use Rattle.jet_lines.proofs.laws.fields_are_of_the_grammar.Goals as goal

pub returns : goal.returns
returns c line fields = (read_is_line stand.Start [] line fields refl, line_is_read line fields)
