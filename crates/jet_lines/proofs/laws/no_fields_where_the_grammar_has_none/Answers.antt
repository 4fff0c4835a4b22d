use Rattle.jet_lines.proofs.GrammarLemmas.{no_line_is_none, none_is_read}
use Rattle.jet_lines.proofs.laws.no_fields_where_the_grammar_has_none.Goals as goal

pub returns : goal.returns
returns c line = (no_line_is_none line, none_is_read line)
