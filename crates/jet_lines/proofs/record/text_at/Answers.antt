use Rattle.std.proofs.Common.{◌∙◌}
use Rattle.jet_lines.proofs.CsvLemmas.{field_at_is}
use Rattle.jet_lines.proofs.record.text_at.Goals as goal

pub returns : goal.returns
returns c = c.get.ensures.value ∙ field_at_is _ c.args.i
