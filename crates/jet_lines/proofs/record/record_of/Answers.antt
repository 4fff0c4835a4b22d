use Rattle.std.proofs.Common.{sym}
use Rattle.jet_lines.specs.Grammar.{is_line_byte}
use Rattle.jet_lines.proofs.TestLemmas.{all_pass}
use Rattle.jet_lines.proofs.record.record_of.Goals as goal

pub formed-requires-clause-good : goal.formed-requires-clause-good
formed-requires-clause-good c = all_pass is_line_byte c.args.line.now (sym c.in-None.ensures.place)
