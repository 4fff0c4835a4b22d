use Rattle.std.proofs.Common.{length}
use Rattle.jet_lines.specs.declared.fault.LineFault.TheVariants.{TooMany}
use Rattle.jet_lines.proofs.FileLemmas.{bad_next, numbered_over}
use Rattle.jet_lines.specs.Readings.{event_line, side_line}
use Rattle.jet_lines.proofs.laws.one_line_too_many.Goals as goal

pub returns-clause-events : goal.returns-clause-events
returns-clause-events c part most content given line others good parts over =
    bad_next (event_line part) most content given line others TooMany good parts (numbered_over (event_line part) most (length given) line over)

pub returns-clause-sides : goal.returns-clause-sides
returns-clause-sides c most content given line others good parts over =
    bad_next side_line most content given line others TooMany good parts (numbered_over side_line most (length given) line over)
