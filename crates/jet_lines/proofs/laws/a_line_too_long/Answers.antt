use Rattle.std.proofs.Common.{◌∙◌, ◌+◌, length}
use Rattle.jet_lines.specs.declared.fault.LineFault.TheVariants.{TooLong}
use Rattle.jet_lines.proofs.FileLemmas.{bad_next, numbered_fits}
use Rattle.jet_lines.proofs.EntryLemmas.{long_line, long_event}
use Rattle.jet_lines.specs.Readings.{event_line, side_at, side_line}
use Rattle.jet_lines.proofs.laws.a_line_too_long.Goals as goal

pub returns-clause-events : goal.returns-clause-events
returns-clause-events c part most content given line others good parts fits long =
    bad_next (event_line part) most content given line others TooLong good parts
    (numbered_fits (event_line part) most (length given) line fits ∙ long_event part (length given + 1) line long)

pub returns-clause-sides : goal.returns-clause-sides
returns-clause-sides c most content given line others good parts fits long =
    bad_next side_line most content given line others TooLong good parts
    (numbered_fits side_line most (length given) line fits ∙ long_line (side_at (length given + 1)) line long)
