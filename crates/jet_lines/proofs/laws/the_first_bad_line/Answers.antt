use Rattle.std.proofs.Common.{◌∙◌, length}
use Rattle.jet_lines.proofs.FileLemmas.{bad_next, numbered_fits}
use Rattle.jet_lines.specs.Readings.{event_line, side_line}
use Rattle.jet_lines.proofs.laws.the_first_bad_line.Goals as goal

pub returns-clause-events : goal.returns-clause-events
returns-clause-events c part most content given line others fault good parts fits reads =
    bad_next (event_line part) most content given line others fault good parts (numbered_fits (event_line part) most (length given) line fits ∙ reads)

pub returns-clause-sides : goal.returns-clause-sides
returns-clause-sides c most content given line others fault good parts fits reads =
    bad_next side_line most content given line others fault good parts (numbered_fits side_line most (length given) line fits ∙ reads)
