use Rattle.std.proofs.Common.{◌∙◌, length}
use Rattle.jet_lines.proofs.FileLemmas.{good_more, numbered_fits}
use Rattle.jet_lines.specs.Readings.{event_line, side_line}
use Rattle.jet_lines.proofs.laws.a_good_line_more.Goals as goal

pub returns-clause-events : goal.returns-clause-events
returns-clause-events c part most given line found good fits reads =
    good_more (event_line part) most given line found good (numbered_fits (event_line part) most (length given) line fits ∙ reads)

pub returns-clause-sides : goal.returns-clause-sides
returns-clause-sides c most given line found good fits reads =
    good_more side_line most given line found good (numbered_fits side_line most (length given) line fits ∙ reads)
