use Rattle.jet_lines.proofs.FileLemmas.{all_good}
use Rattle.jet_lines.specs.Readings.{event_line, side_line}
use Rattle.jet_lines.proofs.laws.all_lines_are_good.Goals as goal

pub returns-clause-events : goal.returns-clause-events
returns-clause-events c part most content good =
    all_good (event_line part) most content good

pub returns-clause-sides : goal.returns-clause-sides
returns-clause-sides c most content good =
    all_good side_line most content good
