use Rattle.jet_lines.proofs.FileLemmas.{numbered_fits, numbered_over}
use Rattle.jet_lines.specs.Readings.{event_line, side_line}
use Rattle.jet_lines.proofs.laws.a_line_is_read_by_its_number.Goals as goal

pub returns-clause-events : goal.returns-clause-events
returns-clause-events c part most n line h = numbered_fits (event_line part) most n line h

pub returns-clause-events_over : goal.returns-clause-events_over
returns-clause-events_over c part most n line h = numbered_over (event_line part) most n line h

pub returns-clause-sides : goal.returns-clause-sides
returns-clause-sides c most n line h = numbered_fits side_line most n line h

pub returns-clause-sides_over : goal.returns-clause-sides_over
returns-clause-sides_over c most n line h = numbered_over side_line most n line h
